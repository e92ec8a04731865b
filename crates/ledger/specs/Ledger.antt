-- The ledger of credits (document 02, orders 5 and 6).
use Rattle.std.specs.Prelude.{ℕ, zero, suc, ◌+◌, ◌-◌, ◌%◌, Bool, false, cond, not, ◌||◌, List, [], ◌∷◌, ◌++◌, length, take, replicate, ◌==◌, nat_le, nat_lt}
use Rattle.answers.specs.Answers.{check, unless_refused}
use Rattle.ledger.specs.declared.Ledger.{Ledger}
use Rattle.ledger.specs.declared.OpenAnswer.{OpenAnswer}
use Rattle.ledger.specs.declared.SendAnswer.{SendAnswer}

-- "Room for 32 calls in flight"
abbrev pub max_in_flight : ℕ
max_in_flight = 32

-- "Xids stand in sending order .. places behind them are ignored"
abbrev pub in_flight : Ledger → List ℕ
in_flight l = take l.count l.xids

-- "places behind them are .. zero after an accepted operation"
abbrev pub padded : List ℕ → List ℕ
padded xs = xs ++ replicate (max_in_flight - length xs) 0

-- The ledger with these calls in flight, in sending order.
abbrev pub ledger_of : List ℕ → ℕ → ℕ → Ledger
ledger_of xs grant last = record { xids = padded xs; count = length xs; grant = grant; last = last }

-- "the grant starts at 1, and the opener names the last xid"; opening is never refused.
unfoldable pub open_answer : ℕ → OpenAnswer
open_answer last = record { ledger = ledger_of [] 1 last; number = 0 }

-- Whether an xid is in a list.
unfoldable pub is_in : ℕ → List ℕ → Bool
is_in x [] = false
is_in x (y ∷ ys) = x == y || is_in x ys

-- "one xid twice"
unfoldable pub any_twice : List ℕ → Bool
any_twice [] = false
any_twice (x ∷ xs) = is_in x xs || any_twice xs

-- "A ledger with more in flight, one xid twice or grant 0 gets 17 first."
unfoldable pub unfit : Ledger → Bool
unfit l = nat_lt max_in_flight l.count || (any_twice (in_flight l) || l.grant == 0)

-- "one more than the last, wrapping to 0 behind the largest"
abbrev pub xid_after : ℕ → ℕ
xid_after x = (x + 1) % 4294967296

-- "passing over xids still in flight": from x on, the first xid that is not in the list, if no more than n are passed over; else the one behind those n.
unfoldable pub first_free : ℕ → ℕ → List ℕ → ℕ
first_free zero x xs = x
first_free (suc n) x xs = cond (is_in x xs) (first_free n (xid_after x) xs) x

-- "Sending takes the next xid, one more than the last, .. passing over xids still in flight"; no more are passed over than are in flight.
unfoldable pub next_xid : Ledger → ℕ
next_xid l = first_free l.count (xid_after l.last) (in_flight l)

-- "if the calls in flight reach or pass the grant or 32"
unfoldable pub spent : Ledger → Bool
spent l = nat_le l.grant l.count || nat_le max_in_flight l.count

-- "gets 17 first"; "it is refused with 23 exactly if the calls in flight reach or pass the grant or 32"
unfoldable pub send_number : Ledger → ℕ
send_number l = check (not (unfit l)) 17 (check (not (spent l)) 23 0)

-- The n xids right behind x, each "one more than the last, wrapping to 0 behind the largest".
unfoldable pub xids_behind : ℕ → ℕ → List ℕ
xids_behind zero x = []
xids_behind (suc n) x = xid_after x ∷ xids_behind n (xid_after x)

-- "the length of the unbroken run": how many of these xids are in the list, from the first on, up to one that is not.
unfoldable pub run_length : List ℕ → List ℕ → ℕ
run_length [] xs = 0
run_length (y ∷ ys) xs = cond (is_in y xs) (suc (run_length ys xs)) 0

-- "the number of xids passed over .. equals the length of the unbroken run of xids in flight that begins right behind the last one given" (order 6): where a call is sent at most 31 are in flight, so that the run ends among the 32 xids behind the last.
unfoldable pub passed_over : Ledger → ℕ
passed_over l = run_length (xids_behind max_in_flight l.last) (in_flight l)

-- "A refused call returns its number .. and for all else zeros"; "Return the number of xids passed over with each accepted send. .. A refused send reports 0." (order 6)
unfoldable pub send_answer : Ledger → SendAnswer
send_answer l = record {
  number = send_number l;
  xid = unless_refused (send_number l) (next_xid l) 0;
  passed = unless_refused (send_number l) (passed_over l) 0;
}

-- "Sending takes the next xid"; "Xids stand in sending order"; "A refusal changes nothing."
unfoldable pub send_ledger : Ledger → Ledger
send_ledger l = unless_refused (send_number l) (ledger_of (in_flight l ++ next_xid l ∷ []) l.grant (next_xid l)) l

-- "gets 17 first"; "A reply names an xid and a grant: 25 if the grant is 0, then 24 if the xid is not in flight"
unfoldable pub reply_number : Ledger → ℕ → ℕ → ℕ
reply_number l xid grant =
    check (not (unfit l)) 17 (check (not (grant == 0)) 25 (check (is_in xid (in_flight l)) 24 0))

-- "a leaving one closes its gap"
unfoldable pub without : ℕ → List ℕ → List ℕ
without x [] = []
without x (y ∷ ys) = cond (x == y) ys (y ∷ without x ys)

-- "else the call leaves and the grant is set, above 32 too. A lower grant takes no call back. A refusal changes nothing."
unfoldable pub reply_ledger : Ledger → ℕ → ℕ → Ledger
reply_ledger l xid grant =
    unless_refused (reply_number l xid grant) (ledger_of (without xid (in_flight l)) grant l.last) l
