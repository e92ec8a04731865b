-- What a history of sends and replies says (document 02, orders 5 and 6): "After any sequence of operations from the start, nobody else writing the ledger, the calls accepted for sending are those answered plus those in flight, taken from the history, and no xid is in flight twice."
use Rattle.std.specs.Prelude.{◌≡◌, ℕ, suc, ◌+◌, ◌-◌, ◌%◌, ◌<◌, ◌≤◌, Bool, true, false, cond, ◌||◌, List, [], ◌∷◌, ◌++◌, length, replicate, ◌==◌, nat_le, nat_lt}
use Rattle.answers.specs.Answers.{unless_refused}
use Rattle.ledger.specs.Ledger.{max_in_flight, in_flight, is_in, without, send_answer, send_ledger, reply_number, reply_ledger}
use Rattle.ledger.specs.declared.Ledger.{Ledger}
use Rattle.ledger.specs.declared.SendAnswer.{SendAnswer}

-- An operation: "Sending", or "A reply names an xid and a grant".
pub data Operation : Type 0 where
  sending : Operation
  replying : (xid grant : ℕ) → Operation

-- What it leaves of the ledger.
abbrev pub ledger_left : Ledger → Operation → Ledger
ledger_left l sending = send_ledger l
ledger_left l (replying xid grant) = reply_ledger l xid grant

-- An operation with what it got.
pub data Event : Type 0 where
  send_got : SendAnswer → Event
  reply_got : (xid grant number : ℕ) → Event

abbrev pub event_of : Ledger → Operation → Event
event_of l sending = send_got (send_answer l)
event_of l (replying xid grant) = reply_got xid grant (reply_number l xid grant)

-- "After any sequence of operations .., nobody else writing the ledger": each gets it as the one before left it.
unfoldable pub ledger_after : Ledger → List Operation → Ledger
ledger_after l [] = l
ledger_after l (o ∷ os) = ledger_after (ledger_left l o) os

unfoldable pub history : Ledger → List Operation → List Event
history l [] = []
history l (o ∷ os) = event_of l o ∷ history (ledger_left l o) os

-- "the calls accepted for sending .., taken from the history": their xids, in sending order.
unfoldable pub sent_in : List Event → List ℕ
sent_in [] = []
sent_in (send_got a ∷ es) = unless_refused a.number (a.xid ∷ sent_in es) (sent_in es)
sent_in (reply_got xid grant number ∷ es) = sent_in es

-- "those answered .., taken from the history": the xids of the replies that were taken.
unfoldable pub answered_in : List Event → List ℕ
answered_in [] = []
answered_in (send_got a ∷ es) = answered_in es
answered_in (reply_got xid grant number ∷ es) = unless_refused number (xid ∷ answered_in es) (answered_in es)

-- "the grant is set": the grant after a history that began with it at g.
unfoldable pub grant_in : ℕ → List Event → ℕ
grant_in g [] = g
grant_in g (send_got a ∷ es) = grant_in g es
grant_in g (reply_got xid grant number ∷ es) = grant_in (unless_refused number grant g) es

-- The last xid given, after a history that began with x as the last.
unfoldable pub last_in : ℕ → List Event → ℕ
last_in x [] = x
last_in x (send_got a ∷ es) = last_in (unless_refused a.number a.xid x) es
last_in x (reply_got xid grant number ∷ es) = last_in x es

-- How often an xid is in a list: "wrapping to 0 behind the largest", it may be given again.
unfoldable pub occurrences : ℕ → List ℕ → ℕ
occurrences x [] = 0
occurrences x (y ∷ ys) = cond (x == y) (suc (occurrences x ys)) (occurrences x ys)

-- An xid that was sent more often than it was answered; how many calls were sent and not answered.
abbrev pub unanswered : List Event → ℕ → Bool
unanswered es x = nat_lt (occurrences x (answered_in es)) (occurrences x (sent_in es))

abbrev pub unanswered_calls : List Event → ℕ
unanswered_calls es = length (sent_in es) - length (answered_in es)

-- "it is refused with 23 exactly if the calls in flight reach or pass the grant or 32"
abbrev pub spent_in : List Event → Bool
spent_in es = nat_le (grant_in 1 es) (unanswered_calls es) || nat_le max_in_flight (unanswered_calls es)

-- "the next xid, one more than the last, wrapping to 0 behind the largest, and passing over xids still in flight"; "the length of the unbroken run of xids in flight that begins right behind the last one given, and is at most the number in flight, so at most 31" (order 6)
pub record NextXid (es : List Event) (last xid passed : ℕ) : Type 0 where
  pub is : xid ≡ (last + 1 + passed) % 4294967296
  pub over : (k : ℕ) → k < passed → unanswered es ((last + 1 + k) % 4294967296) ≡ true
  pub free : unanswered es xid ≡ false
  pub within : passed ≤ unanswered_calls es
  pub most : passed ≤ 31

-- What the history so far says of a send that comes next, the opener having named `last`: "A refused send reports 0." (order 6)
pub record SendSaid (last : ℕ) (es : List Event) (a : SendAnswer) : Type 0 where
  pub number : a.number ≡ cond (spent_in es) 23 0
  pub refused : spent_in es ≡ true → (a.xid ≡ 0) × (a.passed ≡ 0)
  pub sent : spent_in es ≡ false → NextXid es (last_in last es) a.xid a.passed

-- And of any event.
abbrev pub Said : ℕ → List Event → Event → Type 0
Said last es (send_got a) = SendSaid last es a
Said last es (reply_got xid grant number) = number ≡ cond (grant == 0) 25 (cond (unanswered es xid) 0 24)

-- Every event, after the history `es`.
unfoldable pub AllSaid : ℕ → List Event → List Event → Type 0
AllSaid last es [] = Unit {0}
AllSaid last es (e ∷ more) = Said last es e × AllSaid last (es ++ e ∷ []) more

-- The answer numbers of a history.
unfoldable pub numbers_in : List Event → List ℕ
numbers_in [] = []
numbers_in (send_got a ∷ es) = a.number ∷ numbers_in es
numbers_in (reply_got xid grant number ∷ es) = number ∷ numbers_in es

-- A list without what is in another, each as often as it is there.
unfoldable pub minus : List ℕ → List ℕ → List ℕ
minus xs [] = xs
minus xs (y ∷ ys) = minus (without y xs) ys

-- "the calls accepted for sending are those answered plus those in flight, taken from the history, and no xid is in flight twice": of a ledger and all that it answered since it was opened. The last clause says the whole ledger: those sent less those answered, in sending order, with zeros behind them.
pub record Accounted (last : ℕ) (es : List Event) (l : Ledger) : Type 0 where
  pub said : AllSaid last [] es
  pub calls : (x : ℕ) → occurrences x (sent_in es) ≡ occurrences x (answered_in es) + occurrences x (in_flight l)
  pub count : length (sent_in es) ≡ length (answered_in es) + l.count
  pub once : (x : ℕ) → occurrences x (in_flight l) ≤ 1
  pub never_17 : is_in 17 (numbers_in es) ≡ false
  pub whole : l ≡ record {
    xids = minus (sent_in es) (answered_in es) ++ replicate (32 - length (minus (sent_in es) (answered_in es))) 0;
    count = length (minus (sent_in es) (answered_in es));
    grant = grant_in 1 es;
    last = last_in last es;
  }
