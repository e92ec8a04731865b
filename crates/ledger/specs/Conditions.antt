-- The conditions of orders 5 and 6 said by places, whichever way they are tested.
use Rattle.std.specs.Prelude.{◌≡◌, ℕ, ◌+◌, ◌%◌, ◌<◌, ◌≤◌, List, length, ◌≢◌, slice_index, slice_index_or}
use Rattle.ledger.specs.Ledger.{in_flight}
use Rattle.ledger.specs.declared.Ledger.{Ledger}

-- An xid that is in a list: at a place of it.
pub record In (x : ℕ) (xs : List ℕ) : Type 0 where
  pub place : ℕ
  pub within : place < length xs
  pub is : slice_index_or xs place 0 ≡ x

-- "one xid twice"
pub record Twice (xs : List ℕ) : Type 0 where
  pub first : ℕ
  pub second : ℕ
  pub before : first < second
  pub within : second < length xs
  pub same : slice_index_or xs first 0 ≡ slice_index xs second

-- "A ledger with more in flight, one xid twice or grant 0"
pub data Unfit (l : Ledger) : Type 0 where
  more_in_flight : 32 < l.count → Unfit l
  one_twice : Twice (in_flight l) → Unfit l
  no_grant : l.grant ≡ 0 → Unfit l

-- "the calls in flight reach or pass the grant or 32"
pub data Spent (l : Ledger) : Type 0 where
  reach_grant : l.grant ≤ l.count → Spent l
  reach_room : 32 ≤ l.count → Spent l

-- "passing over xids still in flight"; "the unbroken run of xids in flight that begins right behind the last one given" (order 6): it has n xids, which are in flight, and the one behind them is not.
pub record RunBehind (l : Ledger) (n : ℕ) : Type 0 where
  pub over : (k : ℕ) → k < n → In ((l.last + 1 + k) % 4294967296) (in_flight l)
  pub ends : In ((l.last + 1 + n) % 4294967296) (in_flight l) → ⊥

-- "the next xid, one more than the last, wrapping to 0 behind the largest, and passing over xids still in flight"
pub record Next (l : Ledger) (xid passed : ℕ) : Type 0 where
  pub over : RunBehind l passed
  pub is : xid ≡ (l.last + 1 + passed) % 4294967296

-- "A ledger with more in flight, one xid twice or grant 0 gets 17 first."; "it is refused with 23 exactly if the calls in flight reach or pass the grant or 32": the number of a send, and why.
pub data SendGets (l : Ledger) (number : ℕ) : Type 0 where
  send_unfit : Unfit l → number ≡ 17 → SendGets l number
  send_spent : (Unfit l → ⊥) → Spent l → number ≡ 23 → SendGets l number
  send_taken : (Unfit l → ⊥) → (Spent l → ⊥) → number ≡ 0 → SendGets l number

-- "A reply names an xid and a grant: 25 if the grant is 0, then 24 if the xid is not in flight": the number of a reply, and why.
pub data ReplyGets (l : Ledger) (xid grant number : ℕ) : Type 0 where
  reply_unfit : Unfit l → number ≡ 17 → ReplyGets l xid grant number
  reply_no_grant : (Unfit l → ⊥) → grant ≡ 0 → number ≡ 25 → ReplyGets l xid grant number
  reply_unknown : (Unfit l → ⊥) → (grant ≢ 0) → (In xid (in_flight l) → ⊥) → number ≡ 24 → ReplyGets l xid grant number
  reply_taken : (Unfit l → ⊥) → (grant ≢ 0) → In xid (in_flight l) → number ≡ 0 → ReplyGets l xid grant number

-- "Xids stand in sending order .. places behind them are .. zero after an accepted operation": what a send leaves, place by place.
pub record Joined (before after : Ledger) (xid : ℕ) : Type 0 where
  pub stay : (k : ℕ) → k < before.count → slice_index after.xids k ≡ slice_index before.xids k
  pub joins : slice_index_or after.xids before.count 0 ≡ xid
  pub zeros : (k : ℕ) → before.count < k → slice_index after.xids k ≡ 0
  pub places : length after.xids ≡ 32
  pub count : after.count ≡ before.count + 1
  pub grant : after.grant ≡ before.grant
  pub last : after.last ≡ xid

-- "a leaving one closes its gap"; "else the call leaves and the grant is set, above 32 too. A lower grant takes no call back.": what a reply leaves, place by place.
pub record Closed (before after : Ledger) (xid grant : ℕ) : Type 0 where
  pub place : ℕ
  pub within : place < before.count
  pub is : slice_index_or before.xids place 0 ≡ xid
  pub stay : (k : ℕ) → k < place → slice_index after.xids k ≡ slice_index before.xids k
  pub close : (k : ℕ) → place ≤ k → k + 1 < before.count → slice_index after.xids k ≡ slice_index before.xids (k + 1)
  pub zeros : (k : ℕ) → before.count ≤ k + 1 → slice_index after.xids k ≡ 0
  pub places : length after.xids ≡ 32
  pub count : after.count + 1 ≡ before.count
  pub granted : after.grant ≡ grant
  pub last : after.last ≡ before.last

-- "places behind them are ignored": two ledgers that differ there alone.
pub record SameCalls (l k : Ledger) : Type 0 where
  pub count : l.count ≡ k.count
  pub calls : in_flight l ≡ in_flight k
  pub grant : l.grant ≡ k.grant
  pub last : l.last ≡ k.last
