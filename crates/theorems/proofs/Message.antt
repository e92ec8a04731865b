-- Demand 2: once all bytes are in, the buffer holds the message, and behind it what it held before.
-- Assumes nothing.
use mathlib.Core.Path.{◌≡◌, refl, sym, ap, ◌∙◌}
use mathlib.Core.Bool.{Bool, true, false, cond}
use mathlib.Core.List.{List, [], ◌∷◌, ◌++◌}
use Prim.Native.Nat.{ℕ, ◌+◌, ◌-◌, ◌≤◌}
use native.Mathlib.Nat.{le_refl}
use native.Mathlib.Omega.{arith}
use lib.ListN.{length, take, drop, replicate, length-append, length-drop, take-append-drop}
use lib.Seq.{take_at, length-take-le}
use borrow.Author.Tests.{eq-eqb, eqb-true}
use Rattle.chunk_lists.specs.Parsed.{done}
use Rattle.header.specs.Content.{Content}
use Rattle.reader.specs.Frame.{read_frame}
use Rattle.header.specs.declared.Kind.{Kind}
use Rattle.header.specs.declared.Kind.TheVariants.{Msg, Nomsg, Error}
use Rattle.reader.proofs.Ends.{nomsg_ends}
use Rattle.layout.specs.Places.{from, scatter}
use Rattle.layout.specs.Layout.{kind_fits, any_at_zero, other_chunks, base_length, rounded_up, stands, places, gaps, paddings, padding_places, base_places, message_length, pulled_places}
use Rattle.layout.specs.Internal.Walks.{total_length}
use Rattle.layout.specs.declared.Run.{Run}
use Rattle.layout.proofs.Scatter.{scatter_none, length_places}
use Rattle.layout.specs.Once.{Once}
use Rattle.layout.proofs.Once.{once}
use Rattle.layout.proofs.Placed.{Placed, above_gaps, all_placed, length_base}
use Rattle.assembly_start.specs.Start.{base_of, start_writes, start_answer}
use Rattle.wire.specs.Fits.{AllBytes}
use Rattle.theorems.specs.Calls.{Call, Ending, gives, start_then}
use Rattle.theorems.specs.Tally.{pulled_places_of, tally_buffer, is_full, tally_message, tally}
use Rattle.theorems.specs.Demands.{taken_bytes, Finished}
use Rattle.theorems.specs.Message.{message_from, whole_message, message_of}
use Rattle.layout.proofs.Apart.{Apart, scatter_comm, apart_by, above_from, below_from, apart_right, apart_left, apart_nil, apart_sym, scatter_join}
use Rattle.theorems.proofs.MessageBuffer.{message_buffer, above_pads}
use Rattle.theorems.proofs.Tallied.{length_tally}
use Rattle.theorems.proofs.TallySettles.{left, settled}
use Rattle.theorems.proofs.Started.{passed, uncut_tallied}
use Rattle.layout.proofs.ChunksStand.{rounded_most}

-- The base and the padding lie apart.
apart_gaps_pads : (a m t : ℕ) (cs : List Run) → Placed a t cs → Apart (places (gaps a m cs)) (places (paddings cs))
unfolding places gaps paddings Placed
apart_gaps_pads a m t [] s = apart_nil _
apart_gaps_pads a m t (c ∷ cs) s =
    let lu : c.length ≤ rounded_up c.length = (rounded_most c.length).0 in
    apart_left (from a (c.at - a)) _ _
    (apart_right (from a (c.at - a)) (from (c.at + c.length) (rounded_up c.length - c.length)) (places (paddings cs))
    (apart_by c.at _ _ (below_from c.at a (c.at - a) (omega arith)) (above_from c.at (c.at + c.length) (rounded_up c.length - c.length) (omega arith)))
    (apart_by c.at _ _ (below_from c.at a (c.at - a) (omega arith)) (above_pads c.at (c.at + rounded_up c.length) _ cs (omega arith) s.2)))
    (apart_right _ (from (c.at + c.length) (rounded_up c.length - c.length)) (places (paddings cs))
    (apart_sym _ _ (apart_by (c.at + rounded_up c.length) _ _ (below_from (c.at + rounded_up c.length) (c.at + c.length) (rounded_up c.length - c.length) (omega arith)) (above_gaps (c.at + rounded_up c.length) (c.at + rounded_up c.length) m _ cs (le_refl _) s.2)))
    (apart_gaps_pads (c.at + rounded_up c.length) m _ cs s.2))

gaps_length : (base : ℕ) (cs : List Run) → stands base 0 0 cs ≡ true → length (places (gaps 0 (message_length base cs) cs)) ≡ base
unfolding base_places
gaps_length base cs s = length_base base cs s

-- The whole buffer of a MSG, and of a NOMSG.
msg_buffer : (base : ℕ) (cs : List Run) (inline pulled out : List ℕ) → stands base 0 0 cs ≡ true → length inline ≡ base → message_length base cs ≤ length out → length pulled ≡ total_length cs →
    scatter (places cs) pulled (start_writes base cs inline out) ≡ message_from 0 inline cs pulled ++ drop (message_length base cs) out
unfolding start_writes padding_places base_places
msg_buffer base cs inline pulled out s hv hb ht =
    message_buffer 0 (message_length base cs) base cs inline pulled out (all_placed base cs s) (omega arith) refl hb ht

nomsg_buffer : (base : ℕ) (cs : List Run) (pulled out : List ℕ) → stands base 0 0 cs ≡ true → message_length base cs ≤ length out → length pulled ≡ base + total_length cs →
    scatter (base_places base cs ++ places cs) pulled (start_writes base cs [] out) ≡ message_from 0 (take base pulled) cs (drop base pulled) ++ drop (message_length base cs) out
unfolding start_writes padding_places base_places
nomsg_buffer base cs pulled out s hb ht =
    let m : ℕ = message_length base cs in
    let p = all_placed base cs s in
    let lg : length (places (gaps 0 m cs)) ≡ base = gaps_length base cs s in
    let l1 : length (take base pulled) ≡ length (places (gaps 0 m cs)) = length-take-le base pulled (omega arith) ∙ sym lg in
    let l2 : length (drop base pulled) ≡ total_length cs = rw length-drop (omega arith) in
    let l3 : length (take base pulled) ≡ base = l1 ∙ lg in
    rw scatter_none
    (ap (λ (x : List ℕ). scatter (places (gaps 0 m cs) ++ places cs) x (scatter (places (paddings cs)) (replicate (length (places (paddings cs))) 0) out)) (sym (take-append-drop base pulled))
    ∙ rw (← scatter_join (places (gaps 0 m cs)) (places cs) (take base pulled) (drop base pulled), ← scatter_comm (places (gaps 0 m cs)) (places (paddings cs)), apart_gaps_pads 0 m base cs p)
    (message_buffer 0 m base cs (take base pulled) (drop base pulled) out p (omega arith) refl hb l2))

whole : (kind : Kind) (base : ℕ) (cs : List Run) (inline pulled out : List ℕ) (atZero : Bool) → kind_fits kind atZero ≡ true → stands base 0 0 cs ≡ true → message_length base cs ≤ length out →
    length pulled ≡ length (pulled_places kind base cs) → (kind ≡ Nomsg → inline ≡ []) → (kind ≡ Msg → length inline ≡ base) →
    scatter (pulled_places kind base cs) pulled (start_writes base cs inline out) ≡ whole_message kind base cs inline pulled ++ drop (message_length base cs) out
unfolding pulled_places
whole Msg base cs inline pulled out z f s hb ht n b = msg_buffer base cs inline pulled out s (b refl) hb (ht ∙ length_places cs)
whole Nomsg base cs inline pulled out z f s hb ht n b =
    rw (n refl) (nomsg_buffer base cs pulled out s hb (ht ∙ rw (length-append, length_base base cs s, length_places cs)))
whole (Error e) base cs inline pulled out z f s hb ht n b = absurd (let q : ◌≡◌ {A = ℕ} 0 1 = cc in omega arith)

base_inline : (kind : Kind) (c : Content) (inline : List ℕ) → c.kind ≡ kind → kind ≡ Msg → length inline ≡ base_of c inline
base_inline kind c inline e f = by c.kind (e ∙ f)
  where
    by : (k : Kind) → k ≡ Msg → length inline ≡ base_length k (length inline) c.reads
    by Msg q = refl
    by Nomsg q = absurd (let n : ◌≡◌ {A = ℕ} 0 1 = cc in omega arith)
    by (Error x) q = refl

-- An asking that is answered 0 says that all bytes are in.
asked_full : (c : Content) (inline out t : List ℕ) → (tally c inline out t []).asked.number ≡ 0 → length t ≡ length (pulled_places_of c inline)
unfolding tally
asked_full c inline out t e = by (is_full c inline t) refl e
  where
    by : (x : Bool) → is_full c inline t ≡ x → (cond x (gives 0 (tally_message c inline out t)) (gives 19 [])).number ≡ 0 → length t ≡ length (pulled_places_of c inline)
    by true q z = eqb-true _ _ q
    by false q z = absurd (omega arith)

-- A buffer that holds m bytes of a message and then what it held: how long the message is, and that it stands first.
message_front : (m : ℕ) (x w out : List ℕ) → x ≡ w ++ drop m out → length x ≡ length out → m ≤ length out → (length w ≡ m) × (take m x ≡ w)
message_front m x w out e l h =
    let k : length x ≡ length w + (length out - m) = ap length e ∙ rw (length-append, length-drop) in
    (omega arith, rw e (take_at w (drop m out) m (omega arith)))

module _ (frame out : List ℕ) (c : Content) (inline : List ℕ) (b : AllBytes frame) (read : read_frame frame ≡ done c inline) (ok : (start_answer (read_frame frame) (length out)).number ≡ 0) where
  module _ (t : List ℕ) (full : length t ≡ length (pulled_places_of c inline)) where
    -- Each byte at its place, and the bytes behind untouched.
    finished_buffer : tally_buffer c inline out t ≡ message_of c inline t ++ drop (message_length (base_of c inline) (other_chunks c.reads)) out
    unfolding tally_buffer
    finished_buffer =
        let p = passed frame out c inline b read ok in
        whole c.kind (base_of c inline) (other_chunks c.reads) inline t out (any_at_zero c.reads) p.fits p.stand p.holds full
        (nomsg_ends frame c inline read) (base_inline c.kind c inline refl)

    finished_front : (length (message_of c inline t) ≡ message_length (base_of c inline) (other_chunks c.reads)) × (tally_message c inline out t ≡ message_of c inline t)
    finished_front = message_front _ _ _ out finished_buffer (length_tally c inline out t) (passed frame out c inline b read ok).holds

    -- "The message has B + R1 + R2 + ... bytes."
    pub message_length_lem : length (message_of c inline t) ≡ message_length (base_of c inline) (other_chunks c.reads)
    message_length_lem = finished_front.0

    -- Once all bytes are in, what is left holds the message.
    pub finished_left : (x : Ending) → left x ≡ tally c inline out t [] → Finished c inline out t x
    unfolding tally
    finished_left x e = record {
      answer = ap (λ (z : Ending). z.asked) e ∙ rw (eq-eqb (length t) (length (pulled_places_of c inline)) full, finished_front.1);
      buffer = ap (λ (z : Ending). z.buffer) e ∙ rw message_length_lem finished_buffer;
    }

  -- "each inline byte, pulled byte and padding byte at its defined place, once": the places of an accepted start.
  pub places_once : Once (base_of c inline) (other_chunks c.reads)
  places_once = once (base_of c inline) (other_chunks c.reads) (passed frame out c inline b read ok).stand

  -- "A finished message, its state and buffer handed on unaltered from call to call since its accepted start, holds each inline byte, pulled byte and padding byte at its defined place, once; bytes behind its end are untouched."
  pub finished : (calls : List Call) → (start_then frame out calls).asked.number ≡ 0 → Finished c inline out (taken_bytes calls (start_then frame out calls).outcomes) (start_then frame out calls)
  finished calls = rw (uncut_tallied frame out c inline b read ok calls) (λ e.
      let s = settled c inline out _ calls refl in
      finished_left _ (asked_full c inline out _ (sym (ap (λ (z : Ending). z.asked.number) s) ∙ e)) _ s)
