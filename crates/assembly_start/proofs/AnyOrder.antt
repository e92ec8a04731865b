-- A start does not depend on the order of the read list on the wire, except by the order of the segments of one position.
-- Assumes nothing.
use mathlib.Core.Path.{◌≡◌, sym, ap, ◌∙◌}
use mathlib.Core.Bool.{cond}
use mathlib.Core.List.{List}
use Prim.Native.Nat.{ℕ}
use lib.ListN.{length}
use lib.Dec.{eqb}
use Rattle.chunk_lists.specs.Parsed.{done}
use Rattle.header.specs.Content.{Content, read_list_of}
use Rattle.header.specs.declared.Kind.{Kind}
use Rattle.read_order.specs.ReadOrder.{sorted}
use Rattle.layout.specs.Layout.{any_at_zero, other_chunks, base_length, place_number}
use Rattle.layout.proofs.Unseen.{others_sorted, any_sorted, base_sorted}
use Rattle.assembly_start.specs.Start.{base_of, start_number, start_state, start_writes, start_buffer, start_words}

-- Two contents whose lists are one list when they are sorted.
module _ (c d : Content) (inline : List ℕ) (kind : c.kind ≡ d.kind) (list : sorted c.reads ≡ sorted d.reads) where
  chunks_same : other_chunks c.reads ≡ other_chunks d.reads
  chunks_same = sym (others_sorted c.reads) ∙ ap other_chunks list ∙ others_sorted d.reads

  any_same : any_at_zero c.reads ≡ any_at_zero d.reads
  any_same = sym (any_sorted c.reads) ∙ ap any_at_zero list ∙ any_sorted d.reads

  base_same : base_of c inline ≡ base_of d inline
  base_same =
      ap (λ (k : Kind). base_length k (length inline) c.reads) kind
      ∙ sym (base_sorted d.kind (length inline) c.reads) ∙ ap (base_length d.kind (length inline)) list ∙ base_sorted d.kind (length inline) d.reads

  pub same_number : (room : ℕ) → start_number (done c inline) room ≡ start_number (done d inline) room
  unfolding start_number
  same_number room = (λ i. place_number (kind i) (any_same i) (base_same i) (chunks_same i) room)

  same_state : (room : ℕ) → start_state c inline room ≡ start_state d inline room
  same_state room = (λ i. record { reads = read_list_of (list i); kind = kind i; base = base_same i; buffer = room; taken = 0 })

  pub same_words : (room : ℕ) (w : List ℕ) → start_words (done c inline) room w ≡ start_words (done d inline) room w
  unfolding start_words
  same_words room w = rw (same_number room, same_state room)

  pub same_buffer : (out : List ℕ) → start_buffer (done c inline) out ≡ start_buffer (done d inline) out
  unfolding start_buffer
  same_buffer out = (λ i. cond (eqb (same_number (length out) i) 0) (start_writes (base_same i) (chunks_same i) inline out) out)
