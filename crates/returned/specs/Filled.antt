-- What a server does that fills a caller's chunks from the front, and the reply that says so.
use Rattle.std.specs.Prelude.{ℕ, ◌-◌, ◌≤◌, min, ◌≡◌, false, List, [], ◌∷◌}
use Rattle.std.proofs.Math.Option.{Option, none, some}
use Rattle.wire.specs.declared.Segment.{Segment}
use Rattle.header.specs.Content.{Content}
use Rattle.header.specs.declared.Kind.{Kind}
use Rattle.header.specs.declared.Kind.TheVariants.{Msg, Nomsg, Error}
use Rattle.returned.specs.Returned.{is_error, chunk_length}

-- A chunk into which n bytes were put from the front: each segment takes what it holds, the rest goes on to the next.
unfoldable pub filled : ℕ → List Segment → List Segment
filled n [] = []
filled n (x ∷ xs) =
    record { handle = x.handle; length = min n x.length; offset = x.offset } ∷ filled (n - x.length) xs

-- Chunks that come back, each with its number of bytes put into it; no more than it holds.
abbrev pub FilledChunks : List ℕ → List (List Segment) → List (List Segment) → Type 0
FilledChunks [] [] [] = Unit {0}
FilledChunks [] [] (d ∷ back) = ⊥
FilledChunks [] (c ∷ sent) back = ⊥
FilledChunks (n ∷ ns) [] back = ⊥
FilledChunks (n ∷ ns) (c ∷ sent) [] = ⊥
FilledChunks (n ∷ ns) (c ∷ sent) (d ∷ back) = (n ≤ chunk_length c) × (d ≡ filled n c) × FilledChunks ns sent back

-- The reply chunk with n bytes in it: in NOMSG it was sent and comes back; in MSG nothing is put into it, and it need not come back.
abbrev pub FilledReplyChunk : Kind → Option (List Segment) → Option (List Segment) → ℕ → Type 0
FilledReplyChunk Msg sent none n = n ≡ 0
FilledReplyChunk Msg none (some d) n = ⊥
FilledReplyChunk Msg (some c) (some d) n = (n ≡ 0) × (d ≡ filled 0 c)
FilledReplyChunk Nomsg sent none n = ⊥
FilledReplyChunk Nomsg none (some d) n = ⊥
FilledReplyChunk Nomsg (some c) (some d) n = (n ≤ chunk_length c) × (d ≡ filled n c)
FilledReplyChunk (Error e) sent back n = ⊥

-- The reply to a call of a server that put so many bytes into each write chunk, and n into the reply chunk.
pub record Fills (sent reply : Content) (writes : List ℕ) (n : ℕ) : Type 0 where
  pub xid : sent.xid ≡ reply.xid
  pub reads : reply.reads ≡ []
  pub no_error : is_error sent.kind ≡ false
  pub chunks : FilledChunks writes sent.writes reply.writes
  pub replied : FilledReplyChunk reply.kind sent.reply reply.reply n
