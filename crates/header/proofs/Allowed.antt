-- What holds of a content that was read, and of one that can be written.
-- Assumes nothing.
use mathlib.Core.Path.{◌≡◌}
use mathlib.Core.Bool.{true}
use mathlib.Core.List.{List, [], map}
use mathlib.Core.Option.{Option, none, some}
use Prim.Native.Nat.{ℕ, ◌≤◌}
use lib.ListN.{length}
use Rattle.chunk_lists.specs.Lists.{all_aligned}
use Rattle.header.specs.Content.{Content}
use Rattle.header.specs.Limits.{total}
use Rattle.wire.specs.Fits.{Word32, All, SegmentFits, ReadSegmentFits}
use Rattle.header.specs.Fits.{KindFits}
use Rattle.wire.specs.declared.Segment.{Segment}
use Rattle.header.specs.declared.Kind.{Kind}
use Rattle.header.specs.declared.Kind.TheVariants.{Msg, Nomsg, Error}

-- The segments of a reply chunk fit, and are not too many.
abbrev pub ReplyAllowed : Option (List Segment) → Type 0
ReplyAllowed none = Unit {0}
ReplyAllowed (some l) = (length l ≤ 16) × All SegmentFits l

-- An ERROR header has no lists.
abbrev pub BareIfError : Kind → Content → Type 0
BareIfError Msg c = Unit {0}
BareIfError Nomsg c = Unit {0}
BareIfError (Error e) c = (c.reads ≡ []) × (c.writes ≡ []) × (c.reply ≡ none)

-- A content within the limits, its positions multiples of 4, its numbers of their sizes, without lists where it is an error.
pub record Allowed (c : Content) : Type 0 where
  pub kind : KindFits c.kind
  pub xid : Word32 c.xid
  pub credit : Word32 c.credit
  pub reads : All ReadSegmentFits c.reads
  pub reads_limit : length c.reads ≤ 16
  pub aligned : all_aligned c.reads ≡ true
  pub writes : All (All SegmentFits) c.writes
  pub chunks_limit : length c.writes ≤ 4
  pub writes_limit : total (map length c.writes) ≤ 16
  pub reply : ReplyAllowed c.reply
  pub bare : BareIfError c.kind c

-- Only behind a MSG header there is a payload.
abbrev pub Behind : Kind → List ℕ → Type 0
Behind Msg t = Unit {0}
Behind Nomsg t = t ≡ []
Behind (Error e) t = t ≡ []
