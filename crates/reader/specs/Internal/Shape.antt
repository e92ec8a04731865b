-- What the functions under the reader answer, case by case, from the definitions.
use Rattle.std.specs.Prelude.{ℕ, ◌-◌, cond, List, length, eqb, Some, None, Result, Ok, Err}
use Rattle.std.specs.Prelude as prelude
use Rattle.std.proofs.Math.Option.{Option, none, some}
use Rattle.wire.specs.declared.Segment.{Segment}
use Rattle.chunk_lists.specs.Parsed.{Parsed, refused, done}
use Rattle.header.specs.Content.{Content}
use Rattle.header.specs.declared.Kind.TheVariants.{Error}
use Rattle.header.specs.declared.ErrorKind.{ErrorKind}
use Rattle.reader.specs.declared.Shape.{Shape}

-- How many segments the reply chunk has, if there is one.
abbrev pub reply_count : Option (List Segment) → prelude.Option ℕ
reply_count none = None
reply_count (some l) = Some (length l)

-- How many entries a content has, and where its header ends.
abbrev pub shape_of : Content → ℕ → Shape
shape_of c ends =
    record { kind = c.kind; reads = length c.reads; chunks = length c.writes; reply = reply_count c.reply; end = ends }

-- The shape of an ERROR header that ends at `ends`.
abbrev pub error_shape : ErrorKind → ℕ → Shape
error_shape e ends = record { kind = Error e; reads = 0; chunks = 0; reply = None; end = ends }

-- A frame of `size` bytes that was checked.
unfoldable pub frame_check : ℕ → Parsed Content → Result Shape ℕ
frame_check size (refused n) = Err n
frame_check size (done c t) = Ok (shape_of c (size - length t))

-- "Last comes 11": a frame of `size` bytes that may have nothing behind its header.
abbrev pub ended_check : ℕ → Result Shape ℕ → Result Shape ℕ
ended_check size (Err n) = Err n
ended_check size (Ok shape) = cond (eqb shape.end size) (Ok shape) (Err 11)
