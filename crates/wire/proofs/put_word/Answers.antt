-- `wire::put_word` meets its contract.
use mathlib.Core.Path.{◌∙◌}
use Prim.Native.Nat.{◌+◌, ◌-◌}
use native.Mathlib.Omega.{arith}
use Rattle.wire.specs.Wire.{word_bytes}
use Rattle.wire.proofs.Fields.{put_stored}
use Rattle.wire.proofs.put_word.Goals as goal

pub returns : goal.returns
unfolding word_bytes
returns c = put_stored c.args.k (c.args.k + 4 - c.args.k) c.args.out.now c.copy_from_slice.new.self (word_bytes c.args.x) (c.copy_from_slice.ensures.after ∙ c.to_be_bytes.ensures) (omega arith) (omega arith)
