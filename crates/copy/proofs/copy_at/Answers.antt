-- `copy::copy_at` meets its contract.
use native.Mathlib.Omega.{arith}
use Rattle.wire.proofs.Fields.{put_stored}
use Rattle.copy.proofs.copy_at.Goals as goal

pub returns : goal.returns
returns c = let a = c.args in put_stored _ _ _ _ _ c.copy_from_slice.ensures.after (omega arith) (omega arith)
