-- A header that a caller lends as words.
use Rattle.std.specs.Prelude.{ℕ, ◌≡◌, List, Option, Some, None}
use Rattle.std.proofs.Math.Option as maybe
use Rattle.header.specs.Words.{header_as, header_in}
use Rattle.header.specs.declared.Header.{Header}
use Rattle.header.specs.declared.Lent.{Lent}

-- What it says.
abbrev pub header_lent : Lent → Header
header_lent h = header_as h.words.now h.kind h.present

-- It is the one that the words hold, or they hold none.
abbrev pub LentFrom : List ℕ → Option Lent → Type 0
LentFrom w None = header_in w ≡ maybe.none
LentFrom w (Some h) = (h.words.now ≡ w) × (header_in w ≡ maybe.some (header_lent h))
