-- Numbers given in order, and what every writer answers (document 01, "The numbers and their order").
use Rattle.std.specs.Prelude.{ℕ, Bool, cond, List, ◌++◌, length, drop, leb, eqb}
use Rattle.answers.specs.declared.WriteAnswer.{WriteAnswer}

-- The number n is given unless the condition holds; then the next check decides.
abbrev pub check : Bool → ℕ → ℕ → ℕ
check holds n next = cond holds next n

-- "output buffer too short" (16), unless `room` bytes hold what is to be written.
abbrev pub room_number : List ℕ → ℕ → ℕ
room_number bytes room = check (leb (length bytes) room) 16 0

-- "A refused call returns its number .. and for all else zeros": a writer's number, and with 0 how many bytes it wrote.
abbrev pub writer_answer : ℕ → List ℕ → WriteAnswer
writer_answer number bytes = record { number = number; length = cond (eqb number 0) (length bytes) 0 }

-- "Every writer keeps the buffer's bytes behind what it wrote."; a refused call leaves the buffer as it was.
abbrev pub writer_buffer : ℕ → List ℕ → List ℕ → List ℕ
writer_buffer number bytes out = cond (eqb number 0) (bytes ++ drop (length bytes) out) out

-- "An entry point with a single answer number gives it beside unchanged buffers": what a call stores where it is lent a place, or what stood there if it is refused.
abbrev pub unless_refused : {A : Type 0} → ℕ → A → A → A
unless_refused number made before = cond (eqb number 0) made before
