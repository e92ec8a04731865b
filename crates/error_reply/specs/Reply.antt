-- Error replies (document 01, "Setup data, credits and error replies").
use Rattle.std.specs.Prelude.{ℕ, Bool, cond, ◌&&◌, ◌||◌, List, [], ◌∷◌, length, leb, eqb}
use Rattle.wire.specs.Wire.{word_at, words}
use Rattle.answers.specs.Answers.{check, room_number, writer_answer, writer_buffer}
use Rattle.answers.specs.declared.WriteAnswer.{WriteAnswer}
use Rattle.error_reply.specs.declared.ReplyKind.{ReplyKind}
use Rattle.error_reply.specs.declared.ReplyKind.TheVariants.{None, Version, Chunk}
use Rattle.credit.specs.Credit.{granted}

-- Whether n is one of the numbers from a to b.
abbrev pub within : ℕ → ℕ → ℕ → Bool
within a b n = leb a n && leb n b

-- "a small fixed table by number: 2 gives a version reply; 3, 5 to 9 and 11 to 15 a chunk reply; all others none"
unfoldable pub reply_kind_of : ℕ → ReplyKind
reply_kind_of n =
    cond (eqb n 2) Version
    (cond (eqb n 3 || (within 5 9 n || within 11 15 n)) Chunk
    None)

-- "then no reply .. for a frame under 16 bytes or with procedure 4; then a small fixed table by number"
unfoldable pub reply_kind_for : List ℕ → ℕ → ReplyKind
reply_kind_for frame number =
    cond (leb 16 (length frame)) (cond (eqb (word_at frame 12) 4) None (reply_kind_of number))
    None

-- "Version reply: xid, 1, grant, 4, 1, 1, 1 (28 bytes). Chunk reply: xid, 1, grant, 4, 2 (20 bytes).", as mended by order 4: "In a version reply the second word becomes the frame's version word; low and high stay 1." "A chunk reply keeps its second word 1, whatever the frame's."
abbrev pub reply_words : ReplyKind → ℕ → ℕ → ℕ → List ℕ
reply_words None xid version credit = []
reply_words Version xid version credit = xid ∷ version ∷ credit ∷ 4 ∷ 1 ∷ 1 ∷ 1 ∷ []
reply_words Chunk xid version credit = xid ∷ 1 ∷ credit ∷ 4 ∷ 2 ∷ []

-- The bytes of the reply to a frame that got an answer number, from the frame's own words; none where there is no reply.
unfoldable pub error_reply : List ℕ → ℕ → ℕ → List ℕ
error_reply frame number limit =
    words (reply_words (reply_kind_for frame number) (word_at frame 0) (word_at frame 4) (granted (word_at frame 8) limit))

-- "Checks: 20": "credit limit 0, .. an answer number above 21"; "then 16".
unfoldable pub error_reply_number : List ℕ → ℕ → ℕ → ℕ → ℕ
error_reply_number frame number limit room =
    check (leb 1 limit && leb number 21) 20 (room_number (error_reply frame number limit) room)

-- "no reply (number 0, length 0, buffer unchanged)", or a reply's number and length.
unfoldable pub error_reply_answer : List ℕ → ℕ → ℕ → ℕ → WriteAnswer
error_reply_answer frame number limit room =
    writer_answer (error_reply_number frame number limit room) (error_reply frame number limit)

-- The buffer after the call.
unfoldable pub error_reply_buffer : List ℕ → ℕ → ℕ → List ℕ → List ℕ
error_reply_buffer frame number limit out =
    writer_buffer (error_reply_number frame number limit (length out)) (error_reply frame number limit) out
