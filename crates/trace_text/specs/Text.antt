-- The lines of a report (document 02, order 8): "exactly, with one newline after each line".
use Rattle.std.specs.Prelude.{ℕ, zero, suc, ◌+◌, ◌/◌, ◌%◌, cond, List, [], ◌∷◌, ◌++◌, ltb}
use Prim.Native.String.{String}
use Prim.Native.String as string
use Prim.Native.Char.{code}
use Rattle.error_reply.specs.declared.ReplyKind.{ReplyKind}
use Rattle.error_reply.specs.declared.ReplyKind.TheVariants.{None, Version, Chunk}
use Rattle.trace_text.specs.declared.Verdict.{Verdict}
use Rattle.trace_text.specs.declared.Sums.{Sums}

-- The bytes of a text.
unfoldable pub ascii : String → List ℕ
ascii string.[] = []
ascii (string.◌∷◌ x s) = code x ∷ ascii s

-- A number in decimal, without leading zeros, where it has no more digits than there is room for.
unfoldable pub digits : ℕ → ℕ → List ℕ
digits zero n = []
digits (suc room) n = cond (ltb n 10) ((48 + n) ∷ []) (digits room (n / 10) ++ ((48 + n % 10) ∷ []))

-- A number of 64 bits has at most 20 digits.
unfoldable pub decimal : ℕ → List ℕ
decimal n = digits 20 n

-- "`frame answer payload reply`"
unfoldable pub heading : List ℕ
heading = ascii "frame answer payload reply\n"

-- "`1 0 0 none`", "`2 2 0 vers`"; "A chunk reply shows as `chunk`".
unfoldable pub reply_text : ReplyKind → List ℕ
reply_text None = ascii " none\n"
reply_text Version = ascii " vers\n"
reply_text Chunk = ascii " chunk\n"

-- The line of a frame: its number in the trace, its answer, its payload's length, its reply.
unfoldable pub verdict_text : ℕ → Verdict → List ℕ
verdict_text number v =
    decimal number ++ ((ascii " " ++ decimal v.answer) ++ ((ascii " " ++ decimal v.payload) ++ reply_text v.reply))

-- "a bad line as its frame number and `bad`"
unfoldable pub bad_text : ℕ → List ℕ
bad_text number = decimal number ++ ascii " bad\n"

-- "`accepted 1 refused 1 bad 0 payload 0`"
unfoldable pub sums_text : Sums → List ℕ
sums_text t =
    (ascii "accepted " ++ decimal t.accepted) ++ ((ascii " refused " ++ decimal t.refused) ++ ((ascii " bad " ++ decimal t.bad) ++ ((ascii " payload " ++ decimal t.payload) ++ ascii "\n")))

-- "stops with `too long` in place of the sums"
unfoldable pub too_long : List ℕ
too_long = ascii "too long\n"
