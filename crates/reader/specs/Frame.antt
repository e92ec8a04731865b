-- A frame, read (document 01, "The header on the wire" and "The numbers and their order").
use Rattle.std.specs.Prelude.{ℕ, cond, List, [], length, drop, leb, eqb}
use Rattle.std.proofs.Math.Option.{none}
use Rattle.wire.specs.Wire.{word_at, word_of}
use Rattle.chunk_lists.specs.Parsed.{Parsed, refused, done, and_then, require}
use Rattle.chunk_lists.specs.Lists.{after_word, max_read_segments, max_write_chunks, max_write_segments, read_list, write_list, reply_chunk}
use Rattle.header.specs.Content.{Content, header_of, nothing}
use Rattle.header.specs.Words.{header_words}
use Rattle.header.specs.declared.Kind.{Kind}
use Rattle.header.specs.declared.Kind.TheVariants.{Msg, Nomsg, Error}
use Rattle.header.specs.declared.ErrorKind.{ErrorKind}
use Rattle.header.specs.declared.ErrorKind.TheVariants.{Version, Chunk}
use Rattle.reader.specs.declared.ReadAnswer.{ReadAnswer}

-- "MSG and NOMSG go on with three parts."
unfoldable pub three_parts : Kind → ℕ → ℕ → List ℕ → Parsed Content
three_parts kind xid credit s =
    and_then (read_list max_read_segments s) (λ reads t. and_then (write_list max_write_chunks max_write_segments t) (λ writes u. and_then (reply_chunk u) (λ reply v.
    done (record { kind = kind; xid = xid; credit = credit; reads = reads; writes = writes; reply = reply }) v)))

-- An ERROR header has no lists.
abbrev pub error_content : ErrorKind → ℕ → ℕ → Content
error_content e xid credit = record { kind = Error e; xid = xid; credit = credit; reads = []; writes = []; reply = none }

-- "ERROR goes on with a code word: 1 (version) and then low and high, or 2 (chunk) and no more." "code word (5), 10, low and high (5)"
unfoldable pub error_body : ℕ → ℕ → List ℕ → Parsed Content
error_body xid credit s =
    after_word (word_of s) (λ code.
    cond (eqb code 1)
    (after_word (word_of (drop 4 s)) (λ low. after_word (word_of (drop 8 s)) (λ high.
    done (error_content (Version low high) xid credit) (drop 12 s))))
    (cond (eqb code 2) (done (error_content Chunk xid credit) (drop 4 s)) (refused 10)))

-- "bytes behind a NOMSG or ERROR header" (11), last of all.
abbrev pub nothing_behind : Parsed Content → Parsed Content
nothing_behind p = and_then p (λ c t. require (eqb (length t) 0) 11 (done c t))

-- "Procedures: 0 MSG, 1 NOMSG, 2 MSGP, 3 DONE, 4 ERROR."; 3 for "procedure is 2 or above 4", 4 for "procedure is 3".
unfoldable pub by_procedure : ℕ → ℕ → ℕ → List ℕ → Parsed Content
by_procedure procedure xid credit s =
    cond (eqb procedure 0) (three_parts Msg xid credit s)
    (cond (eqb procedure 1) (nothing_behind (three_parts Nomsg xid credit s))
    (cond (eqb procedure 3) (refused 4)
    (cond (eqb procedure 4) (nothing_behind (error_body xid credit s))
    (refused 3))))

-- "Fixed words: xid, version (1), credit, procedure." "Reading checks 1, 2, 3 and 4 first, then goes from left to right": the content, and the payload behind it.
unfoldable pub read_frame : List ℕ → Parsed Content
read_frame s =
    require (leb 16 (length s)) 1
    (require (eqb (word_at s 4) 1) 2
    (by_procedure (word_at s 12) (word_at s 0) (word_at s 8) (drop 16 s)))

-- "a refused reading gives an all-zero header of kind MSG without a reply chunk"
abbrev pub read_answer : Parsed Content → ReadAnswer
read_answer (refused n) = record { header = header_of nothing; number = n }
read_answer (done c t) = record { header = header_of c; number = 0 }

-- What reading answers to one who lends words.
abbrev pub read_number : Parsed Content → ℕ
read_number (refused n) = n
read_number (done c t) = 0

-- The words after reading: those of the header that was read. "An entry point with a single answer number gives it beside unchanged buffers": as they were where reading is refused.
abbrev pub read_words : Parsed Content → List ℕ → List ℕ
read_words (refused n) w = w
read_words (done c t) w = header_words (header_of c)

-- "In MSG everything behind this is the inline payload"; "it is empty where the numbered call refuses".
abbrev pub payload_of : Parsed Content → List ℕ
payload_of (refused n) = []
payload_of (done c t) = t
