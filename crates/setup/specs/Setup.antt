-- The connection setup data (document 01, "Setup data, credits and error replies"; RFC 8797).
use Rattle.std.specs.Prelude.{ℕ, ◌+◌, ◌*◌, ◌-◌, ◌/◌, ◌%◌, min, Bool, true, false, cond, ◌&&◌, List, [], ◌∷◌, ◌++◌, length, get_or, leb, eqb}
use Rattle.wire.specs.Wire.{word_at, word_bytes}
use Rattle.answers.specs.Answers.{check, room_number, writer_answer, writer_buffer}
use Rattle.answers.specs.declared.WriteAnswer.{WriteAnswer}
use Rattle.setup.specs.declared.Size.{Size}
use Rattle.setup.specs.declared.Setup.{Setup}
use Rattle.setup.specs.declared.SetupAnswer.{SetupAnswer}
use Rattle.setup.specs.declared.Agreement.{Agreement}

-- "identifier f6ab0e18"
abbrev pub identifier : ℕ
identifier = 0xf6ab0e18

-- "A size byte n means (n + 1) × 1,024."
abbrev pub size_of : ℕ → Size
size_of n = record { 0 = (n + 1) * 1024 }

-- "Under 8 bytes, another identifier or another version: there is no setup data": "identifier f6ab0e18; version byte 1".
unfoldable pub is_setup : List ℕ → Bool
is_setup s = leb 8 (length s) && (eqb (word_at s 0) identifier && eqb (get_or s 4 0) 1)

-- "a flags byte whose lowest bit is R, the others .. ignored; send size; receive size"; "Bytes from the ninth on are ignored."
abbrev pub setup_at : List ℕ → Setup
setup_at s = record { remote_invalidation = eqb (get_or s 5 0 % 2) 1; send = size_of (get_or s 6 0); receive = size_of (get_or s 7 0) }

-- "there is no setup data, which counts as R clear and 1,024 both ways"
abbrev pub no_setup : Setup
no_setup = record { remote_invalidation = false; send = record { 0 = 1024 }; receive = record { 0 = 1024 } }

-- "reading answers 0 either way"
unfoldable pub read_setup : List ℕ → SetupAnswer
read_setup s =
    cond (is_setup s) (record { setup = setup_at s; present = true; number = 0 })
    (record { setup = no_setup; present = false; number = 0 })

-- "from 1,024 to 262,144": "These two ends belong to the size's own type."
abbrev pub min_size : ℕ
min_size = 1024

abbrev pub max_size : ℕ
max_size = 262144

-- "A size handed in is a multiple of 1,024 from 1,024 to 262,144"
unfoldable pub in_rule : Size → Bool
in_rule x = leb min_size x.0 && (leb x.0 max_size && eqb (x.0 % 1024) 0)

-- Both sizes that one side hands in.
unfoldable pub setup_in_rule : Setup → Bool
setup_in_rule x = in_rule x.send && in_rule x.receive

-- The n that means a size in rule.
abbrev pub size_byte : Size → ℕ
size_byte x = x.0 / 1024 - 1

-- "R, the others sent as 0"
abbrev pub flags_of : Bool → ℕ
flags_of r = cond r 1 0

-- "identifier f6ab0e18; version byte 1; a flags byte ..; send size; receive size"
unfoldable pub setup_bytes : Setup → List ℕ
setup_bytes x = word_bytes identifier ++ (1 ∷ flags_of x.remote_invalidation ∷ size_byte x.send ∷ size_byte x.receive ∷ [])

-- "else 20; writing then checks 16", into `room` bytes.
unfoldable pub write_setup_number : Setup → ℕ → ℕ
write_setup_number x room = check (setup_in_rule x) 20 (room_number (setup_bytes x) room)

-- The number, and with 0 how many bytes were written.
unfoldable pub write_setup_answer : Setup → ℕ → WriteAnswer
write_setup_answer x room = writer_answer (write_setup_number x room) (setup_bytes x)

-- The buffer after the call.
unfoldable pub write_setup_buffer : Setup → List ℕ → List ℕ
write_setup_buffer x out = writer_buffer (write_setup_number x (length out)) (setup_bytes x) out

-- "the smaller of .. and .."
abbrev pub smaller_size : Size → Size → Size
smaller_size a b = record { 0 = min a.0 b.0 }

-- "for all else zeros, no"
abbrev pub no_agreement : Agreement
no_agreement = record { client_to_server = record { 0 = 0 }; server_to_client = record { 0 = 0 }; remote_invalidation = false; number = 20 }

-- "Client to server: the smaller of the client's send size and the server's receive size; the other way likewise. Remote invalidation needs R from both." "It and the values from two setup data check 20 alone."
unfoldable pub agreement : Setup → Setup → Agreement
agreement client server =
    cond (setup_in_rule client && setup_in_rule server)
    (record {
      client_to_server = smaller_size client.send server.receive;
      server_to_client = smaller_size server.send client.receive;
      remote_invalidation = client.remote_invalidation && server.remote_invalidation;
      number = 0;
    })
    no_agreement
