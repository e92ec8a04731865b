-- The table of numbers (document 01, "The numbers and their order"), and outcomes as numbers.
use Rattle.std.specs.Prelude.{ℕ, Result, Ok, Err}
use Rattle.answers.specs.declared.Refusal.{Refusal}
use Rattle.answers.specs.declared.Refusal.TheVariants as refusal
use Rattle.answers.specs.declared.WriteAnswer.{WriteAnswer}

-- The number of each refusal.
abbrev pub refusal_number : Refusal → ℕ
refusal_number refusal.ShortFrame = 1
refusal_number refusal.OtherVersion = 2
refusal_number refusal.OtherProcedure = 3
refusal_number refusal.DoneReceived = 4
refusal_number refusal.EndsInsideField = 5
refusal_number refusal.BadMarker = 6
refusal_number refusal.OverLimit = 7
refusal_number refusal.PositionFalls = 8
refusal_number refusal.PositionUnaligned = 9
refusal_number refusal.OtherErrorCode = 10
refusal_number refusal.BytesBehind = 11
refusal_number refusal.KindAndLists = 12
refusal_number refusal.BaseUnaligned = 13
refusal_number refusal.ChunkOverlaps = 14
refusal_number refusal.MessageLong = 15
refusal_number refusal.BufferShort = 16
refusal_number refusal.StateUnfit = 17
refusal_number refusal.PieceLong = 18
refusal_number refusal.BytesMissing = 19
refusal_number refusal.BadArgument = 20
refusal_number refusal.HeaderLong = 21
refusal_number refusal.CreditSpent = 23
refusal_number refusal.XidUnknown = 24
refusal_number refusal.GrantZero = 25
refusal_number refusal.ReplyMismatch = 26

-- An outcome with its refusal as a number.
abbrev pub numbered : {A : Type 0} → Result A Refusal → Result A ℕ
numbered (Ok x) = Ok x
numbered (Err r) = Err (refusal_number r)

-- What a call answers as one number: 0 is "done".
abbrev pub outcome_number : {A : Type 0} → Result A Refusal → ℕ
outcome_number (Ok x) = 0
outcome_number (Err r) = refusal_number r

-- What a writer answers: "A refused call returns its number .. and for all else zeros".
abbrev pub written_answer : Result ℕ Refusal → WriteAnswer
written_answer (Ok n) = record { number = 0; length = n }
written_answer (Err r) = record { number = refusal_number r; length = 0 }
