-- The state of a reassembly (document 01, "Where each byte of a message goes").
use Rattle.std.specs.Prelude.{ℕ, []}
use Rattle.chunk_lists.specs.declared.ReadList.{ReadList}
use Rattle.header.specs.Content.{read_list_of}
use Rattle.header.specs.declared.Kind.{Kind}
use Rattle.header.specs.declared.Kind.TheVariants.{Msg}

-- "The state holds the kind, the read segments, base length, buffer length and count". A caller holds it as words (Words).
pub record State : Type 0 where
  pub reads : ReadList
  pub kind : Kind
  pub base : ℕ
  pub buffer : ℕ
  pub taken : ℕ

-- "a refused start an all-zero state of kind MSG"
abbrev pub no_state : State
no_state = record { reads = read_list_of []; kind = Msg; base = 0; buffer = 0; taken = 0 }
