-- "NOMSG and ERROR have nothing behind."
-- Assumes nothing.
use mathlib.Core.Path.{◌≡◌, sym, ap, ◌∙◌}
use mathlib.Core.Bool.{Bool, true, false, cond}
use mathlib.Core.List.{List, []}
use Prim.Native.Nat.{ℕ}
use native.Mathlib.Omega.{arith}
use borrow.Author.Tests.{eqb-true}
use lib.ListN.{length, drop}
use lib.Dec.{leb, eqb}
use Rattle.wire.specs.Wire.{word_at}
use Rattle.chunk_lists.specs.Parsed.{Parsed, refused, done}
use Rattle.chunk_lists.specs.Lists.{read_list, write_list, reply_chunk}
use Rattle.chunk_lists.proofs.ListSteps.{never, required, both}
use Rattle.header.specs.Content.{Content}
use Rattle.reader.specs.Frame.{three_parts, error_body, nothing_behind, by_procedure, read_frame}
use Rattle.header.specs.declared.Kind.{Kind}
use Rattle.header.specs.declared.Kind.TheVariants.{Msg, Nomsg}
use Rattle.reader.proofs.FrameParts.{none_of}

-- The three parts are those of the kind that was asked for.
parts_kind : (kind : Kind) (x y : ℕ) (s : List ℕ) (c : Content) (t : List ℕ) → three_parts kind x y s ≡ done c t → c.kind ≡ kind
unfolding three_parts
parts_kind kind x y s c t e =
    let a = both (read_list 16 s) e in
    let b = both (write_list 4 16 a.behind) a.then in
    let r = both (reply_chunk b.behind) b.then in
    let is : c ≡ record { kind = kind; xid = x; credit = y; reads = a.first; writes = b.first; reply = r.first } = same r.then in
    ap (λ (d : Content). d.kind) is
  where
    same : {d : Content} {u : List ℕ} → done d u ≡ done c t → c ≡ d
    same q = cc

-- What was read as a NOMSG has nothing behind it.
pub nomsg_ends : (s : List ℕ) (c : Content) (t : List ℕ) → read_frame s ≡ done c t → c.kind ≡ Nomsg → t ≡ []
unfolding read_frame by_procedure
nomsg_ends s c t e is =
    let a = required (leb 16 (length s)) _ _ e in
    let b = required (eqb (word_at s 4) 1) _ _ a.1 in
    by (eqb (word_at s 12) 0) (eqb (word_at s 12) 1) (eqb (word_at s 12) 3) (eqb (word_at s 12) 4) b.1
  where
    ended : (p : Parsed Content) → nothing_behind p ≡ done c t → t ≡ []
    ended p q =
        let d = both p q in
        let f = required (eqb (length d.behind) 0) _ _ d.then in
        let same : t ≡ d.behind = rest f.1 in
        same ∙ none_of d.behind (eqb-true (length d.behind) 0 f.0)
      where
        rest : {x y : Content} {u : List ℕ} → done x u ≡ done y t → t ≡ u
        rest r = cc

    by : (zeroth first third fourth : Bool) →
        cond zeroth (three_parts Msg (word_at s 0) (word_at s 8) (drop 16 s))
        (cond first (nothing_behind (three_parts Nomsg (word_at s 0) (word_at s 8) (drop 16 s)))
        (cond third (refused 4)
        (cond fourth (nothing_behind (error_body (word_at s 0) (word_at s 8) (drop 16 s)))
        (refused 3)))) ≡ done c t → t ≡ []
    by true x y z q = let k : Msg ≡ Nomsg = sym (parts_kind Msg (word_at s 0) (word_at s 8) (drop 16 s) c t q) ∙ is in absurd (let n : ◌≡◌ {A = ℕ} 0 1 = cc in omega arith)
    by false true y z q = ended (three_parts Nomsg (word_at s 0) (word_at s 8) (drop 16 s)) q
    by false false true z q = absurd (never q)
    by false false false true q = ended (error_body (word_at s 0) (word_at s 8) (drop 16 s)) q
    by false false false false q = absurd (never q)
