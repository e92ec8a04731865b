-- `reader::check_error` meets its contract.
use mathlib.Core.Path.{ap, sym, ◌∙◌}
use native.Mathlib.Omega.{arith}
use Rattle.std.specs.Prelude.{Ok}
use Rattle.std.proofs.lemmas.Result.{err_from_is_err_and}
use Rattle.answers.specs.Refusals.{numbered}
use lib.ListN.{drop, length-drop}
use Rattle.wire.specs.Wire.{word_at, word_of}
use Rattle.wire.proofs.Fields.{part_from}
use Rattle.chunk_lists.proofs.ListSteps.{word_room}
use Rattle.reader.proofs.FrameChecks.{error_uncoded, error_cut, error_version, error_chunk, error_other}
use Rattle.reader.proofs.check_error.Goals as goal

pub returns-in_err-code : goal.returns-in_err-code
returns-in_err-code c =
    let s = c.args.s.now in
    let uncoded = sym (ap word_of (part_from 16 s)) ∙ sym c.first_word.ensures ∙ ap numbered c.in_err-code.was in
    let p = err_from_is_err_and c.from_residual.result c.from_residual.ensures.1 in
    rw (p.1, p.2) (error_uncoded (word_at s 0) (word_at s 8) s _ uncoded)

pub returns-then-s-lt-VERSION_ERROR_BYTES : goal.returns-then-s-lt-VERSION_ERROR_BYTES
returns-then-s-lt-VERSION_ERROR_BYTES c =
    let s = c.args.s.now in
    let coded = sym (ap word_of (part_from 16 s)) ∙ sym c.first_word.ensures ∙ ap numbered c.in_ok-code.was in
    let long = word_room (drop 16 s) _ coded in
    let size = length-drop 16 s in
    error_cut (word_at s 0) (word_at s 8) s _ coded c.if-code-eq-CODE_VERSION.true (omega arith) c.if-s-lt-VERSION_ERROR_BYTES.true

pub returns-then-code-eq-CODE_VERSION : goal.returns-then-code-eq-CODE_VERSION
returns-then-code-eq-CODE_VERSION c =
    let s = c.args.s.now in
    let coded = sym (ap word_of (part_from 16 s)) ∙ sym c.first_word.ensures ∙ ap numbered c.in_ok-code.was in
    let long = word_room (drop 16 s) _ coded in
    let size = length-drop 16 s in
    ap Ok c.error_shape.ensures
    ∙ rw (c.word_at.ensures, c.word_at-then-code-eq-CODE_VERSION.ensures) (error_version (word_at s 0) (word_at s 8) s _ coded c.if-code-eq-CODE_VERSION.true c.if-s-lt-VERSION_ERROR_BYTES.false)

pub returns-then-code-eq-CODE_CHUNK : goal.returns-then-code-eq-CODE_CHUNK
returns-then-code-eq-CODE_CHUNK c =
    let s = c.args.s.now in
    let coded = sym (ap word_of (part_from 16 s)) ∙ sym c.first_word.ensures ∙ ap numbered c.in_ok-code.was in
    let long = word_room (drop 16 s) _ coded in
    let size = length-drop 16 s in
    ap Ok c.error_shape-then-code-eq-CODE_CHUNK.ensures ∙ error_chunk (word_at s 0) (word_at s 8) s _ coded c.if-code-eq-CODE_CHUNK.true (omega arith)

pub returns : goal.returns
returns c =
    let s = c.args.s.now in
    let coded = sym (ap word_of (part_from 16 s)) ∙ sym c.first_word.ensures ∙ ap numbered c.in_ok-code.was in
    let long = word_room (drop 16 s) _ coded in
    let size = length-drop 16 s in
    error_other (word_at s 0) (word_at s 8) s _ coded c.if-code-eq-CODE_VERSION.false c.if-code-eq-CODE_CHUNK.false
