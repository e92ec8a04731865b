-- A state that fails a check does not fit, and one that passes all does.
use Rattle.std.proofs.Common.{◌≡◌, sym, ◌∙◌, arith}
use Rattle.std.specs.Prelude.{Ok}
use Rattle.chunk_lists.specs.Words.{reads_in}
use Rattle.layout.proofs.ReadsWalk.{fine_told}
use Rattle.assembly_state.specs.Words.{with_reads}
use Rattle.assembly.proofs.StateChecks.{too_many, faulty_list, misplaced, other_base, over_taken, fit_checked, refused_told}
use Rattle.assembly.proofs.check_state.Goals as goal

pub returns-then-p : goal.returns-then-p
returns-then-p c = too_many (with_reads (reads_in c.args.words.now) c.args.p) c.args.room c.if-p.true

pub returns-in_err-found : goal.returns-in_err-found
returns-in_err-found c =
    rw c.from_residual.ensures (faulty_list (with_reads (reads_in c.args.words.now) c.args.p) c.args.room c.if-p.false (sym c.check_reads.ensures ∙ c.in_err-found.was))

pub returns-in_err-message : goal.returns-in_err-message
returns-in_err-message c =
    let fine = fine_told _ _ _ (sym c.check_reads.ensures ∙ c.in_ok-found.was) in
    let refused = refused_told c.check_room.result (sym c.ok.ensures.value ∙ c.in_err-message.was) in
    rw c.from_residual-in_err-message.ensures
    (misplaced (with_reads (reads_in c.args.words.now) c.args.p) c.args.room c.if-p.false fine.rise fine.aligned c.if-p-room.false _ fine.summed c.check_room.result (c.check_room.ensures _ fine.stood) refused.0 refused.1)

pub returns-then-base_length-p : goal.returns-then-base_length-p
returns-then-base_length-p c =
    let fine = fine_told _ _ _ (sym c.check_reads.ensures ∙ c.in_ok-found.was) in
    let holds : c.check_room.result ≡ Ok c.in_ok-message.message = grind arith in
    other_base (with_reads (reads_in c.args.words.now) c.args.p) c.args.room c.if-p.false fine.rise fine.aligned c.if-p-room.false _ fine.summed c.check_room.result (c.check_room.ensures _ fine.stood) _ holds _ c.base_length.ensures c.if-base_length-p.true

pub returns-then-p-sums : goal.returns-then-p-sums
returns-then-p-sums c =
    let fine = fine_told _ _ _ (sym c.check_reads.ensures ∙ c.in_ok-found.was) in
    let holds : c.check_room.result ≡ Ok c.in_ok-message.message = grind arith in
    over_taken (with_reads (reads_in c.args.words.now) c.args.p) c.args.room c.if-p.false fine.rise fine.aligned c.if-p-room.false _ fine.summed c.check_room.result (c.check_room.ensures _ fine.stood) _ holds _ c.base_length.ensures c.if-base_length-p.false c.if-p-sums.true

pub returns : goal.returns
returns c =
    let fine = fine_told _ _ _ (sym c.check_reads.ensures ∙ c.in_ok-found.was) in
    let holds : c.check_room.result ≡ Ok c.in_ok-message.message = grind arith in
    fit_checked (with_reads (reads_in c.args.words.now) c.args.p) c.args.room c.if-p.false fine.rise fine.aligned c.if-p-room.false _ fine.summed c.check_room.result (c.check_room.ensures _ fine.stood) _ holds _ c.base_length.ensures c.if-base_length-p.false c.if-p-sums.false
