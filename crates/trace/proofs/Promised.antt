-- What the contracts of `start`, `feed` and `finish` ask of a caller, which is nothing, and promise, once more in full. A contract that is changed together with its function fails here.
-- Assumes nothing.
use Rattle.std.proofs.Common.{◌≡◌, ℕ, ◌*◌, ◌≤◌, List, length, Bor, MutBor}
use contract.Lifetimes.{Lfts}
use denote.Triple.Clauses.{AtExit}
use borrow.Fn.Kinds.{ended_of}
use Rattle.wire.specs.Wire.{stored}
use Rattle.trace_text.specs.Text.{heading}
use Rattle.trace.specs.Feeding.{start_state, feed_answer, feed_reading, feed_buffer, finish_text}
use Rattle.trace.specs.declared.TraceState.{TraceState}
use Rattle.trace.specs.declared.FeedAnswer.{FeedAnswer}
use Rattle.trace.proofs.start.Reads as starts
use Rattle.trace.proofs.start.Kinds as start-kinds
use Rattle.trace.proofs.feed.Reads as feeds
use Rattle.trace.proofs.feed.Kinds as feed-kinds
use Rattle.trace.proofs.finish.Reads as finishes
use Rattle.trace.proofs.finish.Kinds as finish-kinds

pub starting_asks_nothing : (κs : Lfts 1) (out : MutBor (List ℕ)) → starts.Pre κs (out, tt)
starting_asks_nothing κs out = tt

pub started : (κs : Lfts 1) (out : MutBor (List ℕ)) (state : TraceState) (left : AtExit (ended_of 1 start-kinds.ps start-kinds.r) κs) → starts.Post κs (out, tt) state left → (left.0.now ≡ heading) × (state ≡ start_state)
started κs out state left promise = promise

pub feeding_asks_nothing : (κs : Lfts 3) (state : TraceState) (block : Bor (List ℕ)) (frame out : MutBor (List ℕ)) → feeds.Pre κs (state, (block, (frame, (out, tt))))
feeding_asks_nothing κs state block frame out = tt

pub fed : (κs : Lfts 3) (state : TraceState) (block : Bor (List ℕ)) (frame out : MutBor (List ℕ)) (answer : FeedAnswer) (left : AtExit (ended_of 3 feed-kinds.ps feed-kinds.r) κs) → feeds.Post κs (state, (block, (frame, (out, tt)))) answer left →
    (answer ≡ feed_answer state frame.now block.now (length out.now))
    × ((left.1.1.0.now ≡ (feed_reading state frame.now block.now (length out.now)).frame)
    × ((left.1.1.1.0.now ≡ feed_buffer state frame.now block.now out.now)
    × ((answer.used ≤ length block.now) × ((answer.written ≤ length out.now) × (answer.written ≤ 22 * answer.used)))))
fed κs state block frame out answer left promise = promise

pub finishing_asks_nothing : (κs : Lfts 2) (state : TraceState) (frame : Bor (List ℕ)) (out : MutBor (List ℕ)) → finishes.Pre κs (state, (frame, (out, tt)))
finishing_asks_nothing κs state frame out = tt

pub finished : (κs : Lfts 2) (state : TraceState) (frame : Bor (List ℕ)) (out : MutBor (List ℕ)) (n : ℕ) (left : AtExit (ended_of 2 finish-kinds.ps finish-kinds.r) κs) → finishes.Post κs (state, (frame, (out, tt))) n left →
    (n ≡ length (finish_text state frame.now)) × ((left.1.1.0.now ≡ stored out.now 0 (finish_text state frame.now)) × (n ≤ 135))
finished κs state frame out n left promise = promise
