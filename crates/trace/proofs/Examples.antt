-- The examples follow from the definitions alone.
-- Assumes nothing.
use Rattle.std.proofs.Common.{◌≡◌, ℕ, ◌%◌, ◌<◌, ◌≤◌, eqb, List, map, length, refl, arith, take_all, le-leb}
use mathlib.Core.Bool.{and-false}
use borrow.Author.Tests.{lt-leb}
use lib.ListN.{length-map}
use Rattle.wire.specs.Wire.{word_at, word_of}
use Rattle.wire.specs.Fits.{All}
use Rattle.chunk_lists.specs.Lists.{marker_of, read_list, write_list, reply_chunk}
use Rattle.reader.specs.Frame.{three_parts, error_body, by_procedure, read_frame}
use Rattle.error_reply.specs.Reply.{reply_kind_of, reply_kind_for}
use Rattle.trace_line.specs.Line.{value_of, all_digits, bytes_of, frame_of}
use Rattle.trace_text.specs.Verdict.{answer, payload, reply_to, verdict_of}
use Rattle.trace_text.specs.Text.{ascii, digits, decimal, heading, reply_text, verdict_text, bad_text, sums_text, too_long}
use Rattle.trace.specs.Report.{lines_of, line_text, numbered, sum_over, max_lines, report_on, report}
use Rattle.trace.specs.Examples.{Examples, DigitLimit, LineLimit}

pub examples : Examples
unfolding Examples All report report_on lines_of line_text numbered sum_over max_lines value_of all_digits bytes_of frame_of answer payload reply_to verdict_of ascii digits decimal heading reply_text verdict_text bad_text sums_text too_long read_frame by_procedure three_parts error_body read_list write_list reply_chunk marker_of word_of word_at reply_kind_of reply_kind_for
examples = ((refl, (refl, (refl, (refl, (refl, (refl, tt)))))), refl, refl)

pub digit_limit : (l : List ℕ) → DigitLimit l
unfolding frame_of
digit_limit l =
    record {
      fine = λ d even few. rw (d, even, le-leb (length l) 8_192 few);
      odd = λ e. rw e;
      other = λ e. rw (e, and-false (eqb (length l % 2) 0));
      long = λ h. rw (lt-leb (length l) 8_192 h, and-false (all_digits l), and-false (eqb (length l % 2) 0));
    }

million : max_lines ≡ 1_000_000
unfolding max_lines
million = refl

pub line_limit : (s : List ℕ) → LineLimit s
unfolding report report_on
line_limit s =
    record {
      fine = λ h.
          let few : length (map frame_of (lines_of s)) ≤ max_lines = rw (length-map (lines_of s) frame_of) (omega (arith, million)) in
          rw (le-leb (length (map frame_of (lines_of s))) max_lines few, take_all max_lines (map frame_of (lines_of s)) few);
      long = λ h.
          let many : max_lines < length (map frame_of (lines_of s)) = rw (length-map (lines_of s) frame_of) (omega (arith, million)) in
          rw (lt-leb (length (map frame_of (lines_of s))) max_lines many);
    }
