-- The worked examples hold.
-- Assumes nothing.
use mathlib.Core.Path.{◌≡◌, refl}
use Rattle.wire.specs.Wire.{word_at, word_of, segment_at, read_segment_at, joined, word_bytes, words, segment_bytes, read_segment_bytes}
use Rattle.chunk_lists.specs.Lists.{marker_of, read_entry, read_list, segments, counted, write_list, reply_chunk, all_aligned}
use Rattle.chunk_lists.specs.Parsed.{each}
use Rattle.header.specs.Content.{header_of, content_of, runs}
use Rattle.reader.specs.Frame.{three_parts, error_body, by_procedure, read_frame}
use Rattle.header.specs.Bytes.{header_bytes, fixed_bytes, read_list_bytes, write_list_bytes, reply_bytes, chunk_bytes, counted_bytes, entry_bytes, error_bytes}
use Rattle.writer.specs.Write.{write_answer, write_buffer, entries_number, write_number}
use Rattle.header.specs.Limits.{within_limits, total}
use Rattle.setup.specs.Setup.{is_setup, read_setup, setup_in_rule, in_rule, agreement, write_setup_answer, write_setup_number, setup_bytes}
use Rattle.credit.specs.Credit.{granted, grant_answer}
use Rattle.error_reply.specs.Reply.{reply_kind_of, reply_kind_for, error_reply, error_reply_number, error_reply_answer, error_reply_buffer}
use Rattle.read_order.specs.ReadOrder.{inserted, sorted, never_falls}
use Rattle.layout.specs.Places.{from, scatter}
use Rattle.layout.specs.Layout.{any_at_zero, zero_length, join_chunk, other_chunks, rounded_up, rounded_total, stands, place_number, places, gaps, paddings, padding_places, base_places, pulled_places}
use Rattle.wire.specs.Wire as wire
use Rattle.wire.specs.Words.{segment_in, segment_words, read_segment_in, read_segment_words}
use Rattle.chunk_lists.specs.Words.{reads_in, reads_words, segments_in, segments_words}
use Rattle.assembly_start.specs.Start.{start_number, start_buffer, start_writes, start_words}
use Rattle.placing.specs.Segments.{dealt}
use Rattle.placing.specs.Goes.{of_segment, pulled_bytes, follows, begun_behind, goes}
use Rattle.assembly.specs.Assembly.{can_arise, piece_number, piece_goes, piece_buffer, message_number, message_part, piece_words}
use Rattle.assembly_state.specs.Words.{state_kind, parts_in, state_words, with_taken}
use Rattle.theorems.specs.Calls.{run_calls}
use Rattle.wire.specs.Fits.{All}
use Rattle.theorems.specs.Examples.{Holds, entry_words, examples, numbers, edges, returned_cases, piece_answers, goes_cases, handle_words, list_words, order_cases, echo_cases, ledger_cases, passed_cases, full, longest_cases}
use Rattle.header.specs.Words.{kind_in, header_in, header_words}
use Rattle.c_setup.specs.Words.{agreement_words}
use Rattle.ledger.specs.Ledger.{open_answer, is_in, any_twice, unfit, first_free, next_xid, spent, send_number, xids_behind, run_length, passed_over, send_answer, send_ledger, reply_number, without, reply_ledger}
use Rattle.ledger.specs.History.{ledger_after, history}
use Rattle.returned.specs.Returned.{any, pairs, chunk_pairs, filled_behind_gap, mismatch, chunk_length, returned_number, returned_answer}

-- "C1 to C13 are proved from the definitions as one list with one claim over it."
pub worked : All Holds examples
unfolding All words joined word_bytes read_frame by_procedure three_parts read_list read_entry segments counted each write_list reply_chunk marker_of word_of word_at segment_at read_segment_at write_answer write_buffer write_number within_limits total entries_number never_falls all_aligned inserted sorted header_of content_of runs header_bytes fixed_bytes read_list_bytes write_list_bytes reply_bytes chunk_bytes counted_bytes entry_bytes segment_bytes read_segment_bytes is_setup read_setup granted grant_answer reply_kind_of reply_kind_for error_reply error_reply_number error_reply_answer error_reply_buffer entry_words segment_in segment_words read_segment_in read_segment_words reads_in reads_words state_kind parts_in state_words start_words with_taken piece_words wire.stored start_number start_buffer start_writes can_arise piece_number piece_buffer message_number message_part run_calls any_at_zero zero_length join_chunk other_chunks rounded_up rounded_total stands place_number places gaps paddings padding_places base_places pulled_places from scatter
worked = ((refl, refl), ((refl, refl), ((refl, refl), ((refl, refl), ((refl, refl), ((refl, refl), ((refl, refl), ((refl, refl), ((refl, refl), ((refl, refl), (refl, (refl, (refl, ((refl, refl), ((refl, refl), (refl, (refl, (refl, (refl, ((refl, refl), tt))))))))))))))))))))

-- Each other number of the table is given where it says.
pub numbered : All Holds numbers
unfolding All words joined word_bytes read_frame by_procedure three_parts error_body read_list read_entry segments counted each write_list reply_chunk marker_of word_of word_at segment_at read_segment_at entry_words start_number any_at_zero zero_length join_chunk other_chunks rounded_up rounded_total stands place_number grant_answer piece_number can_arise reads_in read_segment_in segment_in parts_in state_kind never_falls all_aligned
numbered = ((refl, refl), ((refl, refl), ((refl, refl), ((refl, refl), ((refl, refl), ((refl, refl), (refl, (refl, (refl, (refl, (refl, tt)))))))))))

-- Orders in which checks are made, ends of limits, places of bytes and words.
pub edged : All Holds edges
unfolding All words joined word_bytes read_frame by_procedure three_parts read_list read_entry segments counted each write_list reply_chunk marker_of word_of word_at segment_at read_segment_at write_answer write_buffer write_number within_limits total entries_number never_falls all_aligned inserted sorted header_of content_of runs header_bytes fixed_bytes read_list_bytes write_list_bytes reply_bytes chunk_bytes counted_bytes entry_bytes segment_bytes read_segment_bytes is_setup read_setup granted grant_answer reply_kind_of reply_kind_for error_reply error_reply_number error_reply_answer error_reply_buffer entry_words segment_in segment_words read_segment_in read_segment_words reads_in reads_words state_kind parts_in state_words start_words with_taken piece_words wire.stored start_number start_buffer start_writes can_arise piece_number piece_buffer message_number message_part run_calls any_at_zero zero_length join_chunk other_chunks rounded_up rounded_total stands place_number places gaps paddings padding_places base_places pulled_places from scatter error_body error_bytes header_words segments_words setup_in_rule in_rule agreement agreement_words write_setup_answer write_setup_number setup_bytes
edged = ((refl, refl), ((refl, refl), ((refl, refl), ((refl, refl), ((refl, refl), ((refl, refl), ((refl, refl), ((refl, refl), ((refl, refl), ((refl, refl), ((refl, refl), ((refl, refl), ((refl, refl), ((refl, refl), (refl, (refl, (refl, (refl, (refl, (refl, ((refl, (refl, (refl, (refl, (refl, (refl, (refl, (refl, (refl, (refl, (refl, (refl, (refl, (refl, (refl, (refl, (refl, (refl, (refl, (refl, (refl, (refl, (refl, (refl, tt)))))))))))))))))))))))), (refl, (refl, (refl, (refl, ((refl, refl), ((refl, refl), (refl, (refl, ((refl, refl), (refl, (refl, (refl, (refl, (refl, (refl, (refl, (refl, (refl, ((refl, (refl, (refl, (refl, (refl, (refl, (refl, (refl, (refl, (refl, tt)))))))))), ((refl, (refl, (refl, (refl, (refl, tt))))), (refl, (refl, tt)))))))))))))))))))))))))))))))))))))))))))

-- Order 1, case by case.
pub returned : All Holds returned_cases
unfolding All words joined word_bytes word_at header_of content_of runs within_limits total any pairs chunk_pairs filled_behind_gap mismatch chunk_length returned_number returned_answer header_in kind_in header_words reads_in segments_in read_segment_in segment_in each reads_words segments_words read_segment_words segment_words reply_kind_for reply_kind_of granted error_reply error_reply_number error_reply_answer
returned = (refl, (refl, (refl, (refl, (refl, (refl, (refl, (refl, (refl, (refl, (refl, (refl, (refl, (refl, (refl, (refl, (refl, (refl, (refl, (refl, (refl, (refl, (refl, (refl, (refl, (refl, (refl, (refl, (refl, (refl, (refl, (refl, (refl, (refl, (refl, (refl, (refl, (refl, (refl, (refl, (refl, (refl, (refl, (refl, (refl, (refl, (refl, (refl, (refl, (refl, (refl, (refl, (refl, (refl, (refl, (refl, (refl, (refl, (refl, (refl, ((refl, refl), ((refl, refl), ((refl, refl), ((refl, refl), (refl, tt)))))))))))))))))))))))))))))))))))))))))))))))))))))))))))))))))

-- Order 2, case by case.
pub goes_taken : All Holds goes_cases
unfolding All words joined word_bytes read_frame by_procedure three_parts read_list read_entry segments counted each write_list reply_chunk marker_of word_of word_at segment_at read_segment_at never_falls all_aligned inserted sorted entry_words segment_in segment_words read_segment_in read_segment_words reads_in reads_words state_kind parts_in state_words start_words with_taken piece_words wire.stored start_number can_arise piece_number piece_goes piece_answers any_at_zero zero_length join_chunk other_chunks rounded_up rounded_total stands place_number places gaps base_places pulled_places from dealt of_segment pulled_bytes follows begun_behind goes
goes_taken = (refl, (refl, (refl, (refl, (refl, (refl, (refl, (refl, (refl, (refl, (refl, (refl, (refl, (refl, (refl, (refl, (refl, (refl, (refl, (refl, (refl, (refl, (refl, (refl, (refl, (refl, (refl, (refl, tt))))))))))))))))))))))))))))

-- Order 3, case by case.
pub in_any_order : All Holds order_cases
unfolding All words joined word_bytes read_frame by_procedure three_parts read_list read_entry segments counted each write_list reply_chunk marker_of word_of word_at segment_at read_segment_at write_answer write_buffer write_number within_limits total entries_number never_falls all_aligned inserted sorted header_of content_of runs header_bytes fixed_bytes read_list_bytes write_list_bytes reply_bytes chunk_bytes counted_bytes entry_bytes segment_bytes read_segment_bytes is_setup read_setup granted grant_answer reply_kind_of reply_kind_for error_reply error_reply_number error_reply_answer error_reply_buffer entry_words segment_in segment_words read_segment_in read_segment_words reads_in reads_words state_kind parts_in state_words start_words with_taken piece_words wire.stored start_number start_buffer start_writes can_arise piece_number piece_buffer message_number message_part run_calls any_at_zero zero_length join_chunk other_chunks rounded_up rounded_total stands place_number places gaps paddings padding_places base_places pulled_places from scatter piece_goes piece_answers dealt of_segment pulled_bytes follows begun_behind goes handle_words list_words
in_any_order = ((refl, refl), ((refl, refl), ((refl, refl), ((refl, refl), ((refl, refl), ((refl, refl), (refl, ((refl, (refl, (refl, (refl, (refl, (refl, (refl, (refl, (refl, (refl, tt)))))))))), ((refl, (refl, (refl, (refl, (refl, (refl, (refl, (refl, (refl, (refl, (refl, (refl, (refl, tt))))))))))))), ((refl, (refl, (refl, (refl, (refl, (refl, (refl, (refl, (refl, (refl, (refl, (refl, (refl, tt))))))))))))), ((refl, (refl, (refl, (refl, (refl, (refl, (refl, (refl, (refl, (refl, (refl, (refl, (refl, (refl, (refl, (refl, (refl, (refl, (refl, tt))))))))))))))))))), ((refl, (refl, (refl, (refl, (refl, (refl, (refl, (refl, (refl, (refl, (refl, (refl, (refl, (refl, (refl, tt))))))))))))))), ((refl, (refl, (refl, (refl, (refl, (refl, (refl, (refl, (refl, (refl, (refl, (refl, (refl, (refl, (refl, (refl, (refl, (refl, (refl, (refl, (refl, (refl, (refl, (refl, (refl, (refl, (refl, (refl, (refl, (refl, (refl, (refl, (refl, (refl, (refl, (refl, (refl, (refl, (refl, (refl, (refl, (refl, (refl, (refl, (refl, (refl, (refl, (refl, tt)))))))))))))))))))))))))))))))))))))))))))))))), ((refl, (refl, (refl, (refl, (refl, (refl, (refl, (refl, (refl, (refl, (refl, (refl, (refl, (refl, (refl, (refl, (refl, (refl, (refl, (refl, (refl, (refl, (refl, (refl, (refl, (refl, (refl, (refl, (refl, (refl, (refl, (refl, (refl, (refl, (refl, (refl, (refl, (refl, (refl, (refl, (refl, (refl, (refl, (refl, (refl, (refl, (refl, (refl, tt)))))))))))))))))))))))))))))))))))))))))))))))), ((refl, refl), ((refl, refl), ((refl, refl), ((refl, refl), (refl, (refl, (refl, (refl, (refl, (refl, ((refl, refl), ((refl, refl), ((refl, refl), ((refl, refl), ((refl, refl), ((refl, refl), ((refl, refl), ((refl, refl), ((refl, refl), ((refl, refl), ((refl, refl), ((refl, refl), ((refl, refl), ((refl, refl), ((refl, refl), ((refl, refl), ((refl, refl), ((refl, refl), (refl, (refl, ((refl, refl), tt)))))))))))))))))))))))))))))))))))))))))))))

-- Order 4, case by case.
pub echoed : All Holds echo_cases
unfolding All words joined word_bytes word_of word_at read_frame by_procedure error_body header_of granted reply_kind_of reply_kind_for error_reply error_reply_number error_reply_answer error_reply_buffer
echoed = ((refl, refl), ((refl, refl), ((refl, refl), ((refl, refl), ((refl, refl), ((refl, refl), ((refl, refl), ((refl, refl), ((refl, refl), ((refl, refl), ((refl, refl), ((refl, refl), ((refl, refl), ((refl, refl), ((refl, refl), ((refl, refl), ((refl, refl), ((refl, refl), ((refl, refl), ((refl, refl), ((refl, refl), ((refl, refl), ((refl, refl), ((refl, refl), ((refl, refl), ((refl, refl), ((refl, refl), (refl, (refl, (refl, (refl, (refl, tt))))))))))))))))))))))))))))))))

-- Order 5, case by case.
pub booked : All Holds ledger_cases
unfolding All from open_answer is_in any_twice unfit first_free next_xid spent send_number xids_behind run_length passed_over send_answer send_ledger reply_number without reply_ledger ledger_after history
booked = (refl, (refl, ((refl, refl), ((refl, refl), ((refl, refl), ((refl, refl), ((refl, refl), ((refl, refl), ((refl, refl), ((refl, refl), ((refl, refl), ((refl, refl), ((refl, refl), ((refl, refl), ((refl, refl), ((refl, refl), ((refl, refl), ((refl, refl), ((refl, refl), ((refl, refl), ((refl, refl), ((refl, refl), ((refl, refl), ((refl, refl), ((refl, refl), ((refl, refl), ((refl, refl), ((refl, refl), ((refl, refl), ((refl, refl), ((refl, refl), ((refl, refl), ((refl, refl), ((refl, refl), ((refl, refl), ((refl, refl), ((refl, refl), ((refl, refl), ((refl, refl), ((refl, refl), ((refl, refl), ((refl, refl), ((refl, refl), ((refl, refl), ((refl, refl), ((refl, refl), ((refl, refl), ((refl, refl), ((refl, refl), ((refl, refl), ((refl, refl), ((refl, refl), ((refl, refl), ((refl, refl), ((refl, refl), ((refl, refl), tt))))))))))))))))))))))))))))))))))))))))))))))))))))))))

-- Order 6, case by case.
pub passed : All Holds passed_cases
unfolding All from is_in any_twice unfit first_free next_xid spent send_number xids_behind run_length passed_over send_answer send_ledger
passed = ((refl, refl), ((refl, refl), ((refl, refl), ((refl, refl), ((refl, refl), ((refl, refl), ((refl, refl), ((refl, refl), ((refl, refl), ((refl, refl), ((refl, refl), ((refl, refl), ((refl, refl), ((refl, refl), ((refl, refl), ((refl, refl), ((refl, refl), ((refl, refl), ((refl, refl), ((refl, refl), ((refl, refl), ((refl, refl), ((refl, refl), ((refl, refl), ((refl, refl), tt)))))))))))))))))))))))))

-- Order 7: C13's header takes 960 bytes.
pub reached : write_answer full 960 ≡ record { number = 0; length = 960 }
unfolding joined word_bytes write_answer write_number within_limits total entries_number header_of content_of runs header_bytes fixed_bytes read_list_bytes write_list_bytes reply_bytes chunk_bytes counted_bytes entry_bytes segment_bytes read_segment_bytes
reached = refl

-- Order 7, case by case.
pub within_960 : All Holds longest_cases
unfolding All words joined word_bytes read_frame by_procedure three_parts error_body read_list read_entry segments counted each write_list reply_chunk marker_of word_of word_at segment_at read_segment_at write_answer write_buffer write_number within_limits total entries_number header_of content_of runs header_bytes fixed_bytes read_list_bytes write_list_bytes reply_bytes chunk_bytes counted_bytes entry_bytes error_bytes segment_bytes read_segment_bytes granted reply_kind_of reply_kind_for error_reply error_reply_number error_reply_answer error_reply_buffer
within_960 = (refl, (refl, ((refl, refl), ((refl, refl), ((refl, refl), ((refl, refl), ((refl, refl), ((refl, refl), (refl, (refl, (refl, (refl, (refl, (refl, (refl, ((refl, refl), (refl, ((refl, refl), ((refl, refl), ((refl, refl), (refl, (refl, (refl, (refl, tt))))))))))))))))))))))))
