-- `reader::read_header` meets its contract.
use Rattle.reader.proofs.DecodedWords.{answer_held}
use Rattle.reader.proofs.read_header.Goals as goal

pub returns : goal.returns
returns c = answer_held c.args.s.now _ _ _ c.decode_header-number.ensures.answer c.decode_header-number.ensures.words c.header_of.ensures
