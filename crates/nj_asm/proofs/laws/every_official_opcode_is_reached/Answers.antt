-- Each official opcode has a line.
use Rattle.nj_asm.proofs.AgainLemmas.{one_again, reached}
use Rattle.nj_asm.proofs.laws.every_official_opcode_is_reached.Goals as goal

pub returns-clause-each : goal.returns-clause-each
returns-clause-each c =
    λ i is. one_again c.printed_numbers_have_no_line_feed.ensures.ended c.lines_are_the_bytes.ensures.only i is

pub returns-clause-reached : goal.returns-clause-reached
returns-clause-reached c = λ opcode within official.
    reached c.printed_numbers_have_no_line_feed.ensures.ended c.lines_are_the_bytes.ensures.only opcode within official
