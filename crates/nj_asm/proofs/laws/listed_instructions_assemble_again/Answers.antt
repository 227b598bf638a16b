-- A listing of instructions is a source of their bytes.
use Rattle.nj_asm.proofs.AgainLemmas.{again}
use Rattle.nj_asm.proofs.laws.listed_instructions_assemble_again.Goals as goal

pub returns : goal.returns
returns c = record {
  again = λ origin all small within are. again c.printed_numbers_have_no_line_feed.ensures.ended
      c.lines_are_the_bytes.ensures.only origin all small within are;
}
