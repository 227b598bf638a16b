-- Each clause is a lemma on reads.
use Rattle.nj_pad.proofs.PortLemmas.{bits_read-latched, bits_read-strobing}
use Rattle.nj_pad.proofs.reads_give_the_buttons_in_turn.Goals as goal

pub returns-clause-latched : goal.returns-clause-latched
returns-clause-latched c = bits_read-latched

pub returns-clause-strobing : goal.returns-clause-strobing
returns-clause-strobing c = bits_read-strobing
