-- Each clause is a lemma on texts.
use Rattle.nj_pad.proofs.PadLemmas.{pad_of_text-pad_text, text-pad_of_text}
use Rattle.nj_pad.proofs.a_text_shows_its_pad.Goals as goal

pub returns-clause-shown : goal.returns-clause-shown
returns-clause-shown c = pad_of_text-pad_text

pub returns-clause-only_its_text : goal.returns-clause-only_its_text
returns-clause-only_its_text c = λ text pad read. (text-pad_of_text text pad read).0

pub returns-clause-byte : goal.returns-clause-byte
returns-clause-byte c = λ text pad read. (text-pad_of_text text pad read).1
