-- Each clause is a lemma on lines.
use Rattle.nj_lines.proofs.LineLemmas.{concat-lines, AreLines-lines, lines-concat}
use Rattle.nj_lines.proofs.lines_are_the_bytes.Goals as goal

pub returns-clause-whole : goal.returns-clause-whole
returns-clause-whole c = concat-lines

pub returns-clause-each_ended : goal.returns-clause-each_ended
returns-clause-each_ended c = AreLines-lines

pub returns-clause-only : goal.returns-clause-only
returns-clause-only c = lines-concat
