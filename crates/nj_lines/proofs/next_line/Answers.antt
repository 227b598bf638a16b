-- The first line ends where `line_len` says.
use Rattle.nj_lines.proofs.LineLemmas.{lines-first}
use Rattle.nj_lines.proofs.next_line.Goals as goal

pub returns-clause-first : goal.returns-clause-first
returns-clause-first c =
    rw (c.split_at.ensures.front, c.split_at.ensures.back, c.line_len.ensures) (lines-first c.args.bytes.now c.requires)
