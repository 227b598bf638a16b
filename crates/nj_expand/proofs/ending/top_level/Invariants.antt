use Rattle.std.proofs.Common.{◌≡◌, max, drop}
use Rattle.nj_expand.specs.Ending.{top_of_rows}
use Rattle.nj_expand.proofs.ending.top_level.Given as goal

-- the greatest so far and of the rows that are left is that of all
abbrev pub invariant-loop-row : goal.invariant-loop-row
invariant-loop-row l = max l.top (top_of_rows (drop l.row-index l.rows)) ≡ top_of_rows l.rows
