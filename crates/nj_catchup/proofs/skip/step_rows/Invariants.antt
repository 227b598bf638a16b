-- the step of Y, once for each line so far
use Rattle.std.proofs.Common.{◌≡◌}
use Rattle.nj_dots.specs.Scroll.{next_row}
use Rattle.nj_dots.specs.Laws.{repeated}
use Rattle.nj_catchup.proofs.skip.step_rows.Given as goal

abbrev pub invariant-loop : goal.invariant-loop
invariant-loop l = l.scroll ≡ record l.fn.scroll { v = repeated l.counter next_row l.fn.scroll.v }
