-- One step more.
use Rattle.std.proofs.Common.{◌≡◌, ◌+◌, ap, ◌∙◌}
use Rattle.nj_dots.specs.declared.scroll.Scroll.{Scroll}
use Rattle.nj_dots.specs.Scroll.{next_row}
use Rattle.nj_catchup.proofs.Skips.{rows-begun, rows-more}
use Rattle.nj_catchup.proofs.skip.step_rows.Goals as goal

pub loop-init : goal.loop-init
loop-init c = ap (λ n. let s : Scroll = c.args.scroll.now in record s { v = n }) (rows-begun c.args.scroll.now.v)

pub loop-preserved : goal.loop-preserved
loop-preserved c =
    c.step_y.ensures ∙ ap (λ (s : Scroll). record s { v = next_row s.v }) c.loop.invariant
    ∙ ap (λ n. let s : Scroll = c.args.scroll.now in record s { v = n }) (rows-more c.loop.counter c.args.scroll.now.v)
