-- No dot at all, or lines and the end of one.
use Rattle.std.proofs.Common.{◌+◌, ◌*◌, ap, sym, ◌∙◌}
use Rattle.nj_dots.specs.Dots.{after_dots}
use Rattle.nj_catchup.specs.Skip.{line_prepared}
use Rattle.nj_catchup.proofs.Sums.{dots-none}
use Rattle.nj_catchup.proofs.Skips.{lines-run, fits-on, end-on}
use Rattle.nj_catchup.proofs.skip.run_lines.Goals as goal

pub returns-then-left-lt-DOTS_OF_END-clause-dots : goal.returns-then-left-lt-DOTS_OF_END-clause-dots
returns-then-left-lt-DOTS_OF_END-clause-dots c = sym (dots-none c.args.pattern.now c.args.screen.now)

pub prepare_line-requires-clause-fits : goal.prepare_line-requires-clause-fits
prepare_line-requires-clause-fits c =
    fits-on c.plain_lines-lines.result c.args.screen.now c.skip_lines.new.screen c.skip_lines.ensures c.requires.fits
    c.plain_lines-lines.ensures.plain.within

pub prepare_line-requires-clause-end : goal.prepare_line-requires-clause-end
prepare_line-requires-clause-end c =
    end-on c.plain_lines-lines.result c.args.screen.now c.skip_lines.new.screen c.skip_lines.ensures
    (c.ends_line.ensures c.if-not-ends_line.false) c.plain_lines-lines.ensures.plain.within

pub returns-clause-dots : goal.returns-clause-dots
returns-clause-dots c =
    let n = c.plain_lines-lines.result in
    let p = c.args.pattern.now in
    let s = c.args.screen.now in
    c.prepare_line.ensures ∙ ap (line_prepared p) c.skip_lines.ensures
    ∙ sym (lines-run n p s (c.ends_line.ensures c.if-not-ends_line.false) c.plain_lines-lines.ensures.plain)
    ∙ ap (λ k. after_dots (k * 341 + 80) p s) (sym c.from.ensures)
