-- No dot at all, or those up to the end of the blank ones.
use Rattle.std.proofs.Common.{◌+◌, refl, sym, arith}
use Rattle.nj_catchup.proofs.Sums.{dots-none}
use Rattle.nj_catchup.proofs.Rests.{blank-run}
use Rattle.nj_catchup.proofs.blank.run_blank.Goals as goal

pub returns-then-screen-clause-dots : goal.returns-then-screen-clause-dots
returns-then-screen-clause-dots c = λ p. sym (dots-none p c.args.screen.now)

pub returns-clause-dots : goal.returns-clause-dots
returns-clause-dots c = λ p.
    let place = c.place-place.result in
    blank-run c.min-dots.result place (place + c.min-dots.result) p c.args.screen.now c.requires c.if-screen.false
    c.place-place.ensures refl
    (λ n from below. c.blank_end.ensures.blank n from
    (omega (arith, below, c.min-dots.ensures, c.blank_end.ensures.from)))
