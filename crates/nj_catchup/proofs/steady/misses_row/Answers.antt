-- Each of the three tests by itself.
use Rattle.std.proofs.Common.{◌≡◌, true, sym, ◌∙◌, arith}
use Rattle.std.proofs.lemmas.Bool.Decides.{nat_tests}
use Rattle.nj_catchup.proofs.Ahead.{to_event-small}
use Rattle.nj_catchup.proofs.Misses.{layers-miss, below-miss, row-miss}
use Rattle.nj_catchup.proofs.steady.misses_row.Goals as goal
use Rattle.nj_catchup.proofs.steady.misses_row.Goals.{then-not-shows_both_layers, else-not-shows_both_layers}

pub stays_below-requires : goal.stays_below-requires
stays_below-requires c = omega (arith, to_event-small c.args.screen.now c.requires.fits, c.requires.before_event)

pub returns-then-stays_below : goal.returns-then-stays_below
returns-then-stays_below c = λ p n ok within from. elim c.if-not-shows_both_layers.branch [
  | then-not-shows_both_layers w ↦
      layers-miss n p c.args.screen.now c.requires.fits (omega (arith, within, c.requires.before_event))
      (sym c.shows_both_layers.ensures ∙ w.if-not-shows_both_layers.true)
  | else-not-shows_both_layers w ↦ (
      let below : w.stays_below.result ≡ true = sym w.value-is ∙ ok in
      below-miss n c.args.dots p c.args.screen.now c.requires.fits within c.requires.before_event
      (w.stays_below.ensures.line below) (w.stays_below.ensures.frame below))
]

pub returns-else-stays_below : goal.returns-else-stays_below
returns-else-stays_below c = λ p n ok within from.
    row-miss n c.args.dots p c.args.screen.now c.requires.fits within c.requires.before_event
    (λ m d before along. c.dots_to_hit.ensures m d (grind (arith, nat_tests, ok, before)) along) from
