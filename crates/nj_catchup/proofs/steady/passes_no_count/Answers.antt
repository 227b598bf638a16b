-- Each of the three tests by itself.
use Rattle.std.proofs.Common.{◌≡◌, true, sym, ◌∙◌, arith}
use Rattle.std.proofs.lemmas.Bool.{not-true}
use Rattle.nj_catchup.proofs.Ahead.{to_event-small}
use Rattle.nj_catchup.proofs.Overflows.{none-hidden, none-below, none-aside}
use Rattle.nj_catchup.proofs.steady.passes_no_count.Goals as goal
use Rattle.nj_catchup.proofs.steady.passes_no_count.Goals.{then-dots-dots_to_latch, else-dots-dots_to_latch}

pub stays_below-requires : goal.stays_below-requires
stays_below-requires c = omega (arith, to_event-small c.args.screen.now c.requires.fits, c.requires.before_event)

pub returns-then-stays_below : goal.returns-then-stays_below
returns-then-stays_below c = λ p n ok within. elim c.if-dots-dots_to_latch.branch [
  | then-dots-dots_to_latch w ↦
      none-aside n c.args.dots p c.args.screen.now c.requires.fits within
      (λ m d before along. c.dots_to_latch.ensures m d (omega (arith, w.if-dots-dots_to_latch.true, before)) along)
  | else-dots-dots_to_latch w ↦ (
      let below : w.stays_below.result ≡ true = sym w.value-is ∙ ok in
      none-below n c.args.dots p c.args.screen.now c.requires.fits within c.requires.before_event
      (w.stays_below.ensures.line below) (w.stays_below.ensures.frame below))
]

pub returns-else-stays_below : goal.returns-else-stays_below
returns-else-stays_below c = λ p n off within.
    none-hidden n p c.args.screen.now c.requires.fits (omega (arith, within, c.requires.before_event))
    (sym c.is_rendering.ensures ∙ not-true c.is_rendering.result off)
