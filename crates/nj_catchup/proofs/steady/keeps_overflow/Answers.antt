-- The overflow flag is up, or no pending dot counts too many sprites.
use Rattle.std.proofs.Common.{sym, ◌∙◌}
use Rattle.nj_catchup.proofs.Overflows.{overflow-up, overflow-kept}
use Rattle.nj_catchup.proofs.steady.keeps_overflow.Goals as goal

pub returns-then-screen : goal.returns-then-screen
returns-then-screen c = λ p up.
    overflow-up c.sprite_overflow_is_timed.ensures.fallen c.args.dots p c.args.screen.now c.requires.fits
    c.requires.before_event up ∙ sym up

pub returns-else-screen : goal.returns-else-screen
returns-else-screen c = λ p none.
    overflow-kept c.sprite_overflow_is_timed.ensures.risen c.sprite_overflow_is_timed.ensures.fallen c.args.dots p
    c.args.screen.now c.requires.fits c.requires.before_event
    (λ n within. c.counts_no_sprites.ensures p n none within)
