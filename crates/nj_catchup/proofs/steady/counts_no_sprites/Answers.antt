-- No dot counts, or there are few to count.
use Rattle.std.proofs.Common.{arith}
use Rattle.nj_catchup.proofs.Away.{few-none}
use Rattle.nj_catchup.proofs.steady.counts_no_sprites.Goals as goal

pub returns-else-passes_no_count : goal.returns-else-passes_no_count
returns-else-passes_no_count c = λ p n few within.
    few-none n p c.args.screen.now c.requires.fits (omega (arith, within, c.requires.before_event))
    (λ line tall below. c.has_few_sprites.ensures line tall few below)
