-- There are few sprites.
use Rattle.nj_sprite0.specs.Sprite.{has_bit}
use Rattle.nj_catchup.proofs.Skips.{few-keep}
use Rattle.nj_catchup.proofs.skip.keeps_overflow.Goals as goal

pub returns-else-screen : goal.returns-else-screen
returns-else-screen c = λ line few below.
    let s = c.args.screen.now in
    few-keep s.sprite_overflow s.oam s.control line (c.has_few_sprites.ensures line (has_bit s.control 5) few below)
