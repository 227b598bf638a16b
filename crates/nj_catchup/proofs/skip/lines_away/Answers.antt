-- Behind the sprite, or before it.
use Rattle.std.proofs.Common.{◌≡◌, ◌≤◌, ◌+◌, slice_index, ap, sym, arith}
use Rattle.nj_sprite0.specs.Sprite.{has_bit, height_of}
use Rattle.nj_catchup.proofs.Away.{line-before, line-behind}
use Rattle.nj_catchup.proofs.skip.lines_away.Goals as goal

pub returns-then-top-sprite_height : goal.returns-then-top-sprite_height
returns-then-top-sprite_height c = λ line from below.
    let s = c.args.screen.now in
    line-behind (slice_index s.oam 0) line (has_bit s.control 5)
    (omega (arith, from, c.if-top-sprite_height.true, c.sprite_height.ensures.rows, c.from-top.ensures))

pub returns-else-top-sprite_height : goal.returns-else-top-sprite_height
returns-else-top-sprite_height c = λ line from below.
    let s = c.args.screen.now in
    line-before (slice_index s.oam 0) line (has_bit s.control 5)
    (omega (arith, from, below, c.saturating_sub.ensures, c.from-top.ensures))
