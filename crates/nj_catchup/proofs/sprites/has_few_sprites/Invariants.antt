-- the sprites so far that are in range of a visible line are no more than those that begin on one
use Rattle.std.proofs.Common.{◌<◌, ◌≤◌, ℕ, Bool}
use Rattle.nj_sprite0.proofs.Counts.{counted}
use Rattle.nj_catchup.proofs.sprites.has_few_sprites.Given as goal

abbrev pub invariant-loop-sprite : goal.invariant-loop-sprite
invariant-loop-sprite l =
    record {
      most : (line : ℕ) (tall : Bool) → line < 240 → counted l.oam line tall l.sprite ≤ l.count;
      few : l.count ≤ l.sprite;
    }
