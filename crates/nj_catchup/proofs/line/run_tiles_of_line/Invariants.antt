-- so many tiles have run, and each told its byte
use Rattle.std.proofs.Common.{◌≡◌, ◌<◌, ◌+◌, ◌*◌, ℕ, length, slice_index}
use Rattle.nj_catchup.specs.Tiles.{tiles_run}
use Rattle.nj_catchup.specs.Line.{shown_byte}
use Rattle.nj_catchup.proofs.line.run_tiles_of_line.Given as goal

abbrev pub invariant-loop-tile : goal.invariant-loop-tile
invariant-loop-tile l = record {
  same : l.screen ≡ tiles_run l.tile l.pattern l.fn.screen;
  bytes : (j : ℕ) → j < l.tile → slice_index l.opaque j ≡ shown_byte (tiles_run j l.pattern l.fn.screen);
  len : length l.opaque ≡ 32;
  dot : l.screen.position.dot ≡ 1 + 8 * l.tile;
  fine_x : l.screen.scroll.x < 8;
}
