-- One tile more, and its byte.
use Rattle.std.proofs.Common.{◌≡◌, ◌<◌, ◌+◌, ℕ, List, length, slice_index, ap, sym, ◌∙◌, add-one, arith, inl, inr}
use Rattle.std.proofs.Math.ListN.{set}
use Rattle.std.proofs.lemmas.Bool.{cases_eq}
use Rattle.std.proofs.lemmas.List.{get_or-set_same, get_or-set_other, length-set, length-replicate}
use Rattle.nj_dots.specs.declared.screen.Screen.{Screen}
use Rattle.nj_catchup.specs.Tiles.{tile_run, tiles_run}
use Rattle.nj_catchup.specs.Line.{shown_byte}
use Rattle.nj_catchup.proofs.Lines.{TileOn, tile-on, tiles-none, tiles-more}
use Rattle.nj_catchup.proofs.line.run_tiles_of_line.Goals as goal

-- the bytes told so far, and one more
told-more : (n byte : ℕ) (opaque : List ℕ) (F : ℕ → ℕ) → n < length opaque → byte ≡ F n
    → ((j : ℕ) → j < n → slice_index opaque j ≡ F j) → (j : ℕ) → j < n + 1 → slice_index (set opaque n byte) j ≡ F j
told-more n byte opaque F room is told j within = elim (cases_eq j n) [
  | inl last ↦ ap (slice_index (set opaque n byte)) last ∙ get_or-set_same opaque n byte 0 room ∙ is ∙ ap F (sym last)
  | inr before ↦ get_or-set_other opaque n j byte 0 before ∙ told j (omega (arith, within, before))
]

pub loop-tile-init : goal.loop-tile-init
loop-tile-init c = record {
  same = tiles-none c.args.pattern.now c.args.screen.now;
  bytes = λ j within. absurd (omega (arith, within));
  len = length-replicate {A = ℕ} 32 0;
  dot = omega (arith, c.requires.first);
  fine_x = c.requires.fine_x;
}

pub loop-tile-preserved : goal.loop-tile-preserved
loop-tile-preserved c =
    let p = c.args.pattern.now in
    let n = c.loop-tile.tile in
    let s = c.args.screen.now in
    let before = c.loop-tile.invariant in
    let h : TileOn c.loop-tile.screen (tile_run p c.loop-tile.screen) = tile-on p c.loop-tile.screen in
    let dot : c.run_tile.new.screen.position.dot ≡ c.loop-tile.screen.position.dot + 8 =
    ap (λ (e : Screen). e.position.dot) c.run_tile.ensures ∙ h.dot in
    let x : c.run_tile.new.screen.scroll.x ≡ c.loop-tile.screen.scroll.x =
    ap (λ (e : Screen). e.scroll.x) c.run_tile.ensures ∙ h.fine_x in
    record {
      same = rw add-one (c.run_tile.ensures ∙ ap (tile_run p) before.same ∙ tiles-more n p s);
      bytes = told-more n c.shown_byte.result c.loop-tile.opaque (λ j. shown_byte (tiles_run j p s))
          (omega (arith, before.len, c.loop-tile-test.true))
          (c.shown_byte.ensures ∙ ap shown_byte before.same) before.bytes;
      len = length-set c.loop-tile.opaque n c.shown_byte.result ∙ before.len;
      dot = omega (arith, dot, before.dot);
      fine_x = omega (arith, x, before.fine_x);
    }
