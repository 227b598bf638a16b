-- All but the last two tiles are passed over.
use Rattle.std.proofs.Common.{◌≡◌, suc, ◌+◌, ◌-◌, ◌*◌, ap, sym, ◌∙◌, arith}
use Rattle.nj_catchup.specs.Tiles.{tile_run, line_finished}
use Rattle.nj_catchup.proofs.Tiles.{tiles, jumped-dot, tile-dot}
use Rattle.nj_catchup.proofs.visible.run_tiles.Goals as goal

pub run_tile-requires-clause-dot : goal.run_tile-requires-clause-dot
run_tile-requires-clause-dot c =
    let n = c.args.tiles - 2 in
    let s = c.args.screen.now in
    let at : c.jump.new.screen.position.dot ≡ s.position.dot + 8 * n =
    ap (λ e. e.position.dot) c.jump.ensures ∙ jumped-dot n s in
    omega (arith, at, c.requires.quiet.last, c.requires.two)

pub run_tile-requires-2-clause-dot : goal.run_tile-requires-2-clause-dot
run_tile-requires-2-clause-dot c =
    let n = c.args.tiles - 2 in
    let s = c.args.screen.now in
    let at : c.jump.new.screen.position.dot ≡ s.position.dot + 8 * n =
    ap (λ e. e.position.dot) c.jump.ensures ∙ jumped-dot n s in
    let on : c.run_tile.new.screen.position.dot ≡ c.jump.new.screen.position.dot + 8 =
    ap (λ e. e.position.dot) c.run_tile.ensures ∙ tile-dot c.args.pattern.now c.jump.new.screen in
    omega (arith, at, on, c.requires.quiet.last, c.requires.two)

pub returns : goal.returns
returns c =
    let n = c.args.tiles - 2 in
    let p = c.args.pattern.now in
    let two : c.args.tiles ≡ suc (suc n) = omega (arith, c.requires.two) in
    c.finish_line.ensures
    ∙ ap line_finished (c.run_tile-2.ensures ∙ ap (tile_run p) (c.run_tile.ensures ∙ ap (tile_run p) c.jump.ensures))
    ∙ sym (tiles c.args.tiles n p c.args.screen.now two c.requires.quiet c.requires.aligned)
