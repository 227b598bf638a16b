-- One child more.
use Rattle.std.specs.Prelude.{vec_capacity}
use Rattle.nj_expand.proofs.Runs.{one_run}
use Rattle.nj_expand.proofs.search.Search.add_children.Goals as goal

pub loop-place-preserved : goal.loop-place-preserved
loop-place-preserved g c =
    one_run _ c.loop-place.place _ c.loop-place.rows.items c.push_live.new.rows.items (vec_capacity c.loop-place.rows)
    (vec_capacity c.push_live.new.rows)
    c.loop-place.steps c.expand-row.new.steps c.loop-place.machine c.expand-row.new.machine
    c.expand-row.result c.script.result.now c.loop-place-test.true c.loop-place.invariant c.script.ensures
    c.expand-row.ensures.row c.push_live.ensures.rows c.push_live.ensures.capacity
    c.expand-row.ensures.frames c.expand-row.ensures.never_falls c.expand-row.ensures.cartridge
