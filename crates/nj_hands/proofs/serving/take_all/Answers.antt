-- One piece more.
use Rattle.std.proofs.Common.{refl, rules, ap, ◌∙◌, ◌≡◌, arith}
use Rattle.nj_search_defs.specs.Game.{Bounds}
use Rattle.nj_hands.proofs.Turns.{took_none, took_next}
use Rattle.nj_hands.proofs.serving.take_all.Goals as goal

pub loop-init : goal.loop-init
loop-init g c =
    let inputs : c.bounds-inputs.result.inputs ≡ c.args.hand.now.search.now.bounds.inputs =
    ap (λ (b : Bounds). b.inputs) c.bounds-inputs.ensures.bounds in
    let room = c.in_ok-found.ensures.capacity in (
      took_none c.args.table.now c.args.pieces.now c.args.hand.now c.args.hand.now c.args.rows.now.items
          c.args.steps.now c.requires refl refl refl refl refl,
      search rules,
      omega arith,
    )

pub loop-preserved : goal.loop-preserved
loop-preserved g c =
    let was = c.loop.invariant in (
      took_next c.args.table.now c.args.pieces.now c.args.hand.now c.loop.hand c.take_one.new.hand c.args.rows.now.items
          c.loop.rows.items c.reserve.new.self.items c.take_one.new.rows.items
          c.args.steps.now c.loop.steps c.take_one.new.steps c.reserve.ensures.items was.0 c.take_one.ensures.worked,
      c.take_one.ensures.long ∙ was.1,
      (let same = c.take_one.ensures.found in let room = was.2 in omega arith),
    )

pub returns-in_err-image_room-clause-worked : goal.returns-in_err-image_room-clause-worked
returns-in_err-image_room-clause-worked g c =
    took_none c.args.table.now c.args.pieces.now c.args.hand.now c.args.hand.now c.args.rows.now.items c.args.steps.now
    c.requires refl refl refl refl refl

pub returns-in_err-found-clause-worked : goal.returns-in_err-found-clause-worked
returns-in_err-found-clause-worked g c =
    took_none c.args.table.now c.args.pieces.now c.args.hand.now c.args.hand.now c.args.rows.now.items c.args.steps.now
    c.requires refl refl refl refl refl

pub returns-then-not-take_one-clause-worked : goal.returns-then-not-take_one-clause-worked
returns-then-not-take_one-clause-worked g c =
    took_next c.args.table.now c.args.pieces.now c.args.hand.now c.loop.hand c.take_one.new.hand c.args.rows.now.items
    c.loop.rows.items c.reserve.new.self.items c.take_one.new.rows.items
    c.args.steps.now c.loop.steps c.take_one.new.steps c.reserve.ensures.items c.loop.invariant.0
    c.take_one.ensures.worked
