-- All that the workers bring back.
use Rattle.std.proofs.Common.{◌*◌, sym, subst, length, ℕ}
use Rattle.nj_expand.specs.Held.{candidates_in}
use Rattle.nj_workers.specs.Counted.{AreCounted}
use Rattle.nj_workers.proofs.Counters.{counted_none}
use Rattle.nj_workers.proofs.Meetings.{own_after, takers_after, counted_after, claimed_after, pass_after, empty_list}
use Rattle.nj_workers.proofs.step.claimed_rows.Goals as goal

pub returns-in_err-pieces-clause-frames : goal.returns-in_err-pieces-clause-frames
returns-in_err-pieces-clause-frames g c =
    let most : ℕ = c.args.search.now.plan.script.hold * length (candidates_in c.args.search.now) in
    subst (λ counts. AreCounted c.args.workers c.args.steps.now.items counts most)
    (sym c.in_err-pieces.ensures.counters) (counted_none c.args.workers most c.args.steps.now.items)

pub returned-added-requires-clause-others : goal.returned-added-requires-clause-others
returned-added-requires-clause-others g c =
    own_after c.args.table.now c.in_ok-pieces.pieces c.args.search.now c.args.workers c.in_ok-pieces.ends.items
    c.args.steps.now.items c.all_worked.new.steps.items
    c.in_ok-pieces.ensures.met

pub gather-left-requires : goal.gather-left-requires
gather-left-requires g c =
    takers_after c.args.table.now c.in_ok-pieces.pieces c.args.search.now c.args.workers c.in_ok-pieces.ends.items
    c.args.steps.now.items c.all_worked.new.steps.items
    c.returned-added.new.takers.items c.in_ok-pieces.ensures.met c.returned-added.ensures.takers

pub returns-in_err-added-clause-frames : goal.returns-in_err-added-clause-frames
returns-in_err-added-clause-frames g c =
    counted_after c.args.table.now c.in_ok-pieces.pieces c.args.search.now c.args.workers c.in_ok-pieces.ends.items
    c.args.steps.now.items c.all_worked.new.steps.items
    c.returned-added.new.takers.items c.gather-left.result.items
    (c.pieces_are_the_front.ensures.runs c.args.search.now) c.in_ok-pieces.ensures.met c.returned-added.ensures.takers
    c.gather-left.ensures.whole

pub returns-then-not-is_empty-clause-frames : goal.returns-then-not-is_empty-clause-frames
returns-then-not-is_empty-clause-frames g c =
    counted_after c.args.table.now c.in_ok-pieces.pieces c.args.search.now c.args.workers c.in_ok-pieces.ends.items
    c.args.steps.now.items c.all_worked.new.steps.items
    c.returned-added.new.takers.items c.gather-left.result.items
    (c.pieces_are_the_front.ensures.runs c.args.search.now) c.in_ok-pieces.ensures.met c.returned-added.ensures.takers
    c.gather-left.ensures.whole

pub returns-clause-frames : goal.returns-clause-frames
returns-clause-frames g c =
    counted_after c.args.table.now c.in_ok-pieces.pieces c.args.search.now c.args.workers c.in_ok-pieces.ends.items
    c.args.steps.now.items c.all_worked.new.steps.items
    c.returned-added.new.takers.items c.gather-left.result.items
    (c.pieces_are_the_front.ensures.runs c.args.search.now) c.in_ok-pieces.ensures.met c.returned-added.ensures.takers
    c.gather-left.ensures.whole

pub returns-clause-claimed : goal.returns-clause-claimed
returns-clause-claimed g c =
    claimed_after (record {
      none = c.claims_go_together.ensures.none;
      joined = c.claims_go_together.ensures.joined;
      moved = c.claims_go_together.ensures.moved;
    })
    c.args.table.now c.in_ok-pieces.pieces c.args.search.now c.args.workers c.in_ok-pieces.ends.items
    c.args.steps.now.items c.all_worked.new.steps.items
    c.returned-added.new.takers.items c.gather-left.result.items c.all_worked.new.pass c.returned-added.new.pass _
    c.returned-added.new.rows.items (c.pieces_are_the_front.ensures.rows c.args.search.now) c.in_ok-pieces.ensures.met
    c.returned-added.ensures.takers c.gather-left.ensures.whole
    (empty_list c.gather-left.result.items _ c.is_empty.result c.gather-left.result.ok.0 c.is_empty.ensures
    c.if-not-is_empty.false) c.in_ok-pieces.ensures.pass c.returned-added.ensures.pass c.in_ok-added.ensures.rows

pub returns-clause-own : goal.returns-clause-own
returns-clause-own g c =
    (pass_after c.args.table.now c.in_ok-pieces.pieces c.args.search.now c.args.workers c.in_ok-pieces.ends.items
    c.args.steps.now.items c.all_worked.new.steps.items
    c.all_worked.new.pass c.returned-added.new.pass c.in_ok-pieces.ensures.met c.in_ok-pieces.ensures.pass
    c.returned-added.ensures.pass).0

pub returns-clause-root : goal.returns-clause-root
returns-clause-root g c =
    (pass_after c.args.table.now c.in_ok-pieces.pieces c.args.search.now c.args.workers c.in_ok-pieces.ends.items
    c.args.steps.now.items c.all_worked.new.steps.items
    c.all_worked.new.pass c.returned-added.new.pass c.in_ok-pieces.ensures.met c.in_ok-pieces.ensures.pass
    c.returned-added.ensures.pass).1

pub returns-clause-joined : goal.returns-clause-joined
returns-clause-joined g c =
    (pass_after c.args.table.now c.in_ok-pieces.pieces c.args.search.now c.args.workers c.in_ok-pieces.ends.items
    c.args.steps.now.items c.all_worked.new.steps.items
    c.all_worked.new.pass c.returned-added.new.pass c.in_ok-pieces.ensures.met c.in_ok-pieces.ensures.pass
    c.returned-added.ensures.pass).2
