-- The runs, cut and run again, and their states.
use Rattle.std.proofs.Common.{ℕ, ◌*◌, List, length, sym, subst, arith}
use Rattle.nj_workers.specs.Counted.{AreCounted}
use Rattle.nj_workers.proofs.Counters.{counted_none}
use Rattle.nj_workers.proofs.Cuts.{none_taken, more_taken, all_parts, kept_counted, many_run}
use Rattle.nj_workers.proofs.runs.run_kept.Goals as goal

pub returns-in_err-runs-clause-frames : goal.returns-in_err-runs-clause-frames
returns-in_err-runs-clause-frames g c = counted_none _ _ c.args.steps.now.items

pub returns-in_err-parts-clause-frames : goal.returns-in_err-parts-clause-frames
returns-in_err-parts-clause-frames g c = counted_none _ _ c.args.steps.now.items

pub returns-in_err-run_all-clause-frames : goal.returns-in_err-run_all-clause-frames
returns-in_err-run_all-clause-frames g c =
    subst (λ (after : List ℕ). AreCounted c.args.workers c.args.steps.now.items after
    (c.args.search.now.plan.script.hold * length c.args.rows.now))
    (sym c.in_err-run_all.ensures.counters) (counted_none _ _ c.args.steps.now.items)

pub loop-run-init : goal.loop-run-init
loop-run-init g c =
    let many = many_run c.args.search.now c.in_ok-runs.runs.items c.run_all.new.runs.items c.args.steps.now.items
    c.run_all.new.steps.items c.in_ok-run_all.ensures.ran in
    let none = c.in_ok-parts.ensures.len in
    let room = c.in_ok-parts.ensures.capacity in
    let count = c.len.ensures in
    let before = c.in_ok-runs.runs.ok.0 in
    let after = c.run_all.new.runs.ok.0 in (
      none_taken c.args.search.now c.args.rows.now c.in_ok-runs.runs.items c.run_all.new.runs.items
          c.args.steps.now.items c.run_all.new.steps.items c.in_ok-parts.parts.items c.in_ok-runs.ensures.rows
          c.in_ok-run_all.ensures.ran c.in_ok-parts.ensures.items,
      omega arith,
    )

pub loop-run-preserved : goal.loop-run-preserved
loop-run-preserved g c =
    let was = c.loop-run.invariant in
    let room = was.1 in
    let one = c.in-Some.ensures.cases in
    let more = c.push_reserved.ensures.len in
    let same = c.push_reserved.ensures.capacity in (
      more_taken c.args.search.now c.args.rows.now c.loop-run.runs.items c.pop.new.self.items c.in-Some.run'
          c.in_ok-run.field-0 c.loop-run.parts.items c.push_reserved.new.self.items was.0 c.in-Some.ensures.items
          c.in_ok-run.was c.push_reserved.ensures.items,
      omega arith,
    )

pub returns-clause-parts : goal.returns-clause-parts
returns-clause-parts g c =
    let none = c.in_default.ensures.cases in
    let long = c.loop-run.runs.ok.0 in
    all_parts c.args.search.now c.args.rows.now c.loop-run.runs.items c.loop-run.parts.items c.reverse.new.self.items
    c.loop-run.invariant.0 (omega arith) c.reverse.ensures.items

pub returns-in_err-run-clause-frames : goal.returns-in_err-run-clause-frames
returns-in_err-run-clause-frames g c =
    kept_counted c.args.workers c.args.search.now c.args.rows.now c.in_ok-runs.runs.items c.run_all.new.runs.items
    c.args.steps.now.items c.run_all.new.steps.items c.in_ok-runs.ensures.rows c.in_ok-runs.ensures.few
    c.in_ok-run_all.ensures.ran

pub returns-clause-frames : goal.returns-clause-frames
returns-clause-frames g c =
    kept_counted c.args.workers c.args.search.now c.args.rows.now c.in_ok-runs.runs.items c.run_all.new.runs.items
    c.args.steps.now.items c.run_all.new.steps.items c.in_ok-runs.ensures.rows c.in_ok-runs.ensures.few
    c.in_ok-run_all.ensures.ran
