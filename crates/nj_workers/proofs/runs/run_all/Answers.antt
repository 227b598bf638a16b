-- All sit down, run what is theirs and stand up.
use Rattle.nj_workers.specs.declared.desks.Desk.{Desk}
use Rattle.nj_workers.specs.declared.runs.Run.{Run}
use Rattle.nj_workers.specs.Runs.{MayRunAgain, HasRun}
use Rattle.nj_workers.proofs.Sitting.{all_at, all_stood_within}
use Rattle.nj_workers.proofs.Cuts.{may_each}
use Rattle.nj_workers.proofs.runs.run_all.Goals as goal

pub run_desks-requires-clause-rows : goal.run_desks-requires-clause-rows
run_desks-requires-clause-rows g c =
    λ κs lives. all_at (λ (run : Run). MayRunAgain c.args.search.now run.rows.now)
    (λ (desk : Desk Run g.row.L.Denot). desk.end)
    c.sit_down.new.desks.items c.as_mut_slice.result.now c.args.runs.now.items c.as_mut_slice.ensures.value
    c.sit_down.ensures.ends (may_each c.args.search.now c.args.runs.now.items c.requires.rows)

pub returns-clause-ran : goal.returns-clause-ran
returns-clause-ran g c =
    all_stood_within (HasRun c.args.search.now) (λ (desk : Desk Run g.row.L.Denot). desk.end)
    (λ (desk : Desk Run g.row.L.Denot). desk.steps) _
    c.sit_down.new.desks.items c.as_mut_slice.result.now c.run_desks.new.desks _ c.args.runs.now.items
    c.stand_up.new.ends.items c.args.steps.now.items c.stand_up.new.steps.items c.sit_down.new.steps.items
    c.as_mut_slice.ensures.value c.sit_down.new.desks.ok.0 c.run_desks.ensures.many c.run_desks.ensures.ran
    c.sit_down.ensures.ends c.sit_down.ensures.counters c.stand_up.ensures.ends
    c.stand_up.ensures.counters
