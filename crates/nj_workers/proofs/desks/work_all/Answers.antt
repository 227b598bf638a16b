-- All sit down, work and stand up.
use Rattle.nj_workers.specs.declared.desks.Desk.{Desk}
use Rattle.nj_hands.specs.declared.hand.WorkEnd.{WorkEnd}
use Rattle.nj_workers.specs.Desks.{Served}
use Rattle.nj_hands.specs.Hands.{MayWork}
use Rattle.nj_workers.proofs.Sitting.{all_at, all_stood_within}
use Rattle.nj_workers.proofs.desks.work_all.Goals as goal

pub serve_all-requires-clause-may : goal.serve_all-requires-clause-may
serve_all-requires-clause-may g c =
    λ κs lives. all_at (λ (end : WorkEnd). MayWork c.args.table.now c.args.pieces.now end.hand)
    (λ (desk : Desk WorkEnd g.row.L.Denot). desk.end)
    c.sit_down.new.desks.items c.as_mut_slice.result.now c.args.ends.now.items c.as_mut_slice.ensures.value
    c.sit_down.ensures.ends c.requires.may

pub returns-clause-served : goal.returns-clause-served
returns-clause-served g c =
    all_stood_within (Served c.args.table.now c.args.pieces.now) (λ (desk : Desk WorkEnd g.row.L.Denot). desk.end)
    (λ (desk : Desk WorkEnd g.row.L.Denot). desk.steps) _
    c.sit_down.new.desks.items c.as_mut_slice.result.now c.serve_all.new.desks _ c.args.ends.now.items
    c.stand_up.new.ends.items c.args.steps.now.items c.stand_up.new.steps.items c.sit_down.new.steps.items
    c.as_mut_slice.ensures.value c.sit_down.new.desks.ok.0 c.serve_all.ensures.many c.serve_all.ensures.served
    c.sit_down.ensures.ends c.sit_down.ensures.counters c.stand_up.ensures.ends
    c.stand_up.ensures.counters
