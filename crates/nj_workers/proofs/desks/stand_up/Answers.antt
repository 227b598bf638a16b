-- One worker more stands up.
use Rattle.std.proofs.Common.{length, refl, ap, ◌∙◌, arith}
use Rattle.nj_workers.specs.declared.desks.Desk.{Desk}
use Rattle.nj_workers.proofs.Sitting.{still_back, begun_back, over_back}
use Rattle.nj_workers.proofs.desks.stand_up.Goals as goal

pub loop-desk-init : goal.loop-desk-init
loop-desk-init g c =
    let none = ap length c.requires.empty in
    let long = c.args.ends.now.ok.0 in
    let room = c.requires.room in (
      begun_back (λ (d : Desk g.row.E.Denot g.row.L.Denot). d.end) c.args.desks.items c.args.ends.now.items
          c.requires.empty,
      refl,
      omega arith,
      c.requires.counters,
      refl,
    )

pub loop-desk-preserved : goal.loop-desk-preserved
loop-desk-preserved g c =
    let was = c.loop-desk.invariant in
    let room = was.2 in
    let enough = was.3 in
    let one = c.in-Some.ensures.cases in
    let more = c.push_reserved.ensures.len in
    let same = c.push_reserved.ensures.capacity in
    let counted = c.push_reserved-in-Some.ensures.len in
    let kept = c.push_reserved-in-Some.ensures.capacity in (
      still_back (λ (d : Desk g.row.E.Denot g.row.L.Denot). d.end) c.loop-desk.desks.items c.pop.new.self.items
          c.in-Some.desk _
          c.loop-desk.ends.items c.push_reserved.new.self.items _
          refl c.in-Some.ensures.items c.push_reserved.ensures.items was.0,
      still_back (λ (d : Desk g.row.E.Denot g.row.L.Denot). d.steps) c.loop-desk.desks.items c.pop.new.self.items
          c.in-Some.desk
          _ c.loop-desk.steps.items c.push_reserved-in-Some.new.self.items _
          refl c.in-Some.ensures.items c.push_reserved-in-Some.ensures.items was.1,
      omega arith,
      omega arith,
      omega (arith, same, was.4),
    )

pub returns-clause-ends : goal.returns-clause-ends
returns-clause-ends g c =
    let none = c.in_default.ensures.cases in
    let long = c.loop-desk.desks.ok.0 in
    c.reverse.ensures.items ∙ over_back (λ (d : Desk g.row.E.Denot g.row.L.Denot). d.end) c.loop-desk.desks.items
    c.loop-desk.ends.items _ (omega arith) c.loop-desk.invariant.0

pub returns-clause-counters : goal.returns-clause-counters
returns-clause-counters g c =
    let none = c.in_default.ensures.cases in
    let long = c.loop-desk.desks.ok.0 in
    c.reverse-2.ensures.items ∙ over_back (λ (d : Desk g.row.E.Denot g.row.L.Denot). d.steps) c.loop-desk.desks.items
    c.loop-desk.steps.items _ (omega arith) c.loop-desk.invariant.1
