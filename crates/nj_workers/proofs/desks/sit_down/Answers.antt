-- One worker more sits down.
use Rattle.std.proofs.Common.{length, refl, ap, arith}
use Rattle.nj_workers.specs.declared.desks.Desk.{Desk}
use Rattle.nj_workers.proofs.Sitting.{still_all, begun_over, over_all}
use Rattle.nj_workers.proofs.desks.sit_down.Goals as goal

pub loop-end-init : goal.loop-end-init
loop-end-init g c =
    let none = ap length c.requires.empty in
    let long = c.args.desks.now.ok.0 in
    let many = c.reverse.ensures.len in
    let counters = c.reverse-2.ensures.len in
    let room = c.requires.room in
    let enough = c.requires.counters in (
      begun_over (λ (d : Desk g.row.E.Denot g.row.L.Denot). d.end) c.args.desks.now.items c.reverse.new.self.items
          c.args.ends.now.items c.requires.empty c.reverse.ensures.items,
      begun_over (λ (d : Desk g.row.E.Denot g.row.L.Denot). d.steps) c.args.desks.now.items c.reverse-2.new.self.items
          c.args.steps.now.items c.requires.empty c.reverse-2.ensures.items,
      omega arith,
      omega arith,
      c.reverse.ensures.capacity,
      c.reverse-2.ensures.capacity,
    )

pub loop-end-preserved : goal.loop-end-preserved
loop-end-preserved g c =
    let was = c.loop-end.invariant in
    let room = was.2 in
    let enough = was.3 in
    let one = c.in-Some.ensures.cases in
    let other = c.in-Some-pop.ensures.cases in
    let more = c.push_reserved.ensures.len in
    let same = c.push_reserved.ensures.capacity in (
      still_all (λ (d : Desk g.row.E.Denot g.row.L.Denot). d.end) c.loop-end.desks.items c.push_reserved.new.self.items
          _
          c.in-Some.end c.loop-end.ends.items c.pop.new.self.items c.args.ends.now.items
          refl c.push_reserved.ensures.items c.in-Some.ensures.items was.0,
      still_all (λ (d : Desk g.row.E.Denot g.row.L.Denot). d.steps) c.loop-end.desks.items
          c.push_reserved.new.self.items _
          c.in-Some-pop.counter c.loop-end.steps.items c.pop-in-Some.new.self.items c.args.steps.now.items
          refl c.push_reserved.ensures.items c.in-Some-pop.ensures.items was.1,
      omega arith,
      omega arith,
      omega (arith, c.pop.ensures.capacity, was.4),
      omega (arith, c.pop-in-Some.ensures.capacity, was.5),
    )

pub returns-clause-ends : goal.returns-clause-ends
returns-clause-ends g c =
    let none = c.in_default.ensures.cases in
    let long = c.loop-end.ends.ok.0 in
    over_all (λ (d : Desk g.row.E.Denot g.row.L.Denot). d.end) c.loop-end.desks.items c.loop-end.ends.items
    c.args.ends.now.items (omega arith) c.loop-end.invariant.0
