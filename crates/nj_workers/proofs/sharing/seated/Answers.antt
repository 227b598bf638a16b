-- One hand more.
use Rattle.std.proofs.Common.{length, refl, sym, ap, ◌∙◌, arith, rules}
use Rattle.nj_claims.specs.Passes.{first_pass}
use Rattle.nj_workers.proofs.Seating.{of_cartridge, seated_none, blank_given, seated_more, lent_more}
use Rattle.nj_workers.proofs.sharing.seated.Goals as goal

pub loop-taker-init : goal.loop-taker-init
loop-taker-init c =
    let none = c.in_ok-ends.ensures.items in
    let all = seated_none c.args.table.now c.args.search.now c.in_ok-ends.ends.items c.args.takers.now.items
    c.reverse.new.self.items none c.reverse.ensures.items in (
      all.0,
      all.1,
      c.requires.first ∙ sym (ap (λ ends. record (first_pass c.args.table.now.id) { out = length ends }) none),
      c.reverse.ensures.capacity,
      (let many = c.len.ensures in let room = c.in_ok-ends.ensures.capacity in omega arith),
      (let empty = c.in_ok-ends.ensures.len in let many = c.reverse.ensures.len in omega arith),
    )

pub loop-taker-preserved : goal.loop-taker-preserved
loop-taker-preserved c =
    let was = c.loop-taker.invariant in
    let all = seated_more c.args.table.now c.args.search.now c.loop-taker.ends.items c.push_reserved.new.self.items _
    c.loop-taker.takers.items c.pop.new.self.items c.args.takers.now.items
    refl (of_cartridge c.args.search.now.plan c.in_ok-machine.machine c.in_ok-machine.ensures)
    (blank_given c.args.table.now c.loop-taker.pass c.split.result _ was.2 c.split.ensures.given)
    c.new.ensures.items was.0 was.1 c.in-Some.ensures.items c.push_reserved.ensures.items in (
      all.0,
      all.1,
      lent_more c.args.table.now c.loop-taker.pass c.split.new.pass c.loop-taker.ends.items
          c.push_reserved.new.self.items _ was.2 c.split.ensures.lent c.push_reserved.ensures.items,
      c.pop.ensures.capacity ∙ was.3,
      (let room = was.4 in let same = c.push_reserved.ensures.capacity in omega arith),
      search rules,
    )
