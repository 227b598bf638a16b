-- All are seated, and work.
use Rattle.std.proofs.Common.{◌≡◌, ℕ, length, ap, ◌∙◌, arith}
use Rattle.nj_claims.specs.Passes.{first_pass}
use Rattle.nj_workers.proofs.Together.{may_all, many_seated, many_back}
use Rattle.nj_workers.proofs.step.all_worked.Goals as goal

pub seated-requires-clause-few : goal.seated-requires-clause-few
seated-requires-clause-few g c =
    let dealt = c.in_ok-pieces.ensures.takers.many in
    let asked = c.in_ok-pieces.ensures.workers in
    let few = c.requires.few in
    omega arith

pub work_all-requires-clause-may : goal.work_all-requires-clause-may
work_all-requires-clause-may g c = λ κs lives.
    may_all c.args.table.now c.in_ok-pieces.pieces c.args.search.now c.in_ok-ends.ends.items c.in_ok-pieces.takers.items
    c.requires.spent (c.in_ok-pieces.ensures.count ∙ c.piece_count.ensures.count) c.in_ok-ends.ensures.seated
    c.in_ok-ends.ensures.takers c.in_ok-pieces.ensures.takers

pub returns-clause-met : goal.returns-clause-met
returns-clause-met g c = record {
  olds = c.in_ok-ends.ends.items;
  takers = c.in_ok-pieces.takers.items;
  count = c.in_ok-pieces.ensures.count ∙ c.piece_count.ensures.count;
  many = c.in_ok-pieces.ensures.workers;
  are = c.in_ok-pieces.ensures.takers;
  none = c.in_ok-pieces.ensures.none_taken;
  seated = c.in_ok-ends.ensures.seated;
  same = c.in_ok-ends.ensures.takers;
  served = c.in_ok-work_all.ensures.served;
}

pub returns-clause-pass : goal.returns-clause-pass
returns-clause-pass g c =
    c.in_ok-ends.ensures.pass
    ∙ ap (λ (n : ℕ). record (first_pass c.args.table.now.id) { out = n })
    (c.in_ok-pieces.ensures.takers.many ∙ c.in_ok-pieces.ensures.workers)

pub returns-clause-room : goal.returns-clause-room
returns-clause-room g c =
    let many : length c.work_all.new.ends.items ≡ c.args.workers =
    many_back c.args.table.now c.in_ok-pieces.pieces c.in_ok-ends.ends.items c.work_all.new.ends.items
    c.args.steps.now.items c.work_all.new.steps.items c.in_ok-work_all.ensures.served
    ∙ many_seated c.in_ok-pieces.pieces c.args.workers c.in_ok-ends.ends.items c.in_ok-pieces.takers.items
    c.in_ok-ends.ensures.takers c.in_ok-pieces.ensures.takers c.in_ok-pieces.ensures.workers in
    let long = c.work_all.new.ends.ok.0 in
    let dealt = c.in_ok-pieces.ensures.takers.many in
    let asked = c.in_ok-pieces.ensures.workers in
    let taken = c.in_ok-pieces.takers.ok.0 in
    let fits = c.in_ok-pieces.takers.ok.1 in
    let same = c.in_ok-ends.ensures.capacity in
    omega arith
