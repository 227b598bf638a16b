use Rattle.std.proofs.Common.{◌≡◌, length, ◌∙◌, arith, rules}
use Rattle.std.specs.Prelude.{vec_len}
use Rattle.nj_pieces.proofs.Steps.{gives}
use Rattle.nj_pieces.proofs.Givings.{give_begins, give_place, give_more, give_port}
use Rattle.nj_pieces.proofs.gather.give.Goals as goal

pub loop-access-init : goal.loop-access-init
loop-access-init c = give_begins c.args.takers.now c.args.accesses.items c.requires.many

pub absorb-requires-clause-table : goal.absorb-requires-clause-table
absorb-requires-clause-table c =
    (give_place c.args.takers.now c.loop-access.takers c.args.accesses.items c.loop-access.accesses.items
    c.pop.new.self.items c.in-Some.access c.len.result c.index-takers-len.result
    c.in-Some.ensures.items (c.len.ensures ∙ c.pop.new.self.ok.0) c.loop-access.invariant c.requires.returns).deque

pub absorb-requires-clause-rule : goal.absorb-requires-clause-rule
absorb-requires-clause-rule c = gives _ _ _ _
    (give_port c.args.takers.now c.loop-access.takers c.args.accesses.items c.loop-access.accesses.items
    c.pop.new.self.items c.in-Some.access c.len.result c.index-takers-len.result
    c.in-Some.ensures.items (c.len.ensures ∙ c.pop.new.self.ok.0) c.loop-access.invariant c.requires.ports)

pub loop-access-preserved : goal.loop-access-preserved
loop-access-preserved c =
    give_more c.args.takers.now c.loop-access.takers c.args.accesses.items c.loop-access.accesses.items
    c.pop.new.self.items c.in-Some.access c.len.result c.index-takers-len.result c.absorb.new.self
    c.in-Some.ensures.items (c.len.ensures ∙ c.pop.new.self.ok.0) c.loop-access.invariant c.absorb.ensures.same.0
    c.absorb.ensures.rule

pub returns-clause-given : goal.returns-clause-given
returns-clause-given c =
    let none : vec_len c.loop-access.accesses ≡ 0 = search rules in
    let many : vec_len c.loop-access.accesses ≡ length c.loop-access.accesses.items = c.loop-access.accesses.ok.0 in
    λ k d a within. c.loop-access.invariant.given k d a (omega arith) within
