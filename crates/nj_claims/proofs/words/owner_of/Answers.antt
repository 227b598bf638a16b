-- What the walk finds.
use Rattle.std.proofs.Common.{ap, sym, ◌∙◌, arith}
use Rattle.nj_claims.specs.Tables.{owner_in, slot_count}
use Rattle.nj_claims.proofs.Mapping.{two_each, some_slot, zero_in}
use Rattle.nj_claims.proofs.Walking.{found_owner, found_none}
use Rattle.nj_claims.proofs.words.owner_of.Goals as goal

pub returns-then-key-eq0 : goal.returns-then-key-eq0
returns-then-key-eq0 c = sym (ap (owner_in c.args.words.now) c.if-key-eq0.true
    ∙ zero_in _ c.args.words.now (two_each c.args.words.now c.requires))

pub find-requires-clause-slots : goal.find-requires-clause-slots
find-requires-clause-slots c = let w = two_each c.args.words.now c.requires in
    let s = some_slot c.args.words.now c.requires in (s, omega arith, omega arith)

pub returns-in_err-slot : goal.returns-in_err-slot
returns-in_err-slot c = let W = c.args.words.now in
    c.from_residual.ensures ∙ sym (found_none (slot_count W) W c.args.key (two_each W c.requires) c.requires.placed
    c.if-key-eq0.false c.in_err-slot.ensures)

pub returns : goal.returns
returns c = let W = c.args.words.now in let f = c.in_ok-slot.ensures in
    sym (found_owner (slot_count W) W c.args.key c.in_ok-slot.slot (two_each W c.requires) c.requires.placed
    c.if-key-eq0.false f.0 f.1)
