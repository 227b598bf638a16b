-- Each piece comes to its worker, and at the end all did.
use Rattle.std.proofs.Common.{Vec, Global, length, arith, ap, ◌∙◌}
use Rattle.std.proofs.lemmas.Iterator.Consumers.{YieldsList-end, YieldsList-from_enumerate}
use Rattle.std.proofs.lemmas.Iterator.Adapters.{YieldsList-from_vec}
use Rattle.nj_core.specs.declared.claim.Claim.{Claim}
use Rattle.nj_core.proofs.Dealing.{length_after, dealt_more, opened}
use Rattle.nj_core.proofs.machine.Core.new.Goals as goal

pub index_mut-requires : goal.index_mut-requires
index_mut-requires c =
    let dealt = ap length c.loop-place.invariant
    ∙ length_after (λ (piece : Vec Claim Global). piece.items) c.args.workers c.loop-place.yielded in
    omega (arith, c.loop-place.dealt.ok.0, c.requires)

pub loop-place-preserved : goal.loop-place-preserved
loop-place-preserved c =
    dealt_more (λ (piece : Vec Claim Global). piece.items) c.args.workers c.loop-place.yielded c.loop-place.dealt.items
    c.in-Some.place c.in-Some.piece
    c.index_mut.result.now c.deal.new.self c.from_vec.result (omega (arith, c.requires)) c.loop-place.invariant
    c.index_mut.ensures.value c.from_vec.ensures c.in_ok-deal.ensures

pub returns : goal.returns
returns c =
    let all = YieldsList-end (YieldsList-from_enumerate (YieldsList-from_vec c.args.pieces.items (cc) (cc)) (cc))
    c.loop-place.yielded c.loop-place.place-iterator c.loop-place.yielded_by c.next.result c.next.new.self
    c.in-None.is c.next.ensures.steps in
    opened (λ (piece : Vec Claim Global). piece.items) c.args.workers c.args.pieces.items c.loop-place.yielded
    c.loop-place.dealt.items c.new.result.items all.0 c.loop-place.invariant c.new.ensures.items
