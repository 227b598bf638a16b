-- The pieces that came so far are dealt.
use Rattle.std.proofs.Common.{◌≡◌, Vec, Global}
use Rattle.nj_core.specs.declared.claim.Claim.{Claim}
use Rattle.nj_core.proofs.Dealing.{after_dealing}
use Rattle.nj_core.proofs.machine.Core.new.Given as goal

abbrev pub invariant-loop-place : goal.invariant-loop-place
invariant-loop-place l = l.dealt.items ≡ after_dealing (λ (piece : Vec Claim Global). piece.items) l.count l.yielded
