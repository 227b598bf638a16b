-- Pattern RAM keeps its size.
use Rattle.std.proofs.Common.{length-set, ℕ}
use Rattle.nj_banked.proofs.Kept.{put-windowed}
use Rattle.nj_banked.proofs.banked.BankedBoard.put_pattern.Goals as goal

pub invariant_of-self : goal.invariant_of-self
invariant_of-self c = put-windowed _ _ _ _ _ c.self.invariant c.if-self.true (length-set {A = ℕ} _ _ _)
