-- Other pattern RAM of the same size.
use Rattle.std.proofs.Common.{arith, length-take, length-drop, length-append, ◌∙◌, ap, ℕ}
use Rattle.nj_banked.proofs.Kept.{put-windowed}
use Rattle.nj_banked.proofs.banked.Banked.load_pattern.Goals as goal

pub invariant_of-self : goal.invariant_of-self
invariant_of-self c =
    put-windowed _ _ _ _ _ c.self.invariant (ap (λ m. m.chr_ram) c.self.view_is
    ∙ c.requires.ram) (omega (arith, length-take {A = ℕ}, length-append {A = ℕ}, length-drop {A = ℕ}))
