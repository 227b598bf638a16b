use Rattle.std.proofs.Common.{◌≡◌, ℕ, ◌≤◌, ◌++◌, take, drop, nat_eq, slice_index}
use Rattle.std.specs.List.{IsDistinct}
use Rattle.nj_rules.specs.Pads.{distinct}
use Rattle.nj_rules.proofs.pads.add_pads.Given as goal

-- the pads that are left bring what is missing
abbrev pub invariant-loop-pad : goal.invariant-loop-pad
invariant-loop-pad l =
    (distinct (take l.filled l.into ++ drop l.pad-index l.pads) ≡ distinct (take l.count l.fn.into ++ l.pads))
    × IsDistinct nat_eq (take l.filled l.into)
    × (l.count ≤ l.filled)
    × (l.filled ≤ 256)
    × ((k : ℕ) → l.filled ≤ k → slice_index l.into k ≡ slice_index l.fn.into k)
