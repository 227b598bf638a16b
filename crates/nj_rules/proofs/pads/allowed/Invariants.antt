use Rattle.std.proofs.Common.{◌≡◌, ℕ, ◌≤◌, ◌++◌, take, drop, nat_eq, slice_index, length}
use Rattle.std.specs.List.{IsDistinct}
use Rattle.nj_rules.specs.Pads.{distinct, offered_pads}
use Rattle.nj_rules.proofs.pads.allowed.Given as goal

-- the sets that are left bring what is missing
abbrev pub invariant-loop-set : goal.invariant-loop-set
invariant-loop-set l =
    (distinct (take l.count l.into ++ offered_pads (drop l.set-index l.set-items) l.ram)
    ≡ distinct (offered_pads l.set-items l.ram))
    × IsDistinct nat_eq (take l.count l.into)
    × (l.count ≤ 256)
    × ((k : ℕ) → l.count ≤ k → slice_index l.into k ≡ slice_index l.fn.into k)
    × (length l.into ≡ 256)
