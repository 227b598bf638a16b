use Rattle.std.proofs.Common.{◌≡◌, ◌≤◌, ◌++◌, take, drop, nat_eq, length}
use Rattle.std.specs.List.{flat_map}
use Rattle.std.specs.List.{IsDistinct}
use Rattle.nj_rules.specs.Pads.{distinct}
use Rattle.nj_rules.proofs.pads.pad_count.Given as goal

-- the sets that are left bring what is missing
abbrev pub invariant-loop-set : goal.invariant-loop-set
invariant-loop-set l =
    (distinct (take l.count l.into ++ flat_map (λ set. set.pads) (drop l.set-index l.set-items))
    ≡ distinct (flat_map (λ set. set.pads) l.set-items))
    × IsDistinct nat_eq (take l.count l.into)
    × (l.count ≤ 256)
    × (length l.into ≡ 256)
