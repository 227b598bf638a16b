-- The keys that were passed are in the set.
use Rattle.std.proofs.Common.{◌≡◌, ℕ, ◌||◌, ◌==◌, nat_eq, take}
use Rattle.std.specs.HashSet.{contains}
use Rattle.std.specs.List.{list_any}
use Rattle.nj_saved.proofs.older.insert_all.Given as goal

abbrev pub invariant-loop-key : goal.invariant-loop-key
invariant-loop-key l =
    (q : ℕ) →
    contains nat_eq l.set q ≡ (contains nat_eq l.initial.set q || list_any (λ k. k == q) (take l.key-index l.keys))
