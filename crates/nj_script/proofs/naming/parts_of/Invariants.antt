use Rattle.std.proofs.Common.{◌≡◌, ◌++◌, map}
use Rattle.std.specs.Vec.Iter.{into_iter_items}
use Rattle.nj_script.proofs.naming.parts_of.Given as goal

-- the rules that are left bring what is missing
abbrev pub invariant-loop-rule : goal.invariant-loop-rule
invariant-loop-rule l =
    (goal.iterator-loop-rule).can_next l.rule-iterator × (goal.iterator-loop-rule).is_finite l.rule-iterator
    × (l.names.items ++ map (λ r. r.name) (into_iter_items l.rule-iterator) ≡ map (λ r. r.name) l.fn.rules.items)
    × (l.bodies.items ++ map (λ r. r.body) (into_iter_items l.rule-iterator) ≡ map (λ r. r.body) l.fn.rules.items)
