use Rattle.std.proofs.Common.{◌≡◌, []}
use Rattle.std.specs.Vec.Iter.{into_iter_items}
use Rattle.nj_fields.specs.Lists.{collected}
use Rattle.nj_script.specs.Script.{rule_of}
use Rattle.nj_script.proofs.naming.rules_of.Given as goal

-- the rules that are left bring what is missing
abbrev pub invariant-loop-body : goal.invariant-loop-body
invariant-loop-body l =
    (goal.iterator-loop-body).can_next l.body-iterator × (goal.iterator-loop-body).is_finite l.body-iterator
    × (collected (rule_of l.names) l.rules.items (into_iter_items l.body-iterator)
    ≡ collected (rule_of l.names) [] l.fn.bodies.items)
