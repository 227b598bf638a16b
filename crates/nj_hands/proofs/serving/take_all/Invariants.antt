-- The pieces so far are done.
use Rattle.std.proofs.Common.{◌≡◌, ◌≤◌, length}
use Rattle.std.specs.Prelude.{vec_capacity}
use Rattle.nj_expand.specs.Front.{size_in}
use Rattle.nj_hands.specs.Hands.{HasWorked}
use Rattle.nj_hands.proofs.serving.take_all.Given as goal

abbrev pub invariant-loop : goal.invariant-loop
invariant-loop g l =
    HasWorked l.table l.pieces l.fn.hand l.hand l.fn.rows.items l.rows.items l.fn.steps l.steps
    × (length l.image ≡ size_in l.fn.hand.search.now.plan)
    × (l.fn.hand.search.now.bounds.inputs ≤ vec_capacity l.found)
