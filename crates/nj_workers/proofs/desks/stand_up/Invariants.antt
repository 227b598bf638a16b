-- Who still sits and who stands are all, and so with the counters.
use Rattle.std.proofs.Common.{◌≡◌, ◌≤◌, ◌+◌, ◌++◌}
use Rattle.std.specs.Prelude.{map, reverse, vec_len, vec_capacity}
use Rattle.nj_workers.proofs.desks.stand_up.Given as goal

abbrev pub invariant-loop-desk : goal.invariant-loop-desk
invariant-loop-desk g l =
    (map (λ desk. desk.end) l.desks.items ++ reverse l.ends.items ≡ map (λ desk. desk.end) l.fn.desks.items)
    × (map (λ desk. desk.steps) l.desks.items ++ reverse l.steps.items
    ≡ map (λ desk. desk.steps) l.fn.desks.items ++ reverse l.fn.steps.items)
    × (vec_len l.desks + vec_len l.ends ≤ vec_capacity l.ends)
    × (vec_len l.desks + vec_len l.steps ≤ vec_capacity l.steps)
    × (vec_capacity l.ends ≡ vec_capacity l.fn.ends)

abbrev pub decreases-loop-desk : goal.decreases-loop-desk
decreases-loop-desk g l = goal.left-loop-desk g l
