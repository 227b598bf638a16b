-- Who sits and who still stands are all, and so with the counters.
use Rattle.std.proofs.Common.{◌≡◌, ◌≤◌, ◌+◌, ◌++◌}
use Rattle.std.specs.Prelude.{map, reverse, vec_len, vec_capacity}
use Rattle.nj_workers.proofs.desks.sit_down.Given as goal

abbrev pub invariant-loop-end : goal.invariant-loop-end
invariant-loop-end g l =
    (map (λ desk. desk.end) l.desks.items ++ reverse l.ends.items ≡ l.fn.ends.items)
    × (map (λ desk. desk.steps) l.desks.items ++ reverse l.steps.items ≡ l.fn.steps.items)
    × (vec_len l.desks + vec_len l.ends ≤ vec_capacity l.desks)
    × (vec_len l.ends ≤ vec_len l.steps)
    × (vec_capacity l.ends ≡ vec_capacity l.fn.ends)
    × (vec_capacity l.steps ≡ vec_capacity l.fn.steps)

abbrev pub decreases-loop-end : goal.decreases-loop-end
decreases-loop-end g l = vec_len l.ends
