-- The ends so far were added, and there is room for the others.
use Rattle.std.proofs.Common.{◌≡◌, ◌+◌, ◌-◌, ◌≤◌, ◌++◌}
use Rattle.std.specs.Prelude.{length, map, take, vec_len, vec_capacity}
use Rattle.nj_pool.proofs.strings.push_ends.Given as goal

abbrev pub invariant-loop-end : goal.invariant-loop-end
invariant-loop-end l =
    (l.ends.items ≡ l.fn.ends.items ++ map (λ end. l.start + end) (take l.end-index l.more))
    × (vec_len l.ends + (length l.more - l.end-index) ≤ vec_capacity l.ends)
