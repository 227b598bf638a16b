-- The keys of the rows so far are met, and the fresh of them are collected.
use Rattle.std.proofs.Common.{ℕ, ◌-◌, drop, nat_eq}
use Rattle.std.specs.HashSet.{contains}
use Rattle.nj_search_defs.specs.Pruning.{Seen}
use Rattle.nj_seen.specs.Held.{HoldsSeen, oldest_step}
use Rattle.nj_seen.proofs.Firsts.{IsMet}
use Rattle.nj_seen.proofs.adding.unseen.Given as goal

abbrev pub invariant-loop-row : goal.invariant-loop-row
invariant-loop-row l =
    (seen : Seen) (step : ℕ) → HoldsSeen l.words seen step
    → IsMet (drop (l.from - oldest_step step seen) seen) l.rows l.row-index (contains nat_eq l.met) l.fresh.items
