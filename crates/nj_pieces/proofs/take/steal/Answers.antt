use Rattle.std.proofs.Common.{◌<◌, min, sym, subst}
use Rattle.crossbeam_deque.specs.Handles.{view}
use Rattle.crossbeam_deque.specs.Tasks.{FindsFew}
use Rattle.nj_pieces.specs.declared.rule.Tally.{Tally}
use Rattle.nj_pieces.specs.Rule.{Holds}
use Rattle.nj_pieces.proofs.Steps.{takes, never_empty}
use Rattle.nj_pieces.proofs.take.steal.Goals as goal

pub steal_as-requires-clause-takes : goal.steal_as-requires-clause-takes
steal_as-requires-clause-takes g c =
    takes _ _ (subst (λ (v : Tally). v.ends < v.seats) (sym c.loop.invariant.1) c.requires.right)

pub steal_as-requires-clause-empty : goal.steal_as-requires-clause-empty
steal_as-requires-clause-empty g c =
    let right : (view c.loop.access.ticket).ends < (view c.loop.access.ticket).seats =
    subst (λ (v : Tally). v.ends < v.seats) (sym c.loop.invariant.1) c.requires.right in
    subst (λ k. FindsFew Holds (min k 1) c.loop.access.ticket.id (view c.loop.access.ticket) ⊥) (sym c.requires.fifo)
    (never_empty c.loop.access.ticket.id (view c.loop.access.ticket) right)
