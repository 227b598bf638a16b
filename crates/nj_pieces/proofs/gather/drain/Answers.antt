use Rattle.std.proofs.Common.{◌≡◌, ◌<◌, sym, ap, ◌∙◌, subst, arith}
use Rattle.crossbeam_deque.specs.Handles.{worker_view}
use Rattle.nj_pieces.specs.Tallies.{DrainsOne}
use Rattle.nj_pieces.proofs.Steps.{drains, finds_nothing}
use Rattle.nj_pieces.proofs.Drainings.{room_for, fewer_left}
use Rattle.nj_pieces.proofs.gather.drain.Goals as goal

pub pop_as-requires-clause-fifo : goal.pop_as-requires-clause-fifo
pop_as-requires-clause-fifo c =
    let is = c.loop-piece.invariant in
    let whole : (worker_view c.loop-piece.owner).seats ≡ (worker_view c.loop-piece.owner).marks =
    ap (λ v. v.seats) is.view_is ∙ c.requires.whole ∙ ap (λ v. v.marks) (sym is.view_is) in
    let some_seat : 0 < (worker_view c.loop-piece.owner).seats =
    (let marks : (worker_view c.loop-piece.owner).marks ≡ (worker_view c.args.owner).marks =
    ap (λ v. v.marks) is.view_is in let filled = c.requires.some_mark in omega arith) in
    λ fifo. drains _ _ (is.port ∙ c.requires.port) whole some_seat

pub pop_as-requires-clause-empty : goal.pop_as-requires-clause-empty
pop_as-requires-clause-empty c =
    let is = c.loop-piece.invariant in
    finds_nothing _ _ (is.port ∙ c.requires.port) (ap (λ v. v.seats) is.view_is ∙ c.requires.whole
    ∙ ap (λ v. v.marks) (sym is.view_is))

pub push_reserved-requires : goal.push_reserved-requires
push_reserved-requires c =
    let one : DrainsOne (worker_view c.loop-piece.owner) (Rattle.nj_pieces.specs.declared.rule.Task.TheVariants.Piece
    c.in-Some-Piece.piece) (worker_view c.pop_as.new.self) =
    subst (λ task. DrainsOne (worker_view c.loop-piece.owner) task (worker_view c.pop_as.new.self))
    c.in-Some-Piece.field-0-is c.in-Some-Piece.ensures.rule in
    room_for c.args.owner c.loop-piece.owner c.args.left.now c.loop-piece.left c.in-Some-Piece.piece
    c.loop-piece.invariant c.requires.room one.2

pub loop-piece-smaller : goal.loop-piece-smaller
loop-piece-smaller c =
    let one : DrainsOne (worker_view c.loop-piece.owner) (Rattle.nj_pieces.specs.declared.rule.Task.TheVariants.Piece
    c.in-Some-Piece.piece) (worker_view c.pop_as.new.self) =
    subst (λ task. DrainsOne (worker_view c.loop-piece.owner) task (worker_view c.pop_as.new.self))
    c.in-Some-Piece.field-0-is c.in-Some-Piece.ensures.rule in
    fewer_left (worker_view c.loop-piece.owner) (worker_view c.pop_as.new.self) c.in-Some-Piece.piece one.0 one.2
