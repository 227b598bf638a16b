use Rattle.std.proofs.Common.{rules, refl, subst}
use Rattle.std.specs.List.{Contains}
use Rattle.nj_pieces.proofs.Takings.{is_dealt, access_at, piece_taken, mark_met}
use Rattle.nj_pieces.proofs.parts.Pieces.take_at.Goals as goal

pub returns-in_err-piece-clause-same : goal.returns-in_err-piece-clause-same
returns-in_err-piece-clause-same g c =
    mark_met c.args.self.now c.args.taker.now c.args.at c.index_mut-access.result.now c.steal.new.access _
    c.requires.taker c.requires.within
    c.index_mut-access.ensures.value c.in_err-piece.ensures.same c.in_err-piece.ensures.mark
    (search rules) c.in_err-piece.ensures.met refl

pub returns-clause-from : goal.returns-clause-from
returns-clause-from g c =
    let access = access_at c.args.self.now c.args.taker.now c.args.at c.index_mut-access.result.now c.requires.taker
    c.requires.within c.index_mut-access.ensures.value (c.index.result.now) in
    subst (λ pieces. Contains pieces c.in_ok-piece.piece) access.dealt
    (is_dealt c.in_ok-piece.piece _ c.in_ok-piece.ensures.piece.1)

pub returns-clause-same : goal.returns-clause-same
returns-clause-same g c =
    piece_taken c.args.self.now c.args.taker.now c.args.at c.index_mut-access.result.now c.steal.new.access
    c.in_ok-piece.piece c.note.new.owner _ c.requires.taker c.requires.within
    c.index_mut-access.ensures.value c.in_ok-piece.ensures.same c.in_ok-piece.ensures.piece.0
    c.in_ok-piece.ensures.ended c.note.ensures.same c.note.ensures.noted refl
