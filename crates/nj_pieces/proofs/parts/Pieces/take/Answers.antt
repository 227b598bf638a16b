use Rattle.std.proofs.Common.{◌≡◌, ℕ, true, get_or, arith, subst, sym, ◌∙◌, inl}
use mathlib.Core.Logic.{dite}
use native.Mathlib.Decide.{ℕ_discrete}
use Rattle.std.specs.List.{Contains}
use Rattle.nj_pieces.proofs.Takings.{all_ended, dealt_below, own_dealt}
use Rattle.nj_pieces.specs.Takers.{count_of}
use Rattle.nj_pieces.proofs.parts.Pieces.take.Goals as goal

pub returns-clause-none : goal.returns-clause-none
returns-clause-none g c =
    let many = c.loop-at.invariant.0.accesses.many in
    all_ended c.loop-at.taker (λ k d within. c.loop-at.invariant.4 k d (grind arith))

pub returns-in-Some-clause-below : goal.returns-in-Some-clause-below
unfolding count_of
returns-in-Some-clause-below g c = dealt_below _ _ _ _ c.in-Some.ensures.from

pub returns-in-Some-clause-own_first : goal.returns-in-Some-clause-own_first
returns-in-Some-clause-own_first g c =
    inl (subst (λ pieces. Contains pieces c.in-Some.piece) (sym (own_dealt c.args.self.now c.args.taker.now c.requires))
    c.in-Some.ensures.from)

pub returns-in-Some-take_at-clause-below : goal.returns-in-Some-take_at-clause-below
unfolding count_of
returns-in-Some-take_at-clause-below g c = dealt_below _ _ _ _ c.in-Some-take_at.ensures.from

pub loop-at-preserved : goal.loop-at-preserved
loop-at-preserved g c =
    let was = c.loop-at.invariant in
    let now = c.in_default-take_at.ensures in
    let many = was.0.accesses.many in (
      now.same,
      now.number ∙ was.1,
      now.none ∙ was.2,
      now.dealt ∙ was.3,
      λ k d within. dite (ℕ_discrete k c.loop-at.at) (λ e. subst (λ (j : ℕ).
          (get_or c.take_at-in-loop-at.new.taker.accesses.items j d).ended ≡ true) (sym e) (now.ended d))
          (λ other. now.kept k d (omega arith) (was.4 k d (omega arith))),
      λ k d within e. now.kept k d within (was.5 k d within e),
      λ d. now.kept c.args.taker.now.number d c.requires.within (was.6 d),
    )
