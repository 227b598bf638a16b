use Rattle.std.proofs.Common.{◌≡◌, ◌<◌, ◌==◌, ℕ, Bool, true, false, length, take, sym, ◌∙◌, subst, arith}
use Rattle.std.proofs.lemmas.Bool.Decides.{nat_tests}
use Rattle.std.proofs.lemmas.List.{take_all}
use Rattle.nj_search_defs.specs.Game.{Word}
use Rattle.nj_replay.specs.Reading.{first_pads}
use Rattle.nj_replay.specs.Replay.{IsAfter}
use Rattle.nj_replay.proofs.Standing.{next_step, all_steps}
use Rattle.nj_replay.proofs.running.Run.follow.Goals as goal

-- what the test of the loop tells
some_left : (n : ℕ) (empty : Bool) → empty ≡ (n == 0) → empty ≡ false → 0 < n
some_left n empty e f = grind (arith, nat_tests)

none_left : (n : ℕ) (empty : Bool) → empty ≡ (n == 0) → empty ≡ true → n ≡ 0
none_left n empty e f = grind (arith, nat_tests)

pub split_at-requires : goal.split_at-requires
split_at-requires g c =
    let next =
    next_step c.args.hold c.loop-rest.count c.index-rest-0.result (first_pads c.args.hold c.args.behind.now)
    c.loop-rest.rest.now c.requires.hold
    c.loop-rest.invariant.left
    (some_left (length c.loop-rest.rest.now) c.is_empty.result c.is_empty.ensures c.loop-rest-test.true)
    c.loop-rest.invariant.within c.index-rest-0.is in
    next.long

pub loop-rest-preserved : goal.loop-rest-preserved
loop-rest-preserved g c =
    let word = first_pads c.args.hold c.args.behind.now in
    let next =
    next_step c.args.hold c.loop-rest.count c.index-rest-0.result word c.loop-rest.rest.now c.requires.hold
    c.loop-rest.invariant.left
    (some_left (length c.loop-rest.rest.now) c.is_empty.result c.is_empty.ensures c.loop-rest-test.true)
    c.loop-rest.invariant.within c.index-rest-0.is in
    record {
      within = omega (arith, next.more);
      left = c.split_at.ensures.back ∙ next.behind;
      counted = omega (arith, next.long, c.split_at.ensures.back_len, c.loop-rest.invariant.counted, c.requires.hold);
      frames =
          omega (arith, next.long, c.split_at.ensures.back_len, c.loop-rest.invariant.frames, c.step.ensures.frames);
      never_falls = omega (arith, c.loop-rest.invariant.never_falls, c.step.ensures.never_falls);
      after = λ plan rules hold begun.
          (let P : Word → Type 0 = λ w. IsAfter plan w c.step.new.self.machine c.step.new.self.judged in
          subst P (sym next.grown)
          (c.step.ensures.after plan (take c.loop-rest.count word) rules hold
          (c.loop-rest.invariant.after plan rules hold begun)));
    }

pub returns-clause-count : goal.returns-clause-count
returns-clause-count g c =
    all_steps c.args.hold c.loop-rest.count (first_pads c.args.hold c.args.behind.now) c.loop-rest.rest.now
    c.requires.hold c.loop-rest.invariant.left
    (none_left (length c.loop-rest.rest.now) c.is_empty.result c.is_empty.ensures c.loop-rest-test.false)
    c.loop-rest.invariant.within

pub returns-clause-after : goal.returns-clause-after
returns-clause-after g c plan rules hold begun =
    let word = first_pads c.args.hold c.args.behind.now in
    let all =
    all_steps c.args.hold c.loop-rest.count word c.loop-rest.rest.now c.requires.hold c.loop-rest.invariant.left
    (none_left (length c.loop-rest.rest.now) c.is_empty.result c.is_empty.ensures c.loop-rest-test.false)
    c.loop-rest.invariant.within in
    let P : Word → Type 0 = λ w. IsAfter plan w c.loop-rest.self.machine c.loop-rest.self.judged in
    subst P (take_all c.loop-rest.count word (omega (arith, all))) (c.loop-rest.invariant.after plan rules hold begun)
