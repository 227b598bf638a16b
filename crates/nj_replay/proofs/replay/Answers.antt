use Rattle.std.proofs.Common.{◌≡◌, ◌≤◌, ℕ, List, Ok, Err, length, inr, sym, ◌∙◌, ap, arith}
use Rattle.std.proofs.lemmas.Result.{err_from_is_err_and}
use Rattle.nj_search_defs.specs.Game.{Word}
use Rattle.nj_game.specs.Plan.{Plan, plan_of}
use Rattle.nj_replay.specs.Reading.{word_of, first_pads}
use Rattle.nj_replay.specs.declared.ReplayRefused.{ReplayRefused}
use Rattle.nj_replay.specs.Replay.{replay_of, told_of, IsAfter}
use Rattle.nj_replay.proofs.Standing.{word_at, told, refused}
use Rattle.nj_replay.proofs.replay.Goals as goal

-- a movie that is a word's is not refused
not_refused : (plan : Plan) (movie : List ℕ) (word : Word) (e : ReplayRefused) →
    word_of plan.script.hold plan.start movie ≡ Ok word → replay_of plan movie ≡ Err e → ⊥
unfolding replay_of
not_refused plan movie word e read h = let is : told_of plan (Ok word) ≡ Err e = sym (ap (told_of plan) read) ∙ h in cc

pub returns-in_err-behind-clause-answer : goal.returns-in_err-behind-clause-answer
returns-in_err-behind-clause-answer g c =
    let p = err_from_is_err_and c.from_residual.result c.from_residual.ensures.1 in
    let plan = plan_of c.args.cart.now c.args.script.now c.args.start.now in
    let answered = c.in_err-behind.ensures in
    let read : word_of c.args.script.now.hold c.args.start.now c.args.movie.now ≡ Err c.in_err-behind.field-0.0 =
    word_at c.hold-hold.ensures.value c.pads.ensures.pads c.pads-2.ensures.pads ∙ answered.word in
    rw (p.1, p.2) (inr (refused plan c.args.movie.now c.in_err-behind.field-0.0 read))

pub returns-clause-answer : goal.returns-clause-answer
returns-clause-answer g c =
    let plan = plan_of c.args.cart.now c.args.script.now c.args.start.now in
    let answered = c.in_ok-behind.ensures in
    let begun = c.in_ok-run.ensures in
    let word = first_pads c.hold-hold.result c.in_ok-behind.behind.now in
    let ended : IsAfter plan word c.follow-step.new.self.machine c.follow-step.new.self.judged =
    c.follow-step.ensures.after plan (sym c.rules.ensures.value) (sym c.hold-hold.ensures.value) begun.after in
    let read : word_of c.args.script.now.hold c.args.start.now c.args.movie.now ≡ Ok word =
    word_at c.hold-hold.ensures.value c.pads.ensures.pads c.pads-2.ensures.pads ∙ answered.word in
    let some : 1 ≤ c.args.script.now.hold = omega (arith, c.hold-hold.ensures.value, c.hold-hold.ensures.low) in
    told plan c.args.movie.now word c.follow-step.new.self.judged c.follow-step.result _ some read
    c.follow-step.ensures.count
    (ap length c.pads-3.ensures.pads) ended.judged_is
    ∙ ap Ok (sym c.replayed.ensures)

pub returns-in_err-run-clause-refused : goal.returns-in_err-run-clause-refused
returns-in_err-run-clause-refused g c = λ e h.
    let plan = plan_of c.args.cart.now c.args.script.now c.args.start.now in
    absurd (not_refused plan c.args.movie.now _ e
    (word_at c.hold-hold.ensures.value c.pads.ensures.pads c.pads-2.ensures.pads ∙ c.in_ok-behind.ensures.word) h)

pub returns-clause-refused : goal.returns-clause-refused
returns-clause-refused g c = λ e h.
    let plan = plan_of c.args.cart.now c.args.script.now c.args.start.now in
    absurd (not_refused plan c.args.movie.now _ e
    (word_at c.hold-hold.ensures.value c.pads.ensures.pads c.pads-2.ensures.pads ∙ c.in_ok-behind.ensures.word) h)
