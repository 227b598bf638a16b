-- A search step by step up to its limit.
use Rattle.std.proofs.Common.{◌≡◌, Bool, true, ℕ, ◌+◌, ◌-◌, ◌*◌, ◌<◌, ◌≤◌, false, List, [], ◌∷◌, length, get_or, refl, ap, ap₂, sym, subst, ◌∙◌, arith}
use Rattle.std.specs.Prelude.{Option, Some, None, IfSome, is_some}
use Rattle.std.proofs.Math.Nat.{mul-le-mul_left}
use Rattle.nj_search_defs.specs.Game.{Word, Bounds}
use Rattle.nj_search_defs.specs.Outcome.{Outcome as SearchOutcome, WonAt, ExhaustedAt, LimitAt, searched, judged_first, opening, outcome}
use Rattle.nj_rules.specs.declared.record.Judged.{Judged}
use Rattle.nj_rules.specs.declared.record.Verdict.{Verdict}
use Rattle.nj_rules.specs.declared.record.Verdict.TheVariants.{Go as ToldGo, Win as ToldWin, Fail as ToldFail}
use Rattle.nj_game.specs.Plan.{Plan, movie_of}
use Rattle.nj_game.specs.Words.{judged_of, search_verdict, game_of}
use Rattle.nj_saved.specs.declared.saved.Saved.{Saved}
use Rattle.nj_saved.specs.Ranges.{IsInRange}
use Rattle.nj_expand.specs.Held.{Held, opened}
use Rattle.nj_expand.specs.Saving.{state_in, state_from, resumed}
use Rattle.nj_plan.specs.Plans.{Planned, bounds_in, steps_before}
use Rattle.nj_plan.specs.Outcomes.{outcome_from, outcome_of, reward_in, saved_in, held_from, held_in, frames_before, frames_most}
use Rattle.nj_search.specs.Ends.{told_of, answer_of, ended_of, first_word}
use Rattle.nj_search.specs.Rests.{rest_of, frames_a_step, IsFurther}
use Rattle.nj_search.specs.Starts.{unsaved, IsGoing, EndsIn}
use Rattle.nj_search.specs.declared.searching.Ended.{Ended}
use Rattle.nj_search.specs.declared.searching.Outcome.{Outcome}
use Rattle.nj_search.specs.declared.searching.Outcome.TheVariants.{Won, Exhausted, Limit}

-- so many steps of a search were made of as many as it may make, with so many frames
pub record AreMade (begun now : Held) (limit made before ran : ℕ) : Type 0 where
  pub plan : now.plan ≡ begun.plan
  pub bounds : now.bounds ≡ begun.bounds
  pub unspent : now.spent ≡ false
  pub step : now.state.step ≡ begun.state.step + made
  pub rest : rest_of begun limit ≡ rest_of now (limit - made)
  pub frames : ran ≤ before + frames_a_step begun * made
  pub grown : before ≤ ran

pub none_made : (begun : Held) (limit before : ℕ) → begun.spent ≡ false → AreMade begun begun limit 0 before before
none_made begun limit before unspent = record {
  plan = refl;
  bounds = refl;
  unspent = unspent;
  step = omega arith;
  rest = ap (rest_of begun) (omega arith);
  frames = omega arith;
  grown = omega arith;
}

pub same_frames :
    (old new : Held) → new.plan ≡ old.plan → new.bounds ≡ old.bounds → frames_a_step new ≡ frames_a_step old
same_frames old new plan bounds =
    λ i. (plan i).script.hold * ((bounds i).most * ((bounds i).inputs + 1))

-- the frames of one more step
one_more :
    (begun now : Held) (limit made before frames frames' : ℕ) → AreMade begun now limit made before frames
    → frames' ≤ frames + frames_a_step now
    → frames' ≤ before + frames_a_step begun * (made + 1)
one_more begun now limit made before frames frames' are_made ran =
    let each : frames_a_step now ≡ frames_a_step begun = same_frames begun now are_made.plan are_made.bounds in
    let e : frames_a_step begun * (made + 1) ≡ frames_a_step begun * made + frames_a_step begun = grind arith in
    omega (arith, are_made.frames, ran, each, e)

pub one_more_made :
    (begun now new : Held) (limit made before frames frames' : ℕ) → made < limit
    → AreMade begun now limit made before frames
    → IsFurther now new → frames' ≤ frames + frames_a_step now → frames ≤ frames'
    → AreMade begun new limit (made + 1) before frames'
one_more_made begun now new limit made before frames frames' within are_made further ran grows =
    let left : limit - made ≡ (limit - (made + 1)) + 1 = omega arith in
    record {
      plan = further.plan ∙ are_made.plan;
      bounds = further.bounds ∙ are_made.bounds;
      unspent = further.unspent;
      step = omega (arith, further.step, are_made.step);
      rest = are_made.rest ∙ ap (rest_of now) left ∙ further.rest (limit - (made + 1));
      frames = one_more begun now limit made before frames frames' are_made ran;
      grown = omega (arith, are_made.grown, grows);
    }

-- the frames within the bound of all steps
pub frames_within :
    (begun now : Held) (limit made before frames frames' : ℕ) → made < limit
    → AreMade begun now limit made before frames
    → frames' ≤ frames + frames_a_step now → frames' ≤ before + frames_a_step begun * limit
frames_within begun now limit made before frames frames' within are_made ran =
    let more : made + 1 ≤ limit = omega arith in
    let h : frames_a_step begun * (made + 1) ≤ frames_a_step begun * limit =
    mul-le-mul_left (frames_a_step begun) more in
    omega (arith, one_more begun now limit made before frames frames' are_made ran, h)

-- what a step ends the search with is the answer of the whole
pub told_at_end :
    (begun now : Held) (limit made before frames : ℕ) (keep : Bool) (outcome : Outcome) → made < limit
    → AreMade begun now limit made before frames
    → EndsIn now outcome → answer_of begun.plan keep (rest_of begun limit) ≡ unsaved outcome
told_at_end begun now limit made before frames keep outcome within are_made told =
    let left : limit - made ≡ (limit - (made + 1)) + 1 = omega arith in
    ap (λ (plan : Plan). answer_of plan keep (rest_of begun limit)) (sym are_made.plan)
    ∙ ap (answer_of now.plan keep) (are_made.rest ∙ ap (rest_of now) left)
    ∙ told (limit - (made + 1)) keep

rest-zero : (held : Held) → rest_of held 0 ≡ LimitAt held.state
unfolding rest_of searched
rest-zero held = refl

-- what is answered at the limit is the answer of the whole
pub told_at_limit :
    (begun now : Held) (limit made before frames : ℕ) (keep : Bool) (ended : Ended) → limit ≤ made
    → AreMade begun now limit made before frames
    → answer_of now.plan keep (LimitAt now.state) ≡ ended → answer_of begun.plan keep (rest_of begun limit) ≡ ended
told_at_limit begun now limit made before frames keep ended all are_made told =
    let none : limit - made ≡ 0 = omega arith in
    ap (λ (plan : Plan). answer_of plan keep (rest_of begun limit)) (sym are_made.plan)
    ∙ ap (answer_of now.plan keep) (are_made.rest ∙ ap (rest_of now) none ∙ rest-zero now)
    ∙ told

-- the first word of a front
pub first_of : (front : List Word) → get_or front 0 [] ≡ first_word front
first_of [] = refl
first_of (word ∷ words) = refl

-- what is answered at the limit: of a front's first word, and what is saved
pub limit_told :
    (held : Held) (keep : Bool) (step : ℕ) (judged : Judged) (movie : List ℕ) (saved : Option Saved)
    → step ≡ held.state.step
    → judged ≡ judged_of held.plan (get_or held.state.front 0 [])
    → movie ≡ movie_of held.plan (get_or held.state.front 0 [])
    → saved ≡ saved_in keep (LimitAt held.state)
    → answer_of held.plan keep (LimitAt held.state) ≡ record { outcome = Limit step judged.reward movie; saved = saved }
unfolding answer_of told_of
limit_told held keep step judged movie saved is_step is_judged is_movie is_saved =
    let reward : reward_in held.plan (first_word held.state.front) ≡ judged.reward =
    ap (reward_in held.plan) (sym (first_of held.state.front)) ∙ ap (λ (j : Judged). j.reward) (sym is_judged) in
    let shown : movie_of held.plan (first_word held.state.front) ≡ movie =
    ap (movie_of held.plan) (sym (first_of held.state.front)) ∙ sym is_movie in
    λ i. record { outcome = Limit (sym is_step i) (reward i) (shown i); saved = sym is_saved i }

-- ---- the start

-- the search before its first step
pub record IsOpened (planned : Planned) (held : Held) : Type 0 where
  pub going : held.plan ≡ planned.plan
  pub bounds : held.bounds ≡ bounds_in planned
  pub unspent : held.spent ≡ false
  pub step : held.state.step ≡ 0
  pub front : held.state.front ≡ [] ∷ []
  pub whole :
      outcome_of planned ≡ judged_first ((game_of planned.plan).judged []).verdict (rest_of held planned.limits.steps)

opened_so : (planned : Planned) → planned.saved ≡ None → IsOpened planned (opened planned.plan (bounds_in planned))
unfolding opened opening outcome_of outcome rest_of
opened_so planned none = record {
  going = refl;
  bounds = refl;
  unspent = refl;
  step = refl;
  front = refl;
  whole = ap (outcome_from planned) none;
}

pub begun : (planned : Planned) (held : Held) → planned.saved ≡ None → held ≡ held_in planned → IsOpened planned held
unfolding held_in
begun planned held none is =
    subst (IsOpened planned) (sym (is ∙ ap (held_from planned) none)) (opened_so planned none)

-- the verdict of the start
verdict_is :
    (planned : Planned) (held : Held) (judged : Judged) → IsOpened planned held
    → judged ≡ judged_of held.plan (get_or held.state.front 0 [])
    → ((game_of planned.plan).judged []).verdict ≡ search_verdict judged.verdict
unfolding game_of
verdict_is planned held judged is e =
    ap (λ (j : Judged). search_verdict j.verdict)
    (sym (e ∙ ap₂ (λ (p : Plan) (f : List Word). judged_of p (get_or f 0 [])) is.going is.front))

ends_by :
    (planned : Planned) (held : Held) (judged : Judged) → IsOpened planned held
    → judged ≡ judged_of held.plan (get_or held.state.front 0 [])
    → (verdict : Verdict) → judged.verdict ≡ verdict
    → outcome_of planned ≡ judged_first (search_verdict verdict) (rest_of held planned.limits.steps)
ends_by planned held judged is e verdict v =
    is.whole
    ∙ ap (λ w. judged_first w (rest_of held planned.limits.steps))
    (verdict_is planned held judged is e ∙ ap search_verdict v)

-- a start that neither wins nor fails goes on
pub going : (planned : Planned) (held : Held) (judged : Judged) → planned.saved ≡ None → held ≡ held_in planned
    → judged ≡ judged_of held.plan (get_or held.state.front 0 []) → judged.verdict ≡ ToldGo → IsGoing planned held
going planned held judged none is e v =
    let at_start = begun planned held none is in record {
      plan = at_start.going;
      bounds = at_start.bounds;
      unspent = at_start.unspent;
      step = at_start.step ∙ ap steps_before (sym none);
      whole = ends_by planned held judged at_start e ToldGo v;
    }

told_start :
    (plan : Plan) (keep : Bool)
    → answer_of plan keep (WonAt 0 []) ≡ unsaved (Won 0 (reward_in plan []) (movie_of plan []))
unfolding answer_of told_of
told_start plan keep = refl

told_failed : (plan : Plan) (keep : Bool) → answer_of plan keep (ExhaustedAt 0) ≡ unsaved (Exhausted 0)
unfolding answer_of told_of
told_failed plan keep = refl

-- a start that wins is told so
pub start_wins :
    (planned : Planned) (held : Held) (judged : Judged) (movie : List ℕ) (outcome : Outcome) → planned.saved ≡ None
    → held ≡ held_in planned
    → judged ≡ judged_of held.plan (get_or held.state.front 0 []) → judged.verdict ≡ ToldWin
    → movie ≡ movie_of held.plan (get_or held.state.front 0 []) → outcome ≡ Won 0 judged.reward movie
    → (keep : Bool) → ended_of planned keep ≡ unsaved outcome
unfolding ended_of
start_wins planned held judged movie outcome none opened e v m told keep =
    let is = begun planned held none opened in
    ap (answer_of planned.plan keep) (ends_by planned held judged is e ToldWin v)
    ∙ told_start planned.plan keep
    ∙ ap unsaved (ap₂ (Won 0)
    (ap (λ (j : Judged). j.reward)
    (sym (e ∙ ap₂ (λ (p : Plan) (f : List Word). judged_of p (get_or f 0 [])) is.going is.front)))
    (sym (m ∙ ap₂ (λ (p : Plan) (f : List Word). movie_of p (get_or f 0 [])) is.going is.front)) ∙ sym told)

-- a start that fails is told so
pub start_fails : (planned : Planned) (held : Held) (judged : Judged) → planned.saved ≡ None → held ≡ held_in planned
    → judged ≡ judged_of held.plan (get_or held.state.front 0 []) → judged.verdict ≡ ToldFail
    → (keep : Bool) → ended_of planned keep ≡ unsaved (Exhausted 0)
unfolding ended_of
start_fails planned held judged none opened e v keep =
    ap (answer_of planned.plan keep) (ends_by planned held judged (begun planned held none opened) e ToldFail v)
    ∙ told_failed planned.plan keep

-- ---- a search that goes on from a saved one

resumes : (planned : Planned) (saved : Saved) → planned.saved ≡ Some saved
    → IsGoing planned (resumed planned.plan (bounds_in planned) saved)
unfolding resumed state_from state_in outcome_of rest_of
resumes planned saved is = record {
  plan = refl;
  bounds = refl;
  unspent = refl;
  step = ap steps_before (sym is);
  whole = ap (outcome_from planned) is;
}

going_from : (planned : Planned) (held : Held) (saved : Option Saved) → planned.saved ≡ saved → is_some saved ≡ true
    → held ≡ held_from planned saved → IsGoing planned held
going_from planned held None is some opened = absurd (cc)
going_from planned held (Some saved) is some opened = subst (IsGoing planned) (sym opened) (resumes planned saved is)

-- a search that goes on from a saved one does not look at its start
pub goes_on :
    (planned : Planned) (held : Held) → is_some planned.saved ≡ true → held ≡ held_in planned → IsGoing planned held
unfolding held_in
goes_on planned held some opened = going_from planned held planned.saved refl some opened

none_from : (saved : Option Saved) → is_some saved ≡ false → saved ≡ None
none_from None is = refl
none_from (Some saved) is = absurd (cc)

-- a plan that does not go on has no saved search
pub starts : (planned : Planned) → is_some planned.saved ≡ false → planned.saved ≡ None
starts planned is = none_from planned.saved is

unspent_from : (planned : Planned) (saved : Option Saved) → let held : Held =
    held_from planned saved in held.spent ≡ false
unfolding opened resumed
unspent_from planned None = refl
unspent_from planned (Some saved) = refl

-- in either case the search is not spent
pub unspent_in : (planned : Planned) (held : Held) → held ≡ held_in planned → held.spent ≡ false
unfolding held_in
unspent_in planned held is = ap (λ (h : Held). h.spent) is ∙ unspent_from planned planned.saved

-- ---- the answer of a search that goes on, and its frames

-- what is answered of the rest is the answer of the whole
pub answered :
    (planned : Planned) (held : Held) (keep : Bool) (limit : ℕ) (ended : Ended) → IsGoing planned held
    → limit ≡ planned.limits.steps
    → answer_of held.plan keep (rest_of held limit) ≡ ended → ended ≡ ended_of planned keep
unfolding ended_of
answered planned held keep limit ended is limited told =
    sym (ap₂ (λ (p : Plan) (o : SearchOutcome). answer_of p keep o) (sym is.plan)
    (is.whole ∙ ap (rest_of held) (sym limited)) ∙ told)

-- what is saved of the whole is in its ranges
pub kept_in_range : (planned : Planned) (keep : Bool) (ended : Ended) → ended ≡ ended_of planned keep
    → IfSome (saved_in keep (outcome_of planned)) IsInRange → IfSome ended.saved IsInRange
unfolding ended_of answer_of
kept_in_range planned keep ended is ranges = subst (λ (e : Ended). IfSome e.saved IsInRange) (sym is) ranges

-- the frames before the first step are within those of the search
pub start_within :
    (planned : Planned) (before after : ℕ) → after ≤ before + frames_before planned
    → after ≤ before + frames_most planned
unfolding frames_most
start_within planned before after ran = omega arith

-- the frames of a whole search are those before its first step and those of its steps
pub all_frames : (planned : Planned) (held : Held) → IsGoing planned held
    → frames_most planned ≡ frames_before planned + frames_a_step held * planned.limits.steps
unfolding frames_most bounds_in
all_frames planned held is =
    ap₂
    (λ (p : Plan) (b : Bounds). frames_before planned
    + p.script.hold * (b.most * (b.inputs + 1)) * planned.limits.steps)
    (sym is.plan) (sym is.bounds)

-- those before the first step and those of all steps are within those of the search
pub frames_going :
    (planned : Planned) (held : Held) (limit before between after : ℕ) → IsGoing planned held
    → limit ≡ planned.limits.steps
    → between ≤ before + frames_before planned → after ≤ between + frames_a_step held * limit
    → after ≤ before + frames_most planned
frames_going planned held limit before between after is limited start ran =
    let steps : frames_a_step held * limit ≡ frames_a_step held * planned.limits.steps =
    ap (λ n. frames_a_step held * n) limited in
    omega (arith, all_frames planned held is, start, ran, steps)
