-- A search that was stopped and saved goes on as the unbroken one.
use Rattle.std.proofs.Common.{◌≡◌, inl, inr, ℕ, ◌+◌, ◌-◌, ◌*◌, ◌^◌, ◌<◌, ◌≤◌, List, [], length, get_or, refl, sym, ap, ◌∙◌, subst, arith}
use Rattle.std.specs.Prelude.{Some, Ok}
use Rattle.std.specs.List.{All}
use Rattle.std.proofs.Math.Nat.{mul-le-mul_left}
use Rattle.std.proofs.lemmas.Bool.{cases_lt}
use Rattle.std.proofs.lemmas.List.{get_or_past}
use Rattle.nj_search_defs.specs.Game.{Bounds}
use Rattle.nj_search_defs.specs.Outcome.{State, LimitAt, searched}
use Rattle.nj_search_defs.specs.Laws.{gone_on, LimitsAdd}
use Rattle.nj_search_defs.specs.Going.{forgetful, AForgottenStateGoesOnAlike}
use Rattle.nj_game.specs.Words.{game_of}
use Rattle.nj_saved.specs.declared.saved.Saved.{Saved}
use Rattle.nj_saved.specs.Bytes.{file_bytes}
use Rattle.nj_saved.specs.Ranges.{words_of, AreGenerations, ComeOnce, IsInRange, Fits}
use Rattle.nj_saved.specs.Reading.{saved_of as read_of}
use Rattle.nj_candidate.specs.SavedFront.{front_in}
use Rattle.nj_expand.specs.Saving.{saved_of, state_in, state_from, CanBeSaved}
use Rattle.nj_plan.specs.Plans.{Planned, AreInRange, most_of, steps_before, bounds_in}
use Rattle.nj_plan.specs.Outcomes.{outcome_of}
use Rattle.nj_plan.specs.Laws.{IsPlan, with_steps, saved_with, going_on, GoesOnUnbroken, ResumedIsUnbroken}
use Rattle.nj_plan.proofs.Accepted.{IsAccepted, accepted, unrefused}
use Rattle.nj_plan.proofs.Longer.{longer}
use Rattle.nj_plan.proofs.Sound.{RulesTell, SearchesKeep, CanRun, IsAtEnd, at_end, words_saved, saved_in_range}

-- what was written is read
abbrev pub WrittenIsRead : Type 0
WrittenIsRead =
    (saved : Saved) → IsInRange saved → Fits saved → read_of (file_bytes 2 saved) saved.cart saved.script ≡ Ok saved

-- nothing of a state is lost
abbrev pub StatesAreWhole : Type 0
StatesAreWhole = (state : State) → CanBeSaved state → state_in (saved_of state) ≡ state

-- ---- plans

pub can_run : (planned : Planned) → IsPlan planned → CanRun planned
can_run planned is = record {
  limits = is.limits;
  hold = is.script.hold_low;
  tolerance = is.script.tolerance;
  rules = is.script.rules.few;
  pads = is.pads;
  saved = is.saved;
  fits = is.fits;
  accepted = is.accepted;
}

-- limits of fewer steps
steps_in_range :
    (planned : Planned) (steps fewer : ℕ) → 1 ≤ fewer → fewer ≤ steps
    → AreInRange (let p = with_steps planned steps in p.limits)
    → AreInRange (let p = with_steps planned fewer in p.limits)
steps_in_range planned steps fewer some less is = record {
  some_budget = is.some_budget;
  most_budget = is.most_budget;
  some_steps = some;
  most_steps = omega (arith, is.most_steps, less);
  least_exponent = is.least_exponent;
  most_exponent = is.most_exponent;
}

-- a plan of fewer steps is refused nothing
fewer_accepted : (planned : Planned) (steps fewer : ℕ) → fewer ≤ steps
    → IsAccepted planned.plan (let p = with_steps planned steps in p.limits) planned.saved
    → IsAccepted planned.plan (let p = with_steps planned fewer in p.limits) planned.saved
unfolding most_of
fewer_accepted planned steps fewer less is =
    let most = most_of planned.limits planned.plan.cartridge in
    let before = steps_before planned.saved in
    let rows : most * (fewer + before) ≤ most * (steps + before) = mul-le-mul_left most (omega (arith, less)) in
    let frames : planned.plan.script.hold * (fewer + before) ≤ planned.plan.script.hold * (steps + before) =
    mul-le-mul_left planned.plan.script.hold (omega (arith, less)) in record {
      budget = is.budget;
      seen = is.seen;
      trail = omega (arith, is.trail, rows);
      movie = omega (arith, is.movie, frames);
      front = is.front;
    }

-- nor is it else out of range
pub fewer_steps :
    (planned : Planned) (steps fewer : ℕ) → 1 ≤ fewer → fewer ≤ steps → CanRun (with_steps planned steps)
    → CanRun (with_steps planned fewer)
fewer_steps planned steps fewer some less can = record {
  limits = steps_in_range planned steps fewer some less can.limits;
  hold = can.hold;
  tolerance = can.tolerance;
  rules = can.rules;
  pads = can.pads;
  saved = can.saved;
  fits = can.fits;
  accepted = unrefused planned.plan _ planned.saved
      (fewer_accepted planned steps fewer less (accepted planned.plan _ planned.saved can.accepted));
}

-- ---- the numbers of the two files

numbered_range :
    (cart script : ℕ) (state : State) → IsInRange (saved_of state) → IsInRange (saved_with cart script state)
numbered_range cart script state is = record {
  first_step = is.first_step;
  last_step = is.last_step;
  whole = is.whole;
  some_words = is.some_words;
  most_words = is.most_words;
  most_pads = is.most_pads;
  level = is.level;
  until = is.until;
  some_generations = is.some_generations;
  most_generations = is.most_generations;
  most_keys = is.most_keys;
  generations = is.generations;
}

-- numbers of lists that fit, and zeros past them
fit_at :
    (seen : List (List ℕ)) → All (All (λ key. key < 2 ^ 64)) seen → (g k : ℕ) → get_or (get_or seen g []) k 0 < 2 ^ 64
fit_at seen fit g k =
    elim (cases_lt g (length seen)) [
      | inl inside ↦
          elim (cases_lt k (length (get_or seen g []))) [
            | inl low ↦ fit g [] inside k 0 low
            | inr past ↦ subst (λ n. n < 2 ^ 64) (sym (get_or_past (get_or seen g []) k 0 past)) (omega arith)
          ]
      | inr past ↦ subst (λ keys. get_or keys k 0 < 2 ^ 64) (sym (get_or_past seen g [] past)) (omega arith)
    ]

numbered_fits :
    (cart script : ℕ) (state : State) → cart < 2 ^ 64 → script < 2 ^ 64 → All (All (λ key. key < 2 ^ 64)) state.seen
    → Fits (saved_with cart script state)
unfolding saved_of
numbered_fits cart script state cart_fits script_fits fit =
    record { cart = cart_fits; script = script_fits; keys = fit_at state.seen fit }

-- the state does not look at them
numbered_state : (cart script : ℕ) (state : State) → state_in (saved_with cart script state) ≡ state_in (saved_of state)
unfolding state_in front_in
numbered_state cart script state = refl

-- what is forgotten at once is forgotten of the state that the saved search says
forgets_at_once :
    (bounds : Bounds) (saved : Saved) (state : State) → state_in saved ≡ state
    → state_from bounds saved ≡ forgetful bounds state
unfolding state_from
forgets_at_once bounds saved state same = ap (forgetful bounds) same

-- ---- the law

module _ (tell : RulesTell) (keep : SearchesKeep)
    (come : (generations : List (List ℕ)) → AreGenerations generations → ComeOnce generations)
    (all : (generations : List (List ℕ)) → ComeOnce generations → AreGenerations generations)
    (written : WrittenIsRead) (whole : StatesAreWhole) (alike : AForgottenStateGoesOnAlike) (add : LimitsAdd) where
  module _ (planned : Planned) (a b cart script : ℕ) (state : State) (some_a : 1 ≤ a) (some_b : 1 ≤ b)
      (cart_fits : cart < 2 ^ 64) (script_fits : script < 2 ^ 64)
      (is : IsPlan (with_steps planned (a + b))) (ends : outcome_of (with_steps planned a) ≡ LimitAt state) where
    abbrev saved : Saved
    saved = saved_with cart script state

    stopped : CanRun (with_steps planned a)
    stopped = fewer_steps planned (a + b) a some_a (omega arith) (can_run (with_steps planned (a + b)) is)

    end : IsAtEnd (with_steps planned a) state
    end = at_end tell keep come (with_steps planned a) stopped state ends

    some_steps : 1 ≤ state.step
    some_steps = let step : state.step ≡ a + steps_before planned.saved = end.step in omega (arith, step, some_a)

    ranges : IsInRange saved
    ranges = numbered_range cart script state (saved_in_range all (with_steps planned a) stopped state end)

    fits : Fits saved
    fits = numbered_fits cart script state cart_fits script_fits end.sound.fit

    same : state_in saved ≡ state
    same = numbered_state cart script state ∙ whole state (record { some = some_steps; long = end.sound.long })

    -- its front fits
    few : words_of saved ≤ most_of planned.limits planned.plan.cartridge
    unfolding most_of saved_of
    few =
        let front : length state.front ≤ most_of planned.limits planned.plan.cartridge = end.sound.few in
        let count : words_of (saved_of state) ≡ length state.front = words_saved state some_steps end.sound.long in
        subst (λ n. n ≤ most_of planned.limits planned.plan.cartridge) (sym count) front

    -- both searches have the same steps in all
    same_steps : b + state.step ≡ a + b + steps_before planned.saved
    same_steps = let step : state.step ≡ a + steps_before planned.saved = end.step in omega (arith, step)

    resumed_accepted : IsAccepted planned.plan (let p = going_on planned saved b in p.limits) (Some saved)
    unfolding most_of saved_of
    resumed_accepted =
        let whole_plan =
        accepted planned.plan (let p = with_steps planned (a + b) in p.limits) planned.saved is.accepted in
        record {
          budget = whole_plan.budget;
          seen = whole_plan.seen;
          trail =
              subst (λ n. most_of planned.limits planned.plan.cartridge * n ≤ 2 ^ 26) (sym same_steps) whole_plan.trail;
          movie =
              subst (λ n. length planned.plan.start + planned.plan.script.hold * n ≤ 2 ^ 20) (sym same_steps)
              whole_plan.movie;
          front = few;
        }

    resumed_plan : IsPlan (going_on planned saved b)
    resumed_plan = record {
      limits = steps_in_range planned (a + b) b some_b (omega arith) is.limits;
      script = is.script;
      pads = is.pads;
      saved = ranges;
      fits = fits;
      accepted = unrefused planned.plan _ (Some saved) resumed_accepted;
    }

    from_saved : outcome_of (going_on planned saved b)
        ≡ searched (game_of planned.plan) (bounds_in planned) b (state_from (bounds_in planned) saved)
    unfolding outcome_of bounds_in most_of
    from_saved = refl

    unbroken : outcome_of (going_on planned saved b) ≡ outcome_of (with_steps planned (a + b))
    unbroken =
        let game = game_of planned.plan in
        let bounds = bounds_in planned in
        let one_more : (b - 1) + 1 ≡ b = omega (arith, some_b) in
        from_saved
        ∙ ap (searched game bounds b) (forgets_at_once bounds saved state same)
        ∙ ap (λ n. searched game bounds n (forgetful bounds state)) (sym one_more)
        ∙ alike game bounds (b - 1) state
        ∙ ap (λ n. searched game bounds n state) one_more
        ∙ sym (longer add planned a b ∙ ap (λ o. gone_on o (searched game bounds b)) ends)

    goes_on : GoesOnUnbroken planned (a + b) b cart script state
    goes_on = record { read = written saved ranges fits; same = same; may_go_on = resumed_plan; unbroken = unbroken }

  pub resumed_is_unbroken : ResumedIsUnbroken
  resumed_is_unbroken planned a b cart script state some_a some_b cart_fits script_fits is ends =
      goes_on planned a b cart script state some_a some_b cart_fits script_fits is ends
