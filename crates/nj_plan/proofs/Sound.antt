-- The state at the limit of a planned search is sound, and what is saved of it is in its ranges.
use Rattle.std.proofs.Common.{◌≡◌, ◌≢◌, Bool, true, false, ℕ, zero, suc, ◌+◌, ◌-◌, ◌*◌, ◌/◌, ◌^◌, ◌<◌, ◌≤◌, List, [], ◌∷◌, ◌++◌, length, drop, get_or, refl, sym, ap, ◌∙◌, subst, arith, length-append, length-take, length-drop, mul-div_cancel, zero-mul, suc-mul}
use Rattle.std.specs.Prelude.{Option, Some, None, IfSome}
use Rattle.std.specs.List.{All, concat}
use Rattle.std.proofs.Math.Nat.{one-le-pow, pow-le-pow_right, mul-le-mul_right}
use Rattle.std.proofs.lemmas.List.{get_or_default}
use Rattle.std.proofs.lemmas.List.Elements.{All-head, All-tail}
use Rattle.std.proofs.lemmas.List.FromFn.{length-map-range_with_len, get_or-map-range_with_len}
use Rattle.nj_rules.specs.declared.record.Rule.{Rule}
use Rattle.nj_rules.specs.declared.record.InputSet.{InputSet}
use Rattle.nj_rules.specs.declared.record.HashItem.{HashItem}
use Rattle.nj_rules.specs.Key.{key_in}
use Rattle.nj_rules.specs.Pads.{allowed_pads, named_pads}
use Rattle.nj_rules.specs.Rules.{level_of}
use Rattle.nj_search_defs.specs.Game.{Word, Bounds, Verdict, Go, Win, Fail}
use Rattle.nj_search_defs.specs.Outcome.{State, Outcome as SearchOutcome, WonAt, ExhaustedAt, LimitAt, searched, judged_first, opening, outcome}
use Rattle.nj_search_defs.specs.Laws.{LimitsHaveFronts}
use Rattle.nj_search_defs.specs.Sound.{IsEven, IsWellMade, IsSound}
use Rattle.nj_search_defs.specs.Going.{OpeningsAreSound, LimitsAreSound, ForgettingIsSound, LimitsHaveSeen, LimitsHaveFrontsFrom}
use Rattle.nj_game.specs.Words.{ram_after, status_of, judged_of, allowed_of, key_of, game_of}
use Rattle.nj_saved.specs.declared.saved.Saved.{Saved}
use Rattle.nj_saved.specs.Ranges.{words_of, AreGenerations, ComeOnce, IsInRange, Fits}
use Rattle.nj_candidate.specs.SavedFront.{word_at, front_in}
use Rattle.nj_expand.specs.Saving.{saved_of, state_in, state_from}
use Rattle.nj_plan.specs.Plans.{Planned, AreInRange, most_of, inputs_of, slots_of, steps_before, words_before, total_steps, refusal_of, bounds_in}
use Rattle.nj_plan.specs.Outcomes.{outcome_from, outcome_of, saved_in}
use Rattle.nj_plan.proofs.Accepted.{accepted, some_word, few_steps}

-- ---- what the proofs stand on

-- what the rules tell of pads, keys and levels
pub record RulesTell : Type 0 where
  pub named : (sets : List InputSet) (ram : List ℕ) → length (allowed_pads sets ram) ≤ length (named_pads sets)
  pub never_zero : (items : List HashItem) (rules status : ℕ) (ram : List ℕ) → key_in items rules ram status ≢ 0
  pub fit : (items : List HashItem) (rules status : ℕ) (ram : List ℕ) → key_in items rules ram status < 2 ^ 64
  pub levels : (rules : List Rule) (status : ℕ) → level_of rules status ≤ length rules

-- the laws of a search that goes on
pub record SearchesKeep : Type 0 where
  pub opening : OpeningsAreSound
  pub goes_on : LimitsAreSound
  pub forgets : ForgettingIsSound
  pub some_seen : LimitsHaveSeen
  pub fronts : LimitsHaveFronts
  pub fronts_from : LimitsHaveFrontsFrom

-- a planned search as the code has it
pub record CanRun (planned : Planned) : Type 0 where
  pub limits : AreInRange planned.limits
  pub hold : 1 ≤ planned.plan.script.hold
  pub tolerance : planned.plan.script.tolerance ≤ 1048576
  pub rules : length planned.plan.script.rules.rules ≤ 128
  pub pads : inputs_of planned.plan ≤ 256
  pub saved : IfSome planned.saved IsInRange
  pub fits : IfSome planned.saved Fits
  pub accepted : refusal_of planned.plan planned.limits planned.saved ≡ None

-- ---- the game and its bounds

well_made : RulesTell → (planned : Planned) → CanRun planned → IsWellMade (game_of planned.plan) (bounds_in planned) 128
unfolding bounds_in game_of key_of allowed_of judged_of
well_made tell planned can =
    let script = planned.plan.script in record {
      some =
          some_word planned.plan planned.limits planned.saved (most_of planned.limits planned.plan.cartridge)
          can.accepted refl;
      slots = one-le-pow planned.limits.exponent 2 (omega arith);
      room = (accepted planned.plan planned.limits planned.saved can.accepted).seen;
      inputs = can.pads;
      allowed = λ word. tell.named script.inputs.sets (ram_after planned.plan word);
      keyed =
          λ word. tell.never_zero script.hash.items (length script.rules.rules) (status_of planned.plan word)
          (ram_after planned.plan word);
      fit =
          λ word. tell.fit script.hash.items (length script.rules.rules) (status_of planned.plan word)
          (ram_after planned.plan word);
      level = λ word. omega (arith, tell.levels script.rules.rules (status_of planned.plan word), can.rules);
    }

-- ---- a saved state

-- a saved front has as many words as are counted
front_length : (saved : Saved) → length (front_in saved) ≡ words_of saved
unfolding front_in
front_length saved = length-map-range_with_len (word_at saved.words saved.step) 0 (words_of saved)

word_long :
    (saved : Saved) → IsInRange saved → (k : ℕ) → k < words_of saved
    → length (word_at saved.words saved.step k) ≡ saved.step
word_long saved ranges k inside =
    let size : words_of saved * saved.step ≡ length saved.words = ranges.whole in
    let more : (k + 1) * saved.step ≤ words_of saved * saved.step =
    mul-le-mul_right saved.step (omega (arith, inside)) in
    let next : (k + 1) * saved.step ≡ k * saved.step + saved.step = grind arith in
    let rest : length (drop (k * saved.step) saved.words) ≡ length saved.words - k * saved.step =
    length-drop (k * saved.step) saved.words in
    length-take saved.step (drop (k * saved.step) saved.words) ∙ omega (arith, size, more, next, rest)

-- each as long as the steps
front_long : (saved : Saved) → IsInRange saved → All (λ word. length word ≡ saved.step) (front_in saved)
unfolding front_in
front_long saved ranges k d inside =
    let below : k < words_of saved =
    (let e : length (front_in saved) ≡ words_of saved = front_length saved in omega (arith, inside, e)) in
    ap length (get_or-map-range_with_len (word_at saved.words saved.step) 0 (words_of saved) k k d below (omega arith))
    ∙ word_long saved ranges k below

pub front_even : (saved : Saved) → IsInRange saved → (bounds : Bounds) → IsEven (state_from bounds saved)
unfolding state_from state_in
front_even saved ranges bounds = record {
  some = (let e : length (front_in saved) ≡ words_of saved = front_length saved in omega (arith, e, ranges.some_words));
  long = front_long saved ranges;
}

-- the keys of a saved search are of 64 bits
keys_fit : (saved : Saved) → Fits saved → All (All (λ key. key < 2 ^ 64)) saved.generations
keys_fit saved fits g d inside k e low =
    let keys = get_or saved.generations g d in
    subst (λ n. n < 2 ^ 64) (get_or_default keys k 0 e low)
    (subst (λ ks. get_or ks k 0 < 2 ^ 64) (get_or_default saved.generations g [] d inside) (fits.keys g k))

-- the state that a saved search says is sound
saved_sound : ((generations : List (List ℕ)) → AreGenerations generations → ComeOnce generations)
    → (most : ℕ) (saved : Saved) → IsInRange saved → Fits saved → words_of saved ≤ most
    → IsSound most 33554432 128 33554432 (state_in saved)
unfolding state_in
saved_sound come most saved ranges fits few =
    let count : length (front_in saved) ≡ words_of saved = front_length saved in
    let once : ComeOnce saved.generations = come saved.generations ranges.generations in record {
      some = omega (arith, count, ranges.some_words);
      few = omega (arith, count, few);
      long = front_long saved ranges;
      generations = ranges.most_generations;
      filled = once.some;
      rising = once.rising;
      once = once.once;
      fit = keys_fit saved fits;
      room = ranges.most_keys;
      level = ranges.level;
      until = ranges.until;
    }

-- ---- the state at the limit

pub record IsAtEnd (planned : Planned) (state : State) : Type 0 where
  pub sound : IsSound (most_of planned.limits planned.plan.cartridge) (slots_of planned.limits) 128 33554432 state
  pub step : state.step ≡ total_steps planned.limits planned.saved
  pub seen : 1 ≤ length state.seen

-- a search that comes to its limit does not end at its start
not_at_start :
    (verdict : Verdict) (rest : SearchOutcome) (state : State) → judged_first verdict rest ≡ LimitAt state
    → rest ≡ LimitAt state
not_at_start Go rest state is = is
not_at_start Win rest state is = absurd (cc)
not_at_start Fail rest state is = absurd (cc)

-- so many steps are one, and one fewer
one_and : (n : ℕ) → 1 ≤ n → n ≡ (n - 1) + 1
one_and n some = omega arith

end_from_start :
    RulesTell → SearchesKeep → (planned : Planned) → CanRun planned → planned.saved ≡ None → (state : State)
    → outcome_from planned None ≡ LimitAt state → IsAtEnd planned state
unfolding outcome bounds_in opening
end_from_start tell keep planned can none state is =
    let game = game_of planned.plan in
    let bounds = bounds_in planned in
    let limit = planned.limits.steps in
    let rest : searched game bounds limit (opening game) ≡ LimitAt state =
    not_at_start (game.judged []).verdict _ state is in
    let well = well_made tell planned can in
    let latest : 0 + limit + planned.plan.script.tolerance ≤ 33554432 =
    omega (arith, can.tolerance, can.limits.most_steps) in
    let made : state.step ≡ limit = (keep.fronts game bounds limit state is).step in
    record {
      sound =
          keep.goes_on game bounds 128 33554432 limit (opening game) state well latest
          (keep.opening game bounds 128 33554432 well) rest;
      step = omega (arith, made, ap steps_before none);
      seen = keep.some_seen game bounds (limit - 1) (opening game) state
          (ap (λ n. searched game bounds n (opening game)) (sym (one_and limit can.limits.some_steps)) ∙ rest);
    }

end_from_saved :
    RulesTell → SearchesKeep → ((generations : List (List ℕ)) → AreGenerations generations → ComeOnce generations)
    → (planned : Planned) → CanRun planned → (saved : Saved) → planned.saved ≡ Some saved → (state : State)
    → outcome_from planned (Some saved) ≡ LimitAt state → IsAtEnd planned state
unfolding bounds_in state_from state_in
end_from_saved tell keep come planned can saved goes state is =
    let game = game_of planned.plan in
    let bounds = bounds_in planned in
    let limit = planned.limits.steps in
    let from = state_from bounds saved in
    let ranges : IsInRange saved = subst (λ s. IfSome s IsInRange) goes can.saved in
    let fits : Fits saved = subst (λ s. IfSome s Fits) goes can.fits in
    let well = well_made tell planned can in
    let front : words_before planned.saved ≤ most_of planned.limits planned.plan.cartridge =
    (accepted planned.plan planned.limits planned.saved can.accepted).front in
    let few : words_of saved ≤ most_of planned.limits planned.plan.cartridge =
    subst (λ s. words_before s ≤ most_of planned.limits planned.plan.cartridge) goes front in
    let begun =
    keep.forgets bounds 33554432 128 33554432 (state_in saved) (saved_sound come bounds.most saved ranges fits few)
    in
    let steps : limit + saved.step ≤ 2 ^ 20 =
    subst (λ s. total_steps planned.limits s ≤ 2 ^ 20) goes
    (few_steps planned.plan planned.limits planned.saved can.hold can.accepted) in
    let latest : saved.step + limit + planned.plan.script.tolerance ≤ 33554432 = omega (arith, can.tolerance, steps) in
    let made : state.step ≡ saved.step + limit =
    (keep.fronts_from game bounds limit from state (front_even saved ranges bounds) is).step in
    record {
      sound = keep.goes_on game bounds 128 33554432 limit from state well latest begun is;
      step = omega (arith, made, ap steps_before goes);
      seen = keep.some_seen game bounds (limit - 1) from state
          (ap (λ n. searched game bounds n from) (sym (one_and limit can.limits.some_steps)) ∙ is);
    }

end_from :
    RulesTell → SearchesKeep → ((generations : List (List ℕ)) → AreGenerations generations → ComeOnce generations)
    → (planned : Planned) → CanRun planned → (saved : Option Saved) → planned.saved ≡ saved → (state : State)
    → outcome_from planned saved ≡ LimitAt state → IsAtEnd planned state
end_from tell keep come planned can None is state ends = end_from_start tell keep planned can is state ends
end_from tell keep come planned can (Some saved) is state ends =
    end_from_saved tell keep come planned can saved is state ends

pub at_end :
    RulesTell → SearchesKeep → ((generations : List (List ℕ)) → AreGenerations generations → ComeOnce generations)
    → (planned : Planned) → CanRun planned → (state : State) → outcome_of planned ≡ LimitAt state
    → IsAtEnd planned state
unfolding outcome_of
at_end tell keep come planned can state is = end_from tell keep come planned can planned.saved refl state is

-- ---- what is saved of it

concat_long :
    (n : ℕ) (front : List Word) → All (λ word. length word ≡ n) front → length (concat front) ≡ length front * n
concat_long n [] long = sym (zero-mul n)
concat_long n (word ∷ words) long =
    let here : length word ≡ n = All-head (λ w. length w ≡ n) word words long in
    let rest : length (concat words) ≡ length words * n =
    concat_long n words (All-tail (λ w. length w ≡ n) word words long) in
    let both : length (word ++ concat words) ≡ length word + length (concat words) =
    length-append word (concat words) in
    let more : suc (length words) * n ≡ length words * n + n = suc-mul (length words) n in
    omega (arith, here, rest, both, more)

-- as many words are counted as the front has
pub words_saved :
    (state : State) → 1 ≤ state.step → All (λ word. length word ≡ state.step) state.front
    → words_of (saved_of state) ≡ length state.front
unfolding saved_of
words_saved state some long =
    ap (λ n. n / state.step) (concat_long state.step state.front long) ∙ mul-div_cancel (length state.front) some

-- the pads of a front within the trail's bound
few_pads : (words step most total : ℕ) → words ≤ most → step ≡ total → most * total ≤ 2 ^ 26 → words * step ≤ 67108864
few_pads words step most total few is trail =
    let e : words * step ≡ words * total = ap (λ n. words * n) is in
    let h : words * total ≤ most * total = mul-le-mul_right total few in
    omega (arith, e, h, trail)

few_slots : (exponent : ℕ) → exponent ≤ 25 → 2 ^ exponent ≤ 33554432
few_slots exponent low = pow-le-pow_right {n = 2} (omega arith) {i = exponent} {j = 25} low

few_words : (planned : Planned) → most_of planned.limits planned.plan.cartridge ≤ 1048576
unfolding most_of
few_words planned = omega arith

pub saved_in_range : ((generations : List (List ℕ)) → ComeOnce generations → AreGenerations generations)
    → (planned : Planned) → CanRun planned → (state : State) → IsAtEnd planned state → IsInRange (saved_of state)
unfolding saved_of
saved_in_range all planned can state end =
    let sound = end.sound in
    let total : total_steps planned.limits planned.saved ≤ 2 ^ 20 =
    few_steps planned.plan planned.limits planned.saved can.hold can.accepted in
    let some : 1 ≤ state.step = omega (arith, end.step, can.limits.some_steps) in
    let size : length (concat state.front) ≡ length state.front * state.step =
    concat_long state.step state.front sound.long in
    let words : length (concat state.front) / state.step ≡ length state.front = words_saved state some sound.long in
    record {
      first_step = some;
      last_step = omega (arith, end.step, total);
      whole = ap (λ n. n * state.step) words ∙ sym size;
      some_words = subst (λ n. 1 ≤ n) (sym words) sound.some;
      most_words = subst (λ n. n ≤ 1048576) (sym words) (omega (arith, sound.few, few_words planned));
      most_pads = subst (λ n. n ≤ 67108864) (sym size)
          (few_pads _ _ _ _ sound.few end.step (accepted planned.plan planned.limits planned.saved can.accepted).trail);
      level = sound.level;
      until = sound.until;
      some_generations = end.seen;
      most_generations = sound.generations;
      most_keys = omega (arith, sound.room, few_slots planned.limits.exponent can.limits.most_exponent);
      generations = all state.seen (record { some = sound.filled; rising = sound.rising; once = sound.once });
    }

-- whatever the end, what is saved is in its ranges
pub saves_in_range :
    RulesTell → SearchesKeep → ((generations : List (List ℕ)) → AreGenerations generations → ComeOnce generations)
    → ((generations : List (List ℕ)) → ComeOnce generations → AreGenerations generations)
    → (planned : Planned) → CanRun planned → (ended : SearchOutcome) → outcome_of planned ≡ ended → (keep : Bool)
    → IfSome (saved_in keep ended) IsInRange
saves_in_range tell keeps come all planned can (WonAt step word) is keep = tt
saves_in_range tell keeps come all planned can (ExhaustedAt step) is keep = tt
saves_in_range tell keeps come all planned can (LimitAt state) is true =
    saved_in_range all planned can state (at_end tell keeps come planned can state is)
saves_in_range tell keeps come all planned can (LimitAt state) is false = tt
