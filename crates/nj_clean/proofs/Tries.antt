-- One press tried, the presses of one step, and of all.
use Rattle.std.proofs.Common.{◌≡◌, ◌≢◌, ◌↔◌, ℕ, zero, suc, ◌+◌, ◌-◌, ◌*◌, ◌<◌, ◌≤◌, ◌==◌, ◌⊎◌, inl, inr, Bool, true, false, IsTrue, List, [], ◌∷◌, ◌++◌, length, map, filter, fold, take, drop, set, get_or, cond, if◌then◌else◌, refl, ap, ap₂, sym, ◌∙◌, subst, arith, length-append}
use Rattle.std.proofs.lemmas.Bool.Decides.{nat_tests}
use Rattle.std.proofs.lemmas.List.{length-map, length-set, take-set, drop-set-lt, set-get_or}
use Rattle.std.proofs.lemmas.List.Sums.{fold-append}
use Rattle.nj_pad.specs.declared.Button.{Button}
use Rattle.nj_pad.specs.Pad.{pressed_bit}
use Rattle.nj_rules.specs.declared.record.Judged.{Judged}
use Rattle.nj_search_defs.specs.Game.{Word}
use Rattle.nj_game.specs.Plan.{Plan}
use Rattle.nj_game.specs.Words.{judged_of}
use Rattle.nj_replay.specs.Replay.{replayed_of}
use Rattle.nj_clean.specs.Presses.{Press, holds, press_at, buttons_of, presses_from, presses, released}
use Rattle.nj_clean.specs.Sweeps.{is_win, wins, tried, swept}
use Rattle.nj_clean.specs.Bench.{Alters}
use Rattle.nj_clean.proofs.Words.{buttons_in, presses_count}
use Rattle.nj_clean.proofs.Firsts.{drop_next}

-- ---- judgements

-- a word wins as its judgement says
pub wins_judged : (plan : Plan) (word : Word) (judged : Judged) → judged ≡ judged_of plan word
    → wins plan word ≡ is_win judged.verdict
unfolding wins replayed_of
wins_judged plan word judged e = ap (λ j. is_win j.verdict) (sym e)

pub reward_judged : (plan : Plan) (word : Word) (judged : Judged) → judged ≡ judged_of plan word
    → judged.reward ≡ (let r = replayed_of plan word in r.reward)
unfolding replayed_of
reward_judged plan word judged e = ap (λ j. j.reward) e

pub tried_won : (plan : Plan) (word : Word) (p : Press) (judged : Judged) → judged ≡ judged_of plan (released word p)
    → is_win judged.verdict ≡ true → tried plan word p ≡ released word p
tried_won plan word p judged e won =
    let yes_wins : wins plan (released word p) ≡ true = wins_judged plan (released word p) judged e ∙ won in
    rw yes_wins refl

pub tried_lost : (plan : Plan) (word : Word) (p : Press) (judged : Judged) → judged ≡ judged_of plan (released word p)
    → is_win judged.verdict ≡ false → tried plan word p ≡ word
tried_lost plan word p judged e lost =
    let no_wins : wins plan (released word p) ≡ false = wins_judged plan (released word p) judged e ∙ lost in
    rw no_wins refl

-- ---- one step is changed

pub alters_none : (step : ℕ) (word : Word) → Alters step word word
alters_none step word = record { before = refl; behind = refl; long = refl }

pub alters_set : (step : ℕ) (word : Word) (pad : ℕ) → Alters step word (set word step pad)
alters_set step word pad = record {
  before = take-set word step pad;
  behind = drop-set-lt (step + 1) word step pad (omega arith);
  long = length-set word step pad;
}

pub alters_on : (step : ℕ) (word mid new : Word) → Alters step word mid → Alters step mid new → Alters step word new
alters_on step word mid new a b =
    record { before = b.before ∙ a.before; behind = b.behind ∙ a.behind; long = b.long ∙ a.long }

pub alters_same : (step : ℕ) (word mid new : Word) → new ≡ mid → Alters step word mid → Alters step word new
alters_same step word mid new e a = subst (Alters step word) (sym e) a

-- a pad that is put back
pub put_back : (word : Word) (step x pad : ℕ) → pad ≡ get_or word step 0 → set (set word step x) step pad ≡ word
put_back [] step x pad e = refl
put_back (y ∷ ys) zero x pad e = ap (λ z. z ∷ ys) e
put_back (y ∷ ys) (suc step) x pad e = ap (λ zs. y ∷ zs) (put_back ys step x pad e)

-- ---- the buttons of a pad

-- the first of several buttons, and the others
button_on : {A B : Type 0} (f : B → A → B) (g : Button → A) (p : Button → Bool) (word next whole : B) (b : Button)
    (rest : List Button) →
    next ≡ fold f word (map g (filter p (b ∷ []))) → fold f word (map g (filter p (b ∷ rest))) ≡ whole
    → fold f next (map g (filter p rest)) ≡ whole
button_on f g p word next whole b rest now so_far = by_test (p b) now so_far
  where
    by_test : (t : Bool) → next ≡ fold f word (map g (if t then b ∷ [] else []))
        → fold f word (map g (if t then b ∷ filter p rest else filter p rest)) ≡ whole
        → fold f next (map g (filter p rest)) ≡ whole
    by_test true now so_far = ap (λ w. fold f w (map g (filter p rest))) now ∙ so_far
    by_test false now so_far = ap (λ w. fold f w (map g (filter p rest))) now ∙ so_far

button_counts : (p : Button → Bool) (b : Button) (rest : List Button)
    → length (filter p (b ∷ rest)) ≡ length (filter p (b ∷ [])) + length (filter p rest)
button_counts p b rest = by_test (p b)
  where
    by_test : (t : Bool) → length (if t then b ∷ filter p rest else filter p rest)
        ≡ length (if t then b ∷ [] else []) + length (filter p rest)
    by_test true = omega arith
    by_test false = omega arith

pub button_left : {A B : Type 0} (f : B → A → B) (g : Button → A) (p : Button → Bool) (word next whole : B) (b : Button)
    (all rest : List Button) → all ≡ b ∷ rest →
    next ≡ fold f word (map g (filter p (b ∷ []))) → fold f word (map g (filter p all)) ≡ whole
    → fold f next (map g (filter p rest)) ≡ whole
button_left f g p word next whole b all rest e now so_far =
    button_on f g p word next whole b rest now (ap (λ bs. fold f word (map g (filter p bs))) (sym e) ∙ so_far)

pub buttons_counted : (p : Button → Bool) (b : Button) (all rest : List Button) → all ≡ b ∷ rest
    → length (filter p all) ≡ length (filter p (b ∷ [])) + length (filter p rest)
buttons_counted p b all rest e = ap (λ bs. length (filter p bs)) e ∙ button_counts p b rest

-- ---- the steps of a word

-- the presses from a step on are those of the step and those behind it
pub step_on : (plan : Plan) (word next whole : Word) (step pad : ℕ) → step < length word → pad ≡ get_or word step pad →
    Alters step word next →
    next ≡ fold (tried plan) word (map (press_at step) (buttons_of pad)) →
    fold (tried plan) word (presses_from step (drop step word)) ≡ whole →
    fold (tried plan) next (presses_from (step + 1) (drop (step + 1) next)) ≡ whole
step_on plan word next whole step pad within is alters now so_far =
    let here = map (press_at step) (buttons_of pad) in
    ap (λ rest. fold (tried plan) next (presses_from (step + 1) rest)) alters.behind
    ∙ ap (λ w. fold (tried plan) w (presses_from (step + 1) (drop (step + 1) word))) now
    ∙ sym (fold-append (tried plan) word here (presses_from (step + 1) (drop (step + 1) word)))
    ∙ ap (λ rest. fold (tried plan) word (presses_from step rest)) (sym (drop_next word step pad within is))
    ∙ so_far

-- how many presses are left from a step on
pub step_counts : (word next : Word) (step pad : ℕ) → step < length word → pad ≡ get_or word step pad →
    Alters step word next →
    buttons_in (drop step word) ≡ length (buttons_of pad) + buttons_in (drop (step + 1) next)
step_counts word next step pad within is alters =
    ap buttons_in (drop_next word step pad within is)
    ∙ ap (λ rest. length (buttons_of pad) + buttons_in rest) (sym alters.behind)
