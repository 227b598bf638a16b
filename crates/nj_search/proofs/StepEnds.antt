-- What a step answers, as the end of a search or its going on.
use Rattle.std.proofs.Common.{◌≡◌, Bool, ℕ, suc, ◌+◌, ◌/◌, ◌<◌, ◌≤◌, false, List, [], ◌∷◌, ◌++◌, length, replicate, get_or, refl, ap, ap₂, sym, subst, ◌∙◌, arith, append_assoc, append-nil}
use Rattle.std.specs.Prelude.{Option, Some, None, IfSome, IfNone, slice_get}
use Rattle.std.proofs.lemmas.Grind.{flat_map-append}
use Rattle.std.proofs.lemmas.Option.{slice_get_within, get_or_from_slice_get}
use Rattle.nj_search_defs.specs.Game.{Word}
use Rattle.nj_search_defs.specs.Candidates.{Candidate, word_of}
use Rattle.nj_search_defs.specs.Outcome.{State, Next, Won as NextWon, Exhausted as NextExhausted, Goes, WonAt, ExhaustedAt, then_go_on, searched}
use Rattle.nj_search_defs.specs.Laws.{StepsAreCounted, WinnersTellParents}
use Rattle.nj_rules.specs.declared.record.InputSet.{InputSet}
use Rattle.nj_rules.specs.Pads.{allowed_pads, named_pads}
use Rattle.nj_rows.specs.declared.Row.{Row}
use Rattle.nj_script.specs.Script.{Record}
use Rattle.nj_game.specs.Plan.{Plan, held_pads, movie_of}
use Rattle.nj_game.specs.Words.{ram_after, judged_of, allowed_of, game_of}
use Rattle.nj_expand.specs.declared.Stepped.{Stepped}
use Rattle.nj_expand.specs.declared.Stepped.TheVariants.{Won as WonRow, Exhausted as NothingKept, Go}
use Rattle.nj_expand.specs.Rows.{row_of}
use Rattle.nj_expand.specs.Held.{Held, next_in}
use Rattle.nj_expand.specs.Step.{IsStepBy, IsStep}
use Rattle.nj_search.specs.Ends.{told_of, answer_of}
use Rattle.nj_search.specs.Rests.{rest_of, IsFurther}
use Rattle.nj_search.specs.Starts.{unsaved, CanEnd, EndsIn, IsEnded}
use Rattle.nj_search.specs.declared.searching.Outcome.{Outcome}
use Rattle.nj_search.specs.declared.searching.Outcome.TheVariants.{Won, Exhausted}

-- ---- one more step of the rest

-- the rest of a search is its next step, and the rest behind it
rest_by : (held : Held) (steps : ℕ) (n : Next) → next_in held ≡ n
    → rest_of held (steps + 1) ≡ then_go_on (held.state.step + 1) n (searched (game_of held.plan) held.bounds steps)
unfolding rest_of searched next_in
rest_by held steps n e =
    let one_more : steps + 1 ≡ suc steps = omega arith in
    ap (λ k. rest_of held k) one_more
    ∙ ap (λ m. then_go_on (held.state.step + 1) m (searched (game_of held.plan) held.bounds steps)) e

-- ---- a winner

-- the row is that of the winner
pub record IsWonBy (held : Held) (row : Row) (c : Candidate) : Type 0 where
  pub next : next_in held ≡ NextWon c
  pub row_is : row ≡ row_of (game_of held.plan) c

winner_by : (n : Next) (old : Held) (row : Row) (new : Held) → next_in old ≡ n → IsStepBy n old (WonRow row) new
    → (new ≡ old) × ((c : Candidate) × IsWonBy old row c)
winner_by (NextWon c) old row new e h = (h.1, (c, record { next = e; row_is = h.0 }))
winner_by NextExhausted old row new e h = absurd h
winner_by (Goes state) old row new e h = absurd h

-- a step that is won leaves the search as it was, and its row is that of a winner
pub winner_in :
    (old : Held) (row : Row) (new : Held) → IsStep old (WonRow row) new
    → (new ≡ old) × ((c : Candidate) × IsWonBy old row c)
unfolding IsStep
winner_in old row new h = winner_by (next_in old) old row new refl h

-- so it may be asked again
pub still_won : (old : Held) (row : Row) (new : Held) → IsStep old (WonRow row) new → IsStep new (WonRow row) new
still_won old row new h = subst (λ (held : Held). IsStep held (WonRow row) new) (sym (winner_in old row new h).0) h

-- no word has more than 256 pads after it
pub FewPads : Plan → Type 0
FewPads plan = (word : Word) → length ((game_of plan).allowed word) ≤ 256

pub few_pads :
    (plan : Plan) → ((sets : List InputSet) (ram : List ℕ) → length (allowed_pads sets ram) ≤ length (named_pads sets))
    → length (named_pads plan.script.inputs.sets) ≤ 256 → FewPads plan
unfolding FewPads game_of allowed_of
few_pads plan law most word = omega (arith, law plan.script.inputs.sets (ram_after plan word), most)

-- the place of the winner's parent
pub record HasParent (held : Held) (row : Row) (c : Candidate) : Type 0 where
  pub place : row.number / 256 < length held.state.front
  pub parent : get_or held.state.front (row.number / 256) [] ≡ c.parent
  pub pad : row.pad ≡ c.pad

pub has_parent :
    WinnersTellParents → (held : Held) (row : Row) (c : Candidate) → FewPads held.plan → IsWonBy held row c
    → HasParent held row c
unfolding FewPads next_in row_of
has_parent law held row c few won =
    let number : row.number ≡ c.number = ap (λ (r : Row). r.number) won.row_is in
    let stands : slice_get held.state.front (row.number / 256) ≡ Some c.parent =
    ap (λ n. slice_get held.state.front (n / 256)) number
    ∙ law (game_of held.plan) held.bounds held.state c few won.next in
    record {
      place = slice_get_within held.state.front (row.number / 256) c.parent stands;
      parent = get_or_from_slice_get held.state.front (row.number / 256) c.parent [] stands;
      pad = ap (λ (r : Row). r.pad) won.row_is;
    }

held_pads-push :
    (hold : ℕ) (word : Word) (pad : ℕ) → held_pads hold (word ++ pad ∷ []) ≡ held_pads hold word ++ replicate hold pad
held_pads-push hold word pad =
    flat_map-append (λ p. replicate hold p) word (pad ∷ [])
    ∙ ap (λ m. held_pads hold word ++ m) (append-nil (replicate hold pad))

-- the movie of a word goes on with one more pad
pub movie_child :
    (plan : Plan) (word : Word) (pad : ℕ)
    → movie_of plan (word ++ pad ∷ []) ≡ movie_of plan word ++ replicate plan.script.hold pad
unfolding movie_of
movie_child plan word pad =
    ap (λ m. plan.start ++ m) (held_pads-push plan.script.hold word pad)
    ∙ sym (append_assoc plan.start (held_pads plan.script.hold word) (replicate plan.script.hold pad))

-- the winner's reward is in its row
reward_is :
    (held : Held) (row : Row) (c : Candidate) → IsWonBy held row c
    → (let judged = judged_of held.plan (word_of c) in judged.reward) ≡ row.reward
unfolding row_of game_of
reward_is held row c won = sym (ap (λ (r : Row). r.reward) won.row_is)

told_won : (plan : Plan) (keep : Bool) (step : ℕ) (word : Word)
    → answer_of plan keep (WonAt step word)
    ≡ unsaved (Won step (let judged = judged_of plan word in judged.reward) (movie_of plan word))
unfolding answer_of told_of
told_won plan keep step word = refl

-- what is told of a step that is won, however many steps may follow
pub won_told : (held : Held) (row : Row) (c : Candidate) (begun movie : List ℕ) (steps : ℕ) (keep : Bool)
    → IsWonBy held row c → HasParent held row c
    → begun ≡ movie_of held.plan (get_or held.state.front (row.number / 256) [])
    → movie ≡ begun ++ replicate held.plan.script.hold row.pad
    → answer_of held.plan keep (rest_of held (steps + 1)) ≡ unsaved (Won (held.state.step + 1) row.reward movie)
won_told held row c begun movie steps keep won parent is_begun is_movie =
    let whole : movie_of held.plan (word_of c) ≡ movie =
    movie_child held.plan c.parent c.pad
    ∙ ap₂ (λ (w : Word) (p : ℕ). movie_of held.plan w ++ replicate held.plan.script.hold p) (sym parent.parent)
    (sym parent.pad)
    ∙ ap (λ m. m ++ replicate held.plan.script.hold row.pad) (sym is_begun)
    ∙ sym is_movie in
    ap (answer_of held.plan keep) (rest_by held steps (NextWon c) won.next)
    ∙ told_won held.plan keep (held.state.step + 1) (word_of c)
    ∙ ap unsaved (ap₂ (Won (held.state.step + 1)) (reward_is held row c won) whole)

-- a winner with its parent
pub record IsWinner (held : Held) (row : Row) : Type 0 where
  pub candidate : Candidate
  pub won : IsWonBy held row candidate
  pub parent : HasParent held row candidate

pub winner_stands :
    WinnersTellParents
    → ((sets : List InputSet) (ram : List ℕ) → length (allowed_pads sets ram) ≤ length (named_pads sets))
    → (held : Held) (row : Row) (inputs : ℕ) → inputs ≡ length (named_pads held.plan.script.inputs.sets) → inputs ≤ 256
    → IsStep held (WonRow row) held → IsWinner held row
winner_stands places named held row inputs counted few step =
    let most : length (named_pads held.plan.script.inputs.sets) ≤ 256 = omega (arith, counted, few) in
    let found = (winner_in held row held step).1 in
    record {
      candidate = found.0;
      won = found.1;
      parent = has_parent places held row found.0 (few_pads held.plan named most) found.1;
    }

-- what is told of a winner is the outcome that is made of its row
pub won_outcome : (held : Held) (row : Row) (script : Record) (hold step : ℕ) (begun movie : List ℕ) (outcome : Outcome)
    → IsWinner held row → script ≡ held.plan.script → hold ≡ script.hold → step ≡ held.state.step
    → begun ≡ movie_of held.plan (get_or held.state.front (row.number / 256) [])
    → movie ≡ begun ++ replicate hold row.pad
    → outcome ≡ Won (step + 1) row.reward movie
    → EndsIn held outcome
won_outcome held row script hold step begun movie outcome winner is_script is_hold is_step is_begun is_movie is steps
    keep =
    let held_for : hold ≡ held.plan.script.hold = is_hold ∙ ap (λ (s : Record). s.hold) is_script in
    won_told held row winner.candidate begun movie steps keep winner.won winner.parent is_begun
    (is_movie ∙ ap (λ n. begun ++ replicate n row.pad) held_for)
    ∙ ap unsaved (ap (λ n. Won (n + 1) row.reward movie) (sym is_step) ∙ sym is)

-- what is told of the search as it was
pub told_before : (old new : Held) (outcome : Outcome) → new ≡ old → EndsIn new outcome → EndsIn old outcome
told_before old new outcome same told = subst (λ (held : Held). EndsIn held outcome) same told

-- ---- nothing is kept

exhausted_by : (n : Next) (old new : Held) → IsStepBy n old NothingKept new → (new ≡ old) × (n ≡ NextExhausted)
exhausted_by (NextWon c) old new h = absurd h
exhausted_by NextExhausted old new h = (h, refl)
exhausted_by (Goes state) old new h = absurd h

exhausted_in : (old new : Held) → IsStep old NothingKept new → (new ≡ old) × (next_in old ≡ NextExhausted)
unfolding IsStep
exhausted_in old new h = exhausted_by (next_in old) old new h

-- a step of which nothing is kept leaves the search as it was
pub exhausted_same : (old new : Held) → IsStep old NothingKept new → new ≡ old
exhausted_same old new h = (exhausted_in old new h).0

told_exhausted :
    (plan : Plan) (keep : Bool) (step : ℕ) → answer_of plan keep (ExhaustedAt step) ≡ unsaved (Exhausted step)
unfolding answer_of told_of
told_exhausted plan keep step = refl

-- what is told of it
pub exhausted_told : (old new : Held) (step : ℕ) → IsStep old NothingKept new → step ≡ new.state.step
    → EndsIn old (Exhausted (step + 1))
exhausted_told old new step h is_step steps keep =
    let ended = exhausted_in old new h in
    let same : old.state.step ≡ step = ap (λ (held : Held). held.state.step) (sym ended.0) ∙ sym is_step in
    ap (answer_of old.plan keep) (rest_by old steps NextExhausted ended.1)
    ∙ told_exhausted old.plan keep (old.state.step + 1)
    ∙ ap (λ n. unsaved (Exhausted (n + 1))) same

-- ---- the search goes on

goes_by :
    (n : Next) (old new : Held) → IsStepBy n old Go new
    → (state : State) × (n ≡ Goes state) × (new ≡ record old { state = state })
goes_by (NextWon c) old new h = absurd h
goes_by NextExhausted old new h = absurd h
goes_by (Goes state) old new h = (state, refl, h)

further_to :
    StepsAreCounted → (old : Held) (state : State) → old.spent ≡ false → next_in old ≡ Goes state
    → IsFurther old (record old { state = state })
unfolding rest_of next_in
further_to law old state unspent e = record {
  plan = refl;
  bounds = refl;
  unspent = unspent;
  step = law (game_of old.plan) old.bounds old.state state e;
  rest = λ steps. rest_by old steps (Goes state) e;
}

-- a search that goes on is one step further
pub further : StepsAreCounted → (old new : Held) → old.spent ≡ false → IsStep old Go new → IsFurther old new
unfolding IsStep
further law old new unspent h =
    let went = goes_by (next_in old) old new h in
    subst (IsFurther old) (sym went.2) (further_to law old went.0 unspent went.1)

-- ---- the end of any step

went_on :
    (old new : Held) → IsStep old Go new
    → (state : State) × (next_in old ≡ Goes state) × (new ≡ record old { state = state })
unfolding IsStep
went_on old new h = goes_by (next_in old) old new h

-- after a step the search is not spent
pub unspent_after :
    (old new : Held) (stepped : Stepped) → old.spent ≡ false → IsStep old stepped new → new.spent ≡ false
unspent_after old new (WonRow row) unspent h = ap (λ (held : Held). held.spent) (winner_in old row new h).0 ∙ unspent
unspent_after old new NothingKept unspent h = ap (λ (held : Held). held.spent) (exhausted_same old new h) ∙ unspent
unspent_after old new Go unspent h = ap (λ (held : Held). held.spent) (went_on old new h).2 ∙ unspent

-- and no step has a greater number than the limit
pub step_after :
    StepsAreCounted → (old new : Held) (stepped : Stepped) → old.spent ≡ false → IsStep old stepped new
    → old.state.step < 16777215
    → new.state.step ≤ 16777215
step_after law old new (WonRow row) unspent h lt =
    let same : new.state.step ≡ old.state.step = ap (λ (held : Held). held.state.step) (winner_in old row new h).0 in
    omega arith
step_after law old new NothingKept unspent h lt =
    let same : new.state.step ≡ old.state.step = ap (λ (held : Held). held.state.step) (exhausted_same old new h) in
    omega arith
step_after law old new Go unspent h lt = omega (arith, (further law old new unspent h).step)

-- the row of a step that was won is still that of the winner
pub can_end : (old new : Held) (stepped : Stepped) → IsStep old stepped new → CanEnd stepped new
can_end old new (WonRow row) h = still_won old row new h
can_end old new NothingKept h = tt
can_end old new Go h = tt

-- what a step ends the search with is told of the search before it
pub told_step :
    (old new : Held) (stepped : Stepped) (told : Option Outcome) → IsStep old stepped new → IsEnded stepped new told
    → IfSome told (EndsIn old)
told_step old new (WonRow row) None h e = tt
told_step old new (WonRow row) (Some outcome) h e = told_before old new outcome (winner_in old row new h).0 e
told_step old new NothingKept told h e =
    subst (λ (t : Option Outcome). IfSome t (EndsIn old)) (sym e)
    (exhausted_told old new new.state.step h refl)
told_step old new Go told h e =
    subst (λ (t : Option Outcome). IfSome t (EndsIn old)) (sym e) tt

-- and where it ends nothing the search is one step further
pub further_step :
    StepsAreCounted → (old new : Held) (stepped : Stepped) (told : Option Outcome) → old.spent ≡ false
    → IsStep old stepped new
    → IsEnded stepped new told → IfNone told (IsFurther old new)
further_step law old new (WonRow row) None unspent h e = absurd e
further_step law old new (WonRow row) (Some outcome) unspent h e = tt
further_step law old new NothingKept told unspent h e =
    subst (λ (t : Option Outcome). IfNone t (IsFurther old new)) (sym e) tt
further_step law old new Go told unspent h e =
    subst (λ (t : Option Outcome). IfNone t (IsFurther old new)) (sym e) (further law old new unspent h)
