-- The pads of a word that wins a search are bytes, where those of the start and of the script are.
use Rattle.std.proofs.Common.{◌≡◌, ◌<◌, ◌+◌, ◌*◌, ℕ, zero, suc, Bool, true, false, cond, List, [], ◌∷◌, ◌++◌, replicate, Option, Some, None, refl, sym, ap, ◌∙◌, subst}
use Rattle.std.specs.List.{All}
use Rattle.std.proofs.lemmas.List.Elements.{All-append, All-cons, All-contains, All-filter, All-head, All-nil, All-replicate, All-tail, All-weaker}
use Rattle.nj_game.specs.Plan.{Plan, held_pads, movie_of}
use Rattle.nj_game.specs.Words.{allowed_of, game_of, ram_after}
use Rattle.nj_rules.specs.Pads.{allowed_pads, distinct, offered_pads}
use Rattle.nj_rules.specs.declared.record.InputSet.{InputSet}
use Rattle.nj_search_defs.specs.Candidates.{Candidate, candidates, candidates_from, extensions, word_of}
use Rattle.nj_search_defs.specs.Game.{Bounds, Fail, Game, Go, Verdict, Win, Word}
use Rattle.nj_search_defs.specs.Laws.{IsChild, ParentsStoodBefore, WinnerIsBest}
use Rattle.nj_search_defs.specs.Outcome.{Exhausted, ExhaustedAt, Goes, LimitAt, Next, Outcome, State, Won, WonAt, exhausted_or, judged_first, kept_of, lives_of, next, opening, outcome, searched, state_after, then_go_on, won_or}
use Rattle.nj_search_defs.specs.Pruning.{live, winner}
use Rattle.nj_plan.specs.Outcomes.{outcome_from, outcome_of}
use Rattle.nj_plan.specs.Plans.{Planned, bounds_in}

-- each number is a byte
abbrev pub AreBytes : List ℕ → Type 0
AreBytes pads = All (λ pad. pad < 256) pads

-- the pads of each set are bytes
abbrev pub SetsAreBytes : List InputSet → Type 0
SetsAreBytes sets = All (λ set. AreBytes set.pads) sets

-- ---- the pads that a script allows

either_bytes : (b : Bool) (xs ys : List ℕ) → AreBytes xs → AreBytes ys → AreBytes (cond b xs ys)
either_bytes true xs ys first second = first
either_bytes false xs ys first second = second

offered_bytes : (sets : List InputSet) (ram : List ℕ) → SetsAreBytes sets → AreBytes (offered_pads sets ram)
offered_bytes [] ram all = All-nil (λ pad. pad < 256)
offered_bytes (set ∷ sets) ram all =
    let rest = offered_bytes sets ram (All-tail (λ (s : InputSet). AreBytes s.pads) set sets all) in
    let stopped = either_bytes set.stop [] (offered_pads sets ram) (All-nil (λ pad. pad < 256)) rest in
    either_bytes _ (set.pads ++ cond set.stop [] (offered_pads sets ram)) (offered_pads sets ram)
    (All-append (λ pad. pad < 256) set.pads (cond set.stop [] (offered_pads sets ram))
    (All-head (λ (s : InputSet). AreBytes s.pads) set sets all) stopped)
    rest

distinct_bytes : (xs : List ℕ) → AreBytes xs → AreBytes (distinct xs)
distinct_bytes [] all = All-nil (λ pad. pad < 256)
distinct_bytes (x ∷ xs) all =
    All-cons (λ pad. pad < 256) x _ (All-head (λ pad. pad < 256) x xs all)
    (All-filter _ (λ pad. pad < 256) (distinct xs) (distinct_bytes xs (All-tail (λ pad. pad < 256) x xs all)))

allowed_bytes : (plan : Plan) (word : Word) → SetsAreBytes plan.script.inputs.sets →
    AreBytes ((game_of plan).allowed word)
unfolding game_of allowed_of allowed_pads
allowed_bytes plan word all =
    distinct_bytes (offered_pads plan.script.inputs.sets (ram_after plan word))
    (offered_bytes plan.script.inputs.sets (ram_after plan word) all)

-- ---- the words of a search

-- a candidate's word is of bytes
abbrev IsOfBytes : Candidate → Type 0
IsOfBytes c = AreBytes (word_of c)

extended_bytes : (number : ℕ) (word : Word) (pads : List ℕ) → AreBytes word → AreBytes pads →
    All IsOfBytes (extensions number word pads)
extended_bytes number word [] whole all = All-nil IsOfBytes
extended_bytes number word (pad ∷ pads) whole all =
    All-cons IsOfBytes (record { number = number; parent = word; pad = pad }) (extensions (number + 1) word pads)
    (All-append (λ p. p < 256) word (pad ∷ []) whole
    (All-cons (λ p. p < 256) pad [] (All-head (λ p. p < 256) pad pads all) (All-nil (λ p. p < 256))))
    (extended_bytes (number + 1) word pads whole (All-tail (λ p. p < 256) pad pads all))

exhausted_or-Won : (ks : List Candidate) (f : List Candidate → State) (c : Candidate) → exhausted_or ks f ≡ Won c → ⊥
exhausted_or-Won [] f c h = cc
exhausted_or-Won (k ∷ ks) f c h = cc

won_or-Won : (w : Option Candidate) (ks : List Candidate) (f : List Candidate → State) (c : Candidate) →
    won_or w (exhausted_or ks f) ≡ Won c → w ≡ Some c
won_or-Won (Some b) ks f c h = cc
won_or-Won None ks f c h = absurd (exhausted_or-Won ks f c h)

-- a step that is won is won by its winner
winner_of : (game : Game) (bounds : Bounds) (state : State) (c : Candidate) → next game bounds state ≡ Won c →
    winner game (lives_of game state) ≡ Some c
unfolding next
winner_of game bounds state c h = won_or-Won (winner game (lives_of game state)) (kept_of game bounds state)
    (state_after game bounds state) c h

-- what a step leads to has words of bytes
LeadsToBytes : Next → Type 0
LeadsToBytes (Won c) = IsOfBytes c
LeadsToBytes Exhausted = Unit {0}
LeadsToBytes (Goes state) = All AreBytes state.front

-- a search that is won is won by a word of bytes
EndsInBytes : Outcome → Type 0
EndsInBytes (WonAt step word) = AreBytes word
EndsInBytes (ExhaustedAt step) = Unit {0}
EndsInBytes (LimitAt state) = Unit {0}

module _ (parents : ParentsStoodBefore) (best : WinnerIsBest) (game : Game) (allowed : (word : Word) →
    AreBytes (game.allowed word)) where
  made_bytes : (i : ℕ) (words : List Word) → All AreBytes words → All IsOfBytes (candidates_from game i words)
  made_bytes i [] all = All-nil IsOfBytes
  made_bytes i (word ∷ words) all =
      All-append IsOfBytes (extensions (256 * i) word (game.allowed word)) (candidates_from game (i + 1) words)
      (extended_bytes (256 * i) word (game.allowed word) (All-head AreBytes word words all) (allowed word))
      (made_bytes (i + 1) words (All-tail AreBytes word words all))

  lives_bytes : (state : State) → All AreBytes state.front → All IsOfBytes (lives_of game state)
  unfolding lives_of live candidates
  lives_bytes state all = All-filter _ IsOfBytes (candidates game state.front) (made_bytes 0 state.front all)

  child_bytes : (front : List Word) → All AreBytes front → (word : Word) → IsChild game front word → AreBytes word
  child_bytes front all word child =
      subst AreBytes (sym child.is)
      (All-append (λ p. p < 256) child.parent (child.pad ∷ [])
      (All-contains AreBytes front child.parent all child.stood)
      (All-cons (λ p. p < 256) child.pad [] (All-contains (λ p. p < 256) (game.allowed child.parent) child.pad
      (allowed child.parent) child.is_allowed)
      (All-nil (λ p. p < 256))))

  leads_bytes : (bounds : Bounds) (state : State) (n : Next) → All AreBytes state.front → next game bounds state ≡ n →
      LeadsToBytes n
  unfolding LeadsToBytes
  leads_bytes bounds state (Won c) all h =
      All-contains IsOfBytes (lives_of game state) c (lives_bytes state all)
      (best game (lives_of game state) c (winner_of game bounds state c h)).is_live
  leads_bytes bounds state Exhausted all h = tt
  leads_bytes bounds state (Goes new) all h =
      All-weaker (IsChild game state.front) AreBytes (child_bytes state.front all) new.front
      (parents game bounds state new h)

  ends_by : (n : Next) (step : ℕ) (f : State → Outcome) → LeadsToBytes n →
      ((s : State) → All AreBytes s.front → EndsInBytes (f s)) →
      EndsInBytes (then_go_on step n f)
  unfolding LeadsToBytes EndsInBytes
  ends_by (Won c) step f led later = led
  ends_by Exhausted step f led later = tt
  ends_by (Goes s) step f led later = later s led

  searched_bytes : (bounds : Bounds) (left : ℕ) (state : State) → All AreBytes state.front →
      EndsInBytes (searched game bounds left state)
  unfolding searched EndsInBytes
  searched_bytes bounds zero state all = tt
  searched_bytes bounds (suc left) state all =
      ends_by (next game bounds state) (state.step + 1) (searched game bounds left)
      (leads_bytes bounds state (next game bounds state) all refl)
      (λ s front. searched_bytes bounds left s front)

  first_bytes : (v : Verdict) (o : Outcome) → EndsInBytes o → EndsInBytes (judged_first v o)
  unfolding EndsInBytes
  first_bytes Go o h = h
  first_bytes Win o h = All-nil (λ p. p < 256)
  first_bytes Fail o h = tt

  won_bytes : (bounds : Bounds) (limit step : ℕ) (word : Word) → outcome game bounds limit ≡ WonAt step word →
      AreBytes word
  unfolding outcome opening EndsInBytes
  won_bytes bounds limit step word h =
      subst EndsInBytes h (first_bytes (game.judged []).verdict (searched game bounds limit (opening game))
      (searched_bytes bounds limit (opening game)
      (All-cons AreBytes [] [] (All-nil (λ p. p < 256)) (All-nil AreBytes))))

held_bytes : (hold : ℕ) (word : Word) → AreBytes word → AreBytes (held_pads hold word)
held_bytes hold [] all = All-nil (λ p. p < 256)
held_bytes hold (pad ∷ word) all =
    All-append (λ p. p < 256) (replicate hold pad) (held_pads hold word)
    (All-replicate (λ p. p < 256) hold pad (All-head (λ p. p < 256) pad word all))
    (held_bytes hold word (All-tail (λ p. p < 256) pad word all))

-- the movie of a word that wins a planned search from its start is of bytes
pub won_movie_bytes : ParentsStoodBefore → WinnerIsBest → (planned : Planned) (step : ℕ) (word : Word) →
    planned.saved ≡ None → outcome_of planned ≡ WonAt step word →
    AreBytes planned.plan.start → SetsAreBytes planned.plan.script.inputs.sets → AreBytes (movie_of planned.plan word)
unfolding outcome_of movie_of
won_movie_bytes parents best planned step word none won start sets =
    All-append (λ p. p < 256) planned.plan.start (held_pads planned.plan.script.hold word) start
    (held_bytes planned.plan.script.hold word
    (won_bytes parents best (game_of planned.plan) (λ w. allowed_bytes planned.plan w sets) (bounds_in planned)
    planned.limits.steps step word (sym (ap (outcome_from planned) none) ∙ won)))
