-- The laws of a step and of a whole search.
use Rattle.std.proofs.Common.{◌≡◌, ℕ, zero, suc, ◌+◌, ◌*◌, ◌≤◌, Bool, true, false, cond, List, [], ◌∷◌, ◌++◌, length, refl, ap, subst, ◌∙◌, arith, zero-add, length-append}
use Rattle.std.specs.Prelude.{Option, Some, None, filter, slice_get}
use Rattle.std.specs.List.{All, Contains}
use Rattle.std.proofs.lemmas.List.{length-map}
use Rattle.std.proofs.lemmas.List.Elements.{All-nil, All-cons, All-head, All-tail, All-weaker, All-append, All-filter, All-map, All-contains, All-contains_itself, filter_passes}
use Rattle.nj_search_defs.specs.Game.{Word, Verdict, Go, Win, Fail, Game, Bounds}
use Rattle.nj_search_defs.specs.Candidates.{Candidate, word_of, extensions, candidates_from, candidates}
use Rattle.nj_search_defs.specs.Order.{in_order}
use Rattle.nj_search_defs.specs.Pruning.{judged_of, is_before, is_alike, is_win, live, winner, fresh, kept}
use Rattle.nj_search_defs.specs.Outcome.{State, Next, Won, Exhausted, Goes, won_or, exhausted_or, lives_of, fresh_of, kept_of, state_after, next, Outcome, WonAt, ExhaustedAt, LimitAt, then_go_on, searched, opening, judged_first, outcome}
use Rattle.nj_search_defs.specs.Laws.{gone_on, LimitsAdd, FrontIsBounded, IsChild, ParentsStoodBefore, WordsAreEquallyLong, IsBestWin, WinnerIsBest, WonWins}
use Rattle.nj_search_defs.specs.Going.{WonWinsFrom}
use Rattle.nj_search_defs.proofs.Preference.{is_before_orders}
use Rattle.nj_search_defs.proofs.Limited.{limited_few, All-limited}
use Rattle.nj_search_defs.proofs.Orders.{All-in_order, IsHeaded, headed}

then_gone_on : (step : ℕ) (n : Next) (f g h : State → Outcome) → ((s : State) → f s ≡ gone_on (g s) h)
    → then_go_on step n f ≡ gone_on (then_go_on step n g) h
then_gone_on step (Won c) f g h same = refl
then_gone_on step Exhausted f g h same = refl
then_gone_on step (Goes s) f g h same = same s

pub limits_add : LimitsAdd
unfolding searched
limits_add game bounds zero b state = ap (λ n. searched game bounds n state) (zero-add b)
limits_add game bounds (suc a) b state =
    let e : suc a + b ≡ suc (a + b) = omega arith in
    ap (λ n. searched game bounds n state) e
    ∙ then_gone_on (state.step + 1) (next game bounds state) (searched game bounds (a + b))
    (searched game bounds a) (searched game bounds b)
    (λ s. limits_add game bounds a b s)

pub won_or-Goes : (w : Option Candidate) (n : Next) (new : State) → won_or w n ≡ Goes new → n ≡ Goes new
won_or-Goes (Some c) n new h = absurd (cc)
won_or-Goes None n new h = h

state_in : State → Next → State
state_in other (Won c) = other
state_in other Exhausted = other
state_in other (Goes s) = s

pub exhausted_or-Goes : (ks : List Candidate) (f : List Candidate → State) (new : State) → exhausted_or ks f ≡ Goes new
    → f ks ≡ new
unfolding state_in
exhausted_or-Goes [] f new h = absurd (cc)
exhausted_or-Goes (k ∷ ks) f new h = ap (state_in new) h

-- a step that goes on leads to the state after it
pub goes_to : (game : Game) (bounds : Bounds) (state new : State) → next game bounds state ≡ Goes new
    → state_after game bounds state (kept_of game bounds state) ≡ new
unfolding next
goes_to game bounds state new h =
    exhausted_or-Goes (kept_of game bounds state) (state_after game bounds state) new
    (won_or-Goes (winner game (lives_of game state))
    (exhausted_or (kept_of game bounds state) (state_after game bounds state)) new h)

-- no more candidates are kept than a front may have
pub few_kept : (game : Game) (bounds : Bounds) (state : State) → length (kept_of game bounds state) ≤ bounds.most
unfolding kept_of kept
few_kept game bounds state =
    limited_few (is_alike game) bounds.most bounds.quota (in_order (is_before game) (fresh_of game bounds state))

pub front_is_bounded : FrontIsBounded
unfolding state_after
front_is_bounded game bounds state new h =
    let P : State → Type 0 = λ s. length s.front ≤ bounds.most in
    subst P (goes_to game bounds state new h)
    (rw (length-map (kept_of game bounds state) word_of) (few_kept game bounds state))

-- a candidate of a front: its parent is one of the words, and its pad one of those allowed after it
pub record IsOf (game : Game) (front : List Word) (c : Candidate) : Type 0 where
  pub stood : Contains front c.parent
  pub is_allowed : Contains (game.allowed c.parent) c.pad

extended : (game : Game) (front : List Word) (number : ℕ) (word : Word) (pads : List ℕ) → Contains front word
    → All (Contains (game.allowed word)) pads → All (IsOf game front) (extensions number word pads)
extended game front number word [] stood all = All-nil (IsOf game front)
extended game front number word (pad ∷ pads) stood all =
    All-cons (IsOf game front) (record { number = number; parent = word; pad = pad })
    (extensions (number + 1) word pads)
    (record { stood = stood; is_allowed = All-head (Contains (game.allowed word)) pad pads all })
    (extended game front (number + 1) word pads stood (All-tail (Contains (game.allowed word)) pad pads all))

pub made : (game : Game) (front : List Word) (i : ℕ) (words : List Word) → All (Contains front) words
    → All (IsOf game front) (candidates_from game i words)
made game front i [] all = All-nil (IsOf game front)
made game front i (word ∷ words) all =
    All-append (IsOf game front) (extensions (256 * i) word (game.allowed word)) (candidates_from game (i + 1) words)
    (extended game front (256 * i) word (game.allowed word) (All-head (Contains front) word words all)
    (All-contains_itself (game.allowed word)))
    (made game front (i + 1) words (All-tail (Contains front) word words all))

-- the kept of a step are candidates of its front
kept_are_of : (game : Game) (bounds : Bounds) (state : State) → All (IsOf game state.front) (kept_of game bounds state)
unfolding kept_of kept fresh_of fresh lives_of live candidates
kept_are_of game bounds state =
    All-limited (is_alike game) bounds.most bounds.quota (IsOf game state.front)
    (in_order (is_before game) (fresh_of game bounds state))
    (All-in_order (is_before game) (IsOf game state.front) (fresh_of game bounds state)
    (All-filter _ (IsOf game state.front) (lives_of game state)
    (All-filter _ (IsOf game state.front) (candidates game state.front)
    (made game state.front 0 state.front (All-contains_itself state.front)))))

pub parents_stood_before : ParentsStoodBefore
unfolding state_after
parents_stood_before game bounds state new h =
    let P : State → Type 0 = λ s. All (IsChild game state.front) s.front in
    subst P (goes_to game bounds state new h)
    (All-map (IsChild game state.front) word_of (kept_of game bounds state)
    (All-weaker (IsOf game state.front) (λ c. IsChild game state.front (word_of c))
    (λ c o. record { parent = c.parent; pad = c.pad; stood = o.stood; is_allowed = o.is_allowed; is = refl })
    (kept_of game bounds state) (kept_are_of game bounds state)))

pub longer : (n : ℕ) (word : Word) (pad : ℕ) → length word ≡ n → length (word ++ pad ∷ []) ≡ n + 1
longer n word pad h = grind (arith, length-append)

pub words_are_equally_long : WordsAreEquallyLong
unfolding state_after
words_are_equally_long game bounds state new long h =
    let P : State → Type 0 = λ s. All (λ word. length word ≡ s.step) s.front in
    subst P (goes_to game bounds state new h)
    (All-map (λ word. length word ≡ state.step + 1) word_of (kept_of game bounds state)
    (All-weaker (IsOf game state.front) (λ c. length (word_of c) ≡ state.step + 1)
    (λ c o. longer state.step c.parent c.pad
    (All-contains (λ word. length word ≡ state.step) state.front c.parent long o.stood))
    (kept_of game bounds state) (kept_are_of game bounds state)))

wins_by : (v : Verdict) → is_win v ≡ true → v ≡ Win
wins_by Go h = absurd (cc)
wins_by Win h = refl
wins_by Fail h = absurd (cc)

-- what a filter keeps was there
filter_stood : (p : Candidate → Bool) (xs : List Candidate) → All (Contains xs) (filter p xs)
filter_stood p xs = All-filter p (Contains xs) xs (All-contains_itself xs)

first_of_filter : (game : Game) (p : Candidate → Bool) (best : Candidate) (xs : List Candidate)
    → All (λ c. is_before game c best ≡ false) (filter p xs)
    → All (λ c. p c ≡ true → is_before game c best ≡ false) xs
first_of_filter game p best [] all = All-nil (λ c. p c ≡ true → is_before game c best ≡ false)
first_of_filter game p best (x ∷ xs) all =
    elim (p x) as (λ b. p x ≡ b → All (λ c. is_before game c best ≡ false) (cond b (x ∷ filter p xs) (filter p xs))
    → All (λ c. p c ≡ true → is_before game c best ≡ false) (x ∷ xs)) [
      | true ↦ λ e all. All-cons (λ c. p c ≡ true → is_before game c best ≡ false) x xs
          (λ h. All-head (λ c. is_before game c best ≡ false) x (filter p xs) all)
          (first_of_filter game p best xs (All-tail (λ c. is_before game c best ≡ false) x (filter p xs) all))
      | false ↦ λ e all. All-cons (λ c. p c ≡ true → is_before game c best ≡ false) x xs
          (λ h. absurd (cc)) (first_of_filter game p best xs all)
    ] refl all

best_of : (game : Game) (lives : List Candidate) (best : Candidate) (wins sorted : List Candidate)
    → wins ≡ filter (λ c. is_win (judged_of game c).verdict) lives
    → All (λ c. Contains lives c) sorted → All (λ c. is_win (judged_of game c).verdict ≡ true) sorted
    → IsHeaded (is_before game) sorted wins → slice_get sorted 0 ≡ Some best → IsBestWin game lives best
best_of game lives best wins [] is stood win head h = absurd (cc)
best_of game lives best wins (c ∷ cs) is stood win head h =
    let P : Candidate → Type 0 = IsBestWin game lives in
    let same : c ≡ best = cc in
    subst P same (record {
      is_live = All-head (λ c. Contains lives c) c cs stood;
      wins = wins_by (judged_of game c).verdict (All-head (λ c. is_win (judged_of game c).verdict ≡ true) c cs win);
      no_better =
          All-weaker (λ d. is_win (judged_of game d).verdict ≡ true → is_before game d c ≡ false)
          (λ d. (judged_of game d).verdict ≡ Win → is_before game d c ≡ false)
          (λ d k e. k (ap is_win e)) lives
          (first_of_filter game (λ d. is_win (judged_of game d).verdict) c lives
          (subst (λ (w : List Candidate). All (λ d. is_before game d c ≡ false) w) is head));
    })

pub winner_is_best : WinnerIsBest
unfolding winner
winner_is_best game lives best h =
    let p : Candidate → Bool = λ c. is_win (judged_of game c).verdict in
    best_of game lives best (filter p lives) (in_order (is_before game) (filter p lives)) refl
    (All-in_order (is_before game) (Contains lives) (filter p lives) (filter_stood p lives))
    (All-in_order (is_before game) (λ c. p c ≡ true) (filter p lives) (filter_passes p lives))
    (headed (is_before game) (is_before_orders game) (filter p lives)) h

-- each word that an outcome has won with wins
WonFrom : Game → Outcome → Type 0
WonFrom game o = (step : ℕ) (word : Word) → o ≡ WonAt step word → (game.judged word).verdict ≡ Win

word_in : Outcome → Word
word_in (WonAt step word) = word
word_in (ExhaustedAt step) = []
word_in (LimitAt state) = []

won_step : (game : Game) (step : ℕ) (w : Option Candidate) (ks : List Candidate) (g : List Candidate → State) (f : State
    → Outcome)
    → ((best : Candidate) → w ≡ Some best → (judged_of game best).verdict ≡ Win)
    → ((s : State) → WonFrom game (f s)) → WonFrom game (then_go_on step (won_or w (exhausted_or ks g)) f)
unfolding WonFrom word_in
won_step game step (Some c) ks g f wins later =
    λ s word h. let e : word_of c ≡ word = ap word_in h in
    let P : Word → Type 0 = λ w. (game.judged w).verdict ≡ Win in subst P e (wins c refl)
won_step game step None [] g f wins later = λ s word h. absurd (cc)
won_step game step None (k ∷ ks) g f wins later = later (g (k ∷ ks))

searched_wins : (game : Game) (bounds : Bounds) (limit : ℕ) (state : State)
    → WonFrom game (searched game bounds limit state)
unfolding WonFrom searched next
searched_wins game bounds zero state = λ s word h. absurd (cc)
searched_wins game bounds (suc limit) state =
    won_step game (state.step + 1) (winner game (lives_of game state)) (kept_of game bounds state)
    (state_after game bounds state) (searched game bounds limit)
    (λ best h. (winner_is_best game (lives_of game state) best h).wins)
    (λ s. searched_wins game bounds limit s)

first_wins : (game : Game) (v : Verdict) (o : Outcome) → (game.judged []).verdict ≡ v → WonFrom game o
    → WonFrom game (judged_first v o)
unfolding WonFrom word_in
first_wins game Go o is wins = wins
first_wins game Win o is wins =
    λ s word h. let e : [] ≡ word = ap word_in h in
    let P : Word → Type 0 = λ w. (game.judged w).verdict ≡ Win in subst P e is
first_wins game Fail o is wins = λ s word h. absurd (cc)

pub won_wins : WonWins
unfolding WonFrom outcome
won_wins game bounds limit step word h =
    first_wins game (game.judged []).verdict (searched game bounds limit (opening game)) refl
    (searched_wins game bounds limit (opening game)) step word h

pub won_wins_from : WonWinsFrom
unfolding WonFrom
won_wins_from game bounds limit from step word h = searched_wins game bounds limit from step word h
