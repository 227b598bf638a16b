-- How long the words of a search are, and how many steps it makes.
use Rattle.std.proofs.Common.{◌≡◌, ℕ, zero, suc, ◌+◌, ◌≤◌, List, [], ◌∷◌, length, refl, ap, subst, sym, arith}
use Rattle.std.specs.Prelude.{Option, Some, None}
use Rattle.std.specs.List.{All, Contains}
use Rattle.std.proofs.lemmas.List.{length-map}
use Rattle.std.proofs.lemmas.List.Elements.{All-nil, All-cons, All-filter, All-contains, All-contains_itself}
use Rattle.nj_search_defs.specs.Game.{Verdict, Go, Win, Fail, Game, Bounds}
use Rattle.nj_search_defs.specs.Candidates.{Candidate, word_of, candidates}
use Rattle.nj_search_defs.specs.Pruning.{live, winner}
use Rattle.nj_search_defs.specs.Outcome.{State, Next, Won, Exhausted, Goes, won_or, exhausted_or, lives_of, kept_of, state_after, next, Outcome, WonAt, ExhaustedAt, LimitAt, then_go_on, searched, opening, judged_first, outcome}
use Rattle.nj_search_defs.specs.Laws.{IsWonWithin, IsAtLimit, WonWordsAreAsLong, LimitsHaveFronts, StepsAreCounted}
use Rattle.nj_search_defs.specs.Sound.{IsEven}
use Rattle.nj_search_defs.specs.Going.{LimitsHaveFrontsFrom, WonWordsAreAsLongFrom}
use Rattle.nj_search_defs.proofs.Moves.{won_or-Goes, IsOf, made, longer, goes_to, winner_is_best, words_are_equally_long}

-- ---- the cases of a step

exhausted_or-Won : (ks : List Candidate) (f : List Candidate → State) (c : Candidate) → exhausted_or ks f ≡ Won c → ⊥
exhausted_or-Won [] f c h = cc
exhausted_or-Won (k ∷ ks) f c h = cc

won_or-Won : (w : Option Candidate) (ks : List Candidate) (f : List Candidate → State) (c : Candidate)
    → won_or w (exhausted_or ks f) ≡ Won c → w ≡ Some c
won_or-Won (Some b) ks f c h = cc
won_or-Won None ks f c h = absurd (exhausted_or-Won ks f c h)

-- a step that is won is won by its winner
pub winner_of : (game : Game) (bounds : Bounds) (state : State) (c : Candidate) → next game bounds state ≡ Won c
    → winner game (lives_of game state) ≡ Some c
unfolding next
winner_of game bounds state c h =
    won_or-Won (winner game (lives_of game state)) (kept_of game bounds state) (state_after game bounds state) c h

exhausted_or-some : (ks : List Candidate) (f : List Candidate → State) (new : State) → exhausted_or ks f ≡ Goes new
    → 1 ≤ length ks
exhausted_or-some [] f new h = absurd (cc)
exhausted_or-some (k ∷ ks) f new h = omega arith

-- a step that goes on keeps some candidate
pub some_kept : (game : Game) (bounds : Bounds) (state new : State) → next game bounds state ≡ Goes new
    → 1 ≤ length (kept_of game bounds state)
unfolding next
some_kept game bounds state new h =
    exhausted_or-some (kept_of game bounds state) (state_after game bounds state) new
    (won_or-Goes (winner game (lives_of game state))
    (exhausted_or (kept_of game bounds state) (state_after game bounds state)) new h)

-- so its front has some word
pub some_word : (game : Game) (bounds : Bounds) (state new : State) → next game bounds state ≡ Goes new
    → 1 ≤ length new.front
unfolding state_after
some_word game bounds state new h =
    let P : State → Type 0 = λ s. 1 ≤ length s.front in
    subst P (goes_to game bounds state new h)
    (rw (length-map (kept_of game bounds state) word_of) (some_kept game bounds state new h))

-- a step that goes on is one more
pub steps_are_counted : StepsAreCounted
unfolding state_after
steps_are_counted game bounds state new h = sym (ap (λ (s : State). s.step) (goes_to game bounds state new h))

-- ---- lengths

-- what a step leads to has its length
Leads : State → Next → Type 0
Leads state (Won c) = length (word_of c) ≡ state.step + 1
Leads state Exhausted = Unit {0}
Leads state (Goes new) = (new.step ≡ state.step + 1) × IsEven new

-- a live candidate's parent is a word of the front
lives_are_of : (game : Game) (state : State) → All (IsOf game state.front) (lives_of game state)
unfolding lives_of live candidates
lives_are_of game state =
    All-filter _ (IsOf game state.front) (candidates game state.front)
    (made game state.front 0 state.front (All-contains_itself state.front))

won_long : (game : Game) (state : State) (c : Candidate) → IsEven state → Contains (lives_of game state) c
    → length (word_of c) ≡ state.step + 1
won_long game state c even live =
    longer state.step c.parent c.pad
    (All-contains (λ word. length word ≡ state.step) state.front c.parent even.long
    (All-contains (IsOf game state.front) (lives_of game state) c (lives_are_of game state) live).stood)

leads : (game : Game) (bounds : Bounds) (state : State) (n : Next) → IsEven state → next game bounds state ≡ n
    → Leads state n
unfolding Leads
leads game bounds state (Won c) even h =
    won_long game state c even (winner_is_best game (lives_of game state) c (winner_of game bounds state c h)).is_live
leads game bounds state Exhausted even h = tt
leads game bounds state (Goes new) even h = (
  steps_are_counted game bounds state new h,
  record {
    some = some_word game bounds state new h;
    long = words_are_equally_long game bounds state new even.long h;
  },
)

-- how a search ends whose limit comes after so many steps in all
Ends : ℕ → Outcome → Type 0
Ends limit (WonAt step word) = IsWonWithin limit step word
Ends limit (ExhaustedAt step) = Unit {0}
Ends limit (LimitAt state) = IsAtLimit limit state

ends_by : (limit left : ℕ) (state : State) (n : Next) (f : State → Outcome) → state.step + suc left ≡ limit
    → Leads state n
    → ((s : State) → s.step + left ≡ limit → IsEven s → Ends limit (f s)) → Ends limit (then_go_on (state.step + 1) n f)
unfolding Leads Ends
ends_by limit left state (Won c) f all led later = record { long = led; within = omega arith }
ends_by limit left state Exhausted f all led later = tt
ends_by limit left state (Goes s) f all led later =
    later s (let e : s.step ≡ state.step + 1 = led.0 in omega arith) led.1

ends : (game : Game) (bounds : Bounds) (limit left : ℕ) (state : State) → state.step + left ≡ limit → IsEven state
    → Ends limit (searched game bounds left state)
unfolding Ends searched
ends game bounds limit zero state all even =
    let e : state.step ≡ limit = omega arith in
    record {
      step = e;
      some = even.some;
      long = subst (λ (n : ℕ). All (λ word. length word ≡ n) state.front) e even.long;
    }
ends game bounds limit (suc left) state all even =
    ends_by limit left state (next game bounds state) (searched game bounds left) all
    (leads game bounds state (next game bounds state) even refl)
    (λ s rest even'. ends game bounds limit left s rest even')

opens_even : (game : Game) → IsEven (opening game)
unfolding opening
opens_even game = record {
  some = omega arith;
  long = All-cons (λ word. length word ≡ 0) [] [] refl (All-nil (λ word. length word ≡ 0));
}

first_ends : (limit : ℕ) (v : Verdict) (o : Outcome) → Ends limit o → Ends limit (judged_first v o)
unfolding Ends
first_ends limit Go o e = e
first_ends limit Win o e = record { long = refl; within = omega arith }
first_ends limit Fail o e = tt

outcome_ends : (game : Game) (bounds : Bounds) (limit : ℕ) → Ends limit (outcome game bounds limit)
unfolding outcome opening
outcome_ends game bounds limit =
    first_ends limit (game.judged []).verdict (searched game bounds limit (opening game))
    (ends game bounds limit limit (opening game) (omega arith) (opens_even game))

pub won_words_are_as_long : WonWordsAreAsLong
unfolding Ends
won_words_are_as_long game bounds limit step word h = subst (Ends limit) h (outcome_ends game bounds limit)

pub limits_have_fronts : LimitsHaveFronts
unfolding Ends
limits_have_fronts game bounds limit state h = subst (Ends limit) h (outcome_ends game bounds limit)

pub limits_have_fronts_from : LimitsHaveFrontsFrom
unfolding Ends
limits_have_fronts_from game bounds limit from state even h =
    subst (Ends (from.step + limit)) h (ends game bounds (from.step + limit) limit from refl even)

pub won_words_are_as_long_from : WonWordsAreAsLongFrom
unfolding Ends
won_words_are_as_long_from game bounds limit from step word even h =
    subst (Ends (from.step + limit)) h (ends game bounds (from.step + limit) limit from refl even)
