-- The end of a step: what is decided of the rows is what the search decides of its candidates.
use Rattle.std.proofs.Common.{◌≡◌, ℕ, ◌<◌, ◌≤◌, List, [], ◌∷◌, length, map, refl, ap, sym, ◌∙◌, arith, true, false, ◌==◌, eq-eqb}
use Rattle.std.specs.Prelude.{Option, Some, None, option_map, filter, slice_get}
use Rattle.std.proofs.lemmas.Bool.{eqb-true, both_ways}
use Rattle.std.proofs.lemmas.List.{length-map}
use Rattle.nj_search_defs.specs.Candidates.{Candidate}
use Rattle.nj_search_defs.specs.Order.{in_order}
use Rattle.nj_search_defs.specs.Pruning.{is_before, is_alike, winner, fresh, kept, generation}
use Rattle.nj_search_defs.specs.Outcome.{State, Next, won_or, exhausted_or, lives_of, seen_of, fresh_of, kept_of, state_after, next}
use Rattle.nj_game.specs.Words.{game_of}
use Rattle.nj_rows.specs.declared.Row.{Row}
use Rattle.nj_rows.specs.Order.{is_win_row, is_row_before, is_alike_row}
use Rattle.nj_seen.specs.Rows.{IsRising, winner_row, fresh_rows, kept_rows, generation_rows}
use Rattle.nj_candidate.specs.Rows.{row_of}
use Rattle.nj_expand.specs.declared.Stepped.TheVariants.{Won, Exhausted, Go}
use Rattle.nj_expand.specs.Held.{Held, live_rows, kept_in, next_in}
use Rattle.nj_expand.specs.Step.{IsStepBy, IsStep}
use Rattle.nj_expand.specs.Ending.{AreFew, fresh_rows_in}
use Rattle.nj_search_defs.specs.Quota.{limited}
use Rattle.nj_search_defs.proofs.Limited.{limited_few}
use Rattle.nj_expand.proofs.Buckets.{even_buckets}
use Rattle.nj_expand.proofs.Rising.{AreRising, lives_rise, filter_rises, rows_rise, kept_are_placed}
use Rattle.nj_expand.proofs.Nexts.{AreKept}
use Rattle.nj_expand.proofs.Lifts.{Prefers, winner-map, fresh-map, kept-map, generation-map}

-- the rows of the live candidates rise
pub live_rows_rise : (held : Held) → AreFew held → IsRising (live_rows held)
unfolding live_rows
live_rows_rise held few =
    rows_rise (game_of held.plan) (lives_of (game_of held.plan) held.state)
    (lives_rise (game_of held.plan) held.state few)

fresh_rise : (held : Held) → AreFew held → AreRising (fresh_of (game_of held.plan) held.bounds held.state)
unfolding fresh_of fresh
fresh_rise held few =
    filter_rises _ (lives_of (game_of held.plan) held.state) (lives_rise (game_of held.plan) held.state few)

-- the winner among the rows is the winner's row
pub winner_in : (held : Held) → AreFew held → Prefers → winner_row (live_rows held)
    ≡ option_map (row_of (game_of held.plan)) (winner (game_of held.plan) (lives_of (game_of held.plan) held.state))
unfolding live_rows
winner_in held few law =
    winner-map (game_of held.plan) law (lives_of (game_of held.plan) held.state)
    (lives_rise (game_of held.plan) held.state few)

-- the fresh rows are the rows of the fresh
fresh_in : (held : Held) → fresh_rows (seen_of held.bounds held.state) (live_rows held)
    ≡ map (row_of (game_of held.plan)) (fresh_of (game_of held.plan) held.bounds held.state)
unfolding live_rows fresh_of
fresh_in held =
    fresh-map (game_of held.plan) (seen_of held.bounds held.state) (lives_of (game_of held.plan) held.state)

-- the kept rows are the rows of the kept
pub kept_rows_in : (held : Held) → AreFew held → Prefers
    → kept_rows held.bounds.most held.bounds.quota (fresh_rows (seen_of held.bounds held.state) (live_rows held))
    ≡ map (row_of (game_of held.plan)) (kept_in held)
unfolding kept_in kept_of
kept_rows_in held few law =
    ap (kept_rows held.bounds.most held.bounds.quota) (fresh_in held)
    ∙ kept-map (game_of held.plan) law (even_buckets held.plan) held.bounds.most held.bounds.quota
    (fresh_of (game_of held.plan) held.bounds held.state) (fresh_rise held few)

-- the rows' new generation is the candidates'
pub generation_in : (held : Held) → generation_rows (fresh_rows (seen_of held.bounds held.state) (live_rows held))
    ≡ generation (game_of held.plan) (fresh_of (game_of held.plan) held.bounds held.state)
generation_in held =
    ap generation_rows (fresh_in held)
    ∙ generation-map (game_of held.plan) (fresh_of (game_of held.plan) held.bounds held.state)

-- ---- the three ends

won_by : (held : Held) (row : Row) (rest : Next) (w : Option Candidate)
    → option_map (row_of (game_of held.plan)) w ≡ Some row → IsStepBy (won_or w rest) held (Won row) held
won_by held row rest (Some c) e = (cc, refl)
won_by held row rest None e = absurd (cc)

pub won_step : (held : Held) (row : Row) → AreFew held → Prefers → winner_row (live_rows held) ≡ Some row
    → IsStep held (Won row) held
unfolding IsStep next_in next
won_step held row few law e =
    let game = game_of held.plan in
    won_by held row (exhausted_or (kept_of game held.bounds held.state) (state_after game held.bounds held.state))
    (winner game (lives_of game held.state))
    (sym (winner_in held few law) ∙ e)

exhausted_by : (held : Held) (goes : List Candidate → State) (w : Option Candidate) (ks : List Candidate)
    → option_map (row_of (game_of held.plan)) w ≡ None
    → map (row_of (game_of held.plan)) ks ≡ [] → IsStepBy (won_or w (exhausted_or ks goes)) held Exhausted held
exhausted_by held goes (Some c) ks e f = absurd (cc)
exhausted_by held goes None [] e f = refl
exhausted_by held goes None (k ∷ ks) e f = absurd (cc)

pub exhausted_step : (held : Held) → AreFew held → Prefers → winner_row (live_rows held) ≡ None
    → kept_rows held.bounds.most held.bounds.quota (fresh_rows (seen_of held.bounds held.state) (live_rows held)) ≡ []
    → IsStep held Exhausted held
unfolding IsStep next_in next kept_in
exhausted_step held few law e f =
    let game = game_of held.plan in
    exhausted_by held (state_after game held.bounds held.state) (winner game (lives_of game held.state))
    (kept_of game held.bounds held.state)
    (sym (winner_in held few law) ∙ e) (sym (kept_rows_in held few law) ∙ f)

goes_by : (held new : Held) (goes : List Candidate → State) (w : Option Candidate) (ks : List Candidate)
    → option_map (row_of (game_of held.plan)) w ≡ None
    → 0 < length ks → new ≡ record held { state = goes ks } → IsStepBy (won_or w (exhausted_or ks goes)) held Go new
goes_by held new goes (Some c) ks e some is = absurd (cc)
goes_by held new goes None [] e some is = absurd (omega (arith, some))
goes_by held new goes None (k ∷ ks) e some is = is

pub goes_step : (held new : Held) → AreFew held → Prefers → winner_row (live_rows held) ≡ None
    → 0 < length (kept_in held)
    → new ≡ record held { state = state_after (game_of held.plan) held.bounds held.state (kept_in held) }
    → IsStep held Go new
unfolding IsStep next_in next kept_in
goes_step held new few law e some is =
    let game = game_of held.plan in
    goes_by held new (state_after game held.bounds held.state) (winner game (lives_of game held.state))
    (kept_of game held.bounds held.state)
    (sym (winner_in held few law) ∙ e) some is

-- the rows that are kept are as many as the candidates
pub kept_count : (held : Held) (rows : List Row) → rows ≡ map (row_of (game_of held.plan)) (kept_in held)
    → length rows ≡ length (kept_in held)
kept_count held rows e = ap length e ∙ length-map (kept_in held) (row_of (game_of held.plan))

-- ---- what is kept

-- no more are kept than a front may have
pub kept_few : (h : Held) → length (kept_in h) ≤ h.bounds.most
unfolding kept_in kept_of kept
kept_few h =
    limited_few (is_alike (game_of h.plan)) h.bounds.most h.bounds.quota
    (in_order (is_before (game_of h.plan)) (fresh_of (game_of h.plan) h.bounds h.state))

-- the kept of a search are candidates of its front, no more than its bound
pub are_kept : (h : Held) (rows : List Row) → AreFew h → Prefers
    → rows ≡ kept_rows h.bounds.most h.bounds.quota (fresh_rows (seen_of h.bounds h.state) (live_rows h))
    → AreKept h.plan h.bounds.most h.state.front (kept_in h) rows
unfolding kept_in
are_kept h rows few law is = record {
  placed = kept_are_placed (game_of h.plan) h.bounds h.state few;
  rows_are = is ∙ kept_rows_in h few law;
  few = kept_few h;
}

-- ---- what is found of the rows

-- the winner among rows that tell it
pub winner_found : (h : Held) (rows : List Row) (found : Option Row) → winner_row rows ≡ winner_row (live_rows h)
    → found ≡ slice_get (in_order is_row_before (filter is_win_row rows)) 0
    → winner_row (live_rows h) ≡ found
unfolding winner_row
winner_found h rows found same is = sym same ∙ sym is

-- the rows that are kept of those that are fresh in some order
pub kept_found : (h : Held) (most quota : ℕ) (fresh kept : List Row) → most ≡ h.bounds.most → quota ≡ h.bounds.quota
    → in_order is_row_before fresh ≡ in_order is_row_before (fresh_rows_in h)
    → kept ≡ limited is_alike_row most quota (in_order is_row_before fresh)
    → kept ≡ kept_rows h.bounds.most h.bounds.quota (fresh_rows_in h)
unfolding kept_rows
kept_found h most quota fresh kept same bound order is = is ∙ (λ i. limited is_alike_row (same i) (bound i) (order i))

-- rows of which there are none, and of which there are some
pub none_found : (rows : List Row) (n : ℕ) → n ≡ length rows → (n == 0) ≡ true → rows ≡ []
none_found rows n is e = none rows (sym is ∙ eqb-true n 0 e) where
  none : (rows : List Row) → length rows ≡ 0 → rows ≡ []
  none [] e = refl
  none (row ∷ rows) e = absurd (omega arith)

pub some_found : (rows : List Row) (n : ℕ) → n ≡ length rows → (n == 0) ≡ false → 0 < length rows
some_found [] n is e = absurd (both_ways (n == 0) e (eq-eqb n 0 is))
some_found (row ∷ rows) n is e = omega arith
