-- What is known once all workers of a step have worked.
use Rattle.std.proofs.Common.{◌≡◌, ℕ, ◌+◌, ◌-◌, ◌*◌, ◌≤◌, ◌==◌, Bool, true, List, [], ◌∷◌, length, refl, sym, ap, ◌∙◌, subst, arith}
use Rattle.std.specs.Prelude.{map, sum}
use Rattle.std.specs.List.{All, sum_by, range_with_len}
use Rattle.std.specs.List.Sorted.{IsPermutation}
use Rattle.std.proofs.Math.Nat.{mul-le-mul_left}
use Rattle.std.proofs.lemmas.Bool.{eqb-true}
use Rattle.nj_claims.specs.Passes.{TableView, PassView, first_pass}
use Rattle.nj_pieces.specs.declared.parts.Pieces.{Pieces}
use Rattle.nj_pieces.specs.declared.parts.Taker.{Taker}
use Rattle.nj_pieces.specs.Takers.{count_of, taken_of, AreTakersOf}
use Rattle.nj_rows.specs.declared.Row.{Row}
use Rattle.nj_expand.specs.Held.{Held, live_rows, candidates_in}
use Rattle.nj_hands.specs.declared.hand.WorkEnd.{WorkEnd}
use Rattle.nj_hands.specs.Claimed.{AreClaimed}
use Rattle.nj_hands.specs.Shares.{pieces_in, piece_runs, rows_of, runs_of}
use Rattle.nj_workers.specs.Counted.{AreCounted}
use Rattle.nj_workers.specs.Desks.{Served, joined_all, rows_all, taken_all}
use Rattle.nj_workers.specs.Meeting.{HaveMet}
use Rattle.nj_workers.proofs.Backs.{Laws, all_back, frames_back, joined_table, joined_root, joined_out}
use Rattle.nj_workers.proofs.Counters.{counted}
use Rattle.nj_workers.proofs.Together.{taker_of, many_seated, none_all, all_taken, none_twice, many_back, passes_own, takers_back}

-- as many as were asked for
pub many_olds : (table : TableView) (pieces : Pieces) (held : Held) (workers : ℕ) (news : List WorkEnd)
    (counts afters : List ℕ) (met : HaveMet table pieces held workers news counts afters) → length met.olds ≡ workers
many_olds table pieces held workers news counts afters met =
    many_seated pieces workers met.olds met.takers met.same met.are met.many

pub many_news : (table : TableView) (pieces : Pieces) (held : Held) (workers : ℕ) (news : List WorkEnd)
    (counts afters : List ℕ) → HaveMet table pieces held workers news counts afters → length news ≡ workers
many_news table pieces held workers news counts afters met =
    many_back table pieces met.olds news counts afters met.served
    ∙ many_olds table pieces held workers news counts afters met

-- their passes are of the table
pub own_after : (table : TableView) (pieces : Pieces) (held : Held) (workers : ℕ) (news : List WorkEnd)
    (counts afters : List ℕ) → HaveMet table pieces held workers news counts afters
    → All (λ end. end.hand.pass.table ≡ table.id) news
own_after table pieces held workers news counts afters met =
    passes_own table pieces met.olds news counts afters met.served

-- their takers are all takers of the pieces
pub takers_after : (table : TableView) (pieces : Pieces) (held : Held) (workers : ℕ) (news : List WorkEnd)
    (counts afters : List ℕ) (back : List Taker) → HaveMet table pieces held workers news counts afters
    → back ≡ map taker_of news → AreTakersOf pieces back
takers_after table pieces held workers news counts afters back met back_is =
    takers_back table pieces met.olds news counts afters met.takers back met.served met.same met.are back_is

-- pieces that weigh no more than others have no more candidates
pub fewer_frames : (hold from to : ℕ) (f : ℕ → ℕ) (taken all : List ℕ) → sum_by f taken ≤ sum_by f all
    → to ≤ from + hold * sum_by f taken → to ≤ from + hold * sum_by f all
fewer_frames hold from to f taken all fewer frames =
    let more : hold * sum_by f taken ≤ hold * sum_by f all = mul-le-mul_left hold fewer in omega arith

-- the counters together rise by no more than the frames of all candidates
pub counted_after : (table : TableView) (pieces : Pieces) (held : Held) (workers : ℕ) (news : List WorkEnd)
    (counts afters : List ℕ) (back : List Taker) (left : List ℕ)
    → runs_of held (range_with_len 0 (pieces_in held)) ≡ length (candidates_in held)
    → HaveMet table pieces held workers news counts afters → back ≡ map taker_of news
    → ((h : ℕ → ℕ) → sum_by h left + sum_by (λ taker. sum_by h (taken_of taker)) back
    ≡ sum_by h (range_with_len 0 (count_of pieces)))
    → AreCounted workers counts afters (held.plan.script.hold * length (candidates_in held))
counted_after table pieces held workers news counts afters back left runs met back_is whole =
    let fewer : runs_of held (taken_all news) ≤ runs_of held (range_with_len 0 (count_of pieces)) =
    none_twice (piece_runs held) (count_of pieces) left back news back_is whole in
    let frames = (frames_back table pieces held met.olds news counts afters met.seated
    (none_all met.olds met.takers met.same met.none) met.served).0 in
    let all : runs_of held (range_with_len 0 (count_of pieces)) ≡ length (candidates_in held) =
    ap (λ (n : ℕ). runs_of held (range_with_len 0 n)) met.count ∙ runs in
    let together : sum afters ≤ sum counts + held.plan.script.hold * runs_of held (range_with_len 0 (count_of pieces)) =
    fewer_frames held.plan.script.hold (sum counts) (sum afters) (piece_runs held) (taken_all news)
    (range_with_len 0 (count_of pieces)) fewer frames in
    counted (Served table pieces) (λ old new from to served. served.rises) workers
    (held.plan.script.hold * length (candidates_in held)) met.olds news counts afters
    (many_olds table pieces held workers news counts afters met) met.served
    (subst (λ (n : ℕ). sum afters ≤ sum counts + held.plan.script.hold * n) all together)

-- claims through the first pass, of which some are out
from_first : (table : TableView) (n : ℕ) (lives : List Row) (pass : PassView) (rows : List Row)
    → AreClaimed lives (record (first_pass table.id) { out = n }) pass rows
    → AreClaimed lives (first_pass table.id) pass rows
from_first table n lives pass rows f = record {
  placed = f.placed;
  refused = f.refused;
  parts = f.parts;
  claims = f.claims;
  full = f.full;
  more = f.more;
  seen = f.seen;
  dropped = f.dropped;
  choice = f.choice;
  dropped_may = f.dropped_may;
}

-- all live rows were claimed through the first pass, once all passes have come back to it and no piece is left
pub claimed_after : (laws : Laws) (table : TableView) (pieces : Pieces) (held : Held) (workers : ℕ)
    (news : List WorkEnd) (counts afters : List ℕ) (back : List Taker) (left : List ℕ) (root pass : PassView) (n : ℕ)
    (rows : List Row)
    → ((taken : List ℕ) → ((h : ℕ → ℕ) → sum_by h (range_with_len 0 (pieces_in held)) ≡ sum_by h taken)
    → IsPermutation (live_rows held) (rows_of held taken))
    → HaveMet table pieces held workers news counts afters → back ≡ map taker_of news
    → ((h : ℕ → ℕ) → sum_by h left + sum_by (λ taker. sum_by h (taken_of taker)) back
    ≡ sum_by h (range_with_len 0 (count_of pieces)))
    → left ≡ [] → root ≡ record (first_pass table.id) { out = n } → pass ≡ joined_all root news → rows ≡ rows_all news
    → AreClaimed (live_rows held) (first_pass table.id) pass rows
claimed_after laws table pieces held workers news counts afters back left root pass n rows lives met back_is whole none
    root_is pass_is rows_is =
    let moved : IsPermutation (live_rows held) (rows_of held (taken_all news)) =
    lives (taken_all news)
    (λ h. ap (λ (m : ℕ). sum_by h (range_with_len 0 m)) (sym met.count)
    ∙ all_taken (count_of pieces) left back news back_is none whole h) in
    let claimed : AreClaimed (rows_of held (taken_all news)) root (joined_all root news) (rows_all news) =
    all_back laws table pieces held root met.olds news counts afters met.seated
    (none_all met.olds met.takers met.same met.none) met.served in
    from_first table n (live_rows held) pass rows
    (subst (λ (r : PassView). AreClaimed (live_rows held) r pass rows) root_is
    (subst (λ (p : PassView). AreClaimed (live_rows held) root p rows) (sym pass_is)
    (subst (λ rs. AreClaimed (live_rows held) root (joined_all root news) rs) (sym rows_is)
    (laws.moved (rows_of held (taken_all news)) (live_rows held) root (joined_all root news)
    (rows_all news) moved claimed))))

-- the first pass: of its table, the first, and none is out
pub pass_after : (table : TableView) (pieces : Pieces) (held : Held) (workers : ℕ) (news : List WorkEnd)
    (counts afters : List ℕ) (root pass : PassView) → HaveMet table pieces held workers news counts afters
    → root ≡ record (first_pass table.id) { out = workers } → pass ≡ joined_all root news
    → (pass.table ≡ table.id) × (pass.is_root ≡ true) × (pass.out ≡ 0)
pass_after table pieces held workers news counts afters root pass met root_is pass_is = (
  ap (λ (p : PassView). p.table) pass_is ∙ joined_table root news ∙ ap (λ (p : PassView). p.table) root_is,
  ap (λ (p : PassView). p.is_root) pass_is ∙ joined_root root news ∙ ap (λ (p : PassView). p.is_root) root_is,
  ap (λ (p : PassView). p.out) pass_is ∙ joined_out root news ∙ ap (λ (p : PassView). p.out - length news) root_is
      ∙ (let many = many_news table pieces held workers news counts afters met in
      let none : workers - length news ≡ 0 = omega arith in none),
)

-- a list of no length
pub empty_list : (items : List ℕ) (n : ℕ) (b : Bool) → n ≡ length items → b ≡ (n == 0) → b ≡ true → items ≡ []
empty_list [] n b many is yes_is = refl
empty_list (item ∷ items) n b many is yes_is = absurd (let none : n ≡ 0 = eqb-true n 0 (sym is ∙ yes_is) in omega arith)
