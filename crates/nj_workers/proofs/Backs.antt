-- What all workers bring back together.
use Rattle.std.proofs.Common.{◌≡◌, ℕ, ◌+◌, ◌-◌, ◌*◌, ◌≤◌, List, [], ◌∷◌, ◌++◌, length, Result, Ok, Err, length-append, false, true, refl, sym, ap, ◌∙◌, subst, arith, append_assoc, append-nil}
use Rattle.std.specs.Prelude.{map, sum, OnOk, IsOk}
use Rattle.std.specs.List.{All, sum_by}
use Rattle.std.specs.List.Sorted.{IsPermutation}
use Rattle.std.proofs.Math.Nat.{mul-add}
use Rattle.std.proofs.lemmas.List.{get_or_append_left}
use Rattle.std.proofs.lemmas.List.Concat.{flat_map-append}
use Rattle.std.proofs.lemmas.List.Elements.{All-head, All-tail}
use Rattle.std.proofs.lemmas.List.Sums.{sum_by-append, sum_by-cons}
use Rattle.nj_claims.specs.Passes.{TableView, PassView, joined_pass}
use Rattle.nj_pieces.specs.declared.parts.Pieces.{Pieces}
use Rattle.nj_pieces.specs.declared.parts.Taker.{Taker}
use Rattle.nj_pieces.specs.Takers.{taken_of}
use Rattle.nj_rows.specs.declared.Row.{Row}
use Rattle.nj_expand.specs.Held.{Held}
use Rattle.nj_hands.specs.declared.hand.WorkEnd.{WorkEnd}
use Rattle.nj_hands.specs.Claimed.{AreClaimed}
use Rattle.nj_hands.specs.Shares.{piece_rows, piece_runs, rows_of, runs_of}
use Rattle.nj_workers.specs.Desks.{IsSeated, Served, AllServed, joined_all, rows_all, taken_all}

-- the laws of the crate below: what claims make together
pub record Laws : Type 0 where
  pub none : (pass : PassView) → AreClaimed [] pass pass []
  pub joined : (a b : List Row) (first root given other : PassView) (xs ys : List Row) → given.claims ≡ []
      → given.seen ≡ [] → given.full ≡ [] → AreClaimed a first root xs → AreClaimed b given other ys
      → AreClaimed (a ++ b) first (joined_pass root other) (xs ++ ys)
  pub moved : (lives others : List Row) (p q : PassView) (rows : List Row) → IsPermutation others lives
      → AreClaimed lives p q rows → AreClaimed others p q rows

-- what a worker that began with nothing has claimed, and its rows
pub one_back : (table : TableView) (pieces : Pieces) (held : Held) (old new : WorkEnd) (from to : ℕ)
    → IsSeated table held old → taken_of old.hand.taker ≡ []
    → Served table pieces old new from to
    → AreClaimed (rows_of held (taken_of new.hand.taker)) old.hand.pass new.hand.pass new.rows.items
    × (to ≤ from + held.plan.script.hold * runs_of held (taken_of new.hand.taker)) × (from ≤ to)
one_back table pieces held old new from to seated none served =
    let took : taken_of new.hand.taker ≡ served.took = served.taken ∙ ap (λ t. t ++ served.took) none in
    let rows : new.rows.items ≡ served.rows.added = served.rows.rows_are
    ∙ ap (λ r. r ++ served.rows.added) seated.rows in
    let claimed : AreClaimed (rows_of held served.took) old.hand.pass new.hand.pass served.rows.added =
    subst (λ (h : Held). AreClaimed (rows_of h served.took) old.hand.pass new.hand.pass served.rows.added) seated.search
    served.rows.claimed in (
      subst (λ t. AreClaimed (rows_of held t) old.hand.pass new.hand.pass new.rows.items) (sym took)
          (subst (λ r. AreClaimed (rows_of held served.took) old.hand.pass new.hand.pass r) (sym rows) claimed),
      subst (λ t. to ≤ from + held.plan.script.hold * runs_of held t) (sym took)
          (subst (λ (h : Held). to ≤ from + h.plan.script.hold * runs_of h served.took) seated.search served.frames),
      served.rises,
    )

-- the first pass when all have come back to it, with all their rows
pub all_back : (laws : Laws) (table : TableView) (pieces : Pieces) (held : Held) (root : PassView)
    (olds news : List WorkEnd) (counts afters : List ℕ)
    → All (IsSeated table held) olds → All (λ end. taken_of end.hand.taker ≡ []) olds
    → AllServed table pieces olds news counts afters
    → AreClaimed (rows_of held (taken_all news)) root (joined_all root news) (rows_all news)
all_back laws table pieces held root [] [] counts afters seated none served = laws.none root
all_back laws table pieces held root [] (new ∷ news) counts afters seated none served = absurd served
all_back laws table pieces held root (old ∷ olds) [] counts afters seated none served = absurd served
all_back laws table pieces held root (old ∷ olds) (new ∷ news) [] afters seated none served = absurd served
all_back laws table pieces held root (old ∷ olds) (new ∷ news) (count ∷ counts) [] seated none served = absurd served
all_back laws table pieces held root (old ∷ olds) (new ∷ news) (count ∷ counts) (after ∷ afters) seated none served =
    let here = All-head (IsSeated table held) old olds seated in
    let rest = all_back laws table pieces held root olds news counts afters
    (All-tail (IsSeated table held) old olds seated)
    (All-tail (λ (end : WorkEnd). taken_of end.hand.taker ≡ []) old olds none) served.1 in
    subst (λ rows.
    AreClaimed rows root (joined_pass (joined_all root news) new.hand.pass) (rows_all news ++ new.rows.items))
    (sym (flat_map-append (piece_rows held) (taken_all news) (taken_of new.hand.taker)))
    (laws.joined (rows_of held (taken_all news)) (rows_of held (taken_of new.hand.taker)) root
    (joined_all root news) old.hand.pass new.hand.pass (rows_all news) new.rows.items
    here.claims here.seen here.full rest (one_back table pieces held old new count after here
    (All-head (λ (end : WorkEnd). taken_of end.hand.taker ≡ []) old olds none) served.0).0)

-- the counters together, and no counter falls
pub frames_back : (table : TableView) (pieces : Pieces) (held : Held) (olds news : List WorkEnd)
    (counts afters : List ℕ)
    → All (IsSeated table held) olds → All (λ end. taken_of end.hand.taker ≡ []) olds
    → AllServed table pieces olds news counts afters
    → (sum afters ≤ sum counts + held.plan.script.hold * runs_of held (taken_all news)) × (sum counts ≤ sum afters)
    × (length afters ≡ length counts)
frames_back table pieces held [] [] counts afters seated none served =
    let same : sum afters ≡ sum counts = ap sum served in (omega arith, omega arith, ap length served)
frames_back table pieces held [] (new ∷ news) counts afters seated none served = absurd served
frames_back table pieces held (old ∷ olds) [] counts afters seated none served = absurd served
frames_back table pieces held (old ∷ olds) (new ∷ news) [] afters seated none served = absurd served
frames_back table pieces held (old ∷ olds) (new ∷ news) (count ∷ counts) [] seated none served = absurd served
frames_back table pieces held (old ∷ olds) (new ∷ news) (count ∷ counts) (after ∷ afters) seated none served =
    let here = All-head (IsSeated table held) old olds seated in
    let one = one_back table pieces held old new count after here
    (All-head (λ (end : WorkEnd). taken_of end.hand.taker ≡ []) old olds none) served.0 in
    let rest = frames_back table pieces held olds news counts afters (All-tail (IsSeated table held) old olds seated)
    (All-tail (λ (end : WorkEnd). taken_of end.hand.taker ≡ []) old olds none) served.1 in
    let hold = held.plan.script.hold in
    let mine : ℕ = runs_of held (taken_of new.hand.taker) in
    let theirs : ℕ = runs_of held (taken_all news) in
    let product : hold * (theirs + mine) ≡ hold * theirs + hold * mine = mul-add hold theirs mine in
    let most : sum (after ∷ afters) ≤ sum (count ∷ counts) + hold * (theirs + mine) =
    (let a = one.1 in let b = rest.0 in
    omega (arith, sum_by-cons (λ (n : ℕ). n) after afters, sum_by-cons (λ (n : ℕ). n) count counts)) in (
      subst (λ (n : ℕ). sum (after ∷ afters) ≤ sum (count ∷ counts) + hold * n)
          (sym (sum_by-append (piece_runs held) (taken_all news) (taken_of new.hand.taker))) most,
      (let a = one.2 in let b = rest.1 in
          omega (arith, sum_by-cons (λ (n : ℕ). n) after afters, sum_by-cons (λ (n : ℕ). n) count counts)),
      (let a = rest.2 in omega arith),
    )

-- the first pass that has come back from all: it is still of its table, and so many fewer are out
pub joined_table : (root : PassView) (ends : List WorkEnd) → (joined_all root ends).table ≡ root.table
joined_table root [] = refl
joined_table root (end ∷ ends) = joined_table root ends

pub joined_root : (root : PassView) (ends : List WorkEnd) → (joined_all root ends).is_root ≡ root.is_root
joined_root root [] = refl
joined_root root (end ∷ ends) = joined_root root ends

pub joined_out : (root : PassView) (ends : List WorkEnd) → (joined_all root ends).out ≡ root.out - length ends
joined_out root [] = omega arith
joined_out root (end ∷ ends) = let rest = joined_out root ends in omega arith

-- the pieces that were taken weigh what their takers took
pub taken_weigh : (h : ℕ → ℕ) (ends : List WorkEnd)
    → sum_by h (taken_all ends) ≡ sum_by (λ taker. sum_by h (taken_of taker)) (map (λ end. end.hand.taker) ends)
taken_weigh h [] = refl
taken_weigh h (end ∷ ends) =
    let rest = taken_weigh h ends in
    omega (
      arith,
      sum_by-append h (taken_all ends) (taken_of end.hand.taker),
      sum_by-cons (λ (taker : Taker). sum_by h (taken_of taker)) end.hand.taker
          (map (λ (end : WorkEnd). end.hand.taker) ends),
    )

-- a worker that goes before the others
pub joined_front : (root : PassView) (end : WorkEnd) (ends : List WorkEnd)
    → joined_all root (ends ++ end ∷ []) ≡ joined_all (joined_pass root end.hand.pass) ends
joined_front root end [] = refl
joined_front root end (other ∷ ends) = ap (λ p. joined_pass p other.hand.pass) (joined_front root end ends)

pub rows_front : (end : WorkEnd) (ends : List WorkEnd) → rows_all (ends ++ end ∷ []) ≡ end.rows.items ++ rows_all ends
rows_front end [] = sym (append-nil end.rows.items)
rows_front end (other ∷ ends) =
    ap (λ r. r ++ other.rows.items) (rows_front end ends) ∙ append_assoc end.rows.items (rows_all ends) other.rows.items

-- ---- one worker after another

-- a worker's pass has come back
pub joined_next : (pass next : PassView) (ends rest : List WorkEnd) (end : WorkEnd) (all : PassView)
    → ends ≡ rest ++ end ∷ [] → next ≡ joined_pass pass end.hand.pass
    → joined_all pass ends ≡ all → joined_all next rest ≡ all
joined_next pass next ends rest end all is next_is whole =
    ap (λ p. joined_all p rest) next_is ∙ sym (joined_front pass end rest) ∙ ap (joined_all pass) (sym is) ∙ whole

-- a worker's rows were added, unless memory was wanted before
pub rows_next : {E : Type 0} (added next : Result (Unit {0}) E) (rows more found : List Row) (ends rest : List WorkEnd)
    (end : WorkEnd) (all : List Row) → ends ≡ rest ++ end ∷ [] → found ≡ end.rows.items
    → OnOk next (IsOk added) → OnOk next (more ≡ rows ++ found) → OnOk added (rows ++ rows_all ends ≡ all)
    → OnOk next (more ++ rows_all rest ≡ all)
rows_next added (Err e) rows more found ends rest end all is found_is before now whole = tt
rows_next (Err e) (Ok u) rows more found ends rest end all is found_is before now whole =
    absurd (let wrong : false ≡ true = before in cc)
rows_next (Ok v) (Ok u) rows more found ends rest end all is found_is before now whole =
    ap (λ r. r ++ rows_all rest) (now ∙ ap (λ f. rows ++ f) found_is) ∙ append_assoc rows end.rows.items (rows_all rest)
    ∙ ap (λ r. rows ++ r) (sym (rows_front end rest) ∙ ap rows_all (sym is)) ∙ whole

-- the passes that are still to come are of the table
pub own_next : (table : TableView) (ends rest : List WorkEnd) (end : WorkEnd) → ends ≡ rest ++ end ∷ []
    → All (λ e. e.hand.pass.table ≡ table.id) ends → All (λ e. e.hand.pass.table ≡ table.id) rest
own_next table ends rest end is own =
    let all : All (λ (e : WorkEnd). e.hand.pass.table ≡ table.id) (rest ++ end ∷ []) =
    subst (All (λ (e : WorkEnd). e.hand.pass.table ≡ table.id)) is own in
    λ k d within. subst (λ (e : WorkEnd). e.hand.pass.table ≡ table.id) (get_or_append_left rest (end ∷ []) d k within)
    (all k d (omega (arith, length-append rest (end ∷ []))))

-- all are back
pub joined_end : (pass : PassView) (ends : List WorkEnd) (all : PassView) → length ends ≡ 0 → joined_all pass ends ≡ all
    → pass ≡ all
joined_end pass [] all none whole = whole
joined_end pass (end ∷ ends) all none whole = absurd (omega arith)

pub rows_end : {E : Type 0} (added : Result (Unit {0}) E) (rows : List Row) (ends : List WorkEnd) (all : List Row)
    → length ends ≡ 0 → OnOk added (rows ++ rows_all ends ≡ all) → OnOk added (rows ≡ all)
rows_end (Err e) rows ends all none whole = tt
rows_end (Ok u) rows [] all none whole = sym (append-nil rows) ∙ whole
rows_end (Ok u) rows (end ∷ ends) all none whole = absurd (omega arith)
