-- Runs of neighbours: how they are cut, what the workers do with them, and their states in order.
use Rattle.std.proofs.Common.{◌≡◌, ◌==◌, false, ℕ, zero, suc, ◌+◌, ◌-◌, ◌*◌, ◌<◌, ◌≤◌, List, [], ◌∷◌, ◌++◌, length, take, drop, refl, sym, ap, ap₂, subst, ◌∙◌, arith, append_assoc, append-nil, length-append, length-drop, le-add_right, mul-le-mul_left, mul-add, suc-mul}
use Rattle.std.specs.Prelude.{Ok, IfOk, Result, max, min, reverse, sum}
use Rattle.std.specs.List.{All}
use Rattle.std.specs.declared.alloc.AllocError.{AllocError}
use Rattle.std.proofs.lemmas.List.{reverse-append, take-append-drop}
use Rattle.std.proofs.lemmas.List.Elements.{All-nil, All-cons, All-head, All-take, All-drop}
use Rattle.std.proofs.lemmas.List.Sums.{sum_by-cons}
use Rattle.std.proofs.Math.Seq.{take-append_seam, drop-append_seam}
use Rattle.nj_rows.specs.declared.Row.{Row}
use Rattle.nj_expand.specs.Kept.{Again}
use Rattle.nj_expand.specs.Again.{parent_of}
use Rattle.nj_expand.specs.Held.{Held}
use Rattle.nj_expand.specs.Kept.{IsAgain, ArePartsOf}
use Rattle.nj_workers.specs.declared.runs.Run.{Run}
use Rattle.nj_workers.specs.Desks.{AllHave}
use Rattle.nj_workers.specs.Counted.{AreCounted}
use Rattle.nj_workers.specs.Runs.{rows_in, MayRunAgain, WasRun, HasRun}
use Rattle.nj_workers.proofs.Counters.{counted, by_more}

-- the rows of one run more
rows_more : (runs : List Run) (run : Run) → rows_in (runs ++ run ∷ []) ≡ rows_in runs ++ run.rows.now
rows_more [] run = append-nil run.rows.now
rows_more (first ∷ runs) run =
    ap (λ rows. first.rows.now ++ rows) (rows_more runs run)
    ∙ sym (append_assoc first.rows.now (rows_in runs) run.rows.now)

-- ---- cutting

-- the runs so far and the rows that are left are all; and so are the runs that are left enough for them
pub record AreCut (rows : List Row) (workers size : ℕ) (runs : List Run) (left : List Row) : Type 0 where
  pub whole : rows_in runs ++ left ≡ rows
  pub few : length runs ≤ workers
  pub enough : length left ≤ (workers - length runs) * size

-- where rows are left, so is a run
some_left : (n rows size : ℕ) → rows ≤ n * size → 0 < rows → 0 < n
some_left zero rows size enough some = absurd (omega (arith, enough, some))
some_left (suc n) rows size enough some = omega arith

pub run_left : (rows : List Row) (workers size : ℕ) (runs : List Run) (left : List Row)
    → AreCut rows workers size runs left → 0 < length left → length runs < workers
run_left rows workers size runs left cut some =
    let n = some_left (workers - length runs) (length left) size cut.enough some in omega (arith, n)

pub none_cut : (rows : List Row) (workers size : ℕ) → length rows ≤ workers * size → AreCut rows workers size [] rows
none_cut rows workers size enough =
    let all : workers ≡ workers - 0 = omega arith in
    record { whole = refl; few = omega arith; enough = subst (λ n. length rows ≤ n * size) all enough }

-- what is not empty has some
pub some_rows : (n : ℕ) → false ≡ (n == 0) → 0 < n
some_rows zero is = absurd (cc)
some_rows (suc n) is = omega arith

-- one run more is cut
fewer_left : (n rows size taken : ℕ) → rows ≤ suc n * size → taken ≡ min size rows → rows - taken ≤ n * size
fewer_left n rows size taken enough is =
    let more : suc n * size ≡ n * size + size = suc-mul n size in omega (arith, enough, more, is)

pub more_cut : (rows : List Row) (workers size taken : ℕ) (runs next : List Run) (run : Run) (left rest : List Row)
    → AreCut rows workers size runs left → 0 < length left → taken ≡ min size (length left)
    → run.rows.now ≡ take taken left → rest ≡ drop taken left → next ≡ runs ++ run ∷ []
    → AreCut rows workers size next rest
more_cut rows workers size taken runs next run left rest cut some taken_is run_is rest_is next_is =
    let below = run_left rows workers size runs left cut some in
    let many : length next ≡ length runs + 1 = ap length next_is ∙ length-append runs (run ∷ []) in
    let one : workers - length runs ≡ suc (workers - length next) = omega (arith, below, many) in
    let same : run.rows.now ++ rest ≡ left = ap₂ (λ xs ys. xs ++ ys) run_is rest_is ∙ take-append-drop taken left in
    let count : length rest ≡ length left - taken = ap length rest_is ∙ length-drop taken left in
    record {
      whole =
          ap (λ rs. rows_in rs ++ rest) next_is ∙ ap (λ xs. xs ++ rest) (rows_more runs run)
          ∙ append_assoc (rows_in runs) run.rows.now rest ∙ ap (λ xs. rows_in runs ++ xs) same ∙ cut.whole;
      few = omega (arith, many, below);
      enough =
          subst (λ n. n ≤ (workers - length next) * size) (sym count)
          (fewer_left (workers - length next) (length left) size taken
          (subst (λ n. length left ≤ n * size) one cut.enough) taken_is);
    }

pub all_cut : (rows : List Row) (workers size : ℕ) (runs : List Run) (left : List Row)
    → AreCut rows workers size runs left → length left ≡ 0 → rows_in runs ≡ rows
all_cut rows workers size runs [] cut none = sym (append-nil (rows_in runs)) ∙ cut.whole
all_cut rows workers size runs (row ∷ left) cut none = absurd (omega arith)

-- some rows have some run
pub some_run : (runs : List Run) → 0 < length (rows_in runs) → 0 < length runs
some_run [] some = absurd (omega (arith, some))
some_run (run ∷ runs) some = omega arith

-- a run has so many rows that all workers together have enough
pub enough_runs : (rows workers each size : ℕ) → rows ≤ each * workers → size ≡ max 4 each → rows ≤ workers * size
enough_runs rows workers each size enough is =
    let le : each ≤ size = omega (arith, is) in
    let more : workers * each ≤ workers * size = mul-le-mul_left workers le in
    let same : each * workers ≡ workers * each = grind arith in
    omega (arith, enough, more, same)

-- ---- running

-- each run of rows that may be run again may be
pub may_each : (held : Held) (runs : List Run) → MayRunAgain held (rows_in runs)
    → All (λ run. MayRunAgain held run.rows.now) runs
may_each held [] may = All-nil (λ run. MayRunAgain held run.rows.now)
may_each held (run ∷ runs) may =
    let stands = λ (row : Row). parent_of row < length held.state.front in
    let long = length-append run.rows.now (rows_in runs) in
    All-cons (λ run. MayRunAgain held run.rows.now) run runs
    (record {
      parents =
          subst (All (λ row. parent_of row < length held.state.front)) (take-append_seam run.rows.now (rows_in runs))
          (All-take stands (length run.rows.now) (run.rows.now ++ rows_in runs) may.parents);
      few = omega (arith, long, may.few);
    })
    (may_each held runs
    (record {
      parents =
          subst (All (λ row. parent_of row < length held.state.front)) (drop-append_seam run.rows.now (rows_in runs))
          (All-drop stands (length run.rows.now) (run.rows.now ++ rows_in runs) may.parents);
      few = omega (arith, long, may.few);
    }))

-- what the workers leave of runs
pub record WereRun (held : Held) (olds news : List Run) (counts afters : List ℕ) : Type 0 where
  pub rows : rows_in news ≡ rows_in olds
  pub many : length news ≡ length olds
  pub ran : All (WasRun held) news
  pub together : sum afters ≤ sum counts + held.plan.script.hold * length (rows_in olds)

pub were_run : (held : Held) (olds news : List Run) (counts afters : List ℕ)
    → AllHave (HasRun held) olds news counts afters → WereRun held olds news counts afters
were_run held [] [] counts afters have =
    record {
      rows = refl;
      many = refl;
      ran = All-nil (WasRun held);
      together =
          subst (λ (n : ℕ). n ≤ sum counts + held.plan.script.hold * 0) (sym (ap sum have))
          (le-add_right (sum counts) (held.plan.script.hold * 0));
    }
were_run held [] (new ∷ news) counts afters have = absurd have
were_run held (old ∷ olds) [] counts afters have = absurd have
were_run held (old ∷ olds) (new ∷ news) [] afters have = absurd have
were_run held (old ∷ olds) (new ∷ news) (count ∷ counts) [] have = absurd have
were_run held (old ∷ olds) (new ∷ news) (count ∷ counts) (after ∷ afters) have =
    let rest = were_run held olds news counts afters have.1 in
    let hold = held.plan.script.hold in
    let frames : hold * length (old.rows.now ++ rows_in olds) ≡ hold * length old.rows.now
    + hold * length (rows_in olds) =
    ap (λ n. hold * n) (length-append old.rows.now (rows_in olds))
    ∙ mul-add hold (length old.rows.now) (length (rows_in olds)) in
    record {
      rows = ap₂ (λ xs ys. xs ++ ys) have.0.rows rest.rows;
      many = ap suc rest.many;
      ran =
          All-cons (WasRun held) new news
          (subst (λ rows. IfOk new.again (IsAgain held rows)) (sym have.0.rows) have.0.again) rest.ran;
      together = omega (
        arith,
        frames,
        have.0.frames,
        rest.together,
        sum_by-cons (λ (n : ℕ). n) count counts,
        sum_by-cons (λ (n : ℕ). n) after afters,
      );
    }

runs_counted : (held : Held) (olds news : List Run) (counts afters : List ℕ)
    → AllHave (HasRun held) olds news counts afters
    → AreCounted (length olds) counts afters (held.plan.script.hold * length (rows_in olds))
runs_counted held olds news counts afters have =
    counted (HasRun held) (λ old new from to has. has.rises) (length olds)
    (held.plan.script.hold * length (rows_in olds)) olds news counts afters refl have
    (were_run held olds news counts afters have).together

-- the counters of so many workers, no fewer than runs
pub kept_counted : (workers : ℕ) (held : Held) (rows : List Row) (olds news : List Run) (counts afters : List ℕ)
    → rows_in olds ≡ rows → length olds ≤ workers → AllHave (HasRun held) olds news counts afters
    → AreCounted workers counts afters (held.plan.script.hold * length rows)
kept_counted workers held rows olds news counts afters are few have =
    by_more (length olds) workers counts afters (held.plan.script.hold * length rows) few
    (subst (λ rs. AreCounted (length olds) counts afters (held.plan.script.hold * length rs)) are
    (runs_counted held olds news counts afters have))

-- ---- their states

-- the runs that are left, and the states of those behind them, which stand turned round
pub record AreTaken (held : Held) (rows : List Row) (runs : List Run) (turned : List Again) : Type 0 where
  pub rest : List Row
  pub whole : rows ≡ rows_in runs ++ rest
  pub ran : All (WasRun held) runs
  pub parts : ArePartsOf held rest (reverse turned)

pub none_taken : (held : Held) (rows : List Row) (olds runs : List Run) (counts afters : List ℕ) (parts : List Again)
    → rows_in olds ≡ rows → AllHave (HasRun held) olds runs counts afters → parts ≡ []
    → AreTaken held rows runs parts
none_taken held rows olds runs counts afters parts are have none =
    let were = were_run held olds runs counts afters have in
    record {
      rest = [];
      whole = sym are ∙ sym were.rows ∙ sym (append-nil (rows_in runs));
      ran = were.ran;
      parts = subst (λ parts. ArePartsOf held [] (reverse parts)) (sym none) refl;
    }

-- as many runs after as before
pub many_run : (held : Held) (olds runs : List Run) (counts afters : List ℕ)
    → AllHave (HasRun held) olds runs counts afters → length runs ≡ length olds
many_run held olds runs counts afters have = (were_run held olds runs counts afters have).many

pub more_taken : (held : Held) (rows : List Row) (runs left : List Run) (run : Run) (part : Again)
    (turned next : List Again)
    → AreTaken held rows runs turned → runs ≡ left ++ run ∷ [] → run.again ≡ Ok part → next ≡ turned ++ part ∷ []
    → AreTaken held rows left next
more_taken held rows runs left run part turned next taken popped told pushed =
    let ran : All (WasRun held) (left ++ run ∷ []) = subst (All (WasRun held)) popped taken.ran in
    let first : All (WasRun held) left =
    subst (All (WasRun held)) (take-append_seam left (run ∷ []))
    (All-take (WasRun held) (length left) (left ++ run ∷ []) ran) in
    let last : WasRun held run =
    All-head (WasRun held) run []
    (subst (All (WasRun held)) (drop-append_seam left (run ∷ []))
    (All-drop (WasRun held) (length left) (left ++ run ∷ []) ran)) in
    let is : IsAgain held run.rows.now part =
    subst (λ (r : Result Again AllocError). IfOk r (IsAgain held run.rows.now)) told last in
    let turned_is : reverse next ≡ part ∷ reverse turned = ap reverse pushed ∙ reverse-append turned (part ∷ []) in
    record {
      rest = run.rows.now ++ taken.rest;
      whole =
          taken.whole ∙ ap (λ rs. rows_in rs ++ taken.rest) popped ∙ ap (λ xs. xs ++ taken.rest) (rows_more left run)
          ∙ append_assoc (rows_in left) run.rows.now taken.rest;
      ran = first;
      parts =
          subst (ArePartsOf held (run.rows.now ++ taken.rest)) (sym turned_is)
          (run.rows.now, taken.rest, refl, is, taken.parts);
    }

pub all_parts : (held : Held) (rows : List Row) (runs : List Run) (turned parts : List Again)
    → AreTaken held rows runs turned → length runs ≡ 0 → parts ≡ reverse turned → ArePartsOf held rows parts
all_parts held rows [] turned parts taken none is =
    subst (λ ps. ArePartsOf held rows ps) (sym is)
    (subst (λ rs. ArePartsOf held rs (reverse turned)) (sym taken.whole) taken.parts)
all_parts held rows (run ∷ runs) turned parts taken none is = absurd (omega arith)
