-- Lemmas on the first refused line.
use Rattle.std.proofs.Common.{ℕ, zero, suc, ◌≡◌, ◌+◌, ◌<◌, Bool, true, false, ◌||◌, List, [], ◌∷◌, length, take, get_or, refl, sym, ap, ◌∙◌, arith, Option, Some, None, Err}
use Rattle.std.specs.Prelude.{sum_by}
use Rattle.std.specs.List.{list_any}
use Rattle.std.proofs.lemmas.List.Sums.{sum_by-cons}
use Rattle.nj_asm_lines.specs.declared.syntax.Fault.{Fault}
use Rattle.nj_asm_lines.specs.declared.syntax.Line.{Line}
use Rattle.nj_asm.specs.declared.refusals.AsmRefused.{AsmRefused}
use Rattle.nj_asm.specs.Assembly.{Homes, size_of, is_said, origin_of, homes_of, fault_of, refused, refused_or, first_refused, answer_of, bytes_from, assembly_in}
use Rattle.nj_asm.specs.FirstRefused.{fault_at, IsFirstRefused}

-- what refuses the line with a number among lines behind others
abbrev fault_among : Homes → Bool → ℕ → ℕ → List Line → ℕ → Line → Option Fault
fault_among homes begun at index ls k line =
    fault_of homes (begun || list_any (λ l. is_said l.statement) (take k ls))
    (at + sum_by (λ l. size_of l.statement) (take k ls)) (index + k) line

or_false : (b : Bool) → (b || false) ≡ b
or_false true = refl
or_false false = refl

or_assoc : (a b c : Bool) → (a || (b || c)) ≡ ((a || b) || c)
or_assoc true b c = refl
or_assoc false b c = refl

-- the first of some lines
among_first : (homes : Homes) (begun : Bool) (at index : ℕ) (l : Line) (ls : List Line)
    → fault_among homes begun at index (l ∷ ls) 0 l ≡ fault_of homes begun at index l
among_first homes begun at index l ls =
    let a : at + 0 ≡ at = omega arith in
    let i : index + 0 ≡ index = omega arith in
    rw (or_false begun, a, i)

-- the others
among_next : (homes : Homes) (begun : Bool) (at index : ℕ) (l : Line) (ls : List Line) (k : ℕ) (line : Line) →
    fault_among homes begun at index (l ∷ ls) (suc k) line
    ≡ fault_among homes (begun || is_said l.statement) (at + size_of l.statement) (index + 1) ls k line
among_next homes begun at index l ls k line =
    let b : (begun || (is_said l.statement || list_any (λ l. is_said l.statement) (take k ls)))
    ≡ ((begun || is_said l.statement) || list_any (λ l. is_said l.statement) (take k ls)) =
    or_assoc begun (is_said l.statement) (list_any (λ l. is_said l.statement) (take k ls)) in
    let first : sum_by (λ l. size_of l.statement) (l ∷ take k ls) ≡ size_of l.statement
    + sum_by (λ l. size_of l.statement) (take k ls) = sum_by-cons (λ (l : Line). size_of l.statement) l (take k ls) in
    let a : at + sum_by (λ l. size_of l.statement) (l ∷ take k ls)
    ≡ at + size_of l.statement + sum_by (λ l. size_of l.statement) (take k ls) = omega (arith, first) in
    let i : index + suc k ≡ index + 1 + k = omega arith in
    rw (b, a, i)

-- a refused line, and none before it
record IsFirstAmong (homes : Homes) (begun : Bool) (at index : ℕ) (ls : List Line) (n : ℕ)
    (fault : Fault) : Type 0 where
  within : n < length ls
  refused : (d : Line) → fault_among homes begun at index ls n (get_or ls n d) ≡ Some fault
  earlier : (k : ℕ) (d : Line) → k < n → fault_among homes begun at index ls k (get_or ls k d) ≡ None

told_among : (homes : Homes) (begun : Bool) (at index : ℕ) (ls : List Line) (n : ℕ) (fault : Fault) →
    IsFirstAmong homes begun at index ls n fault →
    first_refused homes begun at index ls ≡ Some (refused fault (index + n + 1))
told_among homes begun at index [] n fault first = absurd (omega (arith, first.within))
told_among homes begun at index (l ∷ ls) zero fault first =
    let i : index + 0 + 1 ≡ index + 1 = omega arith in
    rw (sym (among_first homes begun at index l ls) ∙ first.refused l, i)
told_among homes begun at index (l ∷ ls) (suc n) fault first =
    let i : index + suc n + 1 ≡ index + 1 + n + 1 = omega arith in
    let rest : IsFirstAmong homes (begun || is_said l.statement) (at + size_of l.statement) (index + 1) ls n fault =
    record {
      within = omega (arith, first.within);
      refused = λ d. sym (among_next homes begun at index l ls n (get_or ls n d)) ∙ first.refused d;
      earlier = λ k d h. sym (among_next homes begun at index l ls k (get_or ls k d))
          ∙ first.earlier (suc k) d (omega arith);
    } in
    rw (sym (among_first homes begun at index l ls) ∙ first.earlier 0 l (omega arith), i)
    (told_among homes (begun || is_said l.statement) (at + size_of l.statement) (index + 1) ls n fault rest)

-- some line is the first refused, and the refusal is its own
abbrev Told : Homes → Bool → ℕ → ℕ → List Line → AsmRefused → Type 0
Told homes begun at index ls refusal =
    (n : ℕ) × (fault : Fault) × IsFirstAmong homes begun at index ls n fault × (refusal ≡ refused fault (index + n + 1))

-- no line before the next is refused
earlier_with : (homes : Homes) (begun : Bool) (at index : ℕ) (l : Line) (ls : List Line) (n : ℕ) →
    fault_of homes begun at index l ≡ None →
    ((k : ℕ) (d : Line) → k < n → fault_among homes (begun || is_said l.statement) (at + size_of l.statement)
    (index + 1) ls k (get_or ls k d) ≡ None) →
    (k : ℕ) (d : Line) → k < suc n → fault_among homes begun at index (l ∷ ls) k (get_or (l ∷ ls) k d) ≡ None
earlier_with homes begun at index l ls n own rest zero d h = among_first homes begun at index l ls ∙ own
earlier_with homes begun at index l ls n own rest (suc k) d h =
    among_next homes begun at index l ls k (get_or ls k d) ∙ rest k d (omega arith)

only_by : (homes : Homes) (begun : Bool) (at index : ℕ) (l : Line) (ls : List Line) (refusal : AsmRefused)
    (own : Option Fault) →
    fault_of homes begun at index l ≡ own →
    refused_or own (index + 1)
    (first_refused homes (begun || is_said l.statement) (at + size_of l.statement) (index + 1) ls) ≡ Some refusal →
    (first_refused homes (begun || is_said l.statement) (at + size_of l.statement) (index + 1) ls ≡ Some refusal →
    Told homes (begun || is_said l.statement) (at + size_of l.statement) (index + 1) ls refusal) →
    Told homes begun at index (l ∷ ls) refusal
only_by homes begun at index l ls refusal (Some fault) own found rest =
    let i : index + 0 + 1 ≡ index + 1 = omega arith in
    let same : refusal ≡ refused fault (index + 1) = cc in (
      0,
      fault,
      record {
        within = omega arith;
        refused = λ d. among_first homes begun at index l ls ∙ own;
        earlier = λ k d h. absurd (omega arith);
      },
      rw i same,
    )
only_by homes begun at index l ls refusal None own found rest =
    let t = rest found in
    let i : index + suc t.0 + 1 ≡ index + 1 + t.0 + 1 = omega arith in (
      suc t.0,
      t.1,
      record {
        within = omega (arith, t.2.within);
        refused = λ d. among_next homes begun at index l ls t.0 (get_or ls t.0 d) ∙ t.2.refused d;
        earlier = earlier_with homes begun at index l ls t.0 own (t.2.earlier);
      },
      rw i t.3,
    )

only_among : (homes : Homes) (begun : Bool) (at index : ℕ) (ls : List Line) (refusal : AsmRefused) →
    first_refused homes begun at index ls ≡ Some refusal → Told homes begun at index ls refusal
only_among homes begun at index [] refusal found = absurd cc
only_among homes begun at index (l ∷ ls) refusal found =
    only_by homes begun at index l ls refusal (fault_of homes begun at index l) refl found
    (only_among homes (begun || is_said l.statement) (at + size_of l.statement) (index + 1) ls refusal)

refused_answer : (o : Option AsmRefused) (origin : ℕ) (bytes : List ℕ) (refusal : AsmRefused)
    → answer_of o origin bytes ≡ Err refusal → o ≡ Some refusal
refused_answer None origin bytes refusal h = absurd cc
refused_answer (Some other) origin bytes refusal h = cc

from_zero : (all : List Line) (k : ℕ) (line : Line)
    → fault_at all k line ≡ fault_among (homes_of all) false (origin_of all) 0 all k line
unfolding fault_at
from_zero all k line = let i : 0 + k ≡ k = omega arith in rw i

pub told : (all : List Line) (n : ℕ) (fault : Fault) → IsFirstRefused all n fault
    → assembly_in all ≡ Err (refused fault (n + 1))
unfolding assembly_in
told all n fault first =
    let i : 0 + n + 1 ≡ n + 1 = omega arith in
    let among : IsFirstAmong (homes_of all) false (origin_of all) 0 all n fault = record {
      within = first.within;
      refused = λ d. sym (from_zero all n (get_or all n d)) ∙ first.refused d;
      earlier = λ k d h. sym (from_zero all k (get_or all k d)) ∙ first.earlier k d h;
    } in
    ap (λ o. answer_of o (origin_of all) (bytes_from (homes_of all) (origin_of all) all))
    (told_among (homes_of all) false (origin_of all) 0 all n fault among)
    ∙ ap (λ m. Err (refused fault m)) i

pub only : (all : List Line) (refusal : AsmRefused) → assembly_in all ≡ Err refusal
    → (n : ℕ) × (fault : Fault) × IsFirstRefused all n fault × (refusal ≡ refused fault (n + 1))
unfolding assembly_in
only all refusal h =
    let t = only_among (homes_of all) false (origin_of all) 0 all refusal (refused_answer (first_refused (homes_of all)
    false (origin_of all) 0 all) (origin_of all) (bytes_from (homes_of all) (origin_of all) all) refusal h) in
    let i : 0 + t.0 + 1 ≡ t.0 + 1 = omega arith in (
      t.0,
      t.1,
      record {
        within = t.2.within;
        refused = λ d. from_zero all t.0 (get_or all t.0 d) ∙ t.2.refused d;
        earlier = λ k d h. from_zero all k (get_or all k d) ∙ t.2.earlier k d h;
      },
      t.3 ∙ ap (λ m. refused t.1 m) i,
    )
