-- The oldest generation that is kept.
use Rattle.std.proofs.Common.{◌≡◌, ℕ, suc, ◌+◌, ◌<◌, ◌≤◌, inl, inr, ⊎_elim, Bool, true, false, cond, List, [], ◌∷◌, length, get_or, refl, ap, arith, nat_le}
use Rattle.std.specs.Prelude.{filter}
use Rattle.std.specs.List.{All}
use Rattle.std.proofs.lemmas.Bool.{cases_lt, le-leb, lt-leb}
use Rattle.std.proofs.lemmas.List.Elements.{All-filter}
use Rattle.nj_claims.specs.Tables.{entries_in}
use Rattle.nj_seen.specs.Held.{entries_since, first_claim}
use Rattle.nj_seen.proofs.Members.{In, of_member, filtered}

longer : (p : ℕ × ℕ → Bool) (e : ℕ × ℕ) (es : List (ℕ × ℕ)) → length (filter p es) ≤ length (filter p (e ∷ es))
longer p e es = elim (p e) as (λ b. length (filter p es) ≤ length (cond b (e ∷ filter p es) (filter p es))) [
  | true ↦ omega arith
  | false ↦ omega arith
]

-- where all owners since a step are at least another, there are as many since any step up to it
grows : (from first earlier : ℕ) (es : List (ℕ × ℕ)) → earlier ≤ first
    → ((e : ℕ × ℕ) → In e es → from ≤ e.1 → first ≤ e.1)
    → length (filter (λ (e : ℕ × ℕ). nat_le from e.1) es) ≤ length (filter (λ (e : ℕ × ℕ). nat_le earlier e.1) es)
grows from first earlier [] le all = omega arith
grows from first earlier (x ∷ xs) le all =
    let p : ℕ × ℕ → Bool = λ e. nat_le from e.1 in let q : ℕ × ℕ → Bool = λ e. nat_le earlier e.1 in
    let rest : length (filter p xs) ≤ length (filter q xs) = grows from first earlier xs le (λ e i. all e (inr i)) in
    ⊎_elim
    (λ (lt : x.1 < from).
    let a : length (filter p (x ∷ xs)) ≡ length (filter p xs) =
    ap (λ b. length (cond b (x ∷ filter p xs) (filter p xs))) (lt-leb from x.1 lt) in
    let b : length (filter q xs) ≤ length (filter q (x ∷ xs)) = longer q x xs in omega (arith, rest, a, b))
    (λ (high : from ≤ x.1).
    let low : first ≤ x.1 = all x (inl refl) high in
    let a : length (filter p (x ∷ xs)) ≡ suc (length (filter p xs)) =
    ap (λ b. length (cond b (x ∷ filter p xs) (filter p xs))) (le-leb from x.1 high) in
    let b : length (filter q (x ∷ xs)) ≡ suc (length (filter q xs)) =
    ap (λ b. length (cond b (x ∷ filter q xs) (filter q xs))) (le-leb earlier x.1 (omega arith)) in
    omega (arith, rest, a, b))
    (cases_lt x.1 from)

-- since any step up to the least owner the keys are too many
pub over_more : (words : List ℕ) (room slots from first earlier : ℕ)
    → ((before : ℕ) → before < from → slots < length (entries_since before words) + room)
    → slots < length (entries_since from words) + room → All (λ entry. first ≤ entry.1) (entries_since from words)
    → earlier < first + 1
    → slots < length (entries_since earlier words) + room
over_more words room slots from first earlier over big least lt =
    ⊎_elim (λ (before : earlier < from). over earlier before)
    (λ (le : from ≤ earlier).
    let more : length (entries_since from words) ≤ length (entries_since earlier words) =
    grows from first earlier (entries_in words) (omega arith)
    (λ e i high. of_member (λ (entry : ℕ × ℕ). first ≤ entry.1) (entries_since from words) e least
    (filtered (λ (e : ℕ × ℕ). nat_le from e.1) e (entries_in words) i (le-leb from e.1 high))) in omega arith)
    (cases_lt earlier from)

-- the least owner is a step
pub first_small : (words : List ℕ) (from first : ℕ) → 0 < length (entries_since from words)
    → All (λ entry. first ≤ entry.1) (entries_since from words)
    → All (λ entry. entry.1 < first_claim) (entries_in words) → first < first_claim
first_small words from first some least steps =
    let low : first ≤ (get_or (entries_since from words) 0 (0, 0)).1 = least 0 (0, 0) some in
    let high : (get_or (entries_since from words) 0 (0, 0)).1 < first_claim =
    All-filter (λ (e : ℕ × ℕ). nat_le from e.1) (λ (entry : ℕ × ℕ). entry.1 < first_claim)
    (entries_in words) steps 0 (0, 0) some in
    omega arith
