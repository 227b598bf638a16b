-- Claims by rising number: the order in which they come makes no difference where no two numbers are the same.
use Rattle.std.proofs.Common.{◌≡◌, ◌≢◌, ℕ, zero, suc, ◌<◌, ◌≤◌, Bool, true, false, cond, eqb, ltb, List, [], ◌∷◌, ◌++◌, length, get_or, refl, sym, ◌∙◌, ap, inl, inr, arith, if◌then◌else◌}
use Rattle.std.specs.Prelude.{sum_by, filter, All, AllPairs}
use Rattle.std.specs.List.Sorted.{IsPermutation}
use Rattle.std.proofs.lemmas.List.Sums.{sum_by-cons, sum_by-append}
use Rattle.std.proofs.lemmas.List.Sorted.{IsPermutation-refl, IsPermutation-cons, IsPermutation-middle, IsPermutation-trans}
use Rattle.std.proofs.lemmas.List.Elements.{All-nil, All-cons, All-head, All-tail, All-weaker}
use Rattle.std.proofs.lemmas.Bool.{cases_lt, lt-ltb, le-ltb, ne_eqb, eq-eqb}
use Rattle.nj_core.specs.declared.claim.Claim.{Claim}
use Rattle.nj_core.specs.Owners.{put_by_number, by_number}
use Rattle.nj_core.specs.Laws.{HaveDistinctNumbers, AreRising}
use Rattle.nj_core.proofs.Counts.{SameSums, one, Has, first_found, rest_sums, no_members, same_claim, claim_tells}

-- whether a claim has this number
abbrev pub has_number : ℕ → Claim → Bool
has_number number claim = eqb claim.number number

-- no claim has this number
abbrev pub NoneHas : ℕ → List Claim → Type 0
NoneHas number claims = sum_by (one (has_number number)) claims ≡ 0

-- no claim's number is had by one behind it
abbrev pub AreApart : List Claim → Type 0
AreApart [] = Unit {0}
AreApart (claim ∷ claims) = NoneHas claim.number claims × AreApart claims

one_other : (number : ℕ) (claim : Claim) → claim.number ≢ number → one (has_number number) claim ≡ 0
one_other number claim differ = ap (λ (b : Bool). if b then 1 else 0) (ne_eqb claim.number number differ)

one_same : (number : ℕ) (claim : Claim) → claim.number ≡ number → one (has_number number) claim ≡ 1
one_same number claim same = ap (λ (b : Bool). if b then 1 else 0) (eq-eqb claim.number number same)

-- where none has the number, the first has another
none_cons : (number : ℕ) (claim : Claim) (claims : List Claim) → NoneHas number (claim ∷ claims)
    → (claim.number ≢ number) × NoneHas number claims
none_cons number claim claims none =
    let sum = sum_by-cons (one (has_number number)) claim claims in (
      λ same. (let is = one_same number claim same in omega arith),
      omega arith,
    )

none_from : (number : ℕ) (claims : List Claim)
    → ((k : ℕ) (d : Claim) → k < length claims → number ≢ (get_or claims k d).number) → NoneHas number claims
none_from number [] differ = refl
none_from number (claim ∷ claims) differ =
    let sum = sum_by-cons (one (has_number number)) claim claims in
    let first = one_other number claim (λ same. differ 0 claim (omega arith) (sym same)) in
    let rest : NoneHas number claims = none_from number claims (λ k d lt. differ (suc k) d (omega arith)) in
    omega arith

-- claims of distinct numbers are apart
pub apart : (claims : List Claim) → HaveDistinctNumbers claims → AreApart claims
apart [] distinct = tt
apart (claim ∷ claims) distinct = (
  none_from claim.number claims (λ k d lt. distinct 0 (suc k) d (omega arith) (omega arith)),
  apart claims (λ i j d lt within. distinct (suc i) (suc j) d (omega arith) (omega arith)),
)

none_filter : (number : ℕ) (p : Claim → Bool) (claims : List Claim) → NoneHas number claims
    → NoneHas number (filter p claims)
none_filter number p [] none = none
none_filter number p (claim ∷ claims) none =
    go (p claim) (none_filter number p claims (none_cons number claim claims none).1) where
      go : (b : Bool) → NoneHas number (filter p claims)
          → NoneHas number (cond b (claim ∷ filter p claims) (filter p claims))
      go true rest =
          let sum = sum_by-cons (one (has_number number)) claim (filter p claims) in
          let first = one_other number claim (none_cons number claim claims none).0 in
          omega arith
      go false rest = rest

-- so are those that a test keeps
pub apart_filter : (p : Claim → Bool) (claims : List Claim) → AreApart claims → AreApart (filter p claims)
apart_filter p [] all = tt
apart_filter p (claim ∷ claims) all =
    go (p claim) (apart_filter p claims all.1) where
      go : (b : Bool) → AreApart (filter p claims) → AreApart (cond b (claim ∷ filter p claims) (filter p claims))
      go true rest = (none_filter claim.number p claims all.0, rest)
      go false rest = rest

in_front : (c d : Claim) (ds : List Claim) → c.number < d.number → put_by_number c (d ∷ ds) ≡ c ∷ d ∷ ds
in_front c d ds lt = ap (λ (b : Bool). if b then c ∷ d ∷ ds else d ∷ put_by_number c ds) (lt-ltb c.number d.number lt)

behind : (c d : Claim) (ds : List Claim) → d.number ≤ c.number → put_by_number c (d ∷ ds) ≡ d ∷ put_by_number c ds
behind c d ds le = ap (λ (b : Bool). if b then c ∷ d ∷ ds else d ∷ put_by_number c ds) (le-ltb c.number d.number le)

-- two claims of different numbers are put in either order
swapped : (a x : Claim) (zs : List Claim) → a.number ≢ x.number
    → put_by_number a (put_by_number x zs) ≡ put_by_number x (put_by_number a zs)
swapped a x [] differ =
    elim (cases_lt a.number x.number) [
      | inl lt ↦ in_front a x [] lt ∙ sym (behind x a [] (omega arith))
      | inr le ↦ behind a x [] le ∙ sym (in_front x a [] (omega arith))
    ]
swapped a x (z ∷ zs) differ =
    elim (cases_lt a.number z.number) [
      | inl az ↦ elim (cases_lt x.number z.number) [
        | inl xz ↦ elim (cases_lt a.number x.number) [
          | inl ax ↦ ap (put_by_number a) (in_front x z zs xz) ∙ in_front a x (z ∷ zs) ax
              ∙ sym (ap (put_by_number x) (in_front a z zs az) ∙ behind x a (z ∷ zs) (omega arith)
              ∙ ap (λ ds. a ∷ ds) (in_front x z zs xz))
          | inr xa ↦ ap (put_by_number a) (in_front x z zs xz) ∙ behind a x (z ∷ zs) xa
              ∙ ap (λ ds. x ∷ ds) (in_front a z zs az)
              ∙ sym (ap (put_by_number x) (in_front a z zs az) ∙ in_front x a (z ∷ zs) (omega arith))
        ]
        | inr zx ↦ ap (put_by_number a) (behind x z zs zx) ∙ in_front a z (put_by_number x zs) az
            ∙ sym (ap (put_by_number x) (in_front a z zs az) ∙ behind x a (z ∷ zs) (omega arith)
            ∙ ap (λ ds. a ∷ ds) (behind x z zs zx))
      ]
      | inr za ↦ elim (cases_lt x.number z.number) [
        | inl xz ↦ ap (put_by_number a) (in_front x z zs xz) ∙ behind a x (z ∷ zs) (omega arith)
            ∙ ap (λ ds. x ∷ ds) (behind a z zs za)
            ∙ sym (ap (put_by_number x) (behind a z zs za) ∙ in_front x z (put_by_number a zs) xz)
        | inr zx ↦ ap (put_by_number a) (behind x z zs zx) ∙ behind a z (put_by_number x zs) za
            ∙ ap (λ ds. z ∷ ds) (swapped a x zs differ)
            ∙ sym (ap (put_by_number x) (behind a z zs za) ∙ behind x z (put_by_number a zs) zx)
      ]
    ]

-- a claim in the middle is put where one in front is
put_middle : (x : Claim) (before after : List Claim) → NoneHas x.number before
    → by_number (before ++ x ∷ after) ≡ put_by_number x (by_number (before ++ after))
put_middle x [] after none = refl
put_middle x (a ∷ before) after none =
    let both = none_cons x.number a before none in
    ap (put_by_number a) (put_middle x before after both.1) ∙ swapped a x (by_number (before ++ after)) both.0

-- rearranged claims of distinct numbers are the same by rising number
pub by_number_same : (xs ys : List Claim) → AreApart xs → SameSums xs ys → by_number xs ≡ by_number ys
by_number_same [] ys all sums = ap by_number (sym (no_members ys (sym (sums (λ _. 1)))))
by_number_same (x ∷ xs) ys all sums =
    let found : Has ys x = first_found same_claim claim_tells x xs ys sums in
    let rest = rest_sums x xs ys found sums in
    let none : NoneHas x.number found.before =
    (let moved = rest (one (has_number x.number)) in
    let sum = sum_by-append (one (has_number x.number)) found.before found.after in
    let zero = all.0 in omega arith) in
    ap (put_by_number x) (by_number_same xs (found.before ++ found.after) all.1 rest)
    ∙ sym (put_middle x found.before found.after none)
    ∙ ap by_number (sym found.is)

-- a claim put in is added
put_moves : (x : Claim) (xs : List Claim) → IsPermutation (x ∷ xs) (put_by_number x xs)
put_moves x [] = IsPermutation-refl (x ∷ [])
put_moves x (y ∷ ys) =
    elim (ltb x.number y.number) as (λ b. IsPermutation (x ∷ y ∷ ys) (cond b (x ∷ y ∷ ys) (y ∷ put_by_number x ys))) [
      | true ↦ IsPermutation-refl (x ∷ y ∷ ys)
      | false ↦ IsPermutation-trans (x ∷ y ∷ ys) (y ∷ x ∷ ys) (y ∷ put_by_number x ys)
          (IsPermutation-middle (x ∷ []) y ys) (IsPermutation-cons y (x ∷ ys) (put_by_number x ys) (put_moves x ys))
    ]

by_number_moves : (xs : List Claim) → IsPermutation xs (by_number xs)
by_number_moves [] = IsPermutation-refl []
by_number_moves (x ∷ xs) =
    IsPermutation-trans (x ∷ xs) (x ∷ by_number xs) (put_by_number x (by_number xs))
    (IsPermutation-cons x xs (by_number xs) (by_number_moves xs)) (put_moves x (by_number xs))

-- no number is above one behind it
abbrev Ascends : List Claim → Type 0
Ascends [] = Unit {0}
Ascends (x ∷ xs) = All (λ y. x.number ≤ y.number) xs × Ascends xs

pairs : (xs : List Claim) → Ascends xs → AllPairs (λ a b. a.number ≤ b.number) xs
pairs [] up i j d lt within = absurd (omega arith)
pairs (x ∷ xs) up i zero d lt within = absurd (omega arith)
pairs (x ∷ xs) up zero (suc j) d lt within = up.0 j d (omega arith)
pairs (x ∷ xs) up (suc i) (suc j) d lt within = pairs xs up.1 i j d (omega arith) (omega arith)

put_all : (n : ℕ) (x : Claim) (xs : List Claim) → n ≤ x.number → All (λ y. n ≤ y.number) xs
    → All (λ y. n ≤ y.number) (put_by_number x xs)
put_all n x [] le all = All-cons (λ y. n ≤ y.number) x [] le all
put_all n x (y ∷ ys) le all =
    elim (ltb x.number y.number) as (λ b. All (λ z. n ≤ z.number) (cond b (x ∷ y ∷ ys) (y ∷ put_by_number x ys))) [
      | true ↦ All-cons (λ z. n ≤ z.number) x (y ∷ ys) le all
      | false ↦ All-cons (λ z. n ≤ z.number) y (put_by_number x ys) (All-head (λ z. n ≤ z.number) y ys all)
          (put_all n x ys le (All-tail (λ z. n ≤ z.number) y ys all))
    ]

put_ascends : (x : Claim) (xs : List Claim) → Ascends xs → Ascends (put_by_number x xs)
put_ascends x [] up = (All-nil (λ y. x.number ≤ y.number), tt)
put_ascends x (y ∷ ys) up =
    elim (cases_lt x.number y.number) [
      | inl lt ↦ rw (in_front x y ys lt) (
        All-cons (λ z. x.number ≤ z.number) y ys (omega arith)
            (All-weaker (λ z. y.number ≤ z.number) (λ z. x.number ≤ z.number) (λ z le. omega arith) ys up.0),
        up,
      )
      | inr le ↦ rw (behind x y ys le) (put_all y.number x ys le up.0, put_ascends x ys up.1)
    ]

by_number_ascends : (xs : List Claim) → Ascends (by_number xs)
by_number_ascends [] = tt
by_number_ascends (x ∷ xs) = put_ascends x (by_number xs) (by_number_ascends xs)

-- claims whose numbers rise stay as they are
rising_stays : (xs : List Claim) → AllPairs (λ a b. a.number < b.number) xs → by_number xs ≡ xs
rising_stays [] up = refl
rising_stays (x ∷ []) up = refl
rising_stays (x ∷ y ∷ ys) up =
    ap (put_by_number x) (rising_stays (y ∷ ys) (λ i j d lt within. up (suc i) (suc j) d (omega arith) (omega arith)))
    ∙ in_front x y ys (up 0 1 x (omega arith) (omega arith))

-- claims by rising number
pub rising : (xs : List Claim) → AreRising xs (by_number xs)
rising xs =
    record { moved = by_number_moves xs; rising = pairs (by_number xs) (by_number_ascends xs); stays = rising_stays xs }
