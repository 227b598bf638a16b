-- What is kept of a list under a bound and a quota.
use Rattle.std.proofs.Common.{◌≡◌, ℕ, zero, suc, ◌+◌, ◌<◌, ◌≤◌, Bool, true, false, cond, ◌&&◌, nat_lt, List, [], ◌∷◌, ◌++◌, length, take, map, fold, refl, sym, ap, ap₂, ◌∙◌, arith, ltb-true, lt-ltb, le-ltb, append-nil, append_assoc}
use Rattle.std.specs.List.{All, count_by}
use Rattle.std.proofs.lemmas.Bool.{and_parts}
use Rattle.std.proofs.lemmas.List.{length_push, map_push, length-map}
use Rattle.std.proofs.lemmas.List.Elements.{All-nil, All-cons, All-head, All-tail, All-append}
use Rattle.std.proofs.lemmas.List.Sums.{count_by-le-length, sum_by-cons, sum_by_push}
use Rattle.nj_search_defs.specs.Quota.{kept_with, limited}

module _ {X : Type 0} (alike : X → X → Bool) (most quota : ℕ) where
  -- whether x is kept behind these
  abbrev has_room : List X → X → Bool
  has_room done x = nat_lt (length done) most && nat_lt (count_by (alike x) done) quota

  one_few : (done : List X) (x : X) → length done ≤ most → length (kept_with alike most quota done x) ≤ most
  one_few done x few =
      elim (has_room done x) as (λ b. has_room done x ≡ b → length (cond b (done ++ x ∷ []) done) ≤ most) [
        | true ↦ λ room. (
            let below : length done < most =
            ltb-true (length done) most (and_parts (nat_lt (length done) most)
            (nat_lt (count_by (alike x) done) quota) room).0 in
            let more : length (done ++ x ∷ []) ≡ length done + 1 = length_push done x in
            omega (arith, below, more))
        | false ↦ λ full. few
      ] refl

  few_from : (done xs : List X) → length done ≤ most → length (fold (kept_with alike most quota) done xs) ≤ most
  few_from done [] few = few
  few_from done (x ∷ xs) few = few_from (kept_with alike most quota done x) xs (one_few done x few)

  -- no more than the bound are kept
  pub limited_few : (xs : List X) → length (limited alike most quota xs) ≤ most
  limited_few xs = few_from [] xs (omega arith)

  one_holds : (P : X → Type 0) (done : List X) (x : X) → All P done → P x → All P (kept_with alike most quota done x)
  one_holds P done x all p =
      elim (has_room done x) as (λ b. All P (cond b (done ++ x ∷ []) done)) [
        | true ↦ All-append P done (x ∷ []) all (All-cons P x [] p (All-nil P))
        | false ↦ all
      ]

  holds_from : (P : X → Type 0) (done xs : List X) → All P done → All P xs
      → All P (fold (kept_with alike most quota) done xs)
  holds_from P done [] all rest = all
  holds_from P done (x ∷ xs) all rest =
      holds_from P (kept_with alike most quota done x) xs
      (one_holds P done x all (All-head P x xs rest)) (All-tail P x xs rest)

  -- what holds of each member holds of each that is kept
  pub All-limited : (P : X → Type 0) (xs : List X) → All P xs → All P (limited alike most quota xs)
  All-limited P xs all = holds_from P [] xs (All-nil P) all

  -- ---- a quota that is no less than the bound

  module _ (large : most ≤ quota) where
    kept_room : (done : List X) (x : X) → length done < most → kept_with alike most quota done x ≡ done ++ x ∷ []
    kept_room done x room =
        let counted : count_by (alike x) done ≤ length done = count_by-le-length (alike x) done in
        let below : count_by (alike x) done < quota = omega (arith, room, large, counted) in
        ap (λ b. cond (b && nat_lt (count_by (alike x) done) quota) (done ++ x ∷ []) done)
        (lt-ltb (length done) most room)
        ∙ ap (λ b. cond b (done ++ x ∷ []) done) (lt-ltb (count_by (alike x) done) quota below)

    kept_full : (done : List X) (x : X) → most ≤ length done → kept_with alike most quota done x ≡ done
    kept_full done x full =
        ap (λ b. cond (b && nat_lt (count_by (alike x) done) quota) (done ++ x ∷ []) done)
        (le-ltb (length done) most full)

    all_full : (done xs : List X) → most ≤ length done → fold (kept_with alike most quota) done xs ≡ done
    all_full done [] full = refl
    all_full done (x ∷ xs) full =
        ap (λ d. fold (kept_with alike most quota) d xs) (kept_full done x full) ∙ all_full done xs full

    -- what is still kept behind these: as many as there is room for
    all_from : (xs : List X) (left : ℕ) (done : List X) → length done + left ≡ most
        → fold (kept_with alike most quota) done xs ≡ done ++ take left xs
    all_from [] zero done is = sym (append-nil done)
    all_from [] (suc left) done is = sym (append-nil done)
    all_from (x ∷ xs) zero done is = all_full done (x ∷ xs) (omega (arith, is)) ∙ sym (append-nil done)
    all_from (x ∷ xs) (suc left) done is =
        let more : length (done ++ x ∷ []) ≡ length done + 1 = length_push done x in
        ap (λ d. fold (kept_with alike most quota) d xs) (kept_room done x (omega (arith, is)))
        ∙ (all_from xs left (done ++ x ∷ []) (omega (arith, is, more)) ∙ append_assoc done (x ∷ []) (take left xs))

    -- the first are kept, as many as the bound
    pub limited_all : (xs : List X) → limited alike most quota xs ≡ take most xs
    limited_all xs = all_from xs most [] (omega arith)

  -- ---- how many are alike, where likeness is that of one kind each

  module _ (same : (a b : X) → alike a b ≡ true → (c : X) → alike a c ≡ alike b c) (y : X) where
    -- members of one kind count the same
    same_count : (a : X) → alike y a ≡ true → (done : List X) → count_by (alike y) done ≡ count_by (alike a) done
    same_count a is [] = refl
    same_count a is (z ∷ zs) =
        sum_by-cons (λ w. cond (alike y w) 1 0) z zs
        ∙ (ap₂ (λ b n. cond b 1 0 + n) (same y a is z) (same_count a is zs)
        ∙ sym (sum_by-cons (λ w. cond (alike a w) 1 0) z zs))

    by_like : (done : List X) (x : X) (b : Bool) → alike y x ≡ b → count_by (alike x) done < quota
        → count_by (alike y) done ≤ quota →
        count_by (alike y) (done ++ x ∷ []) ≡ count_by (alike y) done + cond (alike y x) 1 0
        → count_by (alike y) (done ++ x ∷ []) ≤ quota
    by_like done x true is below few more =
        let one : ◌≡◌ {A = ℕ} (cond (alike y x) 1 0) 1 = ap (λ b. cond {A = ℕ} b 1 0) is in
        let count : count_by (alike y) done ≡ count_by (alike x) done = same_count x is done in
        omega (arith, below, more, one, count)
    by_like done x false is below few more =
        let none : ◌≡◌ {A = ℕ} (cond (alike y x) 1 0) 0 = ap (λ b. cond {A = ℕ} b 1 0) is in
        omega (arith, more, none, few)

    one_within : (done : List X) (x : X) → count_by (alike y) done ≤ quota
        → count_by (alike y) (kept_with alike most quota done x) ≤ quota
    one_within done x few =
        elim (has_room done x) as (λ b. has_room done x ≡ b
        → count_by (alike y) (cond b (done ++ x ∷ []) done) ≤ quota) [
          | true ↦ λ room. by_like done x (alike y x) refl
              (ltb-true (count_by (alike x) done) quota
              (and_parts (nat_lt (length done) most) (nat_lt (count_by (alike x) done) quota) room).1) few
              (sum_by_push (λ z. cond (alike y z) 1 0) done x)
          | false ↦ λ full. few
        ] refl

    within_from : (xs done : List X) → count_by (alike y) done ≤ quota
        → count_by (alike y) (fold (kept_with alike most quota) done xs) ≤ quota
    within_from [] done few = few
    within_from (x ∷ xs) done few = within_from xs (kept_with alike most quota done x) (one_within done x few)

    -- no more than the quota are of one kind
    pub limited_quota : (xs : List X) → count_by (alike y) (limited alike most quota xs) ≤ quota
    limited_quota xs = within_from xs [] (omega arith)

-- ---- the list seen through a function

module _ {X Y : Type 0} (f : X → Y) (alike : X → X → Bool) (alike' : Y → Y → Bool) (most quota : ℕ)
    (same : (a b : X) → alike' (f a) (f b) ≡ alike a b) where
  count-map : (x : X) (done : List X) → count_by (alike' (f x)) (map f done) ≡ count_by (alike x) done
  count-map x [] = refl
  count-map x (y ∷ ys) =
      sum_by-cons (λ z. cond (alike' (f x) z) 1 0) (f y) (map f ys)
      ∙ (ap₂ (λ b n. cond b 1 0 + n) (same x y) (count-map x ys) ∙ sym (sum_by-cons (λ z. cond (alike x z) 1 0) y ys))

  one-map : (done : List X) (x : X)
      → kept_with alike' most quota (map f done) (f x) ≡ map f (kept_with alike most quota done x)
  one-map done x =
      ap₂ (λ n m. cond (nat_lt n most && nat_lt m quota) (map f done ++ f x ∷ []) (map f done))
      (length-map done f) (count-map x done)
      ∙ elim (nat_lt (length done) most && nat_lt (count_by (alike x) done) quota) as (λ b.
      cond b (map f done ++ f x ∷ []) (map f done) ≡ map f (cond b (done ++ x ∷ []) done)) [
        | true ↦ sym (map_push f done x)
        | false ↦ refl
      ]

  from-map : (xs done : List X) → fold (kept_with alike' most quota) (map f done) (map f xs)
      ≡ map f (fold (kept_with alike most quota) done xs)
  from-map [] done = refl
  from-map (x ∷ xs) done =
      ap (λ d. fold (kept_with alike' most quota) d (map f xs)) (one-map done x)
      ∙ from-map xs (kept_with alike most quota done x)

  -- what is kept of the images are the images of what is kept
  pub limited-map : (xs : List X) → limited alike' most quota (map f xs) ≡ map f (limited alike most quota xs)
  limited-map xs = from-map xs []
