-- Generations as one list of keys, in which no key comes twice.
use Rattle.std.proofs.Common.{◌≡◌, ◌≢◌, inl, inr, ℕ, zero, suc, ◌+◌, ◌-◌, ◌<◌, ◌≤◌, ◌==◌, ◌||◌, Bool, true, false, cond, List, [], ◌∷◌, ◌++◌, length, take, drop, get_or, refl, sym, ap, ◌∙◌, subst, arith, add-one, append_assoc, append-nil, length-append, eq-eqb, take_all}
use lib.ListN.{get_or-append}
use Rattle.std.specs.List.{All, AllPairs, Contains, concat, list_any}
use Rattle.std.specs.List.Sorted.{IsSorted, IsStrictlyIncreasing}
use Rattle.std.specs.declared.cmp.Ordering.TheVariants.{Less, Equal, Greater}
use Rattle.std.specs.Ordering.{nat_cmp, is_lt}
use Rattle.std.proofs.lemmas.Bool.{cases_lt, false_from_ne_true, le-ltb, eqb-true, or_cases}
use Rattle.std.proofs.lemmas.List.{get_or_default, get_or-append_right, get_or-append-add, take_more, take-append-drop}
use Rattle.std.proofs.lemmas.List.Elements.{Contains-append_left, Contains-append_right}
use Rattle.std.proofs.lemmas.List.Folds.{list_any_at, Any-from_list_any}
use Rattle.std.proofs.lemmas.List.Kept.{AllPairs-from_increasing}
use Rattle.nj_saved.specs.Reading.{has_key}
use Rattle.nj_saved.specs.Ranges.{IsNext, AreGenerations, ComeOnce}

-- ---- the one list

concat-append : (xs ys : List (List ℕ)) → concat (xs ++ ys) ≡ concat xs ++ concat ys
concat-append [] ys = refl
concat-append (x ∷ xs) ys = ap (λ zs. x ++ zs) (concat-append xs ys) ∙ sym (append_assoc x (concat xs) (concat ys))

-- a list more
concat_push : (xs : List (List ℕ)) (y : List ℕ) → concat (xs ++ y ∷ []) ≡ concat xs ++ y
concat_push xs y = concat-append xs (y ∷ []) ∙ ap (λ zs. concat xs ++ zs) (append-nil y)

-- the first lists, and one of them more
concat_more :
    (xs : List (List ℕ)) (n : ℕ) → n < length xs → concat (take (n + 1) xs) ≡ concat (take n xs) ++ get_or xs n []
concat_more xs n inside = ap concat (take_more xs n [] inside) ∙ concat_push (take n xs) (get_or xs n [])

-- one list, those before it and those behind it
concat_split : (xs : List (List ℕ)) (n : ℕ) → n < length xs
    → concat xs ≡ (concat (take n xs) ++ get_or xs n []) ++ concat (drop (n + 1) xs)
concat_split xs n inside =
    ap concat (sym (take-append-drop (n + 1) xs))
    ∙ concat-append (take (n + 1) xs) (drop (n + 1) xs)
    ∙ ap (λ zs. zs ++ concat (drop (n + 1) xs)) (concat_more xs n inside)

or_true : (b : Bool) → (b || true) ≡ true
or_true true = refl
or_true false = refl

here : (x : List ℕ) (xs : List (List ℕ)) (q : ℕ) → list_any (λ k. k == q) x ≡ true → has_key (x ∷ xs) q ≡ true
here x xs q has = ap (λ b. b || has_key xs q) has

later : (x : List ℕ) (xs : List (List ℕ)) (q : ℕ) → has_key xs q ≡ true → has_key (x ∷ xs) q ≡ true
later x xs q has = ap (λ b. list_any (λ k. k == q) x || b) has ∙ or_true (list_any (λ k. k == q) x)

-- a key of the one list is in a generation
in_some : (xs : List (List ℕ)) (i d : ℕ) → i < length (concat xs) → has_key xs (get_or (concat xs) i d) ≡ true
in_some [] i d inside = absurd (omega arith)
in_some (x ∷ xs) i d inside =
    let q = get_or (x ++ concat xs) i d in
    elim (cases_lt i (length x)) [
      | inl low ↦
          here x xs q (list_any_at (λ k. k == q) x i d low
          (eq-eqb (get_or x i d) q (sym (get_or-append x (concat xs) d i low))))
      | inr high ↦
          let all : length (x ++ concat xs) ≡ length x + length (concat xs) = length-append x (concat xs) in
          later x xs q (ap (has_key xs) (get_or-append_right x (concat xs) (length x) i d refl high)
          ∙ in_some xs (i - length x) d (omega (arith, inside, all, high)))
    ]

-- a key of a generation is in the one list
in_all : (xs : List (List ℕ)) (q : ℕ) → has_key xs q ≡ true → Contains (concat xs) q
in_all [] q has = absurd (cc)
in_all (x ∷ xs) q has =
    elim (or_cases (list_any (λ k. k == q) x) (has_key xs q) has) [
      | inl one ↦
          let found = Any-from_list_any (λ k. k == q) x one in
          Contains-append_left x (concat xs) q
          (subst (λ z. Contains x z) (eqb-true found.1 q found.4) (found.0, found.2, found.3))
      | inr more ↦ Contains-append_right x (concat xs) q (in_all xs q more)
    ]

-- ---- different keys

-- two lists of different keys, of which none is in both
both : (xs ys : List ℕ) → AllPairs (λ a b. a ≢ b) xs → AllPairs (λ a b. a ≢ b) ys
    → ((i j d : ℕ) → i < length xs → j < length ys → get_or xs i d ≢ get_or ys j d)
    → AllPairs (λ a b. a ≢ b) (xs ++ ys)
both xs ys first second apart i j d less inside =
    let all : length (xs ++ ys) ≡ length xs + length ys = length-append xs ys in
    elim (cases_lt j (length xs)) [
      | inl low ↦ λ e. first i j d less low
          (sym (get_or-append xs ys d i (omega (arith, less, low))) ∙ e ∙ get_or-append xs ys d j low)
      | inr high ↦
          let right : get_or (xs ++ ys) j d ≡ get_or ys (j - length xs) d =
          get_or-append_right xs ys (length xs) j d refl high in
          elim (cases_lt i (length xs)) [
            | inl low ↦ λ e. apart i (j - length xs) d low (omega (arith, inside, all, high))
                (sym (get_or-append xs ys d i low) ∙ e ∙ right)
            | inr past ↦
                λ e. second (i - length xs) (j - length xs) d (omega (arith, less, past))
                (omega (arith, inside, all, high))
                (sym (get_or-append_right xs ys (length xs) i d refl past) ∙ e ∙ right)
          ]
    ]

-- keys that rise from above 0 rise
rises : (keys : List ℕ) → IsStrictlyIncreasing (0 ∷ keys) → IsStrictlyIncreasing keys
rises keys up k inside =
    let next : suc k + 1 ≡ suc (k + 1) = omega arith in
    subst (λ m. get_or keys k 0 < get_or (0 ∷ keys) m 0) next (up (suc k) (omega (arith, inside)))

-- so they are different
differ : (keys : List ℕ) → IsStrictlyIncreasing (0 ∷ keys) → AllPairs (λ a b. a ≢ b) keys
differ keys up i j d less inside e =
    let below : get_or keys i d < get_or keys j d = AllPairs-from_increasing keys (rises keys up) i j d less inside in
    omega (arith, below, e)

-- the keys of the first generations are different
once_to : (generations : List (List ℕ)) → AreGenerations generations → (n : ℕ) → n ≤ length generations
    → AllPairs (λ a b. a ≢ b) (concat (take n generations))
once_to generations are zero within = λ i j d less inside. absurd (omega arith)
once_to generations are (suc n) within =
    let low : n < length generations = omega (arith, within) in
    let next = are n low in
    let keys = get_or generations n [] in
    let apart : (i j d : ℕ) → i < length (concat (take n generations)) → j < length keys
    → get_or (concat (take n generations)) i d ≢ get_or keys j d =
    λ i j d at there e.
    let has : has_key (take n generations) (get_or keys j 0) ≡ true =
    ap (has_key (take n generations)) (sym (e ∙ get_or_default keys j d 0 there)) ∙ in_some (take n generations) i d at
    in
    let lacks : has_key (take n generations) (get_or keys j 0) ≡ false = next.new j there in cc in
    subst (λ zs. AllPairs (λ a b. a ≢ b) zs)
    (sym (ap (λ m. concat (take m generations)) (sym (add-one n)) ∙ concat_more generations n low))
    (both (concat (take n generations)) keys (once_to generations are n (omega (arith, within)))
    (differ keys next.rising) apart)

-- ---- generations in the words of lists

at : (generations : List (List ℕ)) → AreGenerations generations → (g : ℕ) (d : List ℕ) → g < length generations
    → IsNext (take g generations) (get_or generations g d)
at generations are g d inside =
    subst (IsNext (take g generations)) (get_or_default generations g [] d inside) (are g inside)

pub come_once : (generations : List (List ℕ)) → AreGenerations generations → ComeOnce generations
come_once generations are = record {
  some = λ g d inside. (at generations are g d inside).some;
  rising = λ g d inside. (at generations are g d inside).rising;
  once = subst (λ gs. AllPairs (λ a b. a ≢ b) (concat gs)) (take_all (length generations) generations (omega arith))
      (once_to generations are (length generations) (omega arith));
}

-- a key of a generation is in no older one
is_new :
    (generations : List (List ℕ)) → AllPairs (λ a b. a ≢ b) (concat generations) → (g k : ℕ) → g < length generations
    → k < length (get_or generations g []) → has_key (take g generations) (get_or (get_or generations g []) k 0) ≡ false
is_new generations once g k inside low =
    let keys = get_or generations g [] in
    let older = concat (take g generations) in
    let q = get_or keys k 0 in
    let rest = concat (drop (g + 1) generations) in
    false_from_ne_true (has_key (take g generations) q)
    (λ has.
    let found = in_all (take g generations) q has in
    let place : found.0 < length older = found.1 in
    let size : length (older ++ keys) ≡ length older + length keys = length-append older keys in
    let whole : length ((older ++ keys) ++ rest) ≡ length (older ++ keys) + length rest =
    length-append (older ++ keys) rest in
    let left : get_or ((older ++ keys) ++ rest) found.0 q ≡ q =
    get_or-append (older ++ keys) rest q found.0 (omega (arith, place, size))
    ∙ get_or-append older keys q found.0 place ∙ found.2 in
    let right : get_or ((older ++ keys) ++ rest) (length older + k) q ≡ q =
    get_or-append (older ++ keys) rest q (length older + k) (omega (arith, low, size))
    ∙ get_or-append-add older keys k q ∙ get_or_default keys k q 0 low in
    subst (λ zs. AllPairs (λ a b. a ≢ b) zs) (concat_split generations g inside) once
    found.0 (length older + k) q (omega (arith, place)) (omega (arith, low, size, whole)) (left ∙ sym right))

pub are_generations : (generations : List (List ℕ)) → ComeOnce generations → AreGenerations generations
are_generations generations come g inside = record {
  some = come.some g [] inside;
  rising = come.rising g [] inside;
  new = λ k low. is_new generations come.once g k inside low;
}

-- ---- their order

not_less : (y x : ℕ) → x < y → is_lt (nat_cmp y x) ≡ false
not_less y x above =
    ap (λ b. is_lt (cond b Less (cond (y == x) Equal Greater))) (le-ltb y x (omega (arith, above))) ∙ tie (y == x) where
      tie : (b : Bool) → is_lt (cond b Equal Greater) ≡ false
      tie true = refl
      tie false = refl

sorted : (keys : List ℕ) → IsStrictlyIncreasing (0 ∷ keys) → IsSorted nat_cmp keys
sorted keys up k d low inside =
    not_less (get_or keys (k + 1) d) (get_or keys k d)
    (AllPairs-from_increasing keys (rises keys up) k (k + 1) d (omega arith) inside)

pub in_order : (generations : List (List ℕ)) → AreGenerations generations → All (IsSorted nat_cmp) generations
in_order generations are g d inside = sorted (get_or generations g d) (at generations are g d inside).rising

pub never_zero : (generations : List (List ℕ)) → AreGenerations generations → All (All (λ key. key ≢ 0)) generations
never_zero generations are g d inside k e low is =
    let keys = get_or generations g d in
    let above : 0 < get_or (0 ∷ keys) (suc k) e =
    AllPairs-from_increasing (0 ∷ keys) (at generations are g d inside).rising 0 (suc k) e (omega arith)
    (omega (arith, low)) in
    omega (arith, above, is)
