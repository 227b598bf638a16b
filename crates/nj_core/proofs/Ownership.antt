-- The least of an opening owner and numbers: it does not depend on their order, and it is a claim's number exactly
-- where the claim is the first of a new key.
use Rattle.std.proofs.Common.{◌≡◌, ◌⊎◌, ℕ, zero, suc, ◌<◌, ◌≤◌, min, Bool, true, false, cond, not, ◌&&◌, ◌||◌, eqb, ltb, leb, List, [], ◌∷◌, length, get_or, refl, sym, ◌∙◌, ap, subst, inl, inr, arith, if◌then◌else◌, Option, Some, None, is_some}
use Rattle.std.specs.Prelude.{filter, map, All, Contains, IfSome}
use Rattle.std.specs.List.{list_any}
use Rattle.std.specs.List.Sorted.{IsPermutation}
use Rattle.std.proofs.lemmas.List.Sorted.{list_any-IsPermutation}
use Rattle.std.proofs.lemmas.List.Elements.{All-nil, All-cons, All-contains}
use Rattle.std.proofs.lemmas.Bool.{cases_lt, lt-ltb, le-leb, leb-true, eqb-true, eqb-false, ne_eqb, eq-eqb, or_right}
use Rattle.std.proofs.lemmas.Bool.Decides.{nat_tests}
use Rattle.std.proofs.lemmas.Option.{same_Some, MatchOption-at_some}
use Rattle.nj_core.specs.declared.claim.Claim.{Claim}
use Rattle.nj_core.specs.Owners.{owner, lesser, claimed, least, numbers_of, is_number}
use Rattle.nj_core.specs.Laws.{IsLeast, AClaimTakesTheLesser, LeastIsTheLeast, OwnedIsFirst}

-- whether there is an owner and it passes the test
abbrev passes : (ℕ → Bool) → Option ℕ → Bool
passes p None = false
passes p (Some number) = p number

-- the lesser of two numbers passes where one of them does
abbrev Falls : (ℕ → Bool) → Type 0
Falls p = (a b : ℕ) → p (min a b) ≡ (p a || p b)

or_false : (a : Bool) → a ≡ (a || false)
or_false true = refl
or_false false = refl

or_assoc : (a b c : Bool) → ((a || b) || c) ≡ (a || (b || c))
or_assoc true b c = refl
or_assoc false b c = refl

lesser_passes : (p : ℕ → Bool) → Falls p → (opening : Option ℕ) (number : ℕ)
    → p (lesser opening number) ≡ (passes p opening || p number)
lesser_passes p falls None number = refl
lesser_passes p falls (Some other) number = falls other number

-- the least passes where the opening owner or a number does
least_passes : (p : ℕ → Bool) → Falls p → (opening : Option ℕ) (numbers : List ℕ)
    → passes p (least opening numbers) ≡ (passes p opening || list_any p numbers)
least_passes p falls opening [] = or_false (passes p opening)
least_passes p falls opening (number ∷ numbers) =
    least_passes p falls (Some (lesser opening number)) numbers
    ∙ ap (λ b. b || list_any p numbers) (lesser_passes p falls opening number)
    ∙ or_assoc (passes p opening) (p number) (list_any p numbers)

at_most_falls : (most : ℕ) → Falls (λ n. leb n most)
at_most_falls most a b = grind (arith, nat_tests)

below_falls : (bound : ℕ) → Falls (λ n. ltb n bound)
below_falls bound a b = grind (arith, nat_tests)

-- owners that are at most the same numbers are the same
same_owner : (a b : Option ℕ) → ((most : ℕ) → passes (λ n. leb n most) a ≡ passes (λ n. leb n most) b) → a ≡ b
same_owner None None same = refl
same_owner None (Some b) same = absurd (let h = same b in let k = le-leb b b (omega arith) in cc)
same_owner (Some a) None same = absurd (let h = same a in let k = le-leb a a (omega arith) in cc)
same_owner (Some a) (Some b) same =
    let up : b ≤ a = leb-true b a (sym (same a) ∙ le-leb a a (omega arith)) in
    let down : a ≤ b = leb-true a b (same b ∙ le-leb b b (omega arith)) in
    let is : a ≡ b = omega arith in
    ap (λ n. Some n) is

and_true : (a : Bool) → (a && true) ≡ a
and_true true = refl
and_true false = refl

and_false : (a : Bool) → (a && false) ≡ false
and_false true = refl
and_false false = refl

-- a test among the numbers of a key's claims is one among the claims
any_number : (p : ℕ → Bool) (key : ℕ) (claims : List Claim)
    → list_any p (numbers_of key claims) ≡ list_any (λ c. p c.number && eqb c.key key) claims
any_number p key [] = refl
any_number p key (c ∷ cs) = go (eqb c.key key) (any_number p key cs) where
  go : (b : Bool) → list_any p (numbers_of key cs) ≡ list_any (λ d. p d.number && eqb d.key key) cs
      → list_any p
      (map (λ (d : Claim). d.number) (cond b (c ∷ filter (λ d. eqb d.key key) cs) (filter (λ d. eqb d.key key) cs)))
      ≡ ((p c.number && b) || list_any (λ d. p d.number && eqb d.key key) cs)
  go true rest =
      ap (λ r. p c.number || r) rest
      ∙ ap (λ b. b || list_any (λ (d : Claim). p d.number && eqb d.key key) cs) (sym (and_true (p c.number)))
  go false rest =
      rest ∙ ap (λ b. b || list_any (λ (d : Claim). p d.number && eqb d.key key) cs) (sym (and_false (p c.number)))

-- the least does not depend on the order of the claims
pub least_moved : (opening : Option ℕ) (key : ℕ) (xs ys : List Claim) → IsPermutation xs ys
    → least opening (numbers_of key xs) ≡ least opening (numbers_of key ys)
least_moved opening key xs ys moved =
    same_owner (least opening (numbers_of key xs)) (least opening (numbers_of key ys)) (λ most.
    least_passes (λ n. leb n most) (at_most_falls most) opening (numbers_of key xs)
    ∙ ap (λ b. passes (λ n. leb n most) opening || b) (
    any_number (λ n. leb n most) key xs
    ∙ list_any-IsPermutation (λ c. leb c.number most && eqb c.key key) xs ys moved
    ∙ sym (any_number (λ n. leb n most) key ys)
    )
    ∙ sym (least_passes (λ n. leb n most) (at_most_falls most) opening (numbers_of key ys))
    )

-- an owner is a number where it is at most that and not below it
number_between : (o : Option ℕ) (number : ℕ)
    → is_number o number ≡ (passes (λ n. leb n number) o && not (passes (λ n. ltb n number) o))
number_between None number = refl
number_between (Some other) number = grind (arith, nat_tests)

-- where some member passes
any_at : (p : Claim → Bool) (cs : List Claim) (k : ℕ) (d : Claim) → k < length cs → p (get_or cs k d) ≡ true
    → list_any p cs ≡ true
any_at p [] k d lt is = absurd (omega arith)
any_at p (c ∷ cs) zero d lt is = ap (λ b. b || list_any p cs) is
any_at p (c ∷ cs) (suc k) d lt is = ap (λ b. p c || b) (any_at p cs k d (omega arith) is) ∙ or_right (p c) true refl

-- an opening owner below a number is known by being there
below_or_none : (o : Option ℕ) (number : ℕ) → IfSome o (λ n. n < number) → passes (λ n. ltb n number) o ≡ is_some o
below_or_none None number below = refl
below_or_none (Some other) number below = lt-ltb other number below

neither : (a b : Bool) → not (a || b) ≡ (not a && not b)
neither true b = refl
neither false b = refl

below_one : (o : Option ℕ) (cs : List Claim) (k : ℕ) (d : Claim) → k < length cs
    → IfSome o (λ n. All (λ c. n < c.number) cs) → IfSome o (λ n. n < (get_or cs k d).number)
below_one None cs k d lt below = tt
below_one (Some n) cs k d lt below = below k d lt

-- a claim's key is owned by its number exactly where it is the first of a new key
pub owned_first : OwnedIsFirst
owned_first opening owners claims below least_is k d lt =
    let claim : Claim = get_or claims k d in
    let o : Option ℕ = opening claim.key in
    let n : ℕ = claim.number in
    let numbers : List ℕ = numbers_of claim.key claims in
    let there : list_any (λ m. leb m n) numbers ≡ true =
    any_number (λ m. leb m n) claim.key claims
    ∙ any_at (λ c. leb c.number n && eqb c.key claim.key) claims k d lt
    (ap (λ b. b && eqb claim.key claim.key) (le-leb n n (omega arith)) ∙ eq-eqb claim.key claim.key refl) in
    ap (λ (r : Option ℕ). is_number r n) (least_is claim.key)
    ∙ number_between (least o numbers) n
    ∙ ap (λ b. b && not (passes (λ m. ltb m n) (least o numbers)))
    (least_passes (λ m. leb m n) (at_most_falls n) o numbers ∙ ap (λ b. passes (λ m. leb m n) o || b) there
    ∙ or_right (passes (λ m. leb m n) o) true refl)
    ∙ ap not (least_passes (λ m. ltb m n) (below_falls n) o numbers
    ∙ ap (λ b. b || list_any (λ m. ltb m n) numbers) (below_or_none o n (below_one o claims k d lt (below claim.key)))
    ∙ ap (λ b. is_some o || b) (any_number (λ m. ltb m n) claim.key claims))
    ∙ neither (is_some o) (list_any (λ c. ltb c.number n && eqb c.key claim.key) claims)

owner_if : (b : Bool) (xs ys : List Claim) (key : ℕ)
    → owner (if b then xs else ys) key ≡ (if b then owner xs key else owner ys key)
owner_if true xs ys key = refl
owner_if false xs ys key = refl

-- the entry's key is the claim's, the asked one, and the claim's is the asked one, or not
three_tests : (b m c : Bool) (e n : ℕ) (old new : Option ℕ) → (b ≡ true → m ≡ c) → (b ≡ false → m ≡ true → c ≡ false)
    → new ≡ (if c then Some (lesser old n) else old)
    → (if b then (if m then Some (min e n) else old) else (if m then Some e else new))
    ≡ (if c then Some (lesser (if m then Some e else old) n) else (if m then Some e else old))
three_tests true true true e n old new same other is = refl
three_tests true true false e n old new same other is = absurd (let h = same refl in cc)
three_tests true false true e n old new same other is = absurd (let h = same refl in cc)
three_tests true false false e n old new same other is = refl
three_tests false true true e n old new same other is = absurd (let h = other refl refl in cc)
three_tests false true false e n old new same other is = refl
three_tests false false c e n old new same other is = is

-- after a claim its key is owned by the lesser, and other keys as before
pub takes_lesser : AClaimTakesTheLesser
takes_lesser claim [] key = refl
takes_lesser claim (e ∷ es) key =
    owner_if (eqb e.key claim.key)
    (record { key = e.key; number = min e.number claim.number } ∷ es) (e ∷ claimed claim es) key
    ∙ three_tests (eqb e.key claim.key) (eqb e.key key) (eqb claim.key key) e.number claim.number (owner es key)
    (owner (claimed claim es) key)
    (λ is. ap (λ k. eqb k key) (eqb-true e.key claim.key is))
    (λ is same. ne_eqb claim.key key (λ h. eqb-false e.key claim.key is (eqb-true e.key key same ∙ sym h)))
    (takes_lesser claim es key)

lesser_le : (o : Option ℕ) (n : ℕ) → lesser o n ≤ n
lesser_le None n = omega arith
lesser_le (Some m) n = omega arith

above_opening : (o : Option ℕ) (n r : ℕ) → r ≤ lesser o n → IfSome o (λ m. r ≤ m)
above_opening None n r le = tt
above_opening (Some m) n r le = omega arith

-- the lesser is the number or the owner
lesser_is : (o : Option ℕ) (n r : ℕ) → lesser o n ≡ r → (o ≡ Some r) ⊎ (n ≡ r)
lesser_is None n r is = inr is
lesser_is (Some m) n r is =
    elim (cases_lt m n) [
      | inl lt ↦ inl (let e : m ≡ r = omega arith in ap (λ k. Some k) e)
      | inr le ↦ inr (omega arith)
    ]

attained_more : (o : Option ℕ) (n : ℕ) (ns : List ℕ) (r : ℕ) → (Some (lesser o n) ≡ Some r) ⊎ Contains ns r
    → (o ≡ Some r) ⊎ Contains (n ∷ ns) r
attained_more o n ns r is =
    elim is [
      | inl e ↦ elim (lesser_is o n r (same_Some (lesser o n) r e)) [
        | inl there ↦ inl there
        | inr first ↦ inr (0, omega arith, first)
      ]
      | inr c ↦ inr (suc c.0, omega arith, c.2)
    ]

least_more : (o : Option ℕ) (n : ℕ) (ns : List ℕ) (r : Option ℕ) → IsLeast (Some (lesser o n)) ns r
    → IsLeast o (n ∷ ns) r
least_more o n ns None is = absurd (let h = is.0 in cc)
least_more o n ns (Some r) is = (
  attained_more o n ns r is.0,
  above_opening o n r is.1,
  All-cons (λ m. r ≤ m) n ns (let le = lesser_le o n in let h : r ≤ lesser o n = is.1 in omega arith) is.2,
)

-- the least is attained, and above none
least_least : (opening : Option ℕ) (numbers : List ℕ) → IsLeast opening numbers (least opening numbers)
least_least None [] = (refl, refl)
least_least (Some o) [] = (inl refl, omega arith, All-nil (λ n. o ≤ n))
least_least opening (n ∷ ns) =
    least_more opening n ns (least (Some (lesser opening n)) ns) (least_least (Some (lesser opening n)) ns)

not_above : (opening : Option ℕ) (numbers : List ℕ) (a b : ℕ)
    → IfSome opening (λ m. a ≤ m) → All (λ m. a ≤ m) numbers → (opening ≡ Some b) ⊎ Contains numbers b → a ≤ b
not_above opening numbers a b below all is =
    elim is [
      | inl there ↦ MatchOption-at_some (Unit {0}) (λ m. a ≤ m) b there below
      | inr c ↦ All-contains (λ m. a ≤ m) numbers b all c
    ]

none_attained : (opening : Option ℕ) (numbers : List ℕ) (b : ℕ) → opening ≡ None → numbers ≡ []
    → (opening ≡ Some b) ⊎ Contains numbers b → ⊥
none_attained opening numbers b none empty is =
    elim is [
      | inl there ↦ cc
      | inr c ↦ (let h : length numbers ≡ 0 = ap length empty in let k = c.1 in omega arith)
    ]

one_least : (opening : Option ℕ) (numbers : List ℕ) (a b : Option ℕ) → IsLeast opening numbers a
    → IsLeast opening numbers b → a ≡ b
one_least opening numbers None None x y = refl
one_least opening numbers None (Some b) x y = absurd (none_attained opening numbers b x.0 x.1 y.0)
one_least opening numbers (Some a) None x y = absurd (none_attained opening numbers a y.0 y.1 x.0)
one_least opening numbers (Some a) (Some b) x y =
    let up = not_above opening numbers a b x.1 x.2 y.0 in
    let down = not_above opening numbers b a y.1 y.2 x.0 in
    let is : a ≡ b = omega arith in
    ap (λ n. Some n) is

-- and nothing else is
pub least_law : LeastIsTheLeast
least_law opening numbers owner = (
  λ is. one_least opening numbers owner (least opening numbers) is (least_least opening numbers),
  λ is. subst (IsLeast opening numbers) (sym is) (least_least opening numbers),
)
