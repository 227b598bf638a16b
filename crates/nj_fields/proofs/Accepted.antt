-- What holds of what a reading accepts.
use Rattle.std.proofs.Common.{◌≡◌, ℕ, suc, ◌+◌, ◌≤◌, Bool, true, false, ◌||◌, refl, arith, List, [], ◌∷◌, ◌++◌, length, length-append, All, Option, Some, None, Ok, Err, IfOk, ℤ, pos, negsuc, unsigned_abs, ◌≤ℤ◌, int_lt, nat_lt, option_and_then, if◌then◌else◌}
use Rattle.std.proofs.lemmas.Int.{ints}
use Rattle.std.proofs.lemmas.Bool.Decides.{nat_tests}
use Rattle.std.proofs.lemmas.List.Elements.{All-append, All-cons}
use Rattle.serde_json.specs.Data.{Data, Items, no_items, item}
use Rattle.serde_json.specs.Find.{get, as_number, as_i64, as_array}
use Rattle.serde_json.specs.Events.{items_len}
use Rattle.nj_fields.specs.declared.refusal.ScriptRefused.TheVariants.{WrongKind, OutOfRange, TooMany}
use Rattle.nj_fields.specs.Reading.{Reading, then_read, if_there}
use Rattle.nj_fields.specs.Fields.{required, integer_in, integer, integer_or, natural, natural_or, list_in, list, list_or_none}
use Rattle.nj_fields.specs.Lists.{each, collected}

-- what holds of both readings' values
pub ok_then : {A B : Type 0} (r : Reading A) (next : A → Reading B) (P : A → Type 0) (Q : B → Type 0) → IfOk r P
    → ((a : A) → P a → IfOk (next a) Q) → IfOk (then_read r next) Q
ok_then (Ok a) next P Q h k = k a h
ok_then (Err e) next P Q h k = tt

-- where nothing is needed of the first
pub ok_after : {A B : Type 0} (r : Reading A) (next : A → Reading B) (Q : B → Type 0) → ((a : A) → IfOk (next a) Q)
    → IfOk (then_read r next) Q
ok_after (Ok a) next Q k = k a
ok_after (Err e) next Q k = tt

pub ok_if_there : {A B : Type 0} (o : Option A) (absent : Reading B) (present : A → Reading B) (Q : B → Type 0)
    → IfOk absent Q → ((a : A) → IfOk (present a) Q) → IfOk (if_there o absent present) Q
ok_if_there None absent present Q h k = h
ok_if_there (Some a) absent present Q h k = k a

pub ok_both : {A : Type 0} (r : Reading A) (P Q : A → Type 0) → IfOk r P → IfOk r Q → IfOk r (λ a. P a × Q a)
ok_both (Ok a) P Q p q = (p, q)
ok_both (Err e) P Q p q = tt

pub ok_weaker : {A : Type 0} (r : Reading A) (P Q : A → Type 0) → ((a : A) → P a → Q a) → IfOk r P → IfOk r Q
ok_weaker (Ok a) P Q f p = f a p
ok_weaker (Err e) P Q f p = tt

-- any accepted value
pub ok_any : {A : Type 0} (r : Reading A) → IfOk r (λ _. Unit {0})
ok_any (Ok a) = tt
ok_any (Err e) = tt

-- what holds of an accepted value
pub holds_of : {A : Type 0} (r : Reading A) (P : A → Type 0) (a : A) → IfOk r P → r ≡ Ok a → P a
holds_of r P a h e = rw e at h

-- ---- lists

All-none : {A : Type 0} (P : A → Type 0) → All P []
All-none P k d h = absurd (omega arith)

pub All-head : {A : Type 0} (P : A → Type 0) (x : A) (xs : List A) → All P (x ∷ xs) → P x
All-head P x xs h = h 0 x (omega arith)

pub All-tail : {A : Type 0} (P : A → Type 0) (x : A) (xs : List A) → All P (x ∷ xs) → All P xs
All-tail P x xs h k d below = h (suc k) d (omega arith)

ok_each_from : {A : Type 0} (reading : List A → Data → Reading A) (P : A → Type 0)
    → ((before : List A) (d : Data) → IfOk (reading before d) P)
    → (items : Items) (made : List A) → All P made
    → IfOk (each reading made items) (λ xs. All P xs × (length xs ≡ length made + items_len items))
ok_each_from reading P k no_items made h = (h, omega arith)
ok_each_from {A} reading P k (item d ds) made h =
    ok_then (reading made d) (λ a. each reading (made ++ a ∷ []) ds) P
    (λ xs. All P xs × (length xs ≡ length made + suc (items_len ds))) (k made d)
    (λ a p. ok_weaker (each reading (made ++ a ∷ []) ds) (λ xs. All P xs × (length xs
    ≡ length (made ++ a ∷ []) + items_len ds)) (λ xs. All P xs × (length xs ≡ length made + suc (items_len ds)))
    (λ xs both. (both.0, omega (arith, both.1, length-append made (a ∷ []))))
    (ok_each_from reading P k ds (made ++ a ∷ []) (All-append P made (a ∷ []) h (All-cons P a [] p (All-none P)))))

-- what holds of each member of a list, and how many there are
pub ok_each : {A : Type 0} (reading : List A → Data → Reading A) (P : A → Type 0)
    → ((before : List A) (d : Data) → IfOk (reading before d) P)
    → (items : Items) → IfOk (each reading [] items) (λ xs. All P xs × (length xs ≡ items_len items))
ok_each reading P k items =
    ok_weaker (each reading [] items) (λ xs. All P xs × (length xs ≡ 0 + items_len items))
    (λ xs. All P xs × (length xs ≡ items_len items))
    (λ xs both. (both.0, omega (arith, both.1))) (ok_each_from reading P k items [] (All-none P))

ok_collected_from : {X A : Type 0} (reading : X → Reading A) (R : X → Type 0) (P : A → Type 0)
    → ((x : X) → R x → IfOk (reading x) P)
    → (xs : List X) → All R xs → (made : List A) → All P made
    → IfOk (collected reading made xs) (λ ys. All P ys × (length ys ≡ length made + length xs))
ok_collected_from reading R P k [] rs made h = (h, omega arith)
ok_collected_from reading R P k (x ∷ xs) rs made h =
    ok_then (reading x) (λ a. collected reading (made ++ a ∷ []) xs) P
    (λ ys. All P ys × (length ys ≡ length made + suc (length xs))) (k x (All-head R x xs rs))
    (λ a p. ok_weaker (collected reading (made ++ a ∷ []) xs) (λ ys. All P ys × (length ys
    ≡ length (made ++ a ∷ []) + length xs)) (λ ys. All P ys × (length ys ≡ length made + suc (length xs)))
    (λ ys both. (both.0, omega (arith, both.1, length-append made (a ∷ []))))
    (ok_collected_from reading R P k xs (All-tail R x xs rs) (made ++ a ∷ [])
    (All-append P made (a ∷ []) h (All-cons P a [] p (All-none P)))))

pub ok_collected : {X A : Type 0} (reading : X → Reading A) (R : X → Type 0) (P : A → Type 0)
    → ((x : X) → R x → IfOk (reading x) P)
    → (xs : List X) → All R xs → IfOk (collected reading [] xs) (λ ys. All P ys × (length ys ≡ length xs))
ok_collected reading R P k xs rs =
    ok_weaker (collected reading [] xs) (λ ys. All P ys × (length ys ≡ 0 + length xs))
    (λ ys. All P ys × (length ys ≡ length xs))
    (λ ys both. (both.0, omega (arith, both.1))) (ok_collected_from reading R P k xs rs [] (All-none P))

-- a list of at most so many members: what holds of each member, and their number
pub ok_members : {A : Type 0} (reading : List A → Data → Reading A) (P : A → Type 0) (list_reading : Reading Items)
    (limit : ℕ) → ((before : List A) (d : Data) → IfOk (reading before d) P)
    → IfOk list_reading (λ items. items_len items ≤ limit)
    → IfOk (then_read list_reading (each reading [])) (λ xs. All P xs × (length xs ≤ limit))
ok_members reading P list_reading limit k h =
    ok_then list_reading (each reading []) (λ items. items_len items ≤ limit) (λ xs. All P xs × (length xs ≤ limit)) h
    (λ items few. ok_weaker (each reading [] items) (λ xs. All P xs × (length xs ≡ items_len items))
    (λ xs. All P xs × (length xs ≤ limit))
    (λ xs both. (both.0, omega (arith, both.1))) (ok_each reading P k items))

-- ---- fields

in_range : (low high n : ℤ) (below above : Bool) → int_lt n low ≡ below → int_lt high n ≡ above
    → (below || above) ≡ false → (low ≤ℤ n) × (n ≤ℤ high)
in_range low high n false false e f h = (grind (arith, ints), grind (arith, ints))
in_range low high n false true e f h = cc
in_range low high n true above e f h = cc

pub ok_integer_in : (key : List ℕ) (low high : ℤ) (d : Data)
    → IfOk (integer_in key low high d) (λ n. (low ≤ℤ n) × (n ≤ℤ high))
unfolding integer_in
ok_integer_in key low high d =
    ok_if_there (option_and_then as_i64 (as_number d)) (Err (WrongKind key))
    (λ n. if int_lt n low || int_lt high n then Err (OutOfRange key n) else Ok n)
    (λ n. (low ≤ℤ n) × (n ≤ℤ high)) tt (λ n. by_test n (int_lt n low || int_lt high n) refl)
  where
    by_test : (n : ℤ) (b : Bool) → (int_lt n low || int_lt high n) ≡ b
        → IfOk {T = ℤ} (if b then Err (OutOfRange key n) else Ok n) (λ m. (low ≤ℤ m) × (m ≤ℤ high))
    by_test n true e = tt
    by_test n false e = in_range low high n (int_lt n low) (int_lt high n) refl refl e

pub ok_integer : (key : List ℕ) (low high : ℤ) (d : Data)
    → IfOk (integer key low high d) (λ n. (low ≤ℤ n) × (n ≤ℤ high))
unfolding integer
ok_integer key low high d =
    ok_after (required key d) (integer_in key low high) (λ n. (low ≤ℤ n) × (n ≤ℤ high)) (ok_integer_in key low high)

pub ok_integer_or : (key : List ℕ) (low high default : ℤ) (d : Data) → low ≤ℤ default → default ≤ℤ high
    → IfOk (integer_or key low high default d) (λ n. (low ≤ℤ n) × (n ≤ℤ high))
unfolding integer_or
ok_integer_or key low high default d h k = ok_if_there (get key d) (Ok default) (integer_in key low high)
    (λ n. (low ≤ℤ n) × (n ≤ℤ high)) (h, k) (ok_integer_in key low high)

natural_between : (low high : ℕ) (n : ℤ) → pos low ≤ℤ n → n ≤ℤ pos high
    → (low ≤ unsigned_abs n) × (unsigned_abs n ≤ high)
natural_between low high (pos n) h k = (omega (arith, ints), omega (arith, ints))
natural_between low high (negsuc n) h k = absurd (omega (arith, ints))

pub ok_natural : (key : List ℕ) (low high : ℕ) (d : Data) → IfOk (natural key low high d) (λ n. (low ≤ n) × (n ≤ high))
unfolding natural
ok_natural key low high d =
    ok_then (integer key (pos low) (pos high) d) (λ n. Ok (unsigned_abs n)) (λ n. (pos low ≤ℤ n) × (n ≤ℤ pos high))
    (λ n. (low ≤ n) × (n ≤ high))
    (ok_integer key (pos low) (pos high) d) (λ n h. natural_between low high n h.0 h.1)

pub ok_natural_or : (key : List ℕ) (low high default : ℕ) (d : Data) → low ≤ default → default ≤ high
    → IfOk (natural_or key low high default d) (λ n. (low ≤ n) × (n ≤ high))
unfolding natural_or
ok_natural_or key low high default d h k =
    ok_then (integer_or key (pos low) (pos high) (pos default) d) (λ n. Ok (unsigned_abs n))
    (λ n. (pos low ≤ℤ n) × (n ≤ℤ pos high)) (λ n. (low ≤ n) × (n ≤ high))
    (ok_integer_or key (pos low) (pos high) (pos default) d (omega (arith, ints)) (omega (arith, ints)))
    (λ n both. natural_between low high n both.0 both.1)

ok_list_in : (key : List ℕ) (limit : ℕ) (d : Data) → IfOk (list_in key limit d) (λ items. items_len items ≤ limit)
unfolding list_in
ok_list_in key limit d =
    ok_if_there (as_array d) (Err (WrongKind key))
    (λ items. if nat_lt limit (items_len items) then Err (TooMany key limit) else Ok items)
    (λ items. items_len items ≤ limit) tt (λ items. by_test items (nat_lt limit (items_len items)) refl)
  where
    by_test : (items : Items) (b : Bool) → nat_lt limit (items_len items) ≡ b
        → IfOk {T = Items} (if b then Err (TooMany key limit) else Ok items) (λ is. items_len is ≤ limit)
    by_test items true e = tt
    by_test items false e = grind (arith, nat_tests)

pub ok_list : (key : List ℕ) (limit : ℕ) (d : Data) → IfOk (list key limit d) (λ items. items_len items ≤ limit)
unfolding list
ok_list key limit d =
    ok_after (required key d) (list_in key limit) (λ items. items_len items ≤ limit) (ok_list_in key limit)

pub ok_list_or_none : (key : List ℕ) (limit : ℕ) (d : Data)
    → IfOk (list_or_none key limit d) (λ items. items_len items ≤ limit)
unfolding list_or_none
ok_list_or_none key limit d = ok_if_there (get key d) (Ok no_items) (list_in key limit)
    (λ items. items_len items ≤ limit) (omega arith) (ok_list_in key limit)
