-- The keys of consecutive owners, with an entry more, and in order.
use Rattle.std.proofs.Common.{◌≡◌, ◌≢◌, ℕ, zero, suc, ◌+◌, ◌<◌, ◌≤◌, ◌⊎◌, inl, inr, Bool, true, false, cond, ◌==◌, nat_lt, List, [], ◌∷◌, ◌++◌, length, map, get_or, set, refl, sym, ap, ap₂, ◌∙◌, arith, add-one, eq-eqb, append-nil}
use Rattle.std.specs.Prelude.{filter, if◌then◌else◌}
use Rattle.std.proofs.lemmas.Bool.{ne_eqb}
use Rattle.std.proofs.lemmas.List.{map-append}
use Rattle.std.proofs.lemmas.List.Elements.{filter-append}
use Rattle.nj_search_defs.specs.Order.{in_order}
use Rattle.nj_claims.specs.Tables.{entries_in}
use Rattle.nj_seen.specs.Held.{generations_from}
use Rattle.nj_seen.specs.Saved.{keys_owned, keys_by_owner}

-- with no entries all are empty
pub none_more : (first n : ℕ) → keys_by_owner [] first n ++ [] ∷ [] ≡ keys_by_owner [] first (n + 1)
none_more first n = more first n ∙ sym (ap (keys_by_owner [] first) (add-one n)) where
  more : (first n : ℕ) → keys_by_owner [] first n ++ [] ∷ [] ≡ keys_by_owner [] first (suc n)
  more first zero = refl
  more first (suc n) = ap (λ ls. [] ∷ ls) (more (first + 1) n)

pub length_by_owner : (entries : List (ℕ × ℕ)) (first n : ℕ) → length (keys_by_owner entries first n) ≡ n
length_by_owner entries first zero = refl
length_by_owner entries first (suc n) = ap suc (length_by_owner entries (first + 1) n)

-- ---- an entry more

owned_push : (entries : List (ℕ × ℕ)) (key owner at : ℕ)
    → keys_owned (entries ++ (key, owner) ∷ []) at ≡ keys_owned entries at ++ (if owner == at then key ∷ [] else [])
owned_push entries key owner at =
    let p : ℕ × ℕ → Bool = λ e. e.1 == at in
    ap (map (λ (e : ℕ × ℕ). e.0)) (filter-append p entries ((key, owner) ∷ []))
    ∙ (map-append (λ (e : ℕ × ℕ). e.0) (filter p entries) (filter p ((key, owner) ∷ []))
    ∙ ap (λ ks. keys_owned entries at ++ ks) (one (owner == at)))
  where
    one : (b : Bool) → map (λ (e : ℕ × ℕ). e.0) (cond b ((key, owner) ∷ []) []) ≡ (if b then key ∷ [] else [])
    one true = refl
    one false = refl

owned_same : (entries : List (ℕ × ℕ)) (key owner at : ℕ) → owner ≡ at
    → keys_owned (entries ++ (key, owner) ∷ []) at ≡ keys_owned entries at ++ key ∷ []
owned_same entries key owner at same =
    owned_push entries key owner at
    ∙ ap (λ b. keys_owned entries at ++ (if b then key ∷ [] else [])) (eq-eqb owner at same)

owned_other : (entries : List (ℕ × ℕ)) (key owner at : ℕ) → owner ≢ at
    → keys_owned (entries ++ (key, owner) ∷ []) at ≡ keys_owned entries at
owned_other entries key owner at other =
    owned_push entries key owner at
    ∙ (ap (λ b. keys_owned entries at ++ (if b then key ∷ [] else [])) (ne_eqb owner at other)
    ∙ append-nil (keys_owned entries at))

-- an owner that is not among them changes no list
pub put_outside : (entries : List (ℕ × ℕ)) (key owner first n : ℕ) → (owner < first) ⊎ (first + n ≤ owner)
    → keys_by_owner (entries ++ (key, owner) ∷ []) first n ≡ keys_by_owner entries first n
put_outside entries key owner first zero far = refl
put_outside entries key owner first (suc n) (inl low) =
    ap₂ (λ ks ls. ks ∷ ls) (owned_other entries key owner first (λ e. omega (arith, e, low)))
    (put_outside entries key owner (first + 1) n (inl (omega (arith, low))))
put_outside entries key owner first (suc n) (inr high) =
    ap₂ (λ ks ls. ks ∷ ls) (owned_other entries key owner first (λ e. omega (arith, e, high)))
    (put_outside entries key owner (first + 1) n (inr (omega (arith, high))))

-- one that is among them has its list longer by the key
pub put_inside : (entries : List (ℕ × ℕ)) (key owner i first n : ℕ) → owner ≡ first + i → i < n
    → keys_by_owner (entries ++ (key, owner) ∷ []) first n
    ≡ set (keys_by_owner entries first n) i (get_or (keys_by_owner entries first n) i [] ++ key ∷ [])
put_inside entries key owner i first zero at within = absurd (omega (arith, within))
put_inside entries key owner zero first (suc n) at within =
    ap₂ (λ ks ls. ks ∷ ls) (owned_same entries key owner first (omega (arith, at)))
    (put_outside entries key owner (first + 1) n (inl (omega (arith, at))))
put_inside entries key owner (suc i) first (suc n) at within =
    ap₂ (λ ks ls. ks ∷ ls) (owned_other entries key owner first (λ e. omega (arith, e, at)))
    (put_inside entries key owner i (first + 1) n (omega (arith, at)) (omega (arith, within)))

-- the entry of a slot that holds a key
pub of_key : (entries : List (ℕ × ℕ)) (key owner first n : ℕ) → key ≢ 0
    → keys_by_owner (entries ++ (key, owner) ∷ []) first n
    ≡ keys_by_owner (entries ++ (if key == 0 then [] else (key, owner) ∷ [])) first n
of_key entries key owner first n some =
    sym (ap (λ b. keys_by_owner (entries ++ (if b then [] else (key, owner) ∷ [])) first n) (ne_eqb key 0 some))

-- that of an empty slot
pub of_none : (entries : List (ℕ × ℕ)) (key owner first n : ℕ) → key ≡ 0
    → keys_by_owner entries first n ≡ keys_by_owner (entries ++ (if key == 0 then [] else (key, owner) ∷ [])) first n
of_none entries key owner first n none =
    ap (λ es. keys_by_owner es first n) (sym (append-nil entries))
    ∙ sym (ap (λ b. keys_by_owner (entries ++ (if b then [] else (key, owner) ∷ [])) first n) (eq-eqb key 0 none))

-- ---- in order

-- the lists in order are the generations
pub told_in_order : (words : List ℕ) (first n : ℕ)
    → map (in_order nat_lt) (keys_by_owner (entries_in words) first n) ≡ generations_from words first n
told_in_order words first zero = refl
told_in_order words first (suc n) =
    ap (λ ls. in_order nat_lt (keys_owned (entries_in words) first) ∷ ls) (told_in_order words (first + 1) n)
