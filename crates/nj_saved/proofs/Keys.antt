-- The set of the keys that were read.
use Rattle.std.proofs.Common.{◌≡◌, ℕ, ◌+◌, ◌<◌, ◌||◌, ◌==◌, Bool, true, false, cond, List, [], ◌∷◌, ◌++◌, length, take, slice_index_or, refl, sym, ap, ◌∙◌}
use Rattle.std.specs.List.{list_any}
use Rattle.std.proofs.lemmas.List.Folds.{list_any-append, list_any_more}
use Rattle.std.proofs.lemmas.List.Sums.{sum_by_push}
use Rattle.nj_saved.specs.Reading.{has_key, key_count}

joined : (e h a : Bool) → cond e true (h || a) ≡ (h || (a || e))
joined true true a = refl
joined true false true = refl
joined true false false = refl
joined false true a = refl
joined false false true = refl
joined false false false = refl

or_false : (b : Bool) → (b || false) ≡ b
or_false true = refl
or_false false = refl

-- a key more was put into the set
pub one_inserted :
    (has before now : ℕ → Bool) (keys : List ℕ) (i key : ℕ) → i < length keys → key ≡ slice_index_or keys i 0 →
    ((q : ℕ) → now q ≡ cond (key == q) true (before q)) →
    ((q : ℕ) → before q ≡ (has q || list_any (λ k. k == q) (take i keys))) →
    (q : ℕ) → now q ≡ (has q || list_any (λ k. k == q) (take (i + 1) keys))
one_inserted has before now keys i key inside read inserted invariant q =
    inserted q
    ∙ (ap (λ b. cond (key == q) true b) (invariant q)
    ∙ (joined (key == q) (has q) (list_any (λ k. k == q) (take i keys))
    ∙ ap (λ b. has q || b)
    (ap (λ k. list_any (λ k. k == q) (take i keys) || (k == q)) read
    ∙ sym (list_any_more (λ k. k == q) keys i 0 inside))))

-- no key was put into the set yet
pub none_inserted : (b : Bool) (keys : List ℕ) (q : ℕ) → b ≡ (b || list_any (λ k. k == q) (take 0 keys))
none_inserted b keys q = sym (or_false b)

-- one generation more
pub has_key_more :
    (older : List (List ℕ)) (keys : List ℕ) (q : ℕ) →
    has_key (older ++ keys ∷ []) q ≡ (has_key older q || list_any (λ k. k == q) keys)
has_key_more older keys q =
    list_any-append (λ keys. list_any (λ k. k == q) keys) older (keys ∷ [])
    ∙ ap (λ b. has_key older q || b) (or_false (list_any (λ k. k == q) keys))

pub key_count_more :
    (older : List (List ℕ)) (keys : List ℕ) → key_count (older ++ keys ∷ []) ≡ key_count older + length keys
key_count_more older keys = sum_by_push length older keys

-- the set has the keys of the generations, one more among them
pub all_known :
    (older : List (List ℕ)) (keys : List ℕ) (before now : ℕ → Bool) → ((q : ℕ) → before q ≡ has_key older q) →
    ((q : ℕ) → now q ≡ (before q || list_any (λ k. k == q) keys)) → (q : ℕ) → now q ≡ has_key (older ++ keys ∷ []) q
all_known older keys before now known inserted q =
    inserted q ∙ (ap (λ b. b || list_any (λ k. k == q) keys) (known q) ∙ sym (has_key_more older keys q))
