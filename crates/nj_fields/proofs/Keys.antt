-- The first unknown key of an object, as a loop over its keys finds it.
use Rattle.std.proofs.Common.{◌≡◌, ℕ, Option, Some, Bool, true, false, refl, sym, ◌∙◌, ap, List, [], ◌∷◌, map, find, not, bytes_eq, Bor, Ok, Err}
use Rattle.std.proofs.Common.{String, Global, string_bytes}
use Rattle.std.specs.List.{list_any}
use Rattle.std.specs.Map.{keys_of}
use Rattle.serde_json.specs.declared.value.Value.{Value}
use Rattle.serde_json.specs.View.{members_view}
use Rattle.serde_json.specs.Data.{Data, Members}
use Rattle.serde_json.specs.Find.{as_object}
use Rattle.nj_fields.specs.declared.refusal.ScriptRefused.TheVariants.{UnknownKey}
use Rattle.nj_fields.specs.Reading.{if_there}
use Rattle.nj_fields.specs.Fields.{member_keys, unknown_key, opened}

-- whether a text is none of the words
abbrev pub is_unknown : List (Bor (List ℕ)) → List ℕ → Bool
is_unknown known key = not (list_any (λ word. bytes_eq key word.now) known)

-- the next key is unknown: it is the first
pub find-here : {X : Type 0} (text_of : X → List ℕ) (p : List ℕ → Bool) (keys rest : List X) (key : X)
    (all : Option (List ℕ))
    → keys ≡ key ∷ rest → p (text_of key) ≡ true → find p (map text_of keys) ≡ all → Some (text_of key) ≡ all
find-here text_of p keys rest key all e unknown left =
    let found : find p (map text_of (key ∷ rest)) ≡ Some (text_of key) = rw unknown refl in
    sym found ∙ ap (λ ks. find p (map text_of ks)) (sym e) ∙ left

-- the next key is known: the first unknown one is behind it
pub find-behind : {X : Type 0} (text_of : X → List ℕ) (p : List ℕ → Bool) (keys rest : List X) (key : X)
    (all : Option (List ℕ))
    → keys ≡ key ∷ rest → p (text_of key) ≡ false → find p (map text_of keys) ≡ all → find p (map text_of rest) ≡ all
find-behind text_of p keys rest key all e known left =
    let passed : find p (map text_of (key ∷ rest)) ≡ find p (map text_of rest) = rw known refl in
    sym passed ∙ ap (λ ks. find p (map text_of ks)) (sym e) ∙ left

find-same : (p q : List ℕ → Bool) → ((key : List ℕ) → p key ≡ q key) → (keys : List (List ℕ))
    → find p keys ≡ find q keys
find-same p q same [] = refl
find-same p q same (key ∷ keys) = rw (same key, find-same p q same keys) refl

any-words : (key : List ℕ) (known : List (Bor (List ℕ)))
    → list_any (bytes_eq key) (map (λ s. s.now) known) ≡ list_any (λ word. bytes_eq key word.now) known
any-words key [] = refl
any-words key (word ∷ words) = rw (any-words key words) refl

member_keys-view : (entries : List (String Global × Value))
    → member_keys (members_view entries) ≡ map string_bytes (keys_of entries)
member_keys-view [] = refl
member_keys-view (e ∷ entries) = ap (λ ks. string_bytes e.0 ∷ ks) (member_keys-view entries)

-- the first unknown key of an object, by its entries
pub unknown_key-view : (known : List (Bor (List ℕ))) (entries : List (String Global × Value))
    → unknown_key (map (λ s. s.now) known) (members_view entries)
    ≡ find (is_unknown known) (map string_bytes (keys_of entries))
unknown_key-view known entries =
    rw (member_keys-view entries)
    (find-same (λ key. not (list_any (bytes_eq key) (map (λ s. s.now) known))) (is_unknown known)
    (λ key. ap not (any-words key known)) (map string_bytes (keys_of entries)))

-- what an object's members say of its keys
pub opened-members : (list : List ℕ) (known : List (List ℕ)) (d : Data) (ms : Members) → Some ms ≡ as_object d
    → opened list known d ≡ if_there (unknown_key known ms) (Ok tt) (λ key. Err (UnknownKey key))
unfolding opened
opened-members list known d ms e = rw (← e) refl
