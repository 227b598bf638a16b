-- What the parser finds among the rules of a form.
use Rattle.std.proofs.Common.{◌≡◌, ◌∙◌, ◌+◌, ◌==◌, ℕ, Bool, cond, true, false, zero, suc, refl, sym, ap, arith, List, [], ◌∷◌, Option, Some, None, true≢false, eq-eqb, ne_eqb}
use Rattle.std.specs.Option.{option_map}
use Rattle.std.specs.Prelude.{slice_get}
use Rattle.std.specs.Str.{bytes_eq}
use Rattle.std.proofs.lemmas.Slice.Eq.{bytes_eq-Decides}
use Rattle.clap.specs.Walk.{Rule, arg_by_id, arg_by_index, arg_by_long, arg_by_short}
use Rattle.nj_words.specs.Words.{Word, is_among}
use Rattle.nj_words.proofs.Rules.{option_use, use_rule, uses}

pub same_word : (word other : Word) → bytes_eq word other ≡ true → word ≡ other
same_word word other e = (bytes_eq-Decides word other).0 e

pub equals_itself : (word : Word) → bytes_eq word word ≡ true
equals_itself word = (bytes_eq-Decides word word).1 refl

pub by_long : (label : Word) (place : ℕ) (ids labels : List Word)
    → arg_by_long (uses place ids labels) label ≡ cond (is_among label labels) (Some (option_use label)) None
by_long label place [] [] = refl
by_long label place [] (other ∷ labels) = go (bytes_eq other label) refl (by_long label place [] labels)
  where
    go : (b : Bool) → bytes_eq other label ≡ b
        → arg_by_long (uses place [] labels) label ≡ cond (is_among label labels) (Some (option_use label)) None
        → arg_by_long (uses place [] (other ∷ labels)) label
        ≡ cond (is_among label (other ∷ labels)) (Some (option_use label)) None
    go true e rest = rw e (ap (λ w. Some (option_use w)) (same_word other label e))
    go false e rest = rw e rest
by_long label place (id ∷ ids) labels = by_long label (place + 1) ids labels

pub by_short : (letter place : ℕ) (ids labels : List Word) → arg_by_short (uses place ids labels) letter ≡ None
by_short letter place [] [] = refl
by_short letter place [] (label ∷ labels) = by_short letter place [] labels
by_short letter place (id ∷ ids) labels = by_short letter (place + 1) ids labels

pub by_place : (place at k : ℕ) (ids labels : List Word) → at ≡ place + k
    → arg_by_index (uses place ids labels) at ≡ option_map (use_rule None (Some at)) (slice_get ids k)
by_place place at k [] [] e = refl
by_place place at k [] (label ∷ labels) e = by_place place at k [] labels e
by_place place at zero (id ∷ ids) labels e =
    let here : (place == at) ≡ true = eq-eqb place at (omega arith) in
    rw here (ap (λ p. Some (use_rule None (Some p) id)) (omega arith))
by_place place at (suc k) (id ∷ ids) labels e =
    let past : (place == at) ≡ false = ne_eqb place at (λ same. omega arith) in
    rw past (by_place (place + 1) at k ids labels (omega arith))

-- the rules have one with this id, and it is a use
abbrev pub IsKnown : List Rule → Word → Type 0
IsKnown rules id = (long : Option Word) × (index : Option ℕ) × (arg_by_id rules id ≡ Some (use_rule long index id))

known_more : (long : Option Word) (index : Option ℕ) (other id : Word) (rules : List Rule)
    → (bytes_eq other id ≡ false → IsKnown rules id) → IsKnown (use_rule long index other ∷ rules) id
known_more long index other id rules later = go (bytes_eq other id) refl
  where
    go : (b : Bool) → bytes_eq other id ≡ b → IsKnown (use_rule long index other ∷ rules) id
    go true e = (long, index, rw e (ap (λ w. Some (use_rule long index w)) (same_word other id e)))
    go false e = let rest = later e in (rest.0, rest.1, rw e rest.2)

pub known_label : (id : Word) (place : ℕ) (ids labels : List Word) → is_among id labels ≡ true
    → IsKnown (uses place ids labels) id
known_label id place [] [] e = absurd (true≢false (sym e))
known_label id place [] (label ∷ labels) e =
    known_more (Some label) None label id (uses place [] labels)
    (λ other. known_label id place [] labels (rw other at e))
known_label id place (name ∷ ids) labels e =
    known_more None (Some place) name id (uses (place + 1) ids labels)
    (λ other. known_label id (place + 1) ids labels e)

pub known_name : (id : Word) (place k : ℕ) (ids labels : List Word) → slice_get ids k ≡ Some id
    → IsKnown (uses place ids labels) id
known_name id place k [] labels e = cc
known_name id place zero (name ∷ ids) labels e =
    known_more None (Some place) name id (uses (place + 1) ids labels)
    (λ other. let same : name ≡ id =
    cc in absurd (true≢false (sym (equals_itself id) ∙ ap (λ w. bytes_eq w id) (sym same) ∙ other)))
known_name id place (suc k) (name ∷ ids) labels e =
    known_more None (Some place) name id (uses (place + 1) ids labels)
    (λ other. known_name id (place + 1) k ids labels e)
