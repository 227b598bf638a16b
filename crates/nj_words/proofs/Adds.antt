-- What the pieces add up to is what the form takes from them.
use Rattle.std.proofs.Common.{◌≡◌, ◌∙◌, ◌&&◌, ◌||◌, Bool, cond, true, false, not, refl, sym, ap, ap₂, List, [], ◌∷◌, ◌++◌, Some, None, true≢false, append-nil, append_assoc}
use Rattle.std.specs.Str.{bytes_eq}
use Rattle.std.specs.List.{list_all}
use Rattle.std.proofs.lemmas.Bool.{and_parts, not-true, or_right as or_second}
use Rattle.std.proofs.lemmas.Bool.Decides.{Decides-like, same_from_decides}
use Rattle.std.proofs.lemmas.Slice.Eq.{bytes_eq-Decides}
use Rattle.clap.specs.Walk.{Row, has_row}
use Rattle.nj_words.specs.Words.{Piece, Word, is_among, is_distinct, labels_in, name, names_in, option}
use Rattle.nj_words.proofs.Rules.{and_false}
use Rattle.nj_words.proofs.Lookups.{equals_itself, same_word}
use Rattle.nj_words.proofs.Settles.{use_row}
use Rattle.nj_words.proofs.Walks.{added}

-- there are enough ids for the names
abbrev pub is_enough : List Word → List Word → Bool
is_enough ids [] = true
is_enough [] (word ∷ words) = false
is_enough (id ∷ ids) (word ∷ words) = is_enough ids words

-- the rows of the pieces
abbrev pub piece_rows : List Word → List Piece → List Row
piece_rows ids [] = []
piece_rows [] (name word ∷ rest) = piece_rows [] rest
piece_rows (id ∷ ids) (name word ∷ rest) = use_row id word ∷ piece_rows ids rest
piece_rows ids (option label word ∷ rest) = use_row label word ∷ piece_rows ids rest

-- the options that are known and not used before
abbrev pub is_new : List Word → List Row → Word → Bool
is_new labels rows label = is_among label labels && not (has_row label rows)

abbrev pub can_add : List Word → List Word → List Row → List Piece → Bool
can_add labels ids rows ps =
    is_enough ids (names_in ps) && (list_all (is_new labels rows) (labels_in ps) && is_distinct (labels_in ps))

-- no word stands in both lists
abbrev pub AreApart : List Word → List Word → Type 0
AreApart ids labels = (word : Word) → is_among word ids ≡ true → is_among word labels ≡ false

-- no row has one of the ids
abbrev pub AreUnused : List Word → List Row → Type 0
AreUnused ids rows = (word : Word) → is_among word ids ≡ true → has_row word rows ≡ false

row_more : (word : Word) (rows : List Row) (row : Row)
    → has_row word (rows ++ row ∷ []) ≡ (has_row word rows || bytes_eq row.id word)
row_more word [] row = go (bytes_eq row.id word)
  where
    go : (b : Bool) → (b || false) ≡ b
    go true = refl
    go false = refl
row_more word (other ∷ rows) row =
    ap (λ b. bytes_eq other.id word || b) (row_more word rows row) ∙ go (bytes_eq other.id word) _ _
  where
    go : (a b c : Bool) → (a || (b || c)) ≡ (a || b || c)
    go true b c = refl
    go false b c = refl

-- a row more, of an id that is not this one
still_unused : (word id : Word) (rows : List Row) (value : Word) → has_row word rows ≡ false → (id ≡ word → ⊥)
    → has_row word (rows ++ use_row id value ∷ []) ≡ false
still_unused word id rows value unused other =
    row_more word rows (use_row id value)
    ∙ go (has_row word rows) (bytes_eq id word) unused (λ same. other (same_word id word same))
  where
    go : (a b : Bool) → a ≡ false → (b ≡ true → ⊥) → (a || b) ≡ false
    go true b none not_b = absurd (true≢false none)
    go false true none not_b = absurd (not_b refl)
    go false false none not_b = refl

-- the label of a name is no option
name_is_new : (labels : List Word) (rows : List Row) (id value label : Word) → is_among id labels ≡ false
    → is_new labels (rows ++ use_row id value ∷ []) label ≡ is_new labels rows label
name_is_new labels rows id value label apart =
    ap (λ b. is_among label labels && not b) (row_more label rows (use_row id value))
    ∙ go (is_among label labels) refl (bytes_eq id label) refl
  where
    go : (known : Bool) → is_among label labels ≡ known → (same : Bool) → bytes_eq id label ≡ same
        → (known && not (has_row label rows || same)) ≡ (known && not (has_row label rows))
    go false k same e = refl
    go true k true e = absurd (true≢false (sym k ∙ ap (λ w. is_among w labels) (sym (same_word id label e)) ∙ apart))
    go true k false e = ap not (or_false (has_row label rows))
      where
        or_false : (b : Bool) → (b || false) ≡ b
        or_false true = refl
        or_false false = refl

same_either_way : (word other : Word) → bytes_eq word other ≡ bytes_eq other word
same_either_way word other =
    same_from_decides _ _ (bytes_eq-Decides word other)
    (Decides-like _ (λ e. sym e) (λ e. sym e) (bytes_eq-Decides other word))

pub same_tests : {X : Type 0} (p q : X → Bool) (xs : List X) → ((x : X) → p x ≡ q x) → list_all p xs ≡ list_all q xs
same_tests p q [] e = refl
same_tests p q (x ∷ xs) e = ap₂ (λ a b. a && b) (e x) (same_tests p q xs e)

-- once an option is used, the others are new and not this one
new_after : (labels : List Word) (rows : List Row) (label value : Word) (others : List Word)
    → list_all (is_new labels (rows ++ use_row label value ∷ [])) others
    ≡ (list_all (is_new labels rows) others && not (is_among label others))
new_after labels rows label value [] = refl
new_after labels rows label value (other ∷ others) =
    ap₂ (λ a b. a && b) (ap (λ b. is_among other labels && not b)
    (row_more other rows (use_row label value) ∙ ap (λ b. has_row other rows || b) (same_either_way label other)))
    (new_after labels rows label value others)
    ∙ go (is_among other labels) (has_row other rows) (bytes_eq other label) (list_all (is_new labels rows) others)
    (is_among label others)
  where
    go : (known used same rest among : Bool)
        → (known && not (used || same) && (rest && not among)) ≡ (known && not used && rest && not (same || among))
    go false used same rest among = refl
    go true true same rest among = refl
    go true false true true among = refl
    go true false true false among = refl
    go true false false rest among = refl

new_option : (known : Bool) (enough unused rest among distinct : Bool) → known ≡ true → unused ≡ true
    → (enough && ((rest && not among) && distinct)) ≡ (enough && (known && unused && rest && (not among && distinct)))
new_option known enough unused rest among distinct k u =
    rw (k, u) (ap (λ b. enough && b) (go rest (not among) distinct))
  where
    go : (a b c : Bool) → (a && b && c) ≡ (a && (b && c))
    go true b c = refl
    go false b c = refl

not_when : (enough rest : Bool) → (enough && (false && rest)) ≡ false
not_when enough rest = and_false enough

unused_next : (id : Word) (ids : List Word) (rows : List Row) (value : Word) → is_among id ids ≡ false
    → AreUnused (id ∷ ids) rows → AreUnused ids (rows ++ use_row id value ∷ [])
unused_next id ids rows value apart unused word among =
    still_unused word id rows value (unused word (or_second (bytes_eq id word) (is_among word ids) among))
    (λ same. true≢false (sym among ∙ ap (λ w. is_among w ids) (sym same) ∙ apart))

unused_option : (label : Word) (labels ids : List Word) (rows : List Row) (value : Word) → is_among label labels ≡ true
    → AreApart ids labels → AreUnused ids rows → AreUnused ids (rows ++ use_row label value ∷ [])
unused_option label labels ids rows value known apart unused word among =
    still_unused word label rows value (unused word among)
    (λ same. true≢false (sym known ∙ ap (λ w. is_among w labels) same ∙ apart word among))

abbrev pub Closes : List Word → List Word → List Row → List Piece → Type 0
Closes labels ids rows ps =
    added labels ids rows ps ≡ cond (can_add labels ids rows ps) (Some (rows ++ piece_rows ids ps)) None

option_closes : (labels ids : List Word) (rows : List Row) (label word : Word) (ps : List Piece)
    → (is_among label labels ≡ true → has_row label rows ≡ false
    → Closes labels ids (rows ++ use_row label word ∷ []) ps) → Closes labels ids rows (option label word ∷ ps)
option_closes labels ids rows label word ps later = go (is_among label labels) refl (has_row label rows) refl
  where
    go : (known : Bool) → is_among label labels ≡ known → (used : Bool) → has_row label rows ≡ used
        → Closes labels ids rows (option label word ∷ ps)
    go false k used u = rw (k, and_false) refl
    go true k true u = rw (k, u, and_false) refl
    go true k false u =
        rw (k, u) (later k u ∙ ap₂ (λ b rs. cond b (Some rs) None)
        (ap (λ b. is_enough ids (names_in ps) && (b && is_distinct (labels_in ps)))
        (new_after labels rows label word (labels_in ps))
        ∙ new_option true (is_enough ids (names_in ps)) true (list_all (is_new labels rows) (labels_in ps))
        (is_among label (labels_in ps)) (is_distinct (labels_in ps)) refl refl)
        (append_assoc rows (use_row label word ∷ []) (piece_rows ids ps)))

name_closes : (labels : List Word) (id : Word) (ids : List Word) (rows : List Row) (word : Word) (ps : List Piece)
    → has_row id rows ≡ false → is_among id labels ≡ false
    → Closes labels ids (rows ++ use_row id word ∷ []) ps → Closes labels (id ∷ ids) rows (name word ∷ ps)
name_closes labels id ids rows word ps unused apart later =
    rw unused (later ∙ ap₂ (λ b rs. cond (is_enough ids (names_in ps) && (b && is_distinct (labels_in ps)))
    (Some rs) None)
    (same_tests _ _ (labels_in ps) (λ label. name_is_new labels rows id word label apart))
    (append_assoc rows (use_row id word ∷ []) (piece_rows ids ps)))

-- the rows that the pieces add up to, and when they do
pub closes : (labels ids : List Word) (rows : List Row) (ps : List Piece) → is_distinct ids ≡ true → AreApart ids labels
    → AreUnused ids rows → Closes labels ids rows ps
closes labels ids rows [] distinct apart unused = ap Some (sym (append-nil rows))
closes labels [] rows (name word ∷ ps) distinct apart unused = refl
closes labels (id ∷ ids) rows (name word ∷ ps) distinct apart unused =
    let parts = and_parts _ _ distinct in
    let here : is_among id (id ∷ ids) ≡ true = rw (equals_itself id) refl in
    name_closes labels id ids rows word ps (unused id here) (apart id here)
    (closes labels ids (rows ++ use_row id word ∷ []) ps parts.1
    (λ other among. apart other (or_second (bytes_eq id other) (is_among other ids) among))
    (unused_next id ids rows word (not-true (is_among id ids) parts.0) unused))
closes labels ids rows (option label word ∷ ps) distinct apart unused =
    option_closes labels ids rows label word ps
    (λ known new. closes labels ids (rows ++ use_row label word ∷ []) ps distinct apart
    (unused_option label labels ids rows word known apart unused))
