-- Where no lone hyphen stands for a value, the parser splits the words as the rule does.
use Rattle.std.proofs.Common.{◌≡◌, ◌∙◌, ◌||◌, ◌==◌, ℕ, Bool, cond, true, false, refl, sym, ap, subst, List, [], ◌∷◌, Option, Some, None, is_some, codes, ne_eqb, inl, inr}
use Rattle.std.specs.Str.{bytes_eq}
use Rattle.std.specs.List.{list_any}
use Rattle.std.proofs.lemmas.Bool.{cases_eq}
use Rattle.nj_words.specs.Words.{Piece, Word, WordKind, before_others, begins_with_hyphen, is_equals_sign, kind_of_word, name, names_follow, open_option, option, option_kind, pieces, plain, read_kind, unreadable, whole_option}
use Rattle.nj_words.specs.Parser.{has_lone_value, is_open_option}
use Rattle.nj_words.proofs.Rules.{same_either}
use Rattle.nj_words.proofs.Walks.{loose, loose_value}

-- what the search for a lone hyphen sees of a word of this kind
abbrev pub LooksAs : Word → WordKind → Type 0
LooksAs word names_follow = (bytes_eq word (codes "--") ≡ true) × (begins_with_hyphen word ≡ true)
LooksAs word (whole_option label value) =
    (bytes_eq word (codes "--") ≡ false) × (begins_with_hyphen word ≡ true) × (is_open_option word ≡ false)
LooksAs word (open_option label) =
    (bytes_eq word (codes "--") ≡ false) × (begins_with_hyphen word ≡ true) × (is_open_option word ≡ true)
LooksAs word plain =
    (bytes_eq word (codes "--") ≡ false) × (bytes_eq word (codes "-") ≡ begins_with_hyphen word)
    × (is_open_option word ≡ false)
LooksAs word unreadable = begins_with_hyphen word ≡ true

past_dashes : (first : ℕ) (rest : Word) → LooksAs (45 ∷ 45 ∷ first ∷ rest) (option_kind (first ∷ rest))
past_dashes first rest = go (list_any is_equals_sign (first ∷ rest)) refl
  where
    go : (b : Bool) → list_any is_equals_sign (first ∷ rest) ≡ b
        → LooksAs (45 ∷ 45 ∷ first ∷ rest) (option_kind (first ∷ rest))
    go true e = rw e (refl, refl, rw e refl)
    go false e = rw e (refl, refl, rw e refl)

dashes : (rest : Word) → LooksAs (45 ∷ 45 ∷ rest) (kind_of_word (45 ∷ 45 ∷ rest))
unfolding kind_of_word
dashes [] = (refl, refl)
dashes (first ∷ rest) = past_dashes first rest

short : (first : ℕ) (rest : Word) → (first ≡ 45 → ⊥) → LooksAs (45 ∷ first ∷ rest) (kind_of_word (45 ∷ first ∷ rest))
unfolding kind_of_word
short first rest ne =
    let left : (first == 45) ≡ false = ne_eqb first 45 ne in
    let right : (45 == first) ≡ false = ne_eqb 45 first (λ e. ne (sym e)) in
    rw (left, right) refl

hyphen : (rest : Word) → LooksAs (45 ∷ rest) (kind_of_word (45 ∷ rest))
unfolding kind_of_word
hyphen [] = (refl, refl, refl)
hyphen (first ∷ rest) = elim (cases_eq first 45) [
  | inl e ↦ subst (λ byte. LooksAs (45 ∷ byte ∷ rest) (kind_of_word (45 ∷ byte ∷ rest))) (sym e) (dashes rest)
  | inr ne ↦ short first rest ne
]

no_hyphen : (first : ℕ) (rest : Word) → (first ≡ 45 → ⊥) → LooksAs (first ∷ rest) (kind_of_word (first ∷ rest))
unfolding kind_of_word
no_hyphen first rest ne =
    let left : (first == 45) ≡ false = ne_eqb first 45 ne in
    let right : (45 == first) ≡ false = ne_eqb 45 first (λ e. ne (sym e)) in
    rw (left, right) (rw left refl, rw (left, right) refl, rw right refl)

pub looks : (word : Word) → LooksAs word (kind_of_word word)
unfolding kind_of_word
looks [] = (refl, refl, refl)
looks (first ∷ rest) = elim (cases_eq first 45) [
  | inl e ↦ subst (λ byte. LooksAs (byte ∷ rest) (kind_of_word (byte ∷ rest))) (sym e) (hyphen rest)
  | inr ne ↦ no_hyphen first rest ne
]

before_unless : (b : Bool) (piece : Piece) (found : Option (List Piece))
    → cond b None (before_others piece found) ≡ before_others piece (cond b None found)
before_unless true piece found = refl
before_unless false piece found = refl

abbrev Splits : Option Word → List Word → Type 0
Splits waiting words = cond (has_lone_value (is_some waiting) words) None (loose waiting words) ≡ pieces waiting words

-- a word where no option waits, by its kind
idle_word : (word : Word) (words : List Word) → ((waiting : Option Word) → Splits waiting words)
    → Splits None (word ∷ words)
unfolding has_lone_value loose pieces
idle_word word words later = go (kind_of_word word) (looks word)
  where
    go : (kind : WordKind) → LooksAs word kind
        → cond (has_lone_value false (word ∷ words)) None (read_kind kind word words (λ waiting. loose waiting words))
        ≡ read_kind kind word words (λ waiting. pieces waiting words)
    go names_follow seen = let mark = seen.0 in rw mark refl
    go (whole_option label content) seen =
        let mark = seen.0 in
        let closed = seen.2 in
        rw (mark, closed) (before_unless (has_lone_value false words) (option label content) (loose None words)
        ∙ ap (before_others (option label content)) (later None))
    go (open_option label) seen =
        let mark = seen.0 in
        let opens = seen.2 in
        rw (mark, opens) (later (Some label))
    go plain seen =
        let mark = seen.0 in
        let closed = seen.2 in
        rw (mark, closed) (before_unless (has_lone_value false words) (name word) (loose None words)
        ∙ ap (before_others (name word)) (later None))
    go unreadable seen = same_either (has_lone_value false (word ∷ words)) None

-- a word where an option waits, by its kind
waiting_word : (label word : Word) (words : List Word) → ((waiting : Option Word) → Splits waiting words)
    → Splits (Some label) (word ∷ words)
unfolding has_lone_value loose pieces
waiting_word label word words later = go (kind_of_word word) (looks word)
  where
    go : (kind : WordKind) → LooksAs word kind
        → cond (has_lone_value true (word ∷ words)) None (loose_value kind label word (loose None words))
        ≡ cond (begins_with_hyphen word) None (before_others (option label word) (pieces None words))
    go names_follow seen = let hyphen = seen.1 in rw hyphen (same_either (has_lone_value true (word ∷ words)) None)
    go (whole_option other content) seen =
        let hyphen = seen.1 in rw hyphen (same_either (has_lone_value true (word ∷ words)) None)
    go (open_option other) seen =
        let hyphen = seen.1 in rw hyphen (same_either (has_lone_value true (word ∷ words)) None)
    go plain seen =
        let mark = seen.0 in
        let lone = seen.1 in
        let closed = seen.2 in
        rw (mark, lone, closed) (value (begins_with_hyphen word))
      where
        value : (b : Bool)
            → cond (b || has_lone_value false words) None (before_others (option label word) (loose None words))
            ≡ cond b None (before_others (option label word) (pieces None words))
        value true = refl
        value false =
            before_unless (has_lone_value false words) (option label word) (loose None words)
            ∙ ap (before_others (option label word)) (later None)
    go unreadable hyphen = rw hyphen (same_either (has_lone_value true (word ∷ words)) None)

-- the parser's pieces are the rule's, unless a lone hyphen stands for a value
pub splits : (words : List Word) (waiting : Option Word)
    → cond (has_lone_value (is_some waiting) words) None (loose waiting words) ≡ pieces waiting words
unfolding has_lone_value loose pieces
splits [] None = refl
splits [] (Some label) = refl
splits (word ∷ words) None = idle_word word words (splits words)
splits (word ∷ words) (Some label) = waiting_word label word words (splits words)
