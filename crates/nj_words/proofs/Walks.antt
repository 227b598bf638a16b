-- The parser's walk over the words finds what the pieces of the words add up to.
use Rattle.std.proofs.Common.{◌≡◌, ◌∙◌, ◌≤◌, ◌<◌, ◌+◌, ◌&&◌, ◌||◌, ℕ, Bool, cond, true, false, zero, suc, refl, sym, ap, ap₂, subst, arith, List, [], ◌∷◌, map, length, drop, min, Option, Some, None, codes, ◌⊎◌, inl, inr}
use Rattle.std.specs.Option.{option_map, option_map_or}
use Rattle.std.specs.Prelude.{option_and_then, slice_get}
use Rattle.std.specs.Str.{IsUtf8, bytes_eq}
use Rattle.clap.specs.Lexer.{long_of, usize_max}
use Rattle.clap.specs.Walk.{Held, Names, Row, Rule, Step, Text, Waiting, Walk, after_step, arg_by_index, arg_by_long, idle, pushed, reacted, used, settled, settled_rows, subcommand_met, to_positional, value, walked, word_met}
use Rattle.clap.specs.Walk as walking
use Rattle.clap.specs.Kinds.{Kinds, or_else}
use Rattle.clap.specs.Faults.{flags_fault, long_fault, positional_fault, react_fault, settle_fault, step_fault, stray_fault, use_fault, walk_fault, word_fault}
use Rattle.clap.specs.declared.error.kind.ErrorKind.TheVariants as kind
use Rattle.nj_words.specs.Words.{Form, Piece, Word, WordKind, before_others, is_among, kind_of_word, name, names_follow, open_option, option, plain, read_kind, unreadable, whole_option}
use Rattle.nj_words.proofs.Binds.{none_then, swapped, then_Some, then_mapped, unless-then}
use Rattle.nj_words.proofs.Rules.{and_false, built_shape, option_use, use_rule, uses}
use Rattle.nj_words.specs.Parser.{parser_fault, parser_rows}
use Rattle.nj_words.proofs.Outcome.{outcome, parse_outcome, outcome_step, settled_outcome, unless, unless-or}
use Rattle.nj_words.proofs.Lookups.{IsKnown, by_long, by_place, by_short, equals_itself, known_label, known_name}
use Rattle.nj_words.proofs.Lexes.{LexesAs, first_letter, lexes}
use Rattle.nj_words.proofs.Settles.{adds, holding, settles_none, settles_one, use_adds}

-- a word behind an option that waits for its value, as the parser takes it: a lone `-` too
abbrev pub loose_value : WordKind → Word → Word → Option (List Piece) → Option (List Piece)
loose_value plain label word rest = before_others (option label word) rest
loose_value _ label word rest = None

-- the pieces of the words as the parser takes them
unfoldable pub loose : Option Word → List Word → Option (List Piece)
loose None [] = Some []
loose (Some label) [] = None
loose None (word ∷ words) = read_kind (kind_of_word word) word words (λ waiting. loose waiting words)
loose (Some label) (word ∷ words) = loose_value (kind_of_word word) label word (loose None words)

-- the rows with those of the pieces, where each option is known, no id is used twice, and there are enough ids for the
-- names
abbrev pub added : List Word → List Word → List Row → List Piece → Option (List Row)
added labels ids rows [] = Some rows
added labels [] rows (name word ∷ rest) = None
added labels (id ∷ ids) rows (name word ∷ rest) =
    option_and_then (λ more. added labels ids more rest) (adds id word rows)
added labels ids rows (option label word ∷ rest) =
    cond (is_among label labels) (option_and_then (λ more. added labels ids more rest) (adds label word rows)) None

abbrev pub rules_of : Form → List Rule
rules_of form = uses 1 form.names form.options

-- a place of the walk
abbrev pub standing : List Row → Option (Text × List Text) → Waiting → ℕ → Bool → Walk
standing rows pending waiting place trailing = record {
  held = holding rows pending;
  waiting = waiting;
  position = place;
  is_trailing = trailing;
  stopped = None;
}

-- one word, by what the parser makes of it
step_is : (form : Form) (rows : List Row) (pending : Option (Text × List Text)) (waiting : Waiting) (place : ℕ)
    (trailing : Bool) (word : Word) (words : List Word)
    (held : Held) (step : Step) (fault : Kinds)
    → word_met (rules_of form) [] trailing waiting place word (holding rows pending) ≡ (held, step)
    → word_fault (built_shape form) [] trailing waiting word (holding rows pending) ≡ fault
    → outcome (built_shape form) (standing rows pending waiting place trailing) (word ∷ words)
    ≡ unless (or_else fault (step_fault (built_shape form) place held step))
    (outcome (built_shape form) (after_step (rules_of form) word
    (standing rows pending waiting place trailing) held step) words)
unfolding walked
step_is form rows pending waiting place trailing word words held step fault met failed =
    outcome_step (built_shape form) (standing rows pending waiting place trailing) word words
    ∙ ap₂ (λ (m : Held × Step) k. unless (or_else k (step_fault (built_shape form) place m.0 m.1))
    (outcome (built_shape form) (after_step (rules_of form) word
    (standing rows pending waiting place trailing) m.0 m.1) words))
    met failed

or_false : (b : Bool) → (b || false) ≡ b
or_false true = refl
or_false false = refl

-- a word that goes to a name
to_name : (form : Form) (rows : List Row) (pending : Option (Text × List Text)) (waiting : Waiting) (place : ℕ)
    (trailing : Bool) (id word : Word) (words : List Word)
    → place < usize_max → arg_by_index (rules_of form) place ≡ Some (use_rule None (Some place) id)
    → unless (or_else [] (step_fault (built_shape form) place (holding rows pending) value))
    (outcome (built_shape form) (after_step (rules_of form) word (standing rows pending waiting place trailing)
    (holding rows pending) value) words)
    ≡ option_and_then (λ more. outcome (built_shape form)
    (standing more (Some (id, word ∷ [])) idle (place + 1) trailing) words)
    (settled_outcome (rules_of form) (holding rows pending))
to_name form rows pending waiting place trailing id word words lt found =
    let here = holding rows pending in
    let alone : (walking.is_pending (use_rule None (Some place) id) pending && false) ≡ false = and_false _ in
    let next : min (place + 1) usize_max ≡ place + 1 = omega arith in
    let same : (trailing || false) ≡ trailing = or_false trailing in
    ap (λ o. unless (option_map_or (λ a. positional_fault (rules_of form) false a here) o
    (stray_fault (built_shape form)))
    (outcome (built_shape form) (to_positional (rules_of form) o word
    (standing rows pending waiting place trailing) here) words)) found
    ∙ (λ i. unless (cond (alone i) [] (settle_fault (rules_of form) false here))
    (outcome (built_shape form) (record {
      held = pushed id word (cond (alone i) here (settled (rules_of form) here));
      waiting = idle;
      position = next i;
      is_trailing = same i;
      stopped = None;
    }) words))
    ∙ unless-then (settle_fault (rules_of form) false here) (Some (settled_rows (rules_of form) pending rows))
    (λ more. outcome (built_shape form) (standing more (Some (id, word ∷ [])) idle (place + 1) trailing) words)

-- there is no name for the word
to_none : (form : Form) (rows : List Row) (pending : Option (Text × List Text)) (waiting : Waiting) (place : ℕ)
    (trailing : Bool) (word : Word) (words : List Word)
    → arg_by_index (rules_of form) place ≡ None
    → unless (or_else [] (step_fault (built_shape form) place (holding rows pending) value))
    (outcome (built_shape form) (after_step (rules_of form) word (standing rows pending waiting place trailing)
    (holding rows pending) value) words)
    ≡ None
to_none form rows pending waiting place trailing word words found =
    ap (λ o. unless (option_map_or (λ a. positional_fault (rules_of form) false a (holding rows pending)) o
    (stray_fault (built_shape form)))
    (outcome (built_shape form) (to_positional (rules_of form) o word (standing rows pending waiting place trailing)
    (holding rows pending)) words)) found

-- what is left of the names from a place on
abbrev pub AtPlace : List Word → ℕ → Type 0
AtPlace ids k = ((slice_get ids k ≡ None) × (drop k ids ≡ []))
    ⊎ ((id : Word) × (slice_get ids k ≡ Some id) × (drop k ids ≡ id ∷ drop (suc k) ids) × (k < length ids))

at_place : (ids : List Word) (k : ℕ) → AtPlace ids k
at_place [] zero = inl (refl, refl)
at_place [] (suc k) = inl (refl, refl)
at_place (id ∷ ids) zero = inr (id, refl, refl, omega arith)
at_place (id ∷ ids) (suc k) = elim (at_place ids k) [
  | inl none ↦ inl none
  | inr some ↦ inr (some.0, some.1, some.2, omega (arith, some.3))
]

-- what a word does that goes to the next name, if there is one
abbrev named : Form → ℕ → Word → List Word → Bool → List Row → Option (List Row)
named form k word words trailing rows =
    option_and_then (λ id. outcome (built_shape form)
    (standing rows (Some (id, word ∷ [])) idle (suc k + 1) trailing) words) (slice_get form.names k)

to_next : (form : Form) (rows : List Row) (pending : Option (Text × List Text)) (waiting : Waiting) (k : ℕ)
    (trailing : Bool) (word : Word) (words : List Word)
    → 1 + length form.names ≤ usize_max
    → unless (or_else [] (step_fault (built_shape form) (suc k) (holding rows pending) value))
    (outcome (built_shape form) (after_step (rules_of form) word (standing rows pending waiting (suc k) trailing)
    (holding rows pending) value) words)
    ≡ option_and_then (named form k word words trailing) (settled_outcome (rules_of form) (holding rows pending))
to_next form rows pending waiting k trailing word words fits =
    let found = by_place 1 (suc k) k form.names form.options (omega arith) in
    elim (at_place form.names k) [
      | inl none ↦
          to_none form rows pending waiting (suc k) trailing word words
          (found ∙ ap (option_map (use_rule None (Some (suc k)))) none.0)
          ∙ sym (none_then _ _ (λ more. ap (option_and_then
          (λ id. outcome (built_shape form) (standing more (Some (id, word ∷ [])) idle (suc k + 1) trailing) words))
          none.0))
      | inr some ↦
          to_name form rows pending waiting (suc k) trailing some.0 word words (omega (arith, some.3))
          (found ∙ ap (option_map (use_rule None (Some (suc k)))) some.1)
          ∙ (λ i. option_and_then (λ more. option_and_then
          (λ id. outcome (built_shape form) (standing more (Some (id, word ∷ [])) idle (suc k + 1) trailing) words)
          (sym some.1 i)) (settled_outcome (rules_of form) (holding rows pending)))
    ]

-- the rows of the pieces that are still to come
abbrev pub completed : Form → ℕ → Option (List Piece) → List Row → Option (List Row)
completed form k found rows = option_and_then (added form.options (drop k form.names) rows) found

named_is : (form : Form) (k : ℕ) (word : Word) (words : List Word) (trailing : Bool) (more : List Row)
    (found : Option (List Piece))
    → ((id : Word) (rows : List Row)
    → outcome (built_shape form) (standing rows (Some (id, word ∷ [])) idle (suc (suc k)) trailing) words
    ≡ option_and_then (completed form (suc k) found)
    (settled_outcome (rules_of form) (holding rows (Some (id, word ∷ [])))))
    → named form k word words trailing more ≡ completed form k (before_others (name word) found) more
named_is form k word words trailing more found later = elim (at_place form.names k) [
  | inl none ↦
      ap (option_and_then (λ id. outcome (built_shape form)
      (standing more (Some (id, word ∷ [])) idle (suc k + 1) trailing) words)) none.0
      ∙ sym (then_mapped found (λ ps. name word ∷ ps) (added form.options (drop k form.names) more)
      ∙ none_then found _ (λ ps. ap (λ ids. added form.options ids more (name word ∷ ps)) none.1))
  | inr some ↦
      let place : suc k + 1 ≡ suc (suc k) = omega arith in
      ap (option_and_then (λ id. outcome (built_shape form)
      (standing more (Some (id, word ∷ [])) idle (suc k + 1) trailing) words)) some.1
      ∙ ap (λ n. outcome (built_shape form) (standing more (Some (some.0, word ∷ [])) idle n trailing) words) place
      ∙ later some.0 more
      ∙ ap (option_and_then (completed form (suc k) found))
      (settles_one (rules_of form) more some.0 word (known_name some.0 1 k form.names form.options some.1))
      ∙ swapped (adds some.0 word more) found (λ rows ps. added form.options (drop (suc k) form.names) rows ps)
      ∙ sym (then_mapped found (λ ps. name word ∷ ps) (added form.options (drop k form.names) more)
      ∙ ap (λ ids. option_and_then (λ ps. added form.options ids more (name word ∷ ps)) found) some.2)
]

-- behind the mark all words are names
trailed : (form : Form) → 1 + length form.names ≤ usize_max
    → (words : List Word) (k : ℕ) (rows : List Row) (pending : Option (Text × List Text)) (waiting : Waiting)
    → outcome (built_shape form) (standing rows pending waiting (suc k) true) words
    ≡ option_and_then (completed form k (Some (map name words)))
    (settled_outcome (rules_of form) (holding rows pending))
unfolding walk_fault
trailed form fits [] k rows pending waiting = sym (then_Some _)
trailed form fits (word ∷ words) k rows pending waiting =
    step_is form rows pending waiting (suc k) true word words (holding rows pending) value [] refl refl
    ∙ to_next form rows pending waiting k true word words fits
    ∙ (λ i. option_and_then (λ more. named_is form k word words true more (Some (map name words))
    (λ id rows. trailed form fits words (suc k) rows (Some (id, word ∷ [])) idle) i)
    (settled_outcome (rules_of form) (holding rows pending)))

-- what the walk finds in the words from a place on, where no option waits or one does
abbrev pub Finds : Form → ℕ → Option Word → List Word → Type 0
Finds form k None words = (rows : List Row) (pending : Option (Text × List Text))
    → outcome (built_shape form) (standing rows pending idle (suc k) false) words
    ≡ option_and_then (completed form k (loose None words)) (settled_outcome (rules_of form) (holding rows pending))
Finds form k (Some label) words = (rows : List Row) → is_among label form.options ≡ true
    → outcome (built_shape form) (standing rows (Some (label, [])) (walking.option label) (suc k) false) words
    ≡ completed form k (loose (Some label) words) rows

option_added : (form : Form) (k : ℕ) (label word : Word) (rows : List Row) (found : Option (List Piece))
    → is_among label form.options ≡ true
    → completed form k (before_others (option label word) found) rows
    ≡ option_and_then (completed form k found) (adds label word rows)
option_added form k label word rows found known =
    then_mapped found (λ ps. option label word ∷ ps) (added form.options (drop k form.names) rows)
    ∙ ap (λ b. option_and_then (λ ps. cond b (option_and_then (λ more. added form.options (drop k form.names) more ps)
    (adds label word rows)) None) found) known
    ∙ swapped found (adds label word rows) (λ ps more. added form.options (drop k form.names) more ps)

option_unknown : (form : Form) (k : ℕ) (label word : Word) (rows : List Row) (found : Option (List Piece))
    → is_among label form.options ≡ false
    → completed form k (before_others (option label word) found) rows ≡ None
option_unknown form k label word rows found unknown =
    then_mapped found (λ ps. option label word ∷ ps) (added form.options (drop k form.names) rows)
    ∙ none_then found _ (λ ps. ap (λ b. cond b
    (option_and_then (λ more. added form.options (drop k form.names) more ps) (adds label word rows)) None) unknown)

waits_unknown : (form : Form) (k : ℕ) (label : Word) (rows : List Row) (words : List Word)
    → is_among label form.options ≡ false
    → completed form k (loose (Some label) words) rows ≡ None
unfolding loose
waits_unknown form k label rows [] unknown = refl
waits_unknown form k label rows (word ∷ words) unknown = go (kind_of_word word)
  where
    go : (kind : WordKind) → completed form k (loose_value kind label word (loose None words)) rows ≡ None
    go plain = option_unknown form k label word rows (loose None words) unknown
    go names_follow = refl
    go (whole_option other given) = refl
    go (open_option other) = refl
    go unreadable = refl

-- a word where no option waits, by its kind
abbrev FindsKind : Form → ℕ → Word → List Word → List Row → Option (Text × List Text) → WordKind → Type 0
FindsKind form k word words rows pending kind =
    outcome (built_shape form) (standing rows pending idle (suc k) false) (word ∷ words)
    ≡ option_and_then (completed form k (read_kind kind word words (λ waiting. loose waiting words)))
    (settled_outcome (rules_of form) (holding rows pending))

abbrev Later : Form → List Word → Type 0
Later form words = (k : ℕ) (waiting : Option Word) → Finds form k waiting words

-- an option that carries its value
whole_found : (form : Form) (k : ℕ) (word : Word) (words : List Word) (rows : List Row)
    (pending : Option (Text × List Text)) (label given : Word)
    → bytes_eq word (codes "--") ≡ false → long_of word ≡ Some (label, Some given) → Later form words
    → (known : Bool) → is_among label form.options ≡ known
    → FindsKind form k word words rows pending (whole_option label given)
whole_found form k word words rows pending label given dashes long later false known =
    let here = holding rows pending in
    let found : arg_by_long (rules_of form) label ≡ None =
    by_long label 1 form.names form.options ∙ ap (λ b. cond b (Some (option_use label)) None) known in
    step_is form rows pending idle (suc k) false word words here value (kind.UnknownArgument ∷ [])
    (rw (dashes, long, found) refl) (rw (dashes, long, found) refl)
    ∙ sym (none_then (settled_outcome (rules_of form) here) _
    (λ more. option_unknown form k label given more (loose None words) known))
whole_found form k word words rows pending label given dashes long later true known =
    let here = holding rows pending in
    let c = rules_of form in
    let found : arg_by_long c label ≡ Some (option_use label) =
    by_long label 1 form.names form.options ∙ ap (λ b. cond b (Some (option_use label)) None) known in
    let now = settled_rows c pending rows in
    let next = used (option_use label) (given ∷ []) now in
    step_is form rows pending idle (suc k) false word words (reacted c (option_use label) (given ∷ []) here)
    (walking.next idle) (react_fault c false (option_use label) (given ∷ []) here)
    (rw (dashes, long, found) refl) (rw (dashes, long, found) refl)
    ∙ unless-or (react_fault c false (option_use label) (given ∷ []) here) [] _
    ∙ unless-or (settle_fault c false here) (use_fault false (option_use label) (given ∷ []) now) _
    ∙ ap (λ o. unless (settle_fault c false here) (unless (use_fault false (option_use label) (given ∷ []) now) o))
    (later k None next None)
    ∙ ap (unless (settle_fault c false here)) (unless-then (use_fault false (option_use label) (given ∷ []) now)
    (Some next) (completed form k (loose None words))
    ∙ ap (option_and_then (completed form k (loose None words))) (use_adds (Some label) None label given now)
    ∙ sym (option_added form k label given now (loose None words) known))
    ∙ unless-then (settle_fault c false here) (Some now)
    (completed form k (before_others (option label given) (loose None words)))

-- an option whose value is the next word
open_found : (form : Form) (k : ℕ) (word : Word) (words : List Word) (rows : List Row)
    (pending : Option (Text × List Text)) (label : Word)
    → bytes_eq word (codes "--") ≡ false → long_of word ≡ Some (label, None) → Later form words
    → (known : Bool) → is_among label form.options ≡ known
    → FindsKind form k word words rows pending (open_option label)
open_found form k word words rows pending label dashes long later false known =
    let here = holding rows pending in
    let found : arg_by_long (rules_of form) label ≡ None =
    by_long label 1 form.names form.options ∙ ap (λ b. cond b (Some (option_use label)) None) known in
    step_is form rows pending idle (suc k) false word words here value (kind.UnknownArgument ∷ [])
    (rw (dashes, long, found) refl) (rw (dashes, long, found) refl)
    ∙ sym (none_then (settled_outcome (rules_of form) here) _ (λ more. waits_unknown form k label more words known))
open_found form k word words rows pending label dashes long later true known =
    let here = holding rows pending in
    let c = rules_of form in
    let found : arg_by_long c label ≡ Some (option_use label) =
    by_long label 1 form.names form.options ∙ ap (λ b. cond b (Some (option_use label)) None) known in
    let now = settled_rows c pending rows in
    step_is form rows pending idle (suc k) false word words (holding now (Some (label, [])))
    (walking.next (walking.option label)) (settle_fault c false here)
    (rw (dashes, long, found) refl) (rw (dashes, long, found) refl)
    ∙ unless-or (settle_fault c false here) [] _
    ∙ ap (unless (settle_fault c false here)) (later k (Some label) now known)
    ∙ unless-then (settle_fault c false here) (Some now) (completed form k (loose (Some label) words))

-- the parser knows no short option
short_unknown : (form : Form) (word : Word) (rows : List Row) (pending : Option (Text × List Text)) (waiting : Waiting)
    → subcommand_met [] waiting word ≡ None → IsUtf8 word
    → LexesAs word unreadable
    → word_fault (built_shape form) [] false waiting word (holding rows pending) ≡ kind.UnknownArgument ∷ []
unfolding flags_fault
short_unknown form word rows pending waiting none utf8 lexed =
    let dashes = lexed.0 in
    let long = lexed.1 in
    let first = lexed.2.0 in
    let rest = lexed.2.1 in
    let short = lexed.2.3 in
    let letter = first_letter first rest (subst IsUtf8 lexed.2.2 utf8) in
    let begins = letter.1 in
    let no_rule = by_short letter.0 1 form.names form.options in
    rw (none, dashes, long, short, begins, no_rule) refl

-- a word that begins with one hyphen and is longer
unreadable_found : (form : Form) (k : ℕ) (word : Word) (words : List Word) (rows : List Row)
    (pending : Option (Text × List Text)) → IsUtf8 word
    → LexesAs word unreadable → FindsKind form k word words rows pending unreadable
unreadable_found form k word words rows pending utf8 lexed =
    let here = holding rows pending in
    let met = word_met (rules_of form) [] false idle (suc k) word here in
    step_is form rows pending idle (suc k) false word words met.0 met.1 (kind.UnknownArgument ∷ []) refl
    (short_unknown form word rows pending idle refl utf8 lexed)
    ∙ sym (none_then (settled_outcome (rules_of form) here) _ (λ more. refl))

-- a name
plain_found : (form : Form) → 1 + length form.names ≤ usize_max
    → (k : ℕ) (word : Word) (words : List Word) (rows : List Row) (pending : Option (Text × List Text))
    → LexesAs word plain → Later form words → FindsKind form k word words rows pending plain
plain_found form fits k word words rows pending lexed later =
    let dashes = lexed.0 in
    let long = lexed.1 in
    let short = lexed.2 in
    step_is form rows pending idle (suc k) false word words (holding rows pending) value []
    (rw (dashes, long, short) refl) (rw (dashes, long, short) refl)
    ∙ to_next form rows pending idle k false word words fits
    ∙ (λ i. option_and_then (λ more. named_is form k word words false more (loose None words)
    (λ id given. later (suc k) None given (Some (id, word ∷ []))) i)
    (settled_outcome (rules_of form) (holding rows pending)))

-- a word where an option waits, by its kind
abbrev WaitsKind : Form → ℕ → Word → Word → List Word → List Row → WordKind → Type 0
WaitsKind form k label word words rows kind =
    outcome (built_shape form) (standing rows (Some (label, [])) (walking.option label) (suc k) false) (word ∷ words)
    ≡ completed form k (loose_value kind label word (loose None words)) rows

module _ (form : Form) (k : ℕ) (label : Word) (known : is_among label form.options ≡ true) (word : Word)
    (words : List Word) (rows : List Row) where
  waiting : Walk
  waiting = standing rows (Some (label, [])) (walking.option label) (suc k) false

  rule : IsKnown (rules_of form) label
  rule = known_label label 1 form.names form.options known

  -- an option that waits for its value has none yet, which is a fault once anything else comes
  unsettled : settle_fault (rules_of form) false (holding rows (Some (label, []))) ≡ kind.InvalidValue ∷ []
  unsettled = ap (λ found. option_map_or (λ a. use_fault false a [] rows) found []) rule.2

  waits_mark : 1 + length form.names ≤ usize_max → LexesAs word names_follow
      → WaitsKind form k label word words rows names_follow
  waits_mark fits dashes =
      step_is form rows (Some (label, [])) (walking.option label) (suc k) false word words
      (holding rows (Some (label, []))) (walking.trailing (suc k)) []
      (rw dashes refl) (rw dashes refl)
      ∙ trailed form fits words k rows (Some (label, [])) (walking.option label)
      ∙ ap (option_and_then (completed form k (Some (map name words)))) (settles_none (rules_of form) rows label rule)

  waits_unreadable : IsUtf8 word → LexesAs word unreadable → WaitsKind form k label word words rows unreadable
  waits_unreadable utf8 lexed =
      let met = word_met (rules_of form) [] false (walking.option label) (suc k) word
      (holding rows (Some (label, []))) in
      step_is form rows (Some (label, [])) (walking.option label) (suc k) false word words met.0 met.1
      (kind.UnknownArgument ∷ []) refl
      (short_unknown form word rows (Some (label, [])) (walking.option label) refl utf8 lexed)

  -- another option in place of the value
  waits_option : (other : Word) (given : Option Word) → bytes_eq word (codes "--") ≡ false
      → long_of word ≡ Some (other, given)
      → outcome (built_shape form) (standing rows (Some (label, [])) (walking.option label) (suc k) false)
      (word ∷ words) ≡ None
  waits_option other given dashes long =
      let here = holding rows (Some (label, [])) in
      let met = word_met (rules_of form) [] false (walking.option label) (suc k) word here in
      let fault : word_fault (built_shape form) [] false (walking.option label) word here
      ≡ long_fault (rules_of form) false (arg_by_long (rules_of form) other) given here = rw (dashes, long) refl in
      step_is form rows (Some (label, [])) (walking.option label) (suc k) false word words met.0 met.1 _ refl
      (fault ∙ ap (λ o. long_fault (rules_of form) false o given here) (by_long other 1 form.names form.options))
      ∙ go (is_among other form.options) given _ _
    where
      go : (b : Bool) (content : Option Word) (kinds : Kinds) (rest : Option (List Row))
          → unless (or_else (long_fault (rules_of form) false (cond b (Some (option_use other)) None) content
          (holding rows (Some (label, [])))) kinds) rest ≡ None
      go false content kinds rest = refl
      go true None kinds rest = ap (λ f. unless (or_else f kinds) rest) unsettled
      go true (Some v) kinds rest =
          ap (λ f. unless (or_else (or_else f (use_fault false (option_use other) (v ∷ [])
          (settled_rows (rules_of form) (Some (label, [])) rows))) kinds) rest) unsettled

  waits_plain : LexesAs word plain → Later form words → WaitsKind form k label word words rows plain
  waits_plain lexed later =
      let here = holding rows (Some (label, [])) in
      let dashes = lexed.0 in
      let long = lexed.1 in
      let short = lexed.2 in
      let same = equals_itself label in
      let is = rule.2 in
      step_is form rows (Some (label, [])) (walking.option label) (suc k) false word words
      (holding rows (Some (label, word ∷ []))) (walking.next idle) []
      (rw (dashes, long, short, is, same) refl) (rw (dashes, long, short) refl)
      ∙ later k None rows (Some (label, word ∷ []))
      ∙ ap (option_and_then (completed form k (loose None words))) (settles_one (rules_of form) rows label word rule)
      ∙ sym (option_added form k label word rows (loose None words) known)

-- the words are UTF-8
abbrev pub AreUtf8 : List Word → Type 0
AreUtf8 [] = Unit {0}
AreUtf8 (word ∷ words) = IsUtf8 word × AreUtf8 words

idle_word : (form : Form) → 1 + length form.names ≤ usize_max → (k : ℕ) (word : Word) (words : List Word) → IsUtf8 word
    → Later form words → Finds form k None (word ∷ words)
unfolding loose
idle_word form fits k word words utf8 later rows pending = go (kind_of_word word) (lexes word)
  where
    go : (kind : WordKind) → LexesAs word kind → FindsKind form k word words rows pending kind
    go names_follow dashes =
        step_is form rows pending idle (suc k) false word words (holding rows pending) (walking.trailing (suc k)) []
        (rw dashes refl) (rw dashes refl)
        ∙ trailed form fits words k rows pending idle
    go (whole_option label given) lexed =
        whole_found form k word words rows pending label given lexed.0 lexed.1 later (is_among label form.options) refl
    go (open_option label) lexed =
        open_found form k word words rows pending label lexed.0 lexed.1 later (is_among label form.options) refl
    go plain lexed = plain_found form fits k word words rows pending lexed later
    go unreadable lexed = unreadable_found form k word words rows pending utf8 lexed

waiting_word : (form : Form) → 1 + length form.names ≤ usize_max → (k : ℕ) (label word : Word) (words : List Word)
    → IsUtf8 word → Later form words → Finds form k (Some label) (word ∷ words)
unfolding loose
waiting_word form fits k label word words utf8 later rows known = go (kind_of_word word) (lexes word)
  where
    go : (kind : WordKind) → LexesAs word kind → WaitsKind form k label word words rows kind
    go names_follow dashes = waits_mark form k label known word words rows fits dashes
    go (whole_option other given) lexed =
        waits_option form k label known word words rows other (Some given) lexed.0 lexed.1
    go (open_option other) lexed = waits_option form k label known word words rows other None lexed.0 lexed.1
    go plain lexed = waits_plain form k label known word words rows lexed later
    go unreadable lexed = waits_unreadable form k label known word words rows utf8 lexed

-- the walk finds what the pieces add up to
finds : (form : Form) → 1 + length form.names ≤ usize_max → (words : List Word) → AreUtf8 words
    → (k : ℕ) (waiting : Option Word) → Finds form k waiting words
unfolding loose walk_fault
finds form fits [] utf8 k None = λ rows pending. sym (then_Some _)
finds form fits [] utf8 k (Some label) =
    λ rows known. settles_none (rules_of form) rows label (known_label label 1 form.names form.options known)
finds form fits (word ∷ words) utf8 k None = idle_word form fits k word words utf8.0 (finds form fits words utf8.1)
finds form fits (word ∷ words) utf8 k (Some label) =
    waiting_word form fits k label word words utf8.0 (finds form fits words utf8.1)

-- the parser finds in the words what their pieces add up to
pub parse_is : (form : Form) (words : List Word) → 1 + length form.names ≤ usize_max → AreUtf8 words
    → unless (parser_fault form words) (Some (parser_rows form words))
    ≡ option_and_then (added form.options form.names []) (loose None words)
parse_is form words fits utf8 = parse_outcome form words fits ∙ finds form fits words utf8 0 None [] None
