-- What the parser reads of a form's command once it is built.
use Rattle.std.proofs.Common.{◌≡◌, ◌∙◌, ◌≤◌, ◌+◌, ◌&&◌, ◌||◌, ℕ, Bool, cond, true, false, not, refl, ap, arith, List, [], ◌∷◌, ◌++◌, map, length, min, Option, Some, None, is_some}
use Rattle.std.specs.List.{fold, list_all, list_any}
use Rattle.clap.specs.Lexer.{usize_max}
use Rattle.clap.specs.Walk.{Row, Rule, has_row, with_default, is_early_multiple}
use Rattle.clap.specs.Simple.{App, Shape, built, is_buildable, is_ready, is_ready_leaf, new_rule, filled_from}
use Rattle.clap.specs.Takes.{is_given}
use Rattle.clap.specs.Faults.{check_fault, default_fault, defaults_fault, is_free_app, is_simple_and_free}
use Rattle.clap.specs.declared.builder.action.ArgAction.TheVariants.{Set}
use Rattle.clap.specs.declared.builder.value_parser.ValueParser.TheVariants as vp
use Rattle.nj_words.specs.Words.{Form, Word}
use Rattle.nj_words.specs.Parser.{option_rule, parser_app, parser_rules, parser_shape}

-- a name or an option, once it is built: each use has one value
abbrev pub use_rule : Option Word → Option ℕ → Word → Rule
use_rule long index id = record (new_rule id) {
  long = long;
  index = index;
  action = Some Set;
  range = Some (record { start_inclusive = 1; end_inclusive = 1 });
  parser = Some vp.String;
}

abbrev pub option_use : Word → Rule
option_use label = use_rule (Some label) None label

-- the names from a place on, and the options
abbrev pub uses : ℕ → List Word → List Word → List Rule
uses place [] labels = map option_use labels
uses place (id ∷ ids) labels = use_rule None (Some place) id ∷ uses (place + 1) ids labels

filled_options : (place : ℕ) (labels : List Word) → filled_from place (map option_rule labels) ≡ map option_use labels
filled_options place [] = refl
filled_options place (label ∷ labels) = ap (λ rules. option_use label ∷ rules) (filled_options place labels)

filled_uses : (place : ℕ) (ids labels : List Word) → place + length ids ≤ usize_max
    → filled_from place (map new_rule ids ++ map option_rule labels) ≡ uses place ids labels
filled_uses place [] labels fits = filled_options place labels
filled_uses place (id ∷ ids) labels fits =
    let next : min (place + 1) usize_max ≡ place + 1 = omega arith in
    ap (λ rules. use_rule None (Some place) id ∷ rules)
    (ap (λ n. filled_from n (map new_rule ids ++ map option_rule labels)) next
    ∙ filled_uses (place + 1) ids labels (omega arith))

-- the form's command, built
abbrev pub built_shape : Form → Shape
built_shape form =
    record (parser_shape (uses 1 form.names form.options)) { is_built = true; disable_help_subcommand = true }

pub built_is : (form : Form) → 1 + length form.names ≤ usize_max
    → ◌≡◌ {A = App} (built (parser_app form)) (record { top = built_shape form; subs = [] })
built_is form fits =
    ap (λ rules. record {
      top = record (parser_shape rules) { is_built = true; disable_help_subcommand = true };
      subs = [];
    }) (filled_uses 1 form.names form.options fits)

all_uses : (p : Rule → Bool) → ((long : Option Word) (index : Option ℕ) (id : Word) → p (use_rule long index id) ≡ true)
    → (place : ℕ) (ids labels : List Word) → list_all p (uses place ids labels) ≡ true
all_uses p each place [] [] = refl
all_uses p each place [] (label ∷ labels) = rw (each (Some label) None label) (all_uses p each place [] labels)
all_uses p each place (id ∷ ids) labels = rw (each None (Some place) id) (all_uses p each (place + 1) ids labels)

no_uses : (p : Rule → Bool) → ((long : Option Word) (index : Option ℕ) (id : Word) → p (use_rule long index id) ≡ false)
    → (place : ℕ) (ids labels : List Word) → list_any p (uses place ids labels) ≡ false
no_uses p each place [] [] = refl
no_uses p each place [] (label ∷ labels) = rw (each (Some label) None label) (no_uses p each place [] labels)
no_uses p each place (id ∷ ids) labels = rw (each None (Some place) id) (no_uses p each (place + 1) ids labels)

pub and_false : (b : Bool) → (b && false) ≡ false
and_false true = refl
and_false false = refl

all_raw : (p : Rule → Bool) → ((id : Word) → p (new_rule id) ≡ true) → ((label : Word) → p (option_rule label) ≡ true)
    → (ids labels : List Word) → list_all p (map new_rule ids ++ map option_rule labels) ≡ true
all_raw p name label [] [] = refl
all_raw p name label [] (x ∷ labels) = rw (label x) (all_raw p name label [] labels)
all_raw p name label (id ∷ ids) labels = rw (name id) (all_raw p name label ids labels)

early_false : (b c : Bool) → (b && false && c) ≡ false
early_false true c = refl
early_false false c = refl

-- the parser says what it makes of any words
pub simple_and_free : (form : Form) → 1 + length form.names ≤ usize_max → is_simple_and_free (parser_app form) ≡ true
simple_and_free form fits =
    let raw : list_all (λ r. r.is_simple) (parser_rules form) ≡ true =
    all_raw (λ r. r.is_simple) (λ _. refl) (λ _. refl) form.names form.options in
    let is = built_is form fits in
    let simple : list_all (λ r. r.is_simple) (uses 1 form.names form.options) ≡ true =
    all_uses (λ r. r.is_simple) (λ _ _ _. refl) 1 form.names form.options in
    let free : list_all (λ r. r.is_free) (uses 1 form.names form.options) ≡ true =
    all_uses (λ r. r.is_free) (λ _ _ _. refl) 1 form.names form.options in
    let early : (n : ℕ) → list_any (is_early_multiple n) (uses 1 form.names form.options) ≡ false =
    λ n. no_uses (is_early_multiple n) (λ long index id. early_false (is_some index) _) 1 form.names form.options in
    ap (λ (b : App). is_buildable (parser_app form) && (is_ready b.top && list_all is_ready_leaf b.subs)
    && is_free_app b) is ∙ rw (raw, simple, early, free) refl

pub same_either : {X : Type 0} (b : Bool) (x : X) → cond b x x ≡ x
same_either true x = refl
same_either false x = refl

or_true : (b : Bool) → (b || true) ≡ true
or_true true = refl
or_true false = refl

pub kept : (rows : List Row) (long : Option Word) (index : Option ℕ) (id : Word)
    → with_default rows (use_rule long index id) ≡ rows
kept rows long index id = same_either (has_row id rows) rows

no_default : (rows : List Row) (long : Option Word) (index : Option ℕ) (id : Word)
    → default_fault rows (use_rule long index id) ≡ []
no_default rows long index id = rw or_true refl

-- nothing is asked of the matches after the walk, and no default comes in
pub no_defaults : (rows : List Row) (place : ℕ) (ids labels : List Word)
    → defaults_fault rows (uses place ids labels) ≡ []
unfolding defaults_fault
no_defaults rows place [] [] = refl
no_defaults rows place [] (label ∷ labels) = rw (no_default, kept) (no_defaults rows place [] labels)
no_defaults rows place (id ∷ ids) labels = rw (no_default, kept) (no_defaults rows (place + 1) ids labels)

pub kept_all : (rows : List Row) (place : ℕ) (ids labels : List Word)
    → fold with_default rows (uses place ids labels) ≡ rows
kept_all rows place [] [] = refl
kept_all rows place [] (label ∷ labels) =
    ap (λ r. fold with_default r (map option_use labels)) (kept rows (Some label) None label)
    ∙ kept_all rows place [] labels
kept_all rows place (id ∷ ids) labels =
    ap (λ r. fold with_default r (uses (place + 1) ids labels)) (kept rows None (Some place) id)
    ∙ kept_all rows (place + 1) ids labels

pub no_check : (form : Form) (rows : List Row) → check_fault (built_shape form) rows false ≡ []
no_check form rows =
    let none : list_any (λ a. a.required && not (is_given a.id rows)) (uses 1 form.names form.options) ≡ false =
    no_uses (λ a. a.required && not (is_given a.id rows)) (λ _ _ _. refl) 1 form.names form.options in
    rw none refl
