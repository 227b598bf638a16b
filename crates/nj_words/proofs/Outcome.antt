-- What the parser finds in the words, or that it refuses them, as one value.
use Rattle.std.proofs.Common.{◌≡◌, ◌∙◌, ◌≤◌, ◌+◌, false, refl, ap, ap₂, List, [], ◌∷◌, length, Option, Some, None, is_some}
use Rattle.std.specs.List.{fold}
use Rattle.clap.specs.Lexer.{usize_max}
use Rattle.clap.specs.Walk.{Held, Row, Rule, Text, Walk, settled_rows, finished, walk, walk_from, walked, nothing_held, rows_after}
use Rattle.clap.specs.Simple.{App, Shape, entered, names_of}
use Rattle.clap.specs.Kinds.{Kinds, or_else}
use Rattle.clap.specs.Faults.{built_fault, check_fault, defaults_fault, entered_fault, level_fault, settle_fault, turn_fault, walk_fault}
use Rattle.nj_words.specs.Words.{Form, Word}
use Rattle.nj_words.specs.Parser.{parser_fault, parser_rows}
use Rattle.nj_words.proofs.Rules.{built_is, built_shape, kept_all, no_check, no_defaults}

-- nothing where there is a fault
abbrev pub unless : {X : Type 0} → Kinds → Option X → Option X
unless [] found = found
unless (kind ∷ kinds) found = None

pub unless-or : {X : Type 0} (first next : Kinds) (found : Option X)
    → unless (or_else first next) found ≡ unless first (unless next found)
unless-or [] next found = refl
unless-or (kind ∷ kinds) next found = refl

-- the values that the parser holds at the end of its walk, once the last use is settled
abbrev pub settled_outcome : List Rule → Held → Option (List Row)
settled_outcome rules held = unless (settle_fault rules false held) (Some (settled_rows rules held.pending held.rows))

-- what the parser finds in the words from a place of its walk on
abbrev pub outcome : Shape → Walk → List Text → Option (List Row)
outcome shape place words =
    unless (walk_fault shape [] place words) (settled_outcome shape.rules
    (fold (walked shape.rules []) place words).held)

pub outcome_step : (shape : Shape) (place : Walk) (word : Text) (words : List Text)
    → outcome shape place (word ∷ words) ≡ unless (turn_fault shape [] place word)
    (outcome shape (walked shape.rules [] place word) words)
unfolding walk_fault
outcome_step shape place word words = unless-or (turn_fault shape [] place word) _ _

no_subcommand : (top : Shape) (stop : Option (Text × List Text)) → entered (record { top = top; subs = [] }) stop ≡ None
no_subcommand top None = refl
no_subcommand top (Some stop) = refl

no_subcommand_fault : (top : Shape) (stop : Option (Text × List Text))
    → entered_fault (record { top = top; subs = [] }) stop ≡ []
no_subcommand_fault top None = refl
no_subcommand_fault top (Some stop) = refl

level_outcome : (form : Form) (words : List Text)
    → unless (level_fault (built_shape form) [] nothing_held words false [])
    (Some (rows_after (built_shape form).rules [] words))
    ≡ outcome (built_shape form) (walk_from nothing_held) words
level_outcome form words =
    let end = (walk (built_shape form).rules [] nothing_held words).held in
    let rows = settled_rows (built_shape form).rules end.pending end.rows in
    let same : finished (built_shape form).rules end ≡ rows = kept_all rows 1 form.names form.options in
    let defaults : defaults_fault rows (built_shape form).rules ≡ [] = no_defaults rows 1 form.names form.options in
    let check : check_fault (built_shape form) (finished (built_shape form).rules end) false ≡ [] =
    no_check form (finished (built_shape form).rules end) in
    unless-or (walk_fault (built_shape form) [] (walk_from nothing_held) words) _ _
    ∙ ap (unless (walk_fault (built_shape form) [] (walk_from nothing_held) words))
    (unless-or (settle_fault (built_shape form).rules false end) _ _
    ∙ ap (unless (settle_fault (built_shape form).rules false end))
    (ap₂ (λ a b. unless (or_else a b) (Some (finished (built_shape form).rules end))) defaults check ∙ ap Some same))

-- what the whole parse finds
pub parse_outcome : (form : Form) (words : List Word) → 1 + length form.names ≤ usize_max
    → unless (parser_fault form words) (Some (parser_rows form words))
    ≡ outcome (built_shape form) (walk_from nothing_held) words
unfolding parser_fault parser_rows
parse_outcome form words fits =
    let stop = (walk (built_shape form).rules [] nothing_held words).stopped in
    ap (λ (app : App). unless (built_fault app nothing_held words)
    (Some (rows_after app.top.rules (names_of app) words))) (built_is form fits)
    ∙ ap₂ (λ (o : Option _) k. unless (level_fault (built_shape form) [] nothing_held words (is_some o) k)
    (Some (rows_after (built_shape form).rules [] words)))
    (no_subcommand (built_shape form) stop) (no_subcommand_fault (built_shape form) stop)
    ∙ level_outcome form words
