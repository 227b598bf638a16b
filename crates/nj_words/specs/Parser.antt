-- The parser's command that stands for a form, and what the parser makes of the words. All of it
-- is our own, over the definitions of the kit's `clap`.
use Rattle.std.specs.Prelude.{◌&&◌, ◌||◌, Bool, List, [], ◌∷◌, ◌++◌, Option, Some, None, true}
use Rattle.std.specs.Prelude.{String, string_bytes}
use Rattle.std.specs.Prelude.{◌≡◌, codes, false, if◌then◌else◌, map, nat_eq, not, option_map}
use Rattle.std.specs.List.{list_any, starts_with}
use Rattle.std.specs.Str.{bytes_eq}
use Rattle.std.specs.Borrow.{Bor}
use Rattle.clap.specs.Matches.{found_of}
use Rattle.clap.specs.Walk.{Row, Rule, first_of, rows_of, texts}
use Rattle.clap.specs.declared.parser.matches.ArgMatches.{ArgMatches}
use Rattle.clap.specs.Simple.{App, Shape, matches_of, new_rule, new_shape}
use Rattle.clap.specs.Kinds.{Kinds}
use Rattle.clap.specs.Faults.{fault_of}
use Rattle.nj_words.specs.declared.parser.given.Given.{Given}
use Rattle.nj_words.specs.Words.{Form, Taken, Word, is_equals_sign, is_nonempty, taken}

-- an option `--label` with one value
abbrev pub option_rule : Word → Rule
option_rule label = record (new_rule label) { long = Some label }

-- a command of the parser with these rules, and no flag for help
abbrev pub parser_shape : List Rule → Shape
parser_shape rules = record (new_shape (codes "nj")) {
  rules = rules;
  no_binary_name = true;
  disable_help_flag = true;
}

-- the form's names as positionals, then its options
abbrev pub parser_rules : Form → List Rule
parser_rules form = map new_rule form.names ++ map option_rule form.options

-- the parser's command of a form
abbrev pub parser_app : Form → App
parser_app form = record { top = parser_shape (parser_rules form); subs = [] }

-- the kinds of the parser's refusal of the words after the command
unfoldable pub parser_fault : Form → List Word → Kinds
parser_fault form words = fault_of (parser_app form) words

-- what the parser finds in the words where it takes them
unfoldable pub parser_rows : Form → List Word → List Row
parser_rows form words = matches_of (parser_app form) words

-- the word is an option that has no value of its own
abbrev pub is_open_option : Word → Bool
is_open_option word = starts_with nat_eq word (codes "--") && not (list_any is_equals_sign word)

-- a lone `-` stands where an option waits for its value, before the mark after which all are names
unfoldable pub has_lone_value : Bool → List Word → Bool
has_lone_value waits [] = false
has_lone_value waits (word ∷ words) = if bytes_eq word (codes "--") then false
    else (waits && bytes_eq word (codes "-")) || has_lone_value (is_open_option word) words

-- the words, where each is there and none is empty
unfoldable pub given : List (Option Word) → Option (List Word)
given [] = Some []
given (None ∷ rest) = None
given (Some word ∷ rest) =
    if is_nonempty word then option_map (λ words. word ∷ words) (given rest) else None

-- what the form makes of the parser's rows
abbrev pub taken_rows : Form → List Row → Option Taken
taken_rows form rows = option_map (λ names. record {
  names = names;
  values = map (λ label. first_of label rows) form.options;
}) (given (map (λ id. first_of id rows) form.names))

-- the form of these names and options
abbrev pub form_of : List (Bor Word) → List (Bor Word) → Form
form_of names options = record { names = texts names; options = texts options }

-- the parser's command with these rules alone
abbrev pub app_with : List Rule → App
app_with rules = record { top = parser_shape rules; subs = [] }

-- the parser takes the words, and found has its rows
abbrev pub IsParse : Form → List Word → ArgMatches → Type 0
IsParse form words found =
    (parser_fault form words ≡ []) × (rows_of (found_of found) ≡ parser_rows form words)

-- what the getters read of a name or an option
unfoldable pub word_read : ArgMatches → Word → Option Word
word_read found id = first_of id (rows_of (found_of found))

module _ {Z : Type 0} where
  -- the words, as their bytes
  abbrev pub words_of : List (String Z) → List Word
  words_of words = map string_bytes words

  -- the parser's refusal of the words, by a form of these names and options
  abbrev pub fault_of_words : List (Bor Word) → List (Bor Word) → List (String Z) → Kinds
  fault_of_words names options words = parser_fault (form_of names options) (words_of words)

  -- the parser takes the words, by a form of these names and options, and found has its rows
  abbrev pub Finds : List (Bor Word) → List (Bor Word) → List (String Z) → ArgMatches → Type 0
  Finds names options words = IsParse (form_of names options) (words_of words)

  -- what a form of these names and options takes from the words
  abbrev pub taken_by : List (Bor Word) → List (Bor Word) → List (String Z) → Option Taken
  taken_by names options words = taken (form_of names options) (words_of words)

-- the words that are read of the names, where each is there and none is empty
abbrev pub given_of : ArgMatches → List (Bor Word) → Option (List Word)
given_of found names = given (map (word_read found) (texts names))

-- what a command was given, as the rule has it
abbrev pub taken_of : Given → Taken
taken_of given = record {
  names = texts given.names.items;
  values = map (option_map (λ value. value.now)) given.values.items;
}
