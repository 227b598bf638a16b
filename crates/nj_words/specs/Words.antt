-- How the words of a command line are read: a rule on the whole list of words, each seen as its
-- bytes. The rule is our own, near the long options of GNU getopt_long, but for abbreviations,
-- flags and short options, of which there are none.
use Rattle.std.specs.Prelude.{◌==◌, ◌&&◌, ◌||◌, ℕ, Bool, true, not, List, [], ◌∷◌, Option}
use Rattle.std.specs.Prelude.{Some, None, codes, drop, if◌then◌else◌, length, map, nat_eq}
use Rattle.std.specs.Prelude.{option_and_then, option_map}
use Rattle.std.specs.List.{after_first, before_first, list_all, list_any, starts_with}
use Rattle.std.specs.Str.{bytes_eq}

-- a word, as its bytes; our own
abbrev pub Word : Type 0
Word = List ℕ

-- what the words after the command say, one thing after another: a name, or an option by its name
-- and its value; our own
pub data Piece : Type 0 where
  name : Word → Piece
  option : Word → Word → Piece

-- what a word is where no option waits for its value: the mark after which all words are names, an
-- option that carries its value, an option whose value is the next word, a name, or none of these;
-- our own
pub data WordKind : Type 0 where
  names_follow : WordKind
  whole_option : Word → Word → WordKind
  open_option : Word → WordKind
  plain : WordKind
  unreadable : WordKind

-- the word begins with `-`; our own
abbrev pub begins_with_hyphen : Word → Bool
begins_with_hyphen word = starts_with nat_eq word (codes "-")

-- the byte is `=`, by ASCII
abbrev pub is_equals_sign : ℕ → Bool
is_equals_sign byte = byte == 61

-- `name=value` or `name`, as it stands behind two hyphens; our own
abbrev pub option_kind : Word → WordKind
option_kind text = if list_any is_equals_sign text
    then whole_option (before_first is_equals_sign text) (after_first is_equals_sign text)
    else open_option text

-- `--`; `--name=value` or `--name`; a lone `-` or what does not begin with `-`; any other; our own
unfoldable pub kind_of_word : Word → WordKind
kind_of_word word = if bytes_eq word (codes "--") then names_follow
    else (if starts_with nat_eq word (codes "--") then option_kind (drop 2 word)
    else (if bytes_eq word (codes "-") || not (begins_with_hyphen word) then plain else unreadable))

-- a piece before the others, where those can be read; our own
abbrev pub before_others : Piece → Option (List Piece) → Option (List Piece)
before_others piece = option_map (λ pieces. piece ∷ pieces)

-- the pieces of a word of this kind and of the words after it, which `read` reads, given the
-- option that waits for its value; our own
abbrev pub read_kind : WordKind → Word → List Word → (Option Word → Option (List Piece))
    → Option (List Piece)
read_kind names_follow word words read = Some (map name words)
read_kind (whole_option label value) word words read =
    before_others (option label value) (read None)
read_kind (open_option label) word words read = read (Some label)
read_kind plain word words read = before_others (name word) (read None)
read_kind unreadable word words read = None

-- the pieces of the words, given the option that waits for its value; the value may not begin with
-- `-`; our own
unfoldable pub pieces : Option Word → List Word → Option (List Piece)
pieces None [] = Some []
pieces (Some label) [] = None
pieces None (word ∷ words) =
    read_kind (kind_of_word word) word words (λ waiting. pieces waiting words)
pieces (Some label) (word ∷ words) = if begins_with_hyphen word then None
    else before_others (option label word) (pieces None words)

-- the names among the pieces, in order; our own
abbrev pub names_in : List Piece → List Word
names_in [] = []
names_in (name word ∷ rest) = word ∷ names_in rest
names_in (option label value ∷ rest) = names_in rest

-- the options among the pieces, in order, by their names; our own
abbrev pub labels_in : List Piece → List Word
labels_in [] = []
labels_in (name word ∷ rest) = labels_in rest
labels_in (option label value ∷ rest) = label ∷ labels_in rest

-- the value of the first option of this name; our own
abbrev pub value_in : List Piece → Word → Option Word
value_in [] label = None
value_in (name word ∷ rest) label = value_in rest label
value_in (option other value ∷ rest) label =
    if bytes_eq other label then Some value else value_in rest label

-- the word is one of the words; our own
abbrev pub is_among : Word → List Word → Bool
is_among word words = list_any (λ other. bytes_eq other word) words

-- no word stands twice; our own
abbrev pub is_distinct : List Word → Bool
is_distinct [] = true
is_distinct (word ∷ words) = not (is_among word words) && is_distinct words

-- the word has a byte; our own
abbrev pub is_nonempty : Word → Bool
is_nonempty word = not (length word == 0)

-- what a command takes: its names, by what they stand for, and its options; our own
pub record Form : Type 0 where
  pub names : List Word
  pub options : List Word

-- the names that a command was given, and for each of its options the value or none; our own
pub record Taken : Type 0 where
  pub names : List Word
  pub values : List (Option Word)

-- each name of the form is there and not empty, none is left over, each option is one of the
-- form's, and none stands twice; our own
unfoldable pub fits : Form → List Piece → Bool
fits form pieces = length (names_in pieces) == length form.names
    && (list_all is_nonempty (names_in pieces)
    && (list_all (λ label. is_among label form.options) (labels_in pieces)
    && is_distinct (labels_in pieces)))

-- what the form makes of the pieces, or none; our own
abbrev pub taken_from : Form → List Piece → Option Taken
taken_from form pieces = if fits form pieces
    then Some (record { names = names_in pieces; values = map (value_in pieces) form.options })
    else None

-- what the form takes from the words after the command, or none; our own
unfoldable pub taken : Form → List Word → Option Taken
taken form words = option_and_then (taken_from form) (pieces None words)
