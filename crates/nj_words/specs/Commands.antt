-- The commands of the program, and the reading of a whole command line.
use Rattle.std.specs.Prelude.{◌≤◌, ℕ, List, [], ◌∷◌, Option, Some, None, codes, find, option_and_then}
use Rattle.std.specs.Prelude.{Bool, false, nat_lt, option_map, slice_get, unwrap_or}
use Rattle.std.specs.Str.{bytes_eq}
use Rattle.nj_bytes.specs.Decimal.{decimal_of}
use Rattle.nj_words.specs.Words.{Form, Taken, Word, taken}
use Rattle.nj_words.specs.Options.{name_or_none, number_or, value_at}
use Rattle.nj_words.specs.declared.Command.{Command}
use Rattle.nj_words.specs.declared.Command.TheVariants.{Asm, Check, Clean, Play, Replay, Resume, Search, Trace, Watch, Workload}
use Rattle.nj_words.specs.declared.SearchOptions.{SearchOptions}

-- a command: its word, what it takes, and what it is with what it was given, where its values have
-- their form and range; our own
pub record Row : Type 0 where
  pub word : Word
  pub form : Form
  pub made : Taken → Option Command

-- the word of the name at a place of the form; our own
abbrev pub name_at : Taken → ℕ → Word
name_at taken place = unwrap_or (slice_get taken.names place) []

-- `play CART MOVIE`; our own
abbrev pub play_form : Form
play_form = record { names = codes "CART" ∷ codes "MOVIE" ∷ []; options = [] }

-- the names of `play`, by their places; our own
abbrev pub play_of : Taken → Option Command
play_of taken = Some (Play (name_at taken 0) (name_at taken 1))

-- `replay CART SCRIPT START MOVIE`; our own
abbrev pub replay_form : Form
replay_form = record {
  names = codes "CART" ∷ codes "SCRIPT" ∷ codes "START" ∷ codes "MOVIE" ∷ [];
  options = [];
}

-- the names of `replay`, by their places; our own
abbrev pub replay_of : Taken → Option Command
replay_of taken =
    Some (Replay (name_at taken 0) (name_at taken 1) (name_at taken 2) (name_at taken 3))

-- the options of `search` and of `resume`; our own
abbrev pub search_options : List Word
search_options = codes "budget" ∷ codes "steps" ∷ codes "slots" ∷ codes "workers" ∷ codes "save" ∷ []

-- `search CART SCRIPT START`, with its options; our own
abbrev pub search_form : Form
search_form = record {
  names = codes "CART" ∷ codes "SCRIPT" ∷ codes "START" ∷ [];
  options = search_options;
}

-- the numbers of a search, with no name to save under: the budget in bytes from 1 to 2,147,483,648, else 67,108,864;
-- the steps from 1 to 16,777,215, else 1,000; the slots' exponent of two from 10 to 25, else 20; the workers from 1 to
-- 64, else 1; our own
unfoldable pub search_numbers_of : Taken → Option SearchOptions
search_numbers_of taken =
    option_and_then (λ budget. option_and_then (λ steps. option_and_then (λ exponent. option_and_then (λ workers.
    Some (record { budget = budget; steps = steps; exponent = exponent; workers = workers; save = None }))
    (number_or 1 64 1 (value_at taken 3))) (number_or 10 25 20 (value_at taken 2)))
    (number_or 1 16777215 1000 (value_at taken 1))) (number_or 1 2147483648 67108864 (value_at taken 0))

-- the options with a name to save under, or none; our own
abbrev pub saving_as : SearchOptions → Option Word → SearchOptions
saving_as options name = record options { save = name }

-- the numbers of a search, and the name of `--save`, which may not be empty; our own
unfoldable pub search_options_of : Taken → Option SearchOptions
search_options_of taken = option_and_then (λ options. option_map (saving_as options) (name_or_none (value_at taken 4)))
    (search_numbers_of taken)

-- the names of `search`, by their places, and its options; our own
abbrev pub search_of : Taken → Option Command
search_of taken = option_and_then (λ options.
    Some (Search (name_at taken 0) (name_at taken 1) (name_at taken 2) options)) (search_options_of taken)

-- `resume CART SCRIPT START SAVED`, with the options of `search`; our own
abbrev pub resume_form : Form
resume_form = record {
  names = codes "CART" ∷ codes "SCRIPT" ∷ codes "START" ∷ codes "SAVED" ∷ [];
  options = search_options;
}

-- the names of `resume`, by their places, and its options; our own
abbrev pub resume_of : Taken → Option Command
resume_of taken = option_and_then (λ options.
    Some (Resume (name_at taken 0) (name_at taken 1) (name_at taken 2) (name_at taken 3) options))
    (search_options_of taken)

-- `check CART SCRIPT`; our own
abbrev pub check_form : Form
check_form = record { names = codes "CART" ∷ codes "SCRIPT" ∷ []; options = [] }

-- the names of `check`, by their places; our own
abbrev pub check_of : Taken → Option Command
check_of taken = Some (Check (name_at taken 0) (name_at taken 1))

-- `workload NUMBER`; our own
abbrev pub workload_form : Form
workload_form = record { names = codes "NUMBER" ∷ []; options = [] }

-- the number of `workload`, which is 1 to 20 decimal digits and below 2 ^ 64; our own
abbrev pub workload_of : Taken → Option Command
workload_of taken = option_map Workload (decimal_of (name_at taken 0))

-- `asm SOURCE`; our own
abbrev pub asm_form : Form
asm_form = record { names = codes "SOURCE" ∷ []; options = [] }

-- the name of `asm`; our own
abbrev pub asm_of : Taken → Option Command
asm_of taken = Some (Asm (name_at taken 0))

-- `clean CART SCRIPT START MOVIE`; our own
abbrev pub clean_form : Form
clean_form = record {
  names = codes "CART" ∷ codes "SCRIPT" ∷ codes "START" ∷ codes "MOVIE" ∷ [];
  options = [];
}

-- the names of `clean`, by their places; our own
abbrev pub clean_of : Taken → Option Command
clean_of taken =
    Some (Clean (name_at taken 0) (name_at taken 1) (name_at taken 2) (name_at taken 3))

-- `trace CART MOVIE`, with its option; our own
abbrev pub trace_form : Form
trace_form = record { names = codes "CART" ∷ codes "MOVIE" ∷ []; options = codes "frame" ∷ [] }

-- the number of `trace`: the frame from 1 to 1,048,576, else 1; our own
abbrev pub trace_frame_of : Taken → Option ℕ
trace_frame_of taken = number_or 1 1048576 1 (value_at taken 0)

-- the names of `trace`, by their places, and its number; our own
abbrev pub trace_of : Taken → Option Command
trace_of taken = option_map (λ frame. Trace (name_at taken 0) (name_at taken 1) frame) (trace_frame_of taken)

-- `watch CART SCRIPT MOVIE`; our own
abbrev pub watch_form : Form
watch_form = record { names = codes "CART" ∷ codes "SCRIPT" ∷ codes "MOVIE" ∷ []; options = [] }

-- the names of `watch`, by their places; our own
abbrev pub watch_of : Taken → Option Command
watch_of taken = Some (Watch (name_at taken 0) (name_at taken 1) (name_at taken 2))

-- the command `play`; our own
abbrev pub play_row : Row
play_row = record { word = codes "play"; form = play_form; made = play_of }

-- the command `replay`; our own
abbrev pub replay_row : Row
replay_row = record { word = codes "replay"; form = replay_form; made = replay_of }

-- the command `search`; our own
abbrev pub search_row : Row
search_row = record { word = codes "search"; form = search_form; made = search_of }

-- the command `resume`; our own
abbrev pub resume_row : Row
resume_row = record { word = codes "resume"; form = resume_form; made = resume_of }

-- the command `check`; our own
abbrev pub check_row : Row
check_row = record { word = codes "check"; form = check_form; made = check_of }

-- the command `workload`; our own
abbrev pub workload_row : Row
workload_row = record { word = codes "workload"; form = workload_form; made = workload_of }

-- the command `asm`; our own
abbrev pub asm_row : Row
asm_row = record { word = codes "asm"; form = asm_form; made = asm_of }

-- the command `clean`; our own
abbrev pub clean_row : Row
clean_row = record { word = codes "clean"; form = clean_form; made = clean_of }

-- the command `trace`; our own
abbrev pub trace_row : Row
trace_row = record { word = codes "trace"; form = trace_form; made = trace_of }

-- the command `watch`; our own
abbrev pub watch_row : Row
watch_row = record { word = codes "watch"; form = watch_form; made = watch_of }

-- the commands that there are; our own
abbrev pub table : List Row
table =
    play_row ∷ search_row ∷ resume_row ∷ replay_row ∷ check_row ∷ workload_row ∷ asm_row ∷ clean_row ∷ trace_row
    ∷ watch_row ∷ []

-- the numbers of a search are in their ranges; our own
pub record AreInRange (options : SearchOptions) : Type 0 where
  pub some_budget : 1 ≤ options.budget
  pub most_budget : options.budget ≤ 2147483648
  pub some_steps : 1 ≤ options.steps
  pub most_steps : options.steps ≤ 16777215
  pub least_exponent : 10 ≤ options.exponent
  pub most_exponent : options.exponent ≤ 25
  pub some_workers : 1 ≤ options.workers
  pub most_workers : options.workers ≤ 64

-- the numbers of a command are in their ranges; our own
unfoldable pub IsInRange : Command → Type 0
IsInRange (Search cart script start options) = AreInRange options
IsInRange (Resume cart script start saved options) = AreInRange options
IsInRange (Play cart movie) = Unit {0}
IsInRange (Replay cart script start movie) = Unit {0}
IsInRange (Check cart script) = Unit {0}
IsInRange (Workload number) = Unit {0}
IsInRange (Asm source) = Unit {0}
IsInRange (Clean cart script start movie) = Unit {0}
IsInRange (Trace cart movie frame) = (1 ≤ frame) × (frame ≤ 1048576)
IsInRange (Watch cart script movie) = Unit {0}

-- what the words after the command's own make of it, or none; our own
unfoldable pub command_of : Row → List Word → Option Command
command_of row words = option_and_then row.made (taken row.form words)

-- the command that the words name, or none: the first word is the command, whatever it is; our own
unfoldable pub reading : List Word → Option Command
reading [] = None
reading (word ∷ words) =
    option_and_then (λ row. command_of row words) (find (λ row. bytes_eq word row.word) table)

-- how many workers a command asks for: those of a search, begun or gone on with, and one for every other; our own
unfoldable pub workers_of : Command → ℕ
workers_of (Search cart script start options) = options.workers
workers_of (Resume cart script start saved options) = options.workers
workers_of (Play cart movie) = 1
workers_of (Replay cart script start movie) = 1
workers_of (Check cart script) = 1
workers_of (Workload number) = 1
workers_of (Asm source) = 1
workers_of (Clean cart script start movie) = 1
workers_of (Trace cart movie frame) = 1
workers_of (Watch cart script movie) = 1

-- the words read as a command that asks for two workers or more; our own
unfoldable pub asks_workers : List Word → Bool
asks_workers words = unwrap_or (option_map (λ command. nat_lt 1 (workers_of command)) (reading words)) false
