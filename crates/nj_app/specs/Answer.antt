-- What the program answers, as a function of its words and of the files. Our own.
use Rattle.std.specs.Prelude.{◌≡◌, ℕ, List, [], ◌++◌, map, Contains, Option, Some, None, option_and_then, IsSomeAnd}
use Rattle.std.specs.Option.{option_map_or}
use Rattle.nj_bytes.specs.Fnv.{fnv_of}
use Rattle.nj_outside.specs.Told.{Files}
use Rattle.nj_tasks.specs.Formats.{cart_format, names_of, script_format}
use Rattle.nj_tasks.specs.Lines.{usage_line}
use Rattle.nj_tasks.specs.Work.{Answer, Work, Done, given, refused}
use Rattle.nj_commands.specs.Commands.{names_without_search, work_without_search}
use Rattle.nj_words.specs.Commands.{reading}
use Rattle.nj_words.specs.declared.Command.{Command}
use Rattle.nj_words.specs.declared.Command.TheVariants.{Check, Resume, Search, Workload}
use Rattle.nj_app.specs.Check.{check_work}
use Rattle.nj_app.specs.Search.{search_names, search_work}
use Rattle.nj_app.specs.Workload.{workload_work}

-- the work of a command: `play`, `replay`, `asm`, `clean`, `trace` and `watch` need no search
unfoldable pub work_of : Command → Work
work_of (Search cart script start options) = search_work cart script start None options
work_of (Resume cart script start saved options) = search_work cart script start (Some saved) options
work_of (Check cart script) = check_work cart script
work_of (Workload number) = workload_work number
work_of command = work_without_search command

-- the work of a command line: words without a reading are refused with status 3
unfoldable pub work_for : List (List ℕ) → Work
work_for words = option_map_or work_of (reading words) (Done (refused 3 usage_line))

-- the answer to a command line over these files, if every file that it comes to is there
abbrev pub answer : List (List ℕ) → Files → Option Answer
answer words files = given files (work_for words)

-- the names of a command's files in the order in which they are read; `-` as a movie is none
abbrev pub file_names : Command → List (List ℕ)
file_names (Search cart script start options) = search_names cart script start None
file_names (Resume cart script start saved options) = search_names cart script start (Some saved)
file_names (Check cart script) = names_of cart_format cart ++ names_of script_format script
file_names (Workload number) = []
file_names command = names_without_search command

-- the name that a command saves under, if it was given one
abbrev pub save_name : Command → Option (List ℕ)
save_name (Search cart script start options) = options.save
save_name (Resume cart script start saved options) = options.save
save_name command = None

-- the same of the words' command, if they have one
abbrev pub saves_as : Option Command → Option (List ℕ)
saves_as command = option_and_then save_name command

-- the hash is that of a name among the command's files
abbrev pub IsOfCommand : Option Command → ℕ → Type 0
IsOfCommand command hash = IsSomeAnd command (λ c. Contains (map fnv_of (file_names c)) hash)

-- the hash is that of the name that the command saves under
abbrev pub IsOfSaving : Option Command → ℕ → Type 0
IsOfSaving command hash = IsSomeAnd (saves_as command) (λ name. hash ≡ fnv_of name)
