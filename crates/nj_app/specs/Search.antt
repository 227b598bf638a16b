-- `search CART SCRIPT START` and `resume CART SCRIPT START SAVED`, with their options: what a planned search answers,
-- and the file of its state where it came to its limit. Our own.
use Rattle.std.specs.Prelude.{ℕ, Bool, List, [], ◌∷◌, ◌++◌, Option, Some, None, option_map, Result, Ok, Err}
use Rattle.std.specs.Borrow.{Bor}
use Rattle.std.specs.Option.{is_some, option_map_or}
use Rattle.nj_game.specs.Plan.{plan_of}
use Rattle.nj_ines.specs.Cartridge.{Cartridge}
use Rattle.nj_bytes.specs.Fnv.{fnv_from}
use Rattle.nj_saved.specs.Bytes.{file_bytes}
use Rattle.nj_saved.specs.declared.saved.Saved.{Saved}
use Rattle.nj_script.specs.Script.{Record}
use Rattle.nj_plan.specs.Outcomes.{frames_most}
use Rattle.nj_search.specs.Ends.{ended_of}
use Rattle.nj_plan.specs.Plans.{Planned, refusal_of}
use Rattle.nj_plan.specs.declared.planning.Limits.{Limits}
use Rattle.nj_search.specs.declared.searching.Ended.{Ended}
use Rattle.nj_search.specs.declared.searching.Outcome.{Outcome}
use Rattle.nj_search.specs.declared.searching.Outcome.TheVariants.{Limit}
use Rattle.nj_texts.specs.declared.kinds.Kind.TheVariants as kinds
use Rattle.nj_words.specs.declared.SearchOptions.{SearchOptions}
use Rattle.nj_tasks.specs.Formats.{cart_format, hashed, loaded, movie_format, names_of, saved_format, script_format}
use Rattle.nj_app.specs.Outcomes.{outcome_status, outcome_text}
use Rattle.nj_app.specs.Refusals.{plan_refusal}
use Rattle.nj_tasks.specs.Work.{Finding, Work, both, found_in, value_told}
use Rattle.nj_app.specs.declared.search.Found.{Found}
use Rattle.nj_app.specs.declared.search.SearchFiles.{SearchFiles}
use Rattle.nj_app.specs.declared.search.SearchInput.{SearchInput}
use Rattle.nj_app.specs.declared.planning.Setting.{Setting}
use Rattle.nj_tasks.specs.declared.stops.Put.{Put}

-- ---- what is searched

-- the search of a setting with these limits
abbrev pub planned : Setting → Limits → Planned
planned setting limits = record {
  plan = plan_of setting.cart setting.script setting.start;
  limits = limits;
  saved = setting.saved;
}

-- what a planned search answers, or the text of the plan's first refusal
unfoldable pub search_reading : Planned → Bool → Result Ended (List ℕ)
search_reading planned keep = option_map_or (λ refused. Err (plan_refusal refused))
    (refusal_of planned.plan planned.limits planned.saved) (Ok (ended_of planned keep))

-- ---- the search of what was read

-- the limits that the options set
abbrev pub limits_of : SearchOptions → Limits
limits_of options = record { budget = options.budget; steps = options.steps; exponent = options.exponent }

-- the bytes of a saved search of the files of these hashes: of the cartridge, and of the script with the start
abbrev pub saved_bytes : ℕ → ℕ → Saved → List ℕ
saved_bytes cart script saved = file_bytes 2 (record saved { cart = cart; script = script })

-- what is found: the outcome, and the bytes of what is saved
abbrev pub found_of : ℕ → ℕ → Ended → Found
found_of cart script ended =
    record { outcome = ended.outcome; saved = option_map (saved_bytes cart script) ended.saved }

-- the file that is put: at the limit alone, where there is a name for it
abbrev pub file_of : Option (List ℕ) → Outcome → Option (List ℕ) → Option Put
file_of (Some name) (Limit step reward movie) (Some bytes) = Some (record { name = name; bytes = bytes })
file_of name outcome bytes = None

-- the outcome's text and status, and the file of the state at the limit under the name of `--save`
unfoldable pub search_finding : SearchOptions → Finding SearchInput Found
search_finding options = record {
  kind = kinds.Plan;
  reading = λ said. value_told (found_of said.cart_hash said.script_hash)
      (search_reading (planned said.setting (limits_of options)) (is_some options.save));
  status = λ found. outcome_status found.outcome;
  text = λ found. outcome_text found.outcome;
  file = λ found. file_of options.save found.outcome found.saved;
  frames = λ said. frames_most (planned said.setting (limits_of options));
}

-- ---- the files

-- what is read first: a cartridge and a script, each with the hash of its file, and a start movie
abbrev pub Game : Type 0
Game = ((Cartridge × ℕ) × (Record × ℕ)) × List ℕ

-- what a search is of before its saved file is read: with the hash of the cartridge file, and with that of the script
-- file followed by a byte for each pad of the start
abbrev pub input_of : Game → SearchInput
input_of said = record {
  setting = record { cart = said.0.0.0; script = said.0.1.0; start = said.1; saved = None };
  cart_hash = said.0.0.1;
  script_hash = fnv_from said.0.1.1 said.1;
}

-- the same with a saved search
abbrev pub with_saved : SearchInput → Saved → SearchInput
with_saved said saved = record said { setting = record said.setting { saved = Some saved } }

-- the saved search is read, where there is a name of its file
abbrev pub saved_loaded : Option (List ℕ) → SearchInput → (SearchInput → Work) → Work
saved_loaded None said next = next said
saved_loaded (Some name) said next =
    loaded (saved_format said.cart_hash said.script_hash) name (λ saved. next (with_saved said saved))

-- the cartridge is read, then the script and the start movie
unfoldable pub game_files : List ℕ → List ℕ → List ℕ → (Game → Work) → Work
game_files cart script start =
    both (both (loaded (hashed cart_format) cart) (loaded (hashed script_format) script)) (loaded movie_format start)

-- and then the saved search
unfoldable pub search_files : List ℕ → List ℕ → List ℕ → Option (List ℕ) → (SearchInput → Work) → Work
search_files cart script start saved next =
    game_files cart script start (λ said. saved_loaded saved (input_of said) next)

-- the names of the first three
abbrev pub game_names : List ℕ → List ℕ → List ℕ → List (List ℕ)
game_names cart script start = cart ∷ script ∷ names_of movie_format start

-- the names of all
abbrev pub search_names : List ℕ → List ℕ → List ℕ → Option (List ℕ) → List (List ℕ)
search_names cart script start saved =
    game_names cart script start ++ option_map_or (λ name. name ∷ []) saved []

-- the files of a search are read, and a search of them is planned and carried out
unfoldable pub search_work : List ℕ → List ℕ → List ℕ → Option (List ℕ) → SearchOptions → Work
search_work cart script start saved options = search_files cart script start saved (found_in (search_finding options))

-- the name of a file, if there is one
abbrev pub name_in : Option (Bor (List ℕ)) → Option (List ℕ)
name_in name = option_map (λ n. n.now) name

-- the files that the code is given are read
abbrev pub works_of : SearchFiles → (SearchInput → Work) → Work
works_of files = search_files files.cart.now files.script.now files.start.now (name_in files.saved)

-- their names
abbrev pub names_in : SearchFiles → List (List ℕ)
names_in files = search_names files.cart.now files.script.now files.start.now (name_in files.saved)

-- the work of a search of these files
abbrev pub share_work : SearchFiles → SearchOptions → Work
share_work files options = works_of files (found_in (search_finding options))
