-- `workload NUMBER`: the search of the files that are made from a number. Our own.
use Rattle.std.specs.Prelude.{ℕ, List, None, ◌++◌, false, length}
use Rattle.nj_ines.specs.Cartridge.{Cartridge}
use Rattle.nj_script.specs.Script.{Record}
use Rattle.nj_plan.specs.Outcomes.{frames_most}
use Rattle.nj_plan.specs.Plans.{Planned}
use Rattle.nj_search.specs.declared.searching.Ended.{Ended}
use Rattle.nj_texts.specs.Lines.{workload_line}
use Rattle.nj_texts.specs.declared.kinds.Kind.TheVariants as kinds
use Rattle.nj_workload.specs.Game.{game_file}
use Rattle.nj_workload.specs.Script.{script_text, start_text}
use Rattle.nj_tasks.specs.Formats.{cart_format, made, movie_format, script_format}
use Rattle.nj_app.specs.Outcomes.{outcome_head}
use Rattle.nj_app.specs.Search.{planned, search_reading}
use Rattle.nj_tasks.specs.Work.{Finding, Work, both, found_in}
use Rattle.nj_app.specs.declared.workload.TheConstants.{LIMITS}

-- the search of a workload's files
abbrev pub planned_load : (Cartridge × Record) × List ℕ → Planned
planned_load said = planned (record { cart = said.0.0; script = said.0.1; start = said.1; saved = None }) LIMITS

-- the workload's line, with the bytes of its cartridge, and the first line of the outcome
abbrev pub report : ℕ → ℕ → Ended → List ℕ
report number size ended = workload_line number size ++ outcome_head ended.outcome

-- the report of the search of a workload whose cartridge has so many bytes
unfoldable pub workload_finding : ℕ → ℕ → Finding ((Cartridge × Record) × List ℕ) Ended
workload_finding number size = record {
  kind = kinds.Plan;
  reading = λ said. search_reading (planned_load said) false;
  status = λ _. 0;
  text = report number size;
  file = λ _. None;
  frames = λ said. frames_most (planned_load said);
}

-- the files that are made from a number are read in their order, and a search of them is planned and carried out
unfoldable pub workload_work : ℕ → Work
workload_work number =
    both (both (made cart_format (game_file number)) (made script_format (script_text number)))
    (made movie_format start_text) (found_in (workload_finding number (length (game_file number))))
