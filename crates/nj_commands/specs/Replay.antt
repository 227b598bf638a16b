-- `replay CART SCRIPT START MOVIE`: what a movie comes to, as the rules judge it. Our own.
use Rattle.std.specs.Prelude.{ℕ, List, None, length, if◌then◌else◌}
use Rattle.nj_game.specs.Plan.{Plan, plan_of}
use Rattle.nj_ines.specs.Cartridge.{Cartridge}
use Rattle.nj_replay.specs.Replay.{replay_of}
use Rattle.nj_replay.specs.declared.Replayed.{Replayed}
use Rattle.nj_rules.specs.declared.record.Verdict.{Verdict}
use Rattle.nj_script.specs.Script.{Record}
use Rattle.nj_texts.specs.Lines.{is_win, replay_line}
use Rattle.nj_texts.specs.Refusals.{replay_refusal}
use Rattle.nj_texts.specs.declared.kinds.Kind.TheVariants as kinds
use Rattle.nj_tasks.specs.Formats.{cart_format, loaded, movie_format, script_format}
use Rattle.nj_tasks.specs.Work.{Finding, Work, both, found_in, refusal_told}

-- what is read of a cartridge, a script, a start movie and a movie
abbrev pub Judgement : Type 0
Judgement = (Cartridge × Record) × (List ℕ × List ℕ)

-- the plan that the movie is judged by
abbrev pub judge : Judgement → Plan
judge said = plan_of said.0.0 said.0.1 said.1.0

-- the status of a replay
abbrev pub replay_status : Verdict → ℕ
replay_status verdict = if is_win verdict then 0 else 10

-- the replay of the movie and its line, or the refusal of one that is no start movie and whole steps behind it
unfoldable pub replay_finding : Finding Judgement Replayed
replay_finding = record {
  kind = kinds.Movie;
  reading = λ said. refusal_told replay_refusal (replay_of (judge said) said.1.1);
  status = λ replayed. replay_status replayed.verdict;
  text = replay_line;
  file = λ _. None;
  frames = λ said. length said.1.1;
}

-- the cartridge is read, then the script, the start movie and the movie, which is then judged
unfoldable pub replay_work : List ℕ → List ℕ → List ℕ → List ℕ → Work
replay_work cart script start movie =
    both (both (loaded cart_format cart) (loaded script_format script))
    (both (loaded movie_format start) (loaded movie_format movie)) (found_in replay_finding)
