-- `clean CART SCRIPT START MOVIE`: a movie that wins, without the presses that its win does not need. Our own.
use Rattle.std.specs.Prelude.{ℕ, List, None, ◌++◌}
use Rattle.nj_clean.specs.Clean.{clean_frames, clean_of}
use Rattle.nj_clean.specs.declared.CleanEnd.{CleanEnd}
use Rattle.nj_clean.specs.declared.CleanEnd.TheVariants.{Cleaned, NotWon}
use Rattle.nj_movie.specs.Text.{movie_text}
use Rattle.nj_texts.specs.Lines.{clean_line, replay_line}
use Rattle.nj_texts.specs.Refusals.{replay_refusal}
use Rattle.nj_texts.specs.declared.kinds.Kind.TheVariants as kinds
use Rattle.nj_tasks.specs.Formats.{cart_format, loaded, movie_format, script_format}
use Rattle.nj_commands.specs.Replay.{Judgement, judge}
use Rattle.nj_tasks.specs.Work.{Finding, Work, both, found_in, refusal_told}

-- the text of what a movie is cleaned to: its line and the movie's lines; of one that does not win, its replay's line
unfoldable pub clean_text : CleanEnd → List ℕ
clean_text (Cleaned movie released replayed) = clean_line released replayed ++ movie_text movie
clean_text (NotWon replayed) = replay_line replayed

-- its status
abbrev pub clean_status : CleanEnd → ℕ
clean_status (Cleaned movie released replayed) = 0
clean_status (NotWon replayed) = 10

-- what the movie is cleaned to, or its refusal, which is that of its replay
unfoldable pub clean_finding : Finding Judgement CleanEnd
clean_finding = record {
  kind = kinds.Movie;
  reading = λ said. refusal_told replay_refusal (clean_of (judge said) said.1.1);
  status = clean_status;
  text = clean_text;
  file = λ _. None;
  frames = λ said. clean_frames (judge said) said.1.1;
}

-- the cartridge is read, then the script, the start movie and the movie, which is then cleaned
unfoldable pub clean_work : List ℕ → List ℕ → List ℕ → List ℕ → Work
clean_work cart script start movie =
    both (both (loaded cart_format cart) (loaded script_format script))
    (both (loaded movie_format start) (loaded movie_format movie)) (found_in clean_finding)
