-- `watch CART SCRIPT MOVIE`: the values of a script's properties after each frame of a movie. Our own.
use Rattle.std.specs.Prelude.{ℕ, List, length}
use Rattle.nj_ines.specs.Cartridge.{Cartridge}
use Rattle.nj_script.specs.Script.{Record}
use Rattle.nj_trace.specs.Watch.{watch_text}
use Rattle.nj_tasks.specs.Formats.{cart_format, loaded, movie_format, script_format}
use Rattle.nj_tasks.specs.Work.{Finding, Work, both, found_in, text_alone}

-- the values of the script's properties after each frame of the movie
abbrev pub watched : (Cartridge × Record) × List ℕ → List ℕ
watched said = let script : Record = said.0.1 in watch_text said.0.0 script.properties said.1

-- the text of these values
unfoldable pub watch_finding : Finding ((Cartridge × Record) × List ℕ) (List ℕ)
watch_finding = text_alone watched (λ said. length said.1)

-- the cartridge is read, then the script and the movie, whose properties are then listed
unfoldable pub watch_work : List ℕ → List ℕ → List ℕ → Work
watch_work cart script movie =
    both (both (loaded cart_format cart) (loaded script_format script)) (loaded movie_format movie)
    (found_in watch_finding)
