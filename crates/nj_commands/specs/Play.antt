-- `play CART MOVIE`: the working memory after a movie. Our own.
use Rattle.std.specs.Prelude.{ℕ, List, length}
use Rattle.nj_ines.specs.Cartridge.{Cartridge}
use Rattle.nj_machine.specs.State.{State, ram_of, is_jammed}
use Rattle.nj_machine.specs.Frame.{play}
use Rattle.nj_texts.specs.Memory.{memory_text}
use Rattle.nj_tasks.specs.Formats.{cart_format, loaded, movie_format}
use Rattle.nj_tasks.specs.Work.{Finding, Work, both, found_in, text_alone}

-- the text of a state after so many frames
abbrev pub play_text : ℕ → State → List ℕ
play_text frames state = memory_text frames (is_jammed state) (ram_of state)

-- the text of the state after the movie
unfoldable pub play_finding : Finding (Cartridge × List ℕ) (List ℕ)
play_finding = text_alone (λ said. play_text (length said.1) (play said.0 said.1)) (λ said. length said.1)

-- the cartridge is read, then the movie, which is then played
unfoldable pub play_work : List ℕ → List ℕ → Work
play_work cart movie = both (loaded cart_format cart) (loaded movie_format movie) (found_in play_finding)
