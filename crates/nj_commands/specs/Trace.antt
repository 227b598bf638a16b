-- `trace CART MOVIE`: what the processor does in one frame of a movie. Our own.
use Rattle.std.specs.Prelude.{ℕ, List}
use Rattle.nj_ines.specs.Cartridge.{Cartridge}
use Rattle.nj_texts.specs.Refusals.{trace_refusal}
use Rattle.nj_texts.specs.declared.kinds.Kind.TheVariants as kinds
use Rattle.nj_trace.specs.Trace.{trace_of}
use Rattle.nj_tasks.specs.Formats.{cart_format, loaded, movie_format}
use Rattle.nj_tasks.specs.Work.{Finding, Work, both, found_in, refusal_told, text_or_refusal}

-- the text of a frame of a movie, or the refusal of one that the movie does not have; the frames up to it are run
unfoldable pub trace_finding : ℕ → Finding (Cartridge × List ℕ) (List ℕ)
trace_finding frame =
    text_or_refusal kinds.Movie (λ said. refusal_told trace_refusal (trace_of said.0 said.1 frame)) (λ _. frame)

-- the cartridge is read, then the movie, whose frame is then listed
unfoldable pub trace_work : List ℕ → List ℕ → ℕ → Work
trace_work cart movie frame =
    both (loaded cart_format cart) (loaded movie_format movie) (found_in (trace_finding frame))
