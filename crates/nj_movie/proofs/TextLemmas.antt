-- Lemmas on the reading of a movie's text.
use Rattle.std.proofs.Common.{ℕ, ◌≡◌, List, [], Result, Ok, Err, refl}
use Rattle.nj_movie.specs.declared.MovieRefused.{MovieRefused}
use Rattle.nj_movie.specs.Text.{with_front}

-- no frames before others change nothing
pub with_front-none : (read : Result (List ℕ) MovieRefused) → with_front [] read ≡ read
with_front-none (Ok pads) = refl
with_front-none (Err refused) = refl
