-- Each pad that was passed is a byte.
use Rattle.std.proofs.Common.{ℕ, ◌<◌, slice_index_or}
use Rattle.nj_movie.proofs.Movie.from_pads.Given as goal

abbrev pub invariant-loop-pad : goal.invariant-loop-pad
invariant-loop-pad l = (k d : ℕ) → k < l.pad-index → slice_index_or l.pad-items k d < 256
