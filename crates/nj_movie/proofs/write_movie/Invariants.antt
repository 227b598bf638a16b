-- The lines of the pads that were passed are written.
use Rattle.std.proofs.Common.{◌≡◌, take}
use Rattle.nj_movie.specs.Text.{movie_text}
use Rattle.nj_movie.proofs.write_movie.Given as goal

abbrev pub invariant-loop-pad : goal.invariant-loop-pad
invariant-loop-pad l = l.text.items ≡ movie_text (take l.pad-index l.pad-items)
