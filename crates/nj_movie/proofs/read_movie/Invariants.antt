-- The whole reading is the frames read so far and then those of the lines that are left.
use Rattle.std.proofs.Common.{◌≡◌, ◌+◌, ◌≤◌, length}
use Rattle.nj_lines.specs.Lines.{lines}
use Rattle.nj_movie.specs.Text.{with_front, frames_from, movie_of}
use Rattle.nj_movie.proofs.read_movie.Given as goal

abbrev pub invariant-loop-rest : goal.invariant-loop-rest
invariant-loop-rest l = record {
  reading : movie_of l.bytes ≡ with_front l.movie (frames_from (l.number + 1) (length l.movie) (lines l.rest));
  counted : l.number + length l.rest ≤ length l.bytes;
}

abbrev pub decreases-loop-rest : goal.decreases-loop-rest
decreases-loop-rest l = length l.rest
