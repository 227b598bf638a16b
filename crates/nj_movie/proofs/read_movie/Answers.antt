-- Before the first line nothing is read.
use Rattle.std.proofs.Common.{arith, sym}
use Rattle.nj_movie.specs.Text.{movie_of}
use Rattle.nj_movie.proofs.TextLemmas.{with_front-none}
use Rattle.nj_movie.proofs.read_movie.Goals as goal

pub loop-rest-init : goal.loop-rest-init
unfolding movie_of
loop-rest-init c = record {
  reading = rw c.new-movie.ensures (sym (with_front-none _));
  counted = omega arith;
}
