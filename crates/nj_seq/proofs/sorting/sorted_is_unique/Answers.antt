-- The law, of every type.
use Rattle.nj_seq.proofs.Sorted.{sorted_unique}
use Rattle.nj_seq.proofs.sorting.sorted_is_unique.Goals as goal

pub returns : goal.returns
returns g c lt order ties xs ys moved left right = sorted_unique lt order ties xs ys moved left right
