use Rattle.nj_search_defs.proofs.Buckets.{buckets_are_bounded}
use Rattle.nj_search_defs.proofs.buckets_are_bounded.Goals as goal

pub returns : goal.returns
returns c = buckets_are_bounded
