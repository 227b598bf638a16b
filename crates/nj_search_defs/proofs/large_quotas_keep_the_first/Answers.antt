use Rattle.nj_search_defs.proofs.Buckets.{large_quotas_keep_the_first}
use Rattle.nj_search_defs.proofs.large_quotas_keep_the_first.Goals as goal

pub returns : goal.returns
returns c = large_quotas_keep_the_first
