-- The law of one key.
use Rattle.nj_seen.proofs.Claims.{holds_one}
use Rattle.nj_seen.proofs.laws.one_key_is_seen.Goals as goal

pub returns : goal.returns
returns c = λ words key table owners. holds_one words key owners
