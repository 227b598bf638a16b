-- The law of no key.
use Rattle.nj_seen.proofs.Beside.{holds_none}
use Rattle.nj_seen.proofs.laws.no_key_is_seen.Goals as goal

pub returns : goal.returns
returns c = holds_none
