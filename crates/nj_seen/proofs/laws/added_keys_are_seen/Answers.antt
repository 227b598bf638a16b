-- The law of added keys.
use Rattle.nj_seen.proofs.Added.{holds_added}
use Rattle.nj_seen.proofs.laws.added_keys_are_seen.Goals as goal

pub returns : goal.returns
returns c = λ before after seen step rows holds rises adds. holds_added before after seen step rows holds rises adds
