-- The law of new keys.
use Rattle.nj_seen.proofs.Added.{all_unowned, fresh_differ, fresh_few}
use Rattle.nj_seen.proofs.laws.fresh_keys_are_new.Goals as goal

pub returns : goal.returns
returns c = record { new = all_unowned; once = fresh_differ; few = fresh_few }
