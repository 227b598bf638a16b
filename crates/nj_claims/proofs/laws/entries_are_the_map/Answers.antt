-- The laws of entries.
use Rattle.nj_claims.proofs.Entries.{once_each, entry_owner, entries_named, entries_within}
use Rattle.nj_claims.proofs.laws.entries_are_the_map.Goals as goal

pub returns : goal.returns
returns c = record { once = once_each; owners = entry_owner; named = entries_named; within = entries_within }
