-- The law of the generations that a table tells.
use Rattle.nj_seen.proofs.Counting.{is_map}
use Rattle.nj_seen.proofs.Told.{seen_told}
use Rattle.nj_seen.proofs.laws.seen_is_told.Goals as goal

pub returns : goal.returns
returns c = λ words seen step table holds.
    let laws = c.entries_are_the_map.ensures in
    seen_told words seen step (is_map laws.once laws.owners words table) holds
