-- The law of seen keys.
use Rattle.nj_seen.proofs.Counting.{is_map}
use Rattle.nj_seen.proofs.Claims.{entries_count, owners_within}
use Rattle.nj_seen.proofs.laws.seen_keys_stand.Goals as goal

pub returns : goal.returns
returns c =
    let laws = c.entries_are_the_map.ensures in record {
      count = λ words seen step table holds. entries_count c.different_numbers_fit.ensures words seen step
          (is_map laws.once laws.owners words table) holds;
      steps = λ words seen step table holds.
          owners_within words seen step (is_map laws.once laws.owners words table) holds;
    }
