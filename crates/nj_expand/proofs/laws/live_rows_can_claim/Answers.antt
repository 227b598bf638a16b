-- The law of rows that claim.
use Rattle.nj_expand.proofs.Ends.{live_rows_rise}
use Rattle.nj_expand.proofs.Fronts.{live_keys, live_numbers, few_pads_are}
use Rattle.nj_expand.proofs.laws.live_rows_can_claim.Goals as goal

pub returns-clause-rising : goal.returns-clause-rising
returns-clause-rising c = live_rows_rise

pub returns-clause-keys : goal.returns-clause-keys
returns-clause-keys c = live_keys c.keys_tell_bytes_and_status.ensures.never_zero

pub returns-clause-numbers : goal.returns-clause-numbers
returns-clause-numbers c = live_numbers

pub returns-clause-few : goal.returns-clause-few
returns-clause-few c = few_pads_are c.allowed_pads_come_once.ensures.named
