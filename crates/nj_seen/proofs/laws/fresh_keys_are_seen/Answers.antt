-- The law of the new generation.
use Rattle.nj_seen.proofs.Newest.{holds_newest}
use Rattle.nj_seen.proofs.laws.fresh_keys_are_seen.Goals as goal

pub returns : goal.returns
returns c = λ opening closed words seen step rows claims holds below rises are closes publishes.
    holds_newest opening closed words seen step rows claims
    (record { holds = holds; below = below; claims_are = are; closes = closes }) publishes rises
