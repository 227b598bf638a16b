-- The law of owned keys.
use Rattle.std.proofs.Common.{get_or}
use Rattle.std.proofs.lemmas.List.Elements.{Contains-get_or}
use Rattle.nj_seen.proofs.Members.{in_list}
use Rattle.nj_seen.proofs.Claims.{row_owns}
use Rattle.nj_seen.proofs.laws.owned_is_fresh.Goals as goal

pub returns : goal.returns
returns c = λ opening closed seen step rows claims holds below are closes k d lt.
    row_owns opening closed seen step rows claims
    (record { holds = holds; below = below; claims_are = are; closes = closes })
    (get_or rows k d) (in_list (get_or rows k d) rows (Contains-get_or rows k d lt))
