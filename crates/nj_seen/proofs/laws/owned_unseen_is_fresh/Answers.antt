-- The law of keys that are owned and unseen.
use Rattle.std.proofs.Common.{get_or}
use Rattle.std.proofs.lemmas.List.Elements.{Contains-get_or}
use Rattle.nj_seen.proofs.Members.{in_list}
use Rattle.nj_seen.proofs.Beside.{row_owns_beside}
use Rattle.nj_seen.proofs.laws.owned_unseen_is_fresh.Goals as goal

pub returns : goal.returns
returns c = λ words opening closed seen step from older rows claims all holds below are closes k d lt.
    row_owns_beside words opening closed seen step from older rows claims all
    (record { holds = holds; below = below; claims_are = are; closes = closes })
    (get_or rows k d) (in_list (get_or rows k d) rows (Contains-get_or rows k d lt))
