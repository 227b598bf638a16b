-- The law of room.
use Rattle.nj_seen.proofs.Counting.{is_map}
use Rattle.nj_seen.proofs.Claims.{none_full}
use Rattle.nj_seen.proofs.laws.room_is_enough.Goals as goal

pub returns : goal.returns
returns c = λ opening closed keys full claims table table' size room closes asked among none.
    let laws = c.entries_are_the_map.ensures in
    none_full c.different_numbers_fit.ensures opening closed keys full claims
    (is_map laws.once laws.owners opening table) (is_map laws.once laws.owners closed table')
    size room closes asked among none
