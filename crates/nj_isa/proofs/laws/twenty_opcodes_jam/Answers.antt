use Rattle.nj_isa.proofs.Published.{jam_count, jam_named, jam_which, jam_unofficial}
use Rattle.nj_isa.proofs.laws.twenty_opcodes_jam.Goals as goal

-- the jams are counted and told
pub returns : goal.returns
returns c = record { count = jam_count; named = jam_named; which = jam_which; unofficial = jam_unofficial }
