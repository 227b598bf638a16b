use Rattle.nj_alu.proofs.RoundTrip.{round_trip}
use Rattle.nj_alu.proofs.laws.flags_come_back.Goals as goal

-- by the lemmas of that name
pub returns : goal.returns
returns c = round_trip
