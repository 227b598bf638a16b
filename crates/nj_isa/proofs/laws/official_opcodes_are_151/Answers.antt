use Rattle.nj_isa.proofs.Published.{official_count}
use Rattle.nj_isa.proofs.laws.official_opcodes_are_151.Goals as goal

-- the official opcodes are counted
pub returns : goal.returns
returns c = official_count
