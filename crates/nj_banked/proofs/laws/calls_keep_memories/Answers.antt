use Rattle.nj_banked.proofs.Fits.{ram-pattern}
use Rattle.nj_banked.proofs.AfterCalls.{calls-stay}
use Rattle.nj_banked.proofs.laws.calls_keep_memories.Goals as goal

pub returns-clause-board : goal.returns-clause-board
returns-clause-board c m calls fits are = (calls-stay m calls fits are).1

pub returns-clause-kept : goal.returns-clause-kept
returns-clause-kept c m calls fits are = (calls-stay m calls fits are).0

pub returns-clause-ram : goal.returns-clause-ram
returns-clause-ram c m fits ram = ram-pattern m fits ram
