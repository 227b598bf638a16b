use Rattle.nj_machine.proofs.ReadBack.{again, one, saved, image-length, onward}
use Rattle.nj_machine.proofs.laws.an_image_tells_its_state.Goals as goal

pub returns-clause-again : goal.returns-clause-again
returns-clause-again c = again

pub returns-clause-one : goal.returns-clause-one
returns-clause-one c = one

pub returns-clause-saved : goal.returns-clause-saved
returns-clause-saved c = saved

pub returns-clause-len : goal.returns-clause-len
returns-clause-len c = image-length

pub returns-clause-onward : goal.returns-clause-onward
returns-clause-onward c = onward
