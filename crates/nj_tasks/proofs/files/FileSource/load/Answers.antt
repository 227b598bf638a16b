-- The text of the name is the name.
use Rattle.nj_tasks.proofs.files.FileSource.load.Goals as goal

pub returns-clause-loads : goal.returns-clause-loads
returns-clause-loads g c = λ files told. rw c.as_str.ensures at (c.read_file.ensures.loads files told)
