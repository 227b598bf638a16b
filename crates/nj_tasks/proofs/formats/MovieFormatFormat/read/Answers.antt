-- A movie that is read has no more frames than its text may say.
use Rattle.nj_tasks.proofs.formats.MovieFormatFormat.read.Goals as goal

pub returns-in-Ok-clause-holds : goal.returns-in-Ok-clause-holds
returns-in-Ok-clause-holds c = (c.a_text_says_its_pads.ensures.said c.args.bytes.now c.in-Ok.movie c.in-Ok.ensures).1
