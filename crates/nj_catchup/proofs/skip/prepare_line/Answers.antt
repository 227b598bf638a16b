-- The dot that latches, the idle ones, and two tiles.
use Rattle.nj_catchup.proofs.Skips.{prepared-is}
use Rattle.nj_catchup.proofs.skip.prepare_line.Goals as goal

pub returns : goal.returns
returns c =
    prepared-is c.args.pattern.now c.args.screen.now c.dot.new.self c.prefetch.new.self c.prefetch-2.new.self
    c.requires.end c.dot.ensures.dot c.prefetch.ensures c.prefetch-2.ensures
