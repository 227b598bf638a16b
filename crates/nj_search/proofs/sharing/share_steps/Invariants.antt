-- So many steps were made, and what is left gives the whole outcome; and so many frames were counted.
use Rattle.std.proofs.Common.{◌*◌}
use Rattle.nj_workers.specs.Counted.{AreCounted}
use Rattle.nj_search.specs.Rests.{frames_a_step}
use Rattle.nj_search.proofs.Going.{AreMade}
use Rattle.nj_search.proofs.sharing.share_steps.Given as goal

abbrev pub invariant-loop-made : goal.invariant-loop-made
invariant-loop-made g l = record {
  made : AreMade l.fn.search l.search l.limit l._made 0 0;
  counted : AreCounted l.workers l.fn.steps.items l.steps.items (frames_a_step l.fn.search * l._made);
}
