-- The children before this place are run.
use Rattle.std.specs.Prelude.{vec_capacity}
use Rattle.nj_machine.specs.State.{rom_of}
use Rattle.nj_expand.proofs.Runs.{AreRun}
use Rattle.nj_expand.proofs.search.Search.add_children.Given as goal

abbrev pub invariant-loop-place : goal.invariant-loop-place
invariant-loop-place g l = AreRun (record {
  held = l.fn.self;
  status = l.fn.status.0;
  image = l.fn.image;
  first = l.fn.first;
  pads = l.fn.pads;
  rom = rom_of l.fn.machine;
  rows = l.fn.rows.items;
  room = vec_capacity l.fn.rows;
  steps = l.fn.steps;
}) l.place l.rows.items (vec_capacity l.rows) l.steps l.machine
