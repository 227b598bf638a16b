use Rattle.std.proofs.Common.{◌∙◌}
use Rattle.nj_machine.specs.State.{rom_of}
use Rattle.nj_candidate.specs.Again.{Before, statuses_of}
use Rattle.nj_candidate.proofs.Agains.{child_state, child_judged, child_image}
use Rattle.nj_candidate.proofs.again.child_again.Goals as goal

pub returns-clause-judged : goal.returns-clause-judged
returns-clause-judged g c =
    let before : Before =
    record {
      rom = rom_of c.args.machine.now;
      script = c.args.script.now;
      images = c.args.front.now.images;
      statuses = statuses_of c.args.judged.now;
    } in
    let state =
    child_state before c.args.row.now c.as_slice.result.now c.run_step-told.new.machine
    (c.as_slice.ensures.value ∙ c.load_into.ensures.image) c.run_step-told.ensures.child in
    child_judged before c.args.row.now c.run_step-told.new.machine c.run_step-told.result c.status_at-status.result.0
    state c.status_at-status.ensures c.run_step-told.ensures.judged

pub returns-clause-image : goal.returns-clause-image
returns-clause-image g c =
    let before : Before =
    record {
      rom = rom_of c.args.machine.now;
      script = c.args.script.now;
      images = c.args.front.now.images;
      statuses = statuses_of c.args.judged.now;
    } in
    let state =
    child_state before c.args.row.now c.as_slice.result.now c.run_step-told.new.machine
    (c.as_slice.ensures.value ∙ c.load_into.ensures.image) c.run_step-told.ensures.child in
    child_image before c.args.row.now c.run_step-told.new.machine c.save_into.new.image.items state
    c.save_into.ensures.image
