use Rattle.std.proofs.Common.{◌≡◌, ◌++◌, Some, None, length, take, true, refl, ap, sym, ◌∙◌, subst, arith}
use Rattle.std.specs.List.{flat_map}
use Rattle.nj_asm.specs.Listing.{is_whole}
use Rattle.nj_machine.specs.Frame.{dots_left, unit_step}
use Rattle.nj_trace.specs.Units.{units_from}
use Rattle.nj_trace.specs.Trace.{unit_line}
use Rattle.nj_trace.proofs.Wholes.{few_seen, whole_seen}
use Rattle.nj_trace.proofs.FrameUnits.{UnitLaws, unjammed, few_left, ended_by, goes_by, counted_once, counted_not, line_on, line_last, count_on, count_last}
use Rattle.nj_trace.proofs.tracing.unit_lines.Goals as goal

pub loop-text-init : goal.loop-text-init
loop-text-init g c =
    let machine = c.args.machine.now in
    let same = unjammed c.args.pad machine c.requires.runs in
    record {
      ready = c.requires.ready;
      text =
          ap (λ t. t ++ flat_map unit_line (units_from c.args.pad (dots_left machine) machine)) c.new-text.ensures.items
          ∙ sym (ap (flat_map unit_line) same);
      count = omega (arith, ap length same);
      few = omega (arith, few_left machine);
      steps = refl;
    }

pub push_unit-requires-clause-few : goal.push_unit-requires-clause-few
push_unit-requires-clause-few g c =
    let machine = c.loop-text.machine in
    omega (
      arith,
      ap (λ s. s.len) c.unit_step-step.ensures.seen,
      few_seen machine.cpu (record { cells = machine.cells; pad = c.args.pad }),
    )

pub push_unit-requires-clause-whole : goal.push_unit-requires-clause-whole
push_unit-requires-clause-whole g c e =
    let machine = c.loop-text.machine in
    let seen = c.unit_step-step.ensures.seen in
    subst (λ s. is_whole (take s.len s.bytes) ≡ true) (sym seen)
    (whole_seen machine.cpu (record { cells = machine.cells; pad = c.args.pad }) (ap (λ s. s.kind) (sym seen) ∙ e))

pub returns-then-ends_frame-clause-text : goal.returns-then-ends_frame-clause-text
returns-then-ends_frame-clause-text g c =
    let laws : UnitLaws =
    record { nearer = c.units_go_on.ensures.nearer; ready = c.units_go_on.ensures.ready } in
    let inv = c.loop-text.invariant in
    let ended = ended_by c.unit_step-step.result (sym c.ends_frame.ensures ∙ c.if-ends_frame.true) in
    line_last laws c.args.pad c.loop-text.machine c.unit_step-step.new.self ended.0 c.loop-text.text.items
    c.push_unit.new.text.items _ inv.ready
    (c.unit_step-step.ensures.after ∙ ap (λ end. (c.unit_step-step.new.self, end)) ended.1)
    (c.in_ok-push_unit.ensures ∙ ap (λ s. c.loop-text.text.items ++ unit_line s) c.unit_step-step.ensures.seen) inv.text

pub returns-then-ends_frame-clause-count : goal.returns-then-ends_frame-clause-count
returns-then-ends_frame-clause-count g c =
    let laws : UnitLaws =
    record { nearer = c.units_go_on.ensures.nearer; ready = c.units_go_on.ensures.ready } in
    let inv = c.loop-text.invariant in
    let ended = ended_by c.unit_step-step.result (sym c.ends_frame.ensures ∙ c.if-ends_frame.true) in
    count_last laws c.args.pad c.loop-text.machine c.unit_step-step.new.self ended.0 c.loop-text.count _ inv.ready
    (c.unit_step-step.ensures.after ∙ ap (λ end. (c.unit_step-step.new.self, end)) ended.1) inv.count

pub loop-text-preserved : goal.loop-text-preserved
loop-text-preserved g c =
    let laws : UnitLaws =
    record { nearer = c.units_go_on.ensures.nearer; ready = c.units_go_on.ensures.ready } in
    let inv = c.loop-text.invariant in
    let machine = c.loop-text.machine in
    let next = c.unit_step-step.new.self in
    let test = sym c.ends_frame.ensures ∙ c.if-ends_frame.false in
    let after : unit_step c.args.pad machine ≡ (next, None) =
    c.unit_step-step.ensures.after ∙ ap (λ end. (next, end)) (goes_by c.unit_step-step.result test) in
    record {
      ready = c.unit_step-step.ensures.ready;
      text =
          line_on laws c.args.pad machine next c.loop-text.text.items c.push_unit.new.text.items _ inv.ready after
          (c.in_ok-push_unit.ensures
          ∙ ap (λ s. c.loop-text.text.items ++ unit_line s) c.unit_step-step.ensures.seen) inv.text;
      count = count_on laws c.args.pad machine next c.loop-text.count _ inv.ready after inv.count;
      few = omega (arith, inv.few, laws.nearer machine next c.args.pad inv.ready after);
      steps = c.unit_step-step.ensures.counted ∙ counted_not c.unit_step-step.result c.loop-text.steps test ∙ inv.steps;
    }

pub returns-then-ends_frame-clause-frames : goal.returns-then-ends_frame-clause-frames
returns-then-ends_frame-clause-frames g c =
    omega (
      arith,
      c.unit_step-step.ensures.counted,
      counted_once c.unit_step-step.result c.loop-text.steps,
      c.loop-text.invariant.steps,
    )

pub returns-then-ends_frame-clause-never_falls : goal.returns-then-ends_frame-clause-never_falls
returns-then-ends_frame-clause-never_falls g c =
    omega (arith, c.unit_step-step.ensures.never_falls, c.loop-text.invariant.steps)

pub returns-in_err-push_unit-clause-frames : goal.returns-in_err-push_unit-clause-frames
returns-in_err-push_unit-clause-frames g c =
    omega (
      arith,
      c.unit_step-step.ensures.counted,
      counted_once c.unit_step-step.result c.loop-text.steps,
      c.loop-text.invariant.steps,
    )

pub returns-in_err-push_unit-clause-never_falls : goal.returns-in_err-push_unit-clause-never_falls
returns-in_err-push_unit-clause-never_falls g c =
    omega (arith, c.unit_step-step.ensures.never_falls, c.loop-text.invariant.steps)

pub overflow_add-count : goal.overflow_add-count
overflow_add-count g c = omega (arith, c.loop-text.invariant.few)

pub loop-text-smaller : goal.loop-text-smaller
loop-text-smaller g c =
    let next = c.unit_step-step.new.self in
    let test = sym c.ends_frame.ensures ∙ c.if-ends_frame.false in
    c.units_go_on.ensures.nearer c.loop-text.machine next c.args.pad c.loop-text.invariant.ready
    (c.unit_step-step.ensures.after ∙ ap (λ end. (next, end)) (goes_by c.unit_step-step.result test))
