use Rattle.std.proofs.Common.{◌≡◌, ◌+◌, ◌<◌, ◌++◌, length, take, refl, ap, ap₂, sym, ◌∙◌, arith}
use Rattle.nj_machine.specs.Frame.{play}
use Rattle.nj_trace.specs.Watch.{watch_line, watch_head, line_after}
use Rattle.nj_trace.proofs.FrameLines.{played_on, line_after_is, lines_on, lines_end, first_lines}
use Rattle.nj_trace.proofs.watching.watch.Goals as goal

pub loop-frame-init : goal.loop-frame-init
loop-frame-init g c =
    let cart = c.args.cart.now in
    let movie = c.args.movie.now in
    let properties = c.args.script.now.properties in
    let shown = c.properties-properties.result.now in
    record {
      text =
          first_lines cart properties movie (watch_head (length c.pads-pads.result.now) (length shown))
          (watch_line shown 0 c.ram.result.now) c.in_ok-text.text.items
          (ap₂ watch_head (ap length c.pads-pads.ensures.pads) (ap length c.properties-properties.ensures.value))
          (line_after_is cart properties shown movie 0 c.in_ok-machine.machine c.ram.result.now
          c.properties-properties.ensures.value c.ram.ensures.bytes c.in_ok-machine.ensures.begun)
          c.in_ok-text.ensures;
      machine = c.in_ok-machine.ensures.begun;
      frames = omega arith;
      never_falls = omega arith;
    }

pub loop-frame-preserved : goal.loop-frame-preserved
loop-frame-preserved g c =
    let cart = c.args.cart.now in
    let movie = c.args.movie.now in
    let properties = c.args.script.now.properties in
    let i = c.loop-frame.frame in
    let inv = c.loop-frame.invariant in
    let line = watch_line c.properties-properties.result.now (i + 1) c.ram-in-loop-frame.result.now in
    let next : c.frame.new.self ≡ play cart (take (i + 1) movie) =
    played_on cart movie c.pads-pads.result.now i c.index-pads-frame.result c.loop-frame.machine c.frame.new.self _
    c.pads-pads.ensures.pads
    c.loop-frame-test.true c.index-pads-frame.is inv.machine c.frame.ensures.after in
    record {
      text =
          lines_on (line_after cart properties movie) c.loop-frame.text.items c.push_line.new.text.items _
          line i (length movie)
          (omega (arith, c.loop-frame-test.true, ap length c.pads-pads.ensures.pads)) c.in_ok-push_line.ensures
          (line_after_is cart properties c.properties-properties.result.now movie
          (i + 1) c.frame.new.self c.ram-in-loop-frame.result.now
          c.properties-properties.ensures.value c.ram-in-loop-frame.ensures.bytes next) inv.text;
      machine = next;
      frames = omega (arith, c.frame.ensures.counted, inv.frames);
      never_falls = omega (arith, c.frame.ensures.never_falls, inv.never_falls);
    }

pub returns-clause-text : goal.returns-clause-text
returns-clause-text g c =
    lines_end (line_after c.args.cart.now c.args.script.now.properties c.args.movie.now) c.loop-frame.text.items _
    c.loop-frame.frame (length c.args.movie.now)
    (omega (arith, c.loop-frame-test.false, ap length c.pads-pads.ensures.pads)) c.loop-frame.invariant.text
