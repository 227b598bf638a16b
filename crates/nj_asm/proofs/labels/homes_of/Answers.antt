-- The labels of one line more.
use Rattle.std.proofs.Common.{◌<◌, length, arith}
use Rattle.nj_asm.specs.Assembly.{homes}
use Rattle.nj_asm.proofs.LabelLemmas.{home_step}
use Rattle.nj_asm.proofs.labels.homes_of.Goals as goal

pub loop-index-preserved : goal.loop-index-preserved
loop-index-preserved c = λ name.
    let within : c.loop-index.index < length c.args.lines.now = omega arith in
    rw (c.next_place-place.ensures)
    (home_step name c.loop-index.place c.loop-index.index c.args.lines.now c.index-lines-index.result
    (homes c.loop-index.labels name) (homes c.note.new.labels name) _ within c.index-lines-index.is
    (c.loop-index.invariant name) (c.in_ok-note.ensures name))
