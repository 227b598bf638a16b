use Rattle.std.proofs.Common.{◌<◌, arith, ap, ◌∙◌, sym, length}
use Rattle.nj_vram.specs.Home.{home, got, got_at, written, written_at, cell_of, colour_of}
use Rattle.nj_vram.proofs.Homes.{home-cell, home-colour, cell_of-lt, colour_of-lt, got-written, got_at-cell, got_at-colour, got_at-other, written_at-sized, written_at-vertical}
use Rattle.nj_vram.proofs.laws.reads_after_writes.Goals as goal

pub returns-clause-cell : goal.returns-clause-cell
returns-clause-cell c m at value sized from below =
    let within : cell_of m.vertical at < length m.cells = omega (arith, cell_of-lt m.vertical at, sized.cells) in
    got-written m at value at
    ∙ ap (λ h. got_at h (written_at h value m)) (home-cell m.vertical at below)
    ∙ got_at-cell (cell_of m.vertical at) value m within

pub returns-clause-colour : goal.returns-clause-colour
returns-clause-colour c m at value sized from below =
    let within : colour_of at < length m.palette = omega (arith, colour_of-lt at, sized.palette) in
    got-written m at value at
    ∙ ap (λ h. got_at h (written_at h value m)) (home-colour m.vertical at from)
    ∙ got_at-colour (colour_of at) value m within

pub returns-clause-mirror : goal.returns-clause-mirror
returns-clause-mirror c m at value other same =
    got-written m at value other
    ∙ ap (λ h. got_at h (written_at (home m.vertical at) value m)) same
    ∙ sym (got-written m at value at)

pub returns-clause-other : goal.returns-clause-other
unfolding got
returns-clause-other c m at value other apart =
    got-written m at value other
    ∙ got_at-other (home m.vertical at) (home m.vertical other) value m apart

pub returns-clause-sizes : goal.returns-clause-sizes
unfolding written
returns-clause-sizes c m at value sized = written_at-sized (home m.vertical at) value m sized

pub returns-clause-mirroring : goal.returns-clause-mirroring
unfolding written
returns-clause-mirroring c m at value = written_at-vertical (home m.vertical at) value m
