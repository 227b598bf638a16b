use Rattle.std.proofs.Common.{◌≡◌, ◌<◌, take, true, false, arith, ◌∙◌}
use Rattle.std.proofs.lemmas.Grind.{common_steps}
use Rattle.std.proofs.lemmas.List.{take_more_set}
use Rattle.nj_rules.proofs.Distinct.{stands, distinct-present, distinct-absent, room_for_byte}
use Rattle.nj_rules.proofs.pads.add_pad.Goals as goal

pub returns-then-contains-clause-pads : goal.returns-then-contains-clause-pads
returns-then-contains-clause-pads c =
    let there : stands c.args.pad (take c.args.filled c.args.into.now) ≡ true = grind (arith, common_steps) in
    distinct-present (take c.args.filled c.args.into.now) c.args.pad c.requires.once there

pub bounds-into-filled : goal.bounds-into-filled
bounds-into-filled c =
    let absent : stands c.args.pad (take c.args.filled c.args.into.now) ≡ false = grind (arith, common_steps) in
    room_for_byte c.args.into.now c.args.filled c.args.pad c.fits-into c.told-into c.requires.count c.ranges.pad.fits
    c.requires.once absent

pub returns-clause-pads : goal.returns-clause-pads
returns-clause-pads c =
    let absent : stands c.args.pad (take c.args.filled c.args.into.now) ≡ false = grind (arith, common_steps) in
    let room : c.args.filled < 256 =
    room_for_byte c.args.into.now c.args.filled c.args.pad c.fits-into c.told-into c.requires.count
    c.ranges.pad.fits c.requires.once absent in
    take_more_set c.args.into.now c.args.filled c.args.pad (omega arith)
    ∙ distinct-absent (take c.args.filled c.args.into.now) c.args.pad c.requires.once absent

pub returns-clause-within : goal.returns-clause-within
returns-clause-within c =
    let absent : stands c.args.pad (take c.args.filled c.args.into.now) ≡ false = grind (arith, common_steps) in
    let room : c.args.filled < 256 =
    room_for_byte c.args.into.now c.args.filled c.args.pad c.fits-into c.told-into c.requires.count
    c.ranges.pad.fits c.requires.once absent in
    omega arith
