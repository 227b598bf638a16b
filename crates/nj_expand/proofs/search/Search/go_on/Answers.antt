-- One part more, and all of them.
use Rattle.std.proofs.Common.{arith}
use Rattle.nj_expand.proofs.Parts.{IsNext, begun_joining, next_joining, base_next, births_next, room_next, still_joining, all_joined}
use Rattle.nj_expand.proofs.search.Search.go_on.Goals as goal

pub loop-part-init : goal.loop-part-init
loop-part-init c =
    begun_joining c.args.self.now c.args.kept.rows.items c.args.parts.items c.reverse.new.self.items
    c.pop.new.self.items c.in-Some.all c.requires.parts c.reverse.ensures.items c.in-Some.ensures.items

next : (c : goal.After-all-in-Some-pop-1) → IsNext c.args.self.now c.args.kept.rows.items c.loop-part.all
    c.in-Some-pop.part c.pop-in-loop-part.new.self.items
next c =
    next_joining c.args.self.now c.args.kept.rows.items c.loop-part.all c.in-Some-pop.part c.loop-part.parts.items
    c.pop-in-loop-part.new.self.items c.loop-part.invariant c.in-Some-pop.ensures.items

pub append-requires-clause-base : goal.append-requires-clause-base
append-requires-clause-base c =
    base_next c.args.self.now c.args.kept.rows.items c.loop-part.all c.in-Some-pop.part
    c.pop-in-loop-part.new.self.items (next c)

pub append-requires-clause-births : goal.append-requires-clause-births
append-requires-clause-births c =
    births_next c.args.self.now c.args.kept.rows.items c.loop-part.all c.in-Some-pop.part
    c.pop-in-loop-part.new.self.items (next c)

pub append-requires-clause-room : goal.append-requires-clause-room
append-requires-clause-room c =
    room_next c.args.self.now c.args.kept.rows.items c.loop-part.all c.in-Some-pop.part
    c.pop-in-loop-part.new.self.items c.images_are_long.ensures c.requires.kept.few (next c)

pub loop-part-preserved : goal.loop-part-preserved
loop-part-preserved c =
    still_joining c.args.self.now c.args.kept.rows.items c.loop-part.all c.in-Some-pop.part c.append.new.self
    c.pop-in-loop-part.new.self.items
    (next_joining c.args.self.now c.args.kept.rows.items c.loop-part.all c.in-Some-pop.part c.loop-part.parts.items
    c.pop-in-loop-part.new.self.items c.loop-part.invariant c.in-Some-pop.ensures.items)
    c.in_ok-append.ensures.pool c.in_ok-append.ensures.judged

pub move_on-requires-clause-again : goal.move_on-requires-clause-again
move_on-requires-clause-again c =
    let none = c.in_default-pop.ensures.cases in
    let long = c.loop-part.parts.ok.0 in
    all_joined c.args.self.now c.args.kept.rows.items c.loop-part.all c.loop-part.parts.items c.loop-part.invariant
    (omega arith)
