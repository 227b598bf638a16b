-- One key more.
use Rattle.nj_seen.proofs.Added.{none_added, next_new, next_room, one_added, all_added}
use Rattle.nj_seen.proofs.adding.add_keys.Goals as goal

pub loop-key-init : goal.loop-key-init
loop-key-init c = none_added c.args.words.now c.args.keys.now c.args.step c.requires.table

pub insert-requires-clause-absent : goal.insert-requires-clause-absent
insert-requires-clause-absent c =
    next_new c.args.words.now c.args.keys.now c.args.step c.loop-key.key-index _ c.loop-key.words c.loop-key-test.true
    c.requires.once c.requires.new c.loop-key.invariant

pub insert-requires-clause-room : goal.insert-requires-clause-room
insert-requires-clause-room c =
    next_room c.args.words.now c.args.keys.now c.args.step c.loop-key.key-index c.loop-key.words c.loop-key-test.true
    c.requires.room c.loop-key.invariant

pub loop-key-preserved : goal.loop-key-preserved
loop-key-preserved c =
    one_added c.args.words.now c.args.keys.now c.args.step c.loop-key.key-index _ c.loop-key.words c.insert.new.words
    c.loop-key-test.true c.loop-key.invariant
    c.insert.ensures.table c.insert.auto.words c.insert.ensures.count c.insert.ensures.owners

pub returns-clause-owners : goal.returns-clause-owners
returns-clause-owners c =
    all_added c.args.words.now c.args.keys.now c.args.step c.loop-key.key-index c.loop-key.words
    c.loop-key-test.false c.loop-key.invariant
