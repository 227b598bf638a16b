use Rattle.std.proofs.Common.{◌≡◌, ◌∙◌, sym, rules}
use Rattle.std.specs.Prelude.{vec_len}
use Rattle.nj_pieces.specs.Takers.{count_of}
use Rattle.nj_pieces.proofs.Gatherings.{taker_whole, taker_room, gathering_begins, gathering_more, all_returnable, gathered, gathered_once, gathered_none}
use Rattle.nj_pieces.proofs.parts.Pieces.gather.Goals as goal

pub take_back-requires-clause-ports : goal.take_back-requires-clause-ports
take_back-requires-clause-ports c = (all_returnable c.args.self c.args.takers.items c.as_mut_slice.result.now c.requires
    c.as_mut_slice.ensures.value).ports

pub take_back-requires-clause-many : goal.take_back-requires-clause-many
take_back-requires-clause-many c = (all_returnable c.args.self c.args.takers.items c.as_mut_slice.result.now c.requires
    c.as_mut_slice.ensures.value).many

pub take_back-requires-clause-returns : goal.take_back-requires-clause-returns
take_back-requires-clause-returns c = (all_returnable c.args.self c.args.takers.items c.as_mut_slice.result.now
    c.requires c.as_mut_slice.ensures.value).returns

pub loop-taker-init : goal.loop-taker-init
loop-taker-init c =
    let e = c.take_back.ensures in
    gathering_begins c.args.self c.args.takers.items c.as_mut_slice.result.now c.take_back.new.takers _ _
    c.args.self.left c.requires c.as_mut_slice.ensures.value c.args.takers.ok.0
    c.args.self.left_is_empty c.args.self.left_has_room e.many e.owners e.weights e.ended

pub drain-requires-clause-fifo : goal.drain-requires-clause-fifo
drain-requires-clause-fifo c = (taker_whole _ _ _ c.loop-taker.takers.items c.pop.new.self.items c.in-Some.taker
    c.loop-taker.left c.in-Some.ensures.items c.loop-taker.invariant).fifo

pub drain-requires-clause-port : goal.drain-requires-clause-port
drain-requires-clause-port c = (taker_whole _ _ _ c.loop-taker.takers.items c.pop.new.self.items c.in-Some.taker
    c.loop-taker.left c.in-Some.ensures.items c.loop-taker.invariant).port

pub drain-requires-clause-whole : goal.drain-requires-clause-whole
drain-requires-clause-whole c = (taker_whole _ _ _ c.loop-taker.takers.items c.pop.new.self.items c.in-Some.taker
    c.loop-taker.left c.in-Some.ensures.items c.loop-taker.invariant).seats

pub drain-requires-clause-some_mark : goal.drain-requires-clause-some_mark
drain-requires-clause-some_mark c = (taker_whole _ _ _ c.loop-taker.takers.items c.pop.new.self.items c.in-Some.taker
    c.loop-taker.left c.in-Some.ensures.items c.loop-taker.invariant).some_mark

pub drain-requires-clause-room : goal.drain-requires-clause-room
drain-requires-clause-room c = taker_room _ _ _ c.loop-taker.takers.items c.pop.new.self.items c.in-Some.taker
    c.loop-taker.left c.in-Some.ensures.items c.loop-taker.invariant

pub loop-taker-preserved : goal.loop-taker-preserved
loop-taker-preserved c =
    let e = c.drain.ensures in
    gathering_more _ _ _ c.loop-taker.takers.items c.pop.new.self.items c.in-Some.taker c.loop-taker.left
    c.drain.new.left c.in-Some.ensures.items c.loop-taker.invariant e.weights e.capacity e.none_left

pub returns-clause-once : goal.returns-clause-once
unfolding count_of
returns-clause-once c =
    let none : vec_len c.loop-taker.takers ≡ 0 = search rules in
    gathered_once _ _ _ c.loop-taker.takers.items c.loop-taker.left c.sort_unstable.new.self.items
    c.loop-taker.invariant (sym c.loop-taker.takers.ok.0 ∙ none) c.sort_unstable.ensures.permutation

pub returns-clause-whole : goal.returns-clause-whole
unfolding count_of
returns-clause-whole c =
    let none : vec_len c.loop-taker.takers ≡ 0 = search rules in
    gathered _ _ _ c.loop-taker.takers.items c.loop-taker.left c.sort_unstable.new.self.items c.loop-taker.invariant
    (sym c.loop-taker.takers.ok.0 ∙ none) c.sort_unstable.ensures.permutation

pub returns-clause-none_left : goal.returns-clause-none_left
returns-clause-none_left c =
    gathered_none _ _ _ c.loop-taker.takers.items c.loop-taker.left c.sort_unstable.new.self.items
    c.loop-taker.invariant c.sort_unstable.ensures.permutation
