use Rattle.std.proofs.Common.{arith, rules}
use Rattle.nj_pieces.specs.declared.parts.Pieces.{Pieces}
use Rattle.nj_pieces.proofs.Seatings.{all_may_cut, all_dealt_within}
use Rattle.nj_pieces.proofs.parts.Pieces.deal.Goals as goal

pub seat-requires : goal.seat-requires
seat-requires c =
    let o = c.in_ok-takers.ensures in
    all_may_cut c.args.count c.args.workers c.in_ok-takers.takers.items c.as_mut_slice.result.now
    c.in_ok-takers.thieves.items c.as_mut_slice.ensures.value c.requires.workers.0 o.takers o.thieves o.each

pub returns-clause-takers : goal.returns-clause-takers
returns-clause-takers c =
    let o = c.in_ok-takers.ensures in
    let s = c.in_ok-seat.ensures in
    (all_dealt_within _ c.args.workers _ c.in_ok-takers.takers.items c.as_mut_slice.result.now c.seat.new.takers _
    c.as_mut_slice.ensures.value c.in_ok-takers.takers.ok.0 c.requires.workers.0
    o.takers o.thieves o.each s.many s.cut s.accesses s.seats).takers_are

pub returns-clause-dealt : goal.returns-clause-dealt
returns-clause-dealt c =
    let o = c.in_ok-takers.ensures in
    let s = c.in_ok-seat.ensures in
    let pieces : Pieces = record {
      count = c.args.count;
      thieves = c.in_ok-takers.thieves;
      left = c.in_ok-left.left;
      alloc = c.args.alloc;
      has_worker = (let many = o.thieves in let filled = c.requires.workers.0 in omega arith);
      left_is_empty = c.in_ok-left.ensures.items;
      left_has_room = search rules;
    } in
    (all_dealt_within pieces c.args.workers _ c.in_ok-takers.takers.items c.as_mut_slice.result.now c.seat.new.takers _
    c.as_mut_slice.ensures.value c.in_ok-takers.takers.ok.0 c.requires.workers.0
    o.takers o.thieves o.each s.many s.cut s.accesses s.seats).dealt

pub returns-clause-none_taken : goal.returns-clause-none_taken
returns-clause-none_taken c =
    let o = c.in_ok-takers.ensures in
    let s = c.in_ok-seat.ensures in
    let pieces : Pieces = record {
      count = c.args.count;
      thieves = c.in_ok-takers.thieves;
      left = c.in_ok-left.left;
      alloc = c.args.alloc;
      has_worker = (let many = o.thieves in let filled = c.requires.workers.0 in omega arith);
      left_is_empty = c.in_ok-left.ensures.items;
      left_has_room = search rules;
    } in
    (all_dealt_within pieces c.args.workers _ c.in_ok-takers.takers.items c.as_mut_slice.result.now c.seat.new.takers _
    c.as_mut_slice.ensures.value c.in_ok-takers.takers.ok.0 c.requires.workers.0
    o.takers o.thieves o.each s.many s.cut s.accesses s.seats).none_taken

pub returns-clause-none_done : goal.returns-clause-none_done
returns-clause-none_done c =
    let o = c.in_ok-takers.ensures in
    let s = c.in_ok-seat.ensures in
    let pieces : Pieces = record {
      count = c.args.count;
      thieves = c.in_ok-takers.thieves;
      left = c.in_ok-left.left;
      alloc = c.args.alloc;
      has_worker = (let many = o.thieves in let filled = c.requires.workers.0 in omega arith);
      left_is_empty = c.in_ok-left.ensures.items;
      left_has_room = search rules;
    } in
    (all_dealt_within pieces c.args.workers _ c.in_ok-takers.takers.items c.as_mut_slice.result.now c.seat.new.takers _
    c.as_mut_slice.ensures.value c.in_ok-takers.takers.ok.0 c.requires.workers.0
    o.takers o.thieves o.each s.many s.cut s.accesses s.seats).none_done
