-- A piece is taken and done, or none is left.
use Rattle.std.proofs.Common.{refl, ◌∙◌}
use Rattle.nj_hands.proofs.Turns.{took_none, took_one, same_table}
use Rattle.nj_hands.proofs.serving.take_one.Goals as goal

pub returns-in_default-clause-worked : goal.returns-in_default-clause-worked
returns-in_default-clause-worked g c =
    let may = c.requires.may in
    took_none c.args.table.now c.args.pieces.now c.args.hand.now _ c.args.rows.now.items c.args.steps.now
    (record {
      spent = may.spent;
      cartridge = may.cartridge;
      own = may.own;
      taker = c.take.ensures.same;
      pieces_are = may.pieces_are;
    })
    refl refl c.take.ensures.number c.in_default.ensures.none_taken refl

pub returns-clause-worked : goal.returns-clause-worked
returns-clause-worked g c =
    let may = c.requires.may in
    let done = c.do_piece.ensures in
    took_one c.args.table.now c.args.pieces.now c.args.hand.now _ c.in-Some.piece c.args.rows.now.items
    c.do_piece.new.rows.items c.args.steps.now c.do_piece.new.steps
    (record {
      spent = may.spent;
      cartridge = done.cartridge;
      own = same_table _ _ _ _ _ done.claimed ∙ may.own;
      taker = c.take.ensures.same;
      pieces_are = may.pieces_are;
    })
    refl refl c.take.ensures.number c.in-Some.ensures.piece done.claimed done.frames done.never_falls
