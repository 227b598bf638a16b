-- The words of the last state, copied.
use Rattle.std.proofs.Common.{ap, ◌∙◌, subst, arith, length-set}
use Rattle.std.specs.Mem.Slots.{slots_items}
use Rattle.nj_claims.specs.Passes.{PassView, TableView}
use Rattle.nj_claims.proofs.Passing.{is_zero}
use Rattle.nj_claims.proofs.Closing.{AreLast, closes, copied_one}
use Rattle.nj_claims.proofs.shared.ClaimTable.close.Goals as goal

closed : (c : goal.After-free)
    → AreLast c.args.self.opening c.args.pass.claims c.args.pass.seen c.args.pass.full c.loop-i.words.items
closed c = let o = c.self.inside.opening in let seat = c.pass.inside.seat in
    let last = closes o c.self.inside.table.shared.key seat.id seat.me.0 (slots_items c.close_with-closed.result.words)
    c.loop-i.words.items (slots_items c.close_with-closed.result.slots) c.self.invariant.0
    c.self.invariant.3 c.self.invariant.4 (is_zero seat.id (ap (λ (p : PassView). p.is_root) c.pass.view_is
    ∙ c.requires.root)) c.pass.invariant.0 c.pass.invariant.1
    (ap (λ (p : PassView). p.out) c.pass.view_is
    ∙ c.requires.joined) c.close_with-closed.ensures.values.2 c.loop-i.invariant.size
    (λ k l. c.loop-i.invariant.copied k (omega arith)) in
    subst (λ (z : TableView × PassView). AreLast z.0.opening z.1.claims z.1.seen z.1.full c.loop-i.words.items)
    (λ i. (c.self.view_is i, c.pass.view_is i)) last

pub loop-i-preserved : goal.loop-i-preserved
loop-i-preserved c = record {
  size = length-set c.loop-i.words.items c.loop-i.i c.word.result ∙ c.loop-i.invariant.size;
  copied = copied_one c.loop-i.words.items (slots_items c.close_with-closed.result.words) c.loop-i.i c.word.result
      (omega arith) c.word.ensures c.loop-i.invariant.copied;
}

pub returns-clause-table : goal.returns-clause-table
returns-clause-table c = (closed c).table

pub returns-clause-owners : goal.returns-clause-owners
returns-clause-owners c = (closed c).owners

pub returns-clause-seen : goal.returns-clause-seen
returns-clause-seen c = (closed c).seen_then

pub returns-clause-full : goal.returns-clause-full
returns-clause-full c = (closed c).no_room
