use Rattle.std.proofs.Common.{[], ◌∷◌, ap, arith, length}
use Rattle.std.proofs.lemmas.List.{length-append}
use Rattle.nj_fields.proofs.Each.{all_read, next_read}
use Rattle.nj_fields.proofs.lists.read_each.Goals as goal

pub loop-item-preserved : goal.loop-item-preserved
loop-item-preserved g c = (
  next_read (g.M.Member.reading c.args.member.now) c.args.items.now c.loop-item.item-index c.loop-item.made.items
      c.item-item.result _ c.in_ok-next.next _ _ (omega arith) c.item-item.is c.as_slice.ensures.value
      c.in_ok-next.ensures c.in_ok-push.ensures.items c.loop-item.invariant.0,
  omega (arith, ap length c.in_ok-push.ensures.items, length-append c.loop-item.made.items (c.in_ok-next.next ∷ [])),
)

pub returns-clause-value : goal.returns-clause-value
returns-clause-value g c =
    all_read (g.M.Member.reading c.args.member.now) c.args.items.now c.loop-item.item-index c.loop-item.made.items _
    (omega arith) c.loop-item.invariant.0
