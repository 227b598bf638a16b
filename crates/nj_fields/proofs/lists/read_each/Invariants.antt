use Rattle.std.proofs.Common.{◌≡◌, [], drop, length}
use Rattle.serde_json.specs.View.{items_view}
use Rattle.nj_fields.specs.Lists.{each}
use Rattle.nj_fields.proofs.lists.read_each.Given as goal

-- the members that are left bring what is missing
abbrev pub invariant-loop-item : goal.invariant-loop-item
invariant-loop-item g l =
    (each (g.M.Member.reading l.member) l.made.items (items_view (drop l.item-index l.items))
    ≡ each (g.M.Member.reading l.member) [] (items_view l.items))
    × (length l.made.items ≡ l.item-index)
