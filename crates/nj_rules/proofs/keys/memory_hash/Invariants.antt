use Rattle.std.proofs.Common.{◌≡◌, drop}
use Rattle.std.specs.List.{flat_map}
use Rattle.nj_bytes.specs.Fnv.{fnv_from, fnv_of}
use Rattle.nj_rules.specs.Key.{item_bytes}
use Rattle.nj_rules.proofs.keys.memory_hash.Given as goal

-- the items that are left bring what is missing
abbrev pub invariant-loop-item : goal.invariant-loop-item
invariant-loop-item l =
    fnv_from l.hash (flat_map (item_bytes l.ram) (drop l.item-index l.items))
    ≡ fnv_of (flat_map (item_bytes l.ram) l.items)
