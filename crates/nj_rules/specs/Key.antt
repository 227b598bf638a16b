-- The key by which states count as repeated. What goes into it is this project's own; the hash is FNV-1a of 64 bits
-- (Fowler, Noll and Vo).
use Rattle.std.specs.Prelude.{ℕ, ◌+◌, ◌/◌, ◌%◌, ◌^◌, ◌==◌, List, ◌++◌, take, slice_range, flat_map, if◌then◌else◌}
use Rattle.std.specs.Int.{to_le_bytes, w128}
use Rattle.nj_bytes.specs.Fnv.{fnv_of}
use Rattle.nj_rules.specs.declared.record.HashItem.{HashItem}

-- the bytes that the item names, by address, both ends included
abbrev pub item_bytes : List ℕ → HashItem → List ℕ
item_bytes ram item = slice_range ram item.from (item.to + 1)

-- the status of so many rules, rule k in bit k mod 8 of byte k div 8, in as few bytes as they need
abbrev pub status_bytes : ℕ → ℕ → List ℕ
status_bytes rules status = take ((rules + 7) / 8) (to_le_bytes w128 (status % 2 ^ rules))

-- what tells a state from others: the items' bytes in order, then the status
unfoldable pub key_bytes : List HashItem → ℕ → List ℕ → ℕ → List ℕ
key_bytes items rules ram status = flat_map (item_bytes ram) items ++ status_bytes rules status

-- the hash of these bytes, where 1 stands for 0
unfoldable pub key_for : List ℕ → ℕ
key_for bytes = if fnv_of bytes == 0 then 1 else fnv_of bytes

-- the key of a state
unfoldable pub key_in : List HashItem → ℕ → List ℕ → ℕ → ℕ
key_in items rules ram status = key_for (key_bytes items rules ram status)
