-- The generations that were passed are written.
use Rattle.std.proofs.Common.{◌≡◌, ◌++◌, take}
use Rattle.std.specs.List.{flat_map}
use Rattle.nj_saved.specs.Bytes.{head_bytes, generation_bytes}
use Rattle.nj_saved.proofs.writing.write_saved.Given as goal

abbrev pub invariant-loop-keys : goal.invariant-loop-keys
invariant-loop-keys l =
    l.bytes.items
    ≡ head_bytes 2 l.saved ++ (l.saved.words ++ flat_map generation_bytes (take l.keys-index l.keys-items))
