-- The first pair of the name is the file, and without one there is none.
use Rattle.std.proofs.Common.{sym, ap, ◌∙◌, Some}
use Rattle.nj_memory.proofs.Pairs.{none_found, first_found}
use Rattle.nj_memory.proofs.shelf.bytes_of.Goals as goal

pub returns-in-Some : goal.returns-in-Some
returns-in-Some c =
    ap Some c.as_slice.ensures.value
    ∙ sym (first_found c.args.files.now c.args.name.now c.in-Some.place c.index-files-place.result
    c.in-Some.ensures.found)

pub returns-in-None : goal.returns-in-None
returns-in-None c = sym (none_found _ _ c.in-None.ensures.missing)
