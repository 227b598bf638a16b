-- The condition on the place holds of the files inside.
use Rattle.std.proofs.Common.{sym, ap, Some}
use Rattle.nj_memory.specs.Memory.{named, files_of}
use Rattle.nj_memory.proofs.shelf.MemShelfShelf.put_at.Goals as goal

pub put_piece-requires : goal.put_piece-requires
put_piece-requires c =
    c.requires (files_of (named c.self.inside.files.items)) (ap (λ s. Some (files_of s.files)) (sym c.self.view_is))
