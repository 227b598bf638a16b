-- `asm SOURCE`: the listing of an assembled source. Our own.
use Rattle.std.specs.Prelude.{ℕ, List}
use Rattle.nj_asm.specs.Listing.{listing_of}
use Rattle.nj_asm.specs.declared.assembling.Assembled.{Assembled}
use Rattle.nj_tasks.specs.Formats.{loaded, source_format}
use Rattle.nj_tasks.specs.Work.{Finding, Work, found_in, text_alone}

-- the bytes of an assembled source are listed from its origin on
unfoldable pub asm_finding : Finding Assembled (List ℕ)
asm_finding = text_alone (λ said. listing_of said.origin said.bytes) (λ _. 0)

-- the source is assembled and listed
unfoldable pub asm_work : List ℕ → Work
asm_work source = loaded source_format source (found_in asm_finding)
