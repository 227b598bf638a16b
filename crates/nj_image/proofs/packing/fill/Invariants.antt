-- What is left of the pages and the bytes gives the rest of the reading.
use Rattle.nj_image.specs.Pages.{pages, page_count, flags_in}
use Rattle.nj_image.proofs.Steps.{IsFilled}
use Rattle.nj_image.proofs.packing.fill.Given as goal

abbrev pub invariant-loop-page : goal.invariant-loop-page
invariant-loop-page l =
    IsFilled (flags_in (page_count l.base) l.mask) (pages l.base) l.bytes l.start l.page l.from l.into
