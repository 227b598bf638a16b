-- What was written and the flagged pages that are left are all the flagged pages.
use Rattle.nj_image.specs.Pages.{pages, page_count, flags_in}
use Rattle.nj_image.proofs.Steps.{IsWritten}
use Rattle.nj_image.proofs.packing.put_flagged.Given as goal

abbrev pub invariant-loop-page : goal.invariant-loop-page
invariant-loop-page l =
    IsWritten (flags_in (page_count l.image) l.mask) (pages l.image) l.start l.initial.into l.page l.at l.into
