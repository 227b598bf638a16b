-- The pages before this one are flagged.
use Rattle.std.proofs.Common.{◌≡◌, true, take}
use Rattle.nj_image.specs.Pages.{flags_in}
use Rattle.nj_image.specs.Packing.{all_of}
use Rattle.nj_image.proofs.masks.every_flagged.Given as goal

abbrev pub invariant-loop-page : goal.invariant-loop-page
invariant-loop-page l = all_of (take l.page (flags_in l.pages l.mask)) ≡ true
