-- The bytes before the place are those of the mask.
use Rattle.std.proofs.Common.{◌≡◌, ℕ, ◌*◌, ◌<◌, length, take, drop, get_or}
use Rattle.std.specs.Simd.Lanes.{mask_l}
use Rattle.nj_image.specs.Pages.{flags_of}
use Rattle.nj_image.proofs.masks.page_mask.Given as goal

abbrev pub invariant-loop-place : goal.invariant-loop-place
invariant-loop-place l =
    record {
      size : length l.mask ≡ length l.initial.mask;
      done : (k : ℕ) → k < l.place → get_or l.mask k 0 ≡ mask_l (take 8 (drop (8 * k) (flags_of l.image l.base)));
    }
