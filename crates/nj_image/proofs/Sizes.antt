-- What the size of an image says of its pages and its mask.
use Rattle.std.proofs.Common.{◌≡◌, inl, inr, ℕ, ◌+◌, ◌*◌, ◌/◌, ◌≤◌, List, length, refl, ap, arith}
use Rattle.nj_image.specs.Pages.{IsImageSize, page_count, mask_size}

-- eight pages for each byte of the mask but the last, which has six
pub record IsSized (base : List ℕ) (n q : ℕ) : Type 0 where
  pub count : page_count base ≡ n
  pub whole : length base ≡ 64 * n
  pub last : n ≡ 8 * q + 6
  pub mask : mask_size base ≡ q + 1
  pub few : q ≤ 24
  pub some : 1 ≤ q

pub sized : (base : List ℕ) → IsImageSize base → (n : ℕ) × ((q : ℕ) × IsSized base n q)
sized base (inl e) = (
  70,
  (
    8,
    record {
      count = ap (λ k. k / 64) e;
      whole = e;
      last = refl;
      mask = ap (λ k. (k / 64 + 7) / 8) e;
      few = omega arith;
      some = omega arith;
    },
  ),
)
sized base (inr e) = (
  198,
  (
    24,
    record {
      count = ap (λ k. k / 64) e;
      whole = e;
      last = refl;
      mask = ap (λ k. (k / 64 + 7) / 8) e;
      few = omega arith;
      some = omega arith;
    },
  ),
)

-- what follows for its pages and its mask
pub record IsWhole (base : List ℕ) : Type 0 where
  pub pages : 64 * page_count base ≡ length base
  pub mask : page_count base ≤ 8 * mask_size base
  pub few : mask_size base ≤ 25
  pub some : 1 ≤ page_count base

pub whole : (base : List ℕ) → IsImageSize base → IsWhole base
whole base size =
    let s = (sized base size).1.1 in
    record {
      pages = omega (arith, s.count, s.whole);
      mask = omega (arith, s.count, s.last, s.mask);
      few = omega (arith, s.mask, s.few);
      some = omega (arith, s.count, s.last, s.some);
    }
