-- Each end of the reading tells what it has to.
use Rattle.std.proofs.Common.{◌≡◌, inl, inr, ℕ, ◌+◌, ◌-◌, ◌<◌, ◌≤◌, true, false, Some, None, List, Fits, w8, take, drop, length, get_or, replicate, sym, ap, ◌∙◌, subst, arith}
use Rattle.std.proofs.lemmas.Result.{MatchResult-weaker}
use Rattle.std.proofs.lemmas.Bool.{eqb-true, eqb-false}
use Rattle.nj_image.specs.Filling.{stop, merged}
use Rattle.nj_image.specs.Pages.{pages, page_count, mask_size, flags_in}
use Rattle.nj_image.specs.Packing.{all_of, AreBytes}
use Rattle.nj_image.proofs.Octets.{bytes-from}
use Rattle.nj_image.proofs.Sizes.{whole}
use Rattle.nj_image.proofs.Every.{flags-full}
use Rattle.nj_image.proofs.Unpacked.{CanMask, empty-damaged, first-damaged, whole-ok, whole-bad, short-ends, mask-ends, bytes-can, pages-ok, pages-bad}
use Rattle.nj_image.proofs.packing.unpack.Goals as goal
use Rattle.nj_image.proofs.packing.unpack.Goals.{then-is_empty-via-then-is_empty, then-is_empty-via-else-is_empty+then-bytes-gt1, then-mask-size-ge64-via-then-mask-size-ge64, then-mask-size-ge64-via-else-mask-size-ge64+then-every_flagged}

-- the numbers of a slice of bytes
octets : (xs : List ℕ) → ((i : ℕ) → Fits w8 (get_or xs i 0)) → AreBytes xs
octets xs is = bytes-from xs (λ i. omega (arith, is i))

-- a part of bytes that is as long as the mask
mask-part : (m : ℕ) (bytes : List ℕ) → take (1 + m - 1) (drop 1 bytes) ≡ take m (drop 1 bytes)
mask-part m bytes = let width : 1 + m - 1 ≡ m = omega arith in ap (λ k. take k (drop 1 bytes)) width

pub returns-then-is_empty : goal.returns-then-is_empty
returns-then-is_empty c =
    elim c.then-is_empty.branch [
      | then-is_empty-via-then-is_empty w ↦
          empty-damaged c.args.base.now c.args.bytes.now c.requires.base (octets c.args.base.now c.type_inv.base)
          (eqb-true (length c.args.bytes.now) 0 (sym c.is_empty.ensures ∙ w.if-is_empty.true))
      | then-is_empty-via-else-is_empty+then-bytes-gt1 w ↦ first-damaged c.args.base.now c.args.bytes.now
          c.requires.base (octets c.args.base.now c.type_inv.base) w.if-bytes-gt1.true
    ]

pub returns-then-bytes-eq0 : goal.returns-then-bytes-eq0
returns-then-bytes-eq0 c =
    let some : 0 < length c.args.bytes.now =
    omega (arith, eqb-false (length c.args.bytes.now) 0 (sym c.is_empty.ensures ∙ c.if-is_empty.false)) in
    let all : flags_in (page_count c.args.base.now) c.as_slice.result.now ≡ replicate
    (page_count c.args.base.now) true =
    ap (flags_in (page_count c.args.base.now)) c.as_slice.ensures
    ∙ flags-full (page_count c.args.base.now) 25
    (omega (arith, (whole c.args.base.now c.requires.base).mask, (whole c.args.base.now c.requires.base).few)) in
    MatchResult-weaker c.fill.result c.fill.ensures
    (λ _ read. whole-ok c.args.base.now c.args.bytes.now _ _ c.requires.base some c.if-bytes-eq0.true all read)
    (λ damaged read. whole-bad c.args.base.now c.args.bytes.now _ damaged.at c.requires.base (octets c.args.base.now
    c.type_inv.base) (octets c.args.bytes.now c.type_inv.bytes) some c.if-bytes-eq0.true all read)

one-of : (n : ℕ) → n ≤ 1 → (n ≡ 0 → ⊥) → n ≡ 1
one-of n most some = grind (arith, some)

pub returns-then-bytes-size : goal.returns-then-bytes-size
returns-then-bytes-size c =
    let some : 0 < length c.args.bytes.now =
    omega (arith, eqb-false (length c.args.bytes.now) 0 (sym c.is_empty.ensures ∙ c.if-is_empty.false)) in
    short-ends c.args.base.now c.args.bytes.now c.requires.base (octets c.args.base.now c.type_inv.base) some
    (one-of _ c.if-bytes-gt1.false c.if-bytes-eq0.false) c.if-bytes-size.true
    (λ j. omega (arith, c.type_inv.bytes j))

pub returns-then-mask-size-ge64 : goal.returns-then-mask-size-ge64
returns-then-mask-size-ge64 c =
    let m = mask_size c.args.base.now in
    let part = mask-part m c.args.bytes.now in
    let one = one-of _ c.if-bytes-gt1.false c.if-bytes-eq0.false in
    elim c.then-mask-size-ge64.branch [
      | then-mask-size-ge64-via-then-mask-size-ge64 w ↦
          mask-ends c.args.base.now c.args.bytes.now c.requires.base (octets c.args.base.now c.type_inv.base) one
          c.if-bytes-size.false (λ j. omega (arith, c.type_inv.bytes j))
          (inl (subst (λ (l : List ℕ). 64 ≤ get_or l (m - 1) 0) part w.if-mask-size-ge64.true))
      | then-mask-size-ge64-via-else-mask-size-ge64+then-every_flagged w ↦
          mask-ends c.args.base.now c.args.bytes.now c.requires.base (octets c.args.base.now c.type_inv.base) one
          c.if-bytes-size.false (λ j. omega (arith, c.type_inv.bytes j))
          (inr (subst (λ (l : List ℕ). all_of (flags_in (page_count c.args.base.now) l) ≡ true) part
          (sym w.every_flagged.ensures ∙ w.if-every_flagged.true)))
    ]

pub returns : goal.returns
returns c =
    let m = mask_size c.args.base.now in
    let n = page_count c.args.base.now in
    let part = mask-part m c.args.bytes.now in
    let one = one-of _ c.if-bytes-gt1.false c.if-bytes-eq0.false in
    let can : CanMask c.args.base.now (take m (drop 1 c.args.bytes.now)) =
    bytes-can c.args.base.now c.args.bytes.now c.requires.base c.if-bytes-size.false
    (λ j. omega (arith, c.type_inv.bytes j))
    (subst (λ (l : List ℕ). get_or l (m - 1) 0 < 64) part c.if-mask-size-ge64.false)
    (subst (λ (l : List ℕ). all_of (flags_in n l) ≡ false) part (sym c.every_flagged.ensures
    ∙ c.if-every_flagged.false)) in
    MatchResult-weaker c.fill-2.result c.fill-2.ensures
    (λ _ read. pages-ok c.args.base.now c.args.bytes.now c.fill-2.new.into c.requires.base one c.if-bytes-size.false can
    (subst (λ (l : List ℕ). (stop (flags_in n l) (pages c.args.base.now) (drop (1 + m) c.args.bytes.now) ≡ None) ×
    (c.fill-2.new.into ≡ merged (flags_in n l) (pages c.args.base.now) (drop (1 + m) c.args.bytes.now))) part read))
    (λ damaged read. pages-bad c.args.base.now c.args.bytes.now damaged.at c.requires.base (octets c.args.base.now
    c.type_inv.base) (octets c.args.bytes.now c.type_inv.bytes) one c.if-bytes-size.false can
    (subst (λ (l : List ℕ). (stop (flags_in n l) (pages c.args.base.now) (drop (1 + m) c.args.bytes.now)
    ≡ Some (damaged.at - (1 + m))) × (1 + m ≤ damaged.at)) part read))
