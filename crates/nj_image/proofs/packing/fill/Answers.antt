-- Each flagged page is read, or told where it stops.
use Rattle.std.proofs.Common.{◌≡◌, ◌<◌, ℕ, ◌+◌, ◌*◌, List, Bool, true, false, take, drop, length, sym, ap, ◌∙◌, subst, arith, length-take, length-drop}
use Rattle.nj_image.specs.Pages.{pages, page_count, flags_in, overwritten}
use Rattle.nj_image.proofs.Flags.{count-flags_in, flags-get}
use Rattle.nj_image.proofs.Fill.{count-pages}
use Rattle.nj_image.proofs.Steps.{IsFilled, pages-from, flags-from, slice-page, compared, begun-filled, ends-short, ends-same, page-taken, page-kept, ends-behind, ends-well}
use Rattle.nj_image.proofs.packing.fill.Goals as goal
use Rattle.nj_image.proofs.packing.fill.Goals.{then-is_flagged+else-bytes-from-lt-PAGE+else-not-differs, else-is_flagged}

pub loop-page-init : goal.loop-page-init
loop-page-init c =
    begun-filled _ _ c.args.bytes.now c.args.start c.args.into.now c.requires.start
    (omega (arith, c.requires.image, c.requires.pages, count-pages (page_count c.args.base.now) c.args.base.now))

pub returns-then-bytes-from-lt-PAGE : goal.returns-then-bytes-from-lt-PAGE
returns-then-bytes-from-lt-PAGE c =
    let n = page_count c.args.base.now in
    let p = c.loop-page.page in
    let mask = c.args.mask.now in
    let q = pages-from n p c.args.base.now c.loop-page-test.true in
    let flag = λ (b : Bool) (is : c.is_flagged.result ≡ b). flags-from (flags_in n mask) p b (omega (
      arith,
      count-flags_in n mask,
    )) (flags-get n p mask c.loop-page-test.true ∙ (sym c.is_flagged.ensures ∙ is)) in (
      ends-short _ _ _ _ _ _ _ _ c.loop-page.invariant (flag true c.if-is_flagged.true) q c.if-bytes-from-lt-PAGE.true,
      c.requires.start,
    )

pub returns-then-not-differs : goal.returns-then-not-differs
returns-then-not-differs c =
    let n = page_count c.args.base.now in
    let p = c.loop-page.page in
    let mask = c.args.mask.now in
    let q = pages-from n p c.args.base.now c.loop-page-test.true in
    let flag = λ (b : Bool) (is : c.is_flagged.result ≡ b). flags-from (flags_in n mask) p b (omega (
      arith,
      count-flags_in n mask,
    )) (flags-get n p mask c.loop-page-test.true ∙ (sym c.is_flagged.ensures ∙ is)) in (
      ends-same _ _ _ _ _ _ _ _ c.loop-page.invariant (flag true c.if-is_flagged.true) q c.if-bytes-from-lt-PAGE.false
          (compared c.differs.result true c.args.bytes.now c.args.base.now c.loop-page.from
          (64 * p) c.differs.ensures c.if-not-differs.true),
      omega (arith, c.loop-page.invariant.start),
    )

pub loop-page-preserved : goal.loop-page-preserved
loop-page-preserved c =
    let n = page_count c.args.base.now in
    let p = c.loop-page.page in
    let mask = c.args.mask.now in
    let q = pages-from n p c.args.base.now c.loop-page-test.true in
    let flag = λ (b : Bool) (is : c.is_flagged.result ≡ b). flags-from (flags_in n mask) p b (omega (
      arith,
      count-flags_in n mask,
    )) (flags-get n p mask c.loop-page-test.true ∙ (sym c.is_flagged.ensures ∙ is)) in
    let below : p < length (pages c.args.base.now) =
    omega (arith, count-pages n c.args.base.now, c.loop-page-test.true) in
    elim c.if-is_flagged.branch [
      | then-is_flagged+else-bytes-from-lt-PAGE+else-not-differs w ↦
          subst (λ from. IsFilled (flags_in n mask) (pages c.args.base.now) c.args.bytes.now c.args.start
          (p + 1) from c.if-is_flagged.into) (sym w.from-is)
          (page-taken _ _ _ _ _ _ _ _ c.if-is_flagged.into c.loop-page.invariant (flag true w.if-is_flagged.true) q
          w.if-bytes-from-lt-PAGE.false below
          (compared w.differs.result false c.args.bytes.now c.args.base.now c.loop-page.from
          (64 * p) w.differs.ensures w.if-not-differs.false)
          (w.into-is ∙ (w.place.ensures ∙ ap (λ (page : List ℕ). overwritten (64 * p) page c.loop-page.into)
          (slice-page c.args.bytes.now c.loop-page.from))))
      | else-is_flagged w ↦
          let wide : length (take 64 (drop (64 * p) c.args.base.now)) ≡ 64 = omega (
            arith,
            length-take {A = ℕ} 64
                (drop (64 * p) c.args.base.now),
            length-drop {A = ℕ} (64 * p) c.args.base.now,
            c.loop-page-test.true,
          ) in
          subst (λ from. IsFilled (flags_in n mask) (pages c.args.base.now) c.args.bytes.now c.args.start
          (p + 1) from c.if-is_flagged.into) (sym w.from-is)
          (page-kept _ _ _ _ _ _ _ _ c.if-is_flagged.into c.loop-page.invariant (flag false w.if-is_flagged.false) q
          below wide
          (w.into-is ∙ (w.place-else-is_flagged.ensures ∙ ap (λ (page : List ℕ).
          overwritten (64 * p) page c.loop-page.into) (slice-page c.args.base.now (64 * p)))))
    ]

pub returns-then-from-bytes : goal.returns-then-from-bytes
returns-then-from-bytes c = (
  ends-behind _ _ _ _ _ _ _ c.loop-page.invariant
      (omega (arith, count-pages (page_count c.args.base.now) c.args.base.now)) c.if-from-bytes.true,
  c.loop-page.invariant.start,
)

pub returns : goal.returns
returns c =
    ends-well _ _ _ _ _ _ _ c.loop-page.invariant
    (omega (arith, count-pages (page_count c.args.base.now) c.args.base.now)) c.if-from-bytes.false
