-- Each flagged page is written behind the others.
use Rattle.std.proofs.Common.{◌≡◌, ℕ, ◌+◌, ◌*◌, ◌∷◌, List, Bool, true, false, take, drop, length, sym, ap, ◌∙◌, subst, arith, length-take, length-drop}
use Rattle.nj_image.specs.Pages.{pages, page_count, flags_in, overwritten}
use Rattle.nj_image.proofs.Flags.{count-flags_in, flags-get}
use Rattle.nj_image.proofs.Fill.{count-pages}
use Rattle.nj_image.proofs.Steps.{IsWritten, pages-from, flags-from, page-room, page-written, page-skipped, all-written, slice-page}
use Rattle.nj_image.proofs.packing.put_flagged.Goals as goal
use Rattle.nj_image.proofs.packing.put_flagged.Goals.{then-is_flagged, else-is_flagged}

pub place-requires : goal.place-requires
place-requires c =
    let n = page_count c.args.image.now in
    let p = c.loop-page.page in
    let mask = c.args.mask.now in
    let f : drop p (flags_in n mask) ≡ true ∷ drop (p + 1) (flags_in n mask) =
    flags-from (flags_in n mask) p true (omega (arith, count-flags_in n mask)) (flags-get n p mask c.loop-page-test.true
    ∙ (sym c.is_flagged.ensures ∙ c.if-is_flagged.true)) in
    let room = page-room (flags_in n mask) (pages c.args.image.now) c.args.start c.args.into.now p c.loop-page.at
    c.loop-page.into _ c.loop-page.invariant f (pages-from n p c.args.image.now c.loop-page-test.true)
    c.requires.room in
    omega (arith, room, ap length (slice-page c.args.image.now (64 * p)))

pub loop-page-preserved : goal.loop-page-preserved
loop-page-preserved c =
    let n = page_count c.args.image.now in
    let p = c.loop-page.page in
    let mask = c.args.mask.now in
    let q = pages-from n p c.args.image.now c.loop-page-test.true in
    let flag = λ (b : Bool) (is : c.is_flagged.result ≡ b). flags-from (flags_in n mask) p b (omega (
      arith,
      count-flags_in n mask,
    )) (flags-get n p mask c.loop-page-test.true ∙ (sym c.is_flagged.ensures ∙ is)) in
    elim c.if-is_flagged.branch [
      | then-is_flagged w ↦
          let wide : length (take 64 (drop (64 * p) c.args.image.now)) ≡ 64 = omega (
            arith,
            length-take {A = ℕ} 64
                (drop (64 * p) c.args.image.now),
            length-drop {A = ℕ} (64 * p) c.args.image.now,
            c.loop-page-test.true,
          ) in
          let next =
          page-written (flags_in n mask) (pages c.args.image.now) c.args.start c.args.into.now p c.loop-page.at
          c.loop-page.into (take 64 (drop (64 * p) c.args.image.now)) c.if-is_flagged.into c.loop-page.invariant
          (flag true w.if-is_flagged.true) q c.requires.room (w.into-is ∙ (w.place.ensures ∙ ap (λ (page : List ℕ).
          overwritten c.loop-page.at page c.loop-page.into) (slice-page c.args.image.now (64 * p)))) in
          subst (λ at. IsWritten (flags_in n mask) (pages c.args.image.now) c.args.start c.args.into.now
          (p + 1) at c.if-is_flagged.into) (omega (arith, wide, w.at-is)) next
      | else-is_flagged w ↦
          subst (λ at. IsWritten (flags_in n mask) (pages c.args.image.now) c.args.start c.args.into.now
          (p + 1) at c.if-is_flagged.into) (sym w.at-is)
          (subst (λ into. IsWritten (flags_in n mask) (pages c.args.image.now) c.args.start c.args.into.now
          (p + 1) c.loop-page.at into) (sym w.into-is)
          (page-skipped _ _ _ _ _ _ _ _ c.loop-page.invariant (flag false w.if-is_flagged.false) q))
    ]

pub returns-clause-bytes : goal.returns-clause-bytes
returns-clause-bytes c = (all-written _ _ _ _ _ _ _ c.loop-page.invariant
    (omega (arith, count-pages (page_count c.args.image.now) c.args.image.now))).0

pub returns-clause-end : goal.returns-clause-end
returns-clause-end c = (all-written _ _ _ _ _ _ _ c.loop-page.invariant
    (omega (arith, count-pages (page_count c.args.image.now) c.args.image.now))).1
