-- The image holds the picture that wrote it, and neither dots nor reads change the mirroring.
use Rattle.std.proofs.Common.{◌≡◌, ℕ, ◌≤◌, List, ap, refl, subst, sym, ◌∙◌, length, replicate, arith, false}
use Rattle.std.proofs.Math.ListN.{length-replicate}
use Rattle.nj_dots.specs.declared.screen.Screen.{Screen}
use Rattle.nj_dots.specs.Screen.{IsScreen}
use Rattle.nj_dots.specs.Dots.{after_dots}
use Rattle.nj_dots.specs.Registers.{after_read}
use Rattle.nj_dots.specs.Image.{Holds, IsStored, with_picture}
use Rattle.nj_dots.proofs.Images.{part-with_picture}
use Rattle.nj_dots.proofs.Mirroring.{after_dots-vertical, after_read-vertical, SameMirroring}
use Rattle.nj_picture_tests.proofs.dots.image_taken_again.Goals as goal

-- the picture that wrote the image is stored there, for one that is some dots and a read further
stored_further : (s t e : Screen) (p image : List ℕ) (n reg : ℕ) → IsScreen s → s.ended ≡ false
    → image ≡ with_picture s (replicate 4480 0) → t ≡ after_dots n p s → e ≡ after_read reg p t
    → IsStored e.vram.vertical image
stored_further s t e p image n reg fits unmarked written ran was_read =
    let long : 4448 ≤ length (replicate {A = ℕ} 4480 0) = omega (arith, length-replicate {A = ℕ} 4480 0) in
    let holds : Holds (with_picture s (replicate 4480 0)) s = record {
      fits = fits;
      unmarked = unmarked;
      bytes = part-with_picture s (replicate 4480 0) fits long;
    } in
    let P : List ℕ → Type 0 = λ l. Holds l s in
    let dots : t.vram.vertical ≡ s.vram.vertical =
    ap (λ (x : Screen). x.vram.vertical) ran ∙ after_dots-vertical n p s in
    let same : SameMirroring t (after_read reg p t) = after_read-vertical reg p t in
    let access : e.vram.vertical ≡ t.vram.vertical = ap (λ (x : Screen). x.vram.vertical) was_read ∙ same.vertical in
    (s, (subst P (sym written) holds, sym (access ∙ dots)))

pub get-requires-clause-stored : goal.get-requires-clause-stored
get-requires-clause-stored g c =
    let p = c.args.pattern.now in
    let unmarked =
    ap (λ (s : Screen). s.ended) (c.settle.ensures.same p) ∙ ap (λ (s : Screen). s.ended) (c.take_end.ensures.taken p) in (
      p,
      stored_further (g.P.Picture.meaning c.settle.new.self p) (g.P.Picture.meaning c.run.new.self p)
          (g.P.Picture.meaning c.read-status.new.self p) p c.put.new.image 70000 2
          (g.met.P.Picture.fits c.settle.new.self p) unmarked (c.put.ensures p) c.run.ensures
          (c.read-status.ensures.after p (λ _. refl)),
    )
