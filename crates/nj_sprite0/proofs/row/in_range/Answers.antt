-- Sprite by sprite.
use Rattle.std.proofs.Common.{◌≡◌, ◌+◌, ◌*◌, slice_index, ap, sym, ◌∙◌, arith}
use Rattle.nj_sprite0.proofs.Counts.{counted, counted-none, counted-in, counted-out, counted-le, counted-all}
use Rattle.nj_sprite0.proofs.row.in_range.Goals as goal
use Rattle.nj_sprite0.proofs.row.in_range.Goals.{then-has, else-has}

pub loop-sprite-init : goal.loop-sprite-init
loop-sprite-init c = sym (counted-none c.args.oam.now c.args.line c.args.tall)

pub overflow_add-count : goal.overflow_add-count
overflow_add-count c =
    omega (arith, c.loop-sprite.invariant, counted-le c.args.oam.now c.args.line c.args.tall c.loop-sprite.sprite, c.loop-sprite-test.true)

pub loop-sprite-preserved : goal.loop-sprite-preserved
loop-sprite-preserved c =
    let same = c.tops_of_line-tops.ensures (slice_index c.args.oam.now (c.loop-sprite.sprite * 4)) (c.fits-oam (c.loop-sprite.sprite * 4)) in
    elim c.if-has.branch [
      | then-has w ↦
          w.count-is ∙ ap (λ n. n + 1) c.loop-sprite.invariant
          ∙ sym (counted-in c.args.oam.now c.args.line c.args.tall c.loop-sprite.sprite (sym same ∙ sym c.has.ensures ∙ w.if-has.true))
      | else-has w ↦
          w.count-is ∙ c.loop-sprite.invariant
          ∙ sym (counted-out c.args.oam.now c.args.line c.args.tall c.loop-sprite.sprite (sym same ∙ sym c.has.ensures ∙ w.if-has.false))
    ]

pub returns-clause-count : goal.returns-clause-count
returns-clause-count c =
    let end : c.loop-sprite.sprite ≡ 64 = omega (arith, c.loop-sprite-test.false, c.loop-sprite.auto.sprite-end) in
    c.from.ensures ∙ c.loop-sprite.invariant ∙ ap (counted c.args.oam.now c.args.line c.args.tall) end
    ∙ counted-all c.args.oam.now c.args.line c.args.tall

pub returns-clause-most : goal.returns-clause-most
returns-clause-most c =
    omega (arith, c.from.ensures, c.loop-sprite.invariant, counted-le c.args.oam.now c.args.line c.args.tall c.loop-sprite.sprite, c.loop-sprite.auto.sprite-end)
