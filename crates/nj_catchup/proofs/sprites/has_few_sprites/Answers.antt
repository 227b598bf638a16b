-- Sprite by sprite.
use Rattle.std.proofs.Common.{◌≡◌, ◌<◌, ap, ◌∙◌, arith}
use Rattle.std.proofs.lemmas.Bool.Decides.{nat_tests}
use Rattle.nj_sprite0.specs.Sprite.{in_range_of}
use Rattle.nj_sprite0.proofs.Counts.{counted, counted-none, counted-all}
use Rattle.nj_catchup.proofs.Away.{counted-step, counted-below}
use Rattle.nj_catchup.proofs.sprites.has_few_sprites.Goals as goal
use Rattle.nj_catchup.proofs.sprites.has_few_sprites.Goals.{then-oam-sprite-lt240, else-oam-sprite-lt240}

pub loop-sprite-init : goal.loop-sprite-init
loop-sprite-init c =
    record { most = λ line tall below. omega (arith, counted-none c.args.oam.now line tall); few = omega arith }

pub loop-sprite-preserved : goal.loop-sprite-preserved
loop-sprite-preserved c =
    let oam = c.args.oam.now in
    let n = c.loop-sprite.sprite in
    elim c.if-oam-sprite-lt240.branch [
      | then-oam-sprite-lt240 w ↦ record {
        most = λ line tall below. omega (
          arith,
          w.count-is,
          c.loop-sprite.invariant.most line tall below,
          counted-step oam line tall n,
        );
        few = omega (arith, w.count-is, c.loop-sprite.invariant.few);
      }
      | else-oam-sprite-lt240 w ↦ record {
        most = λ line tall below. omega (
          arith,
          w.count-is,
          c.loop-sprite.invariant.most line tall below,
          counted-below oam line tall n (omega (arith, w.if-oam-sprite-lt240.false)) below,
        );
        few = omega (arith, w.count-is, c.loop-sprite.invariant.few);
      }
    ]

pub returns : goal.returns
returns c = λ line tall few below.
    let oam = c.args.oam.now in
    let end : c.loop-sprite.sprite ≡ 64 = omega (arith, c.loop-sprite-test.false, c.loop-sprite.auto.sprite-end) in
    let all : counted oam line tall c.loop-sprite.sprite ≡ in_range_of oam line tall =
    ap (counted oam line tall) end ∙ counted-all oam line tall in
    let count : c.loop-sprite.count < 9 = grind (arith, nat_tests, few) in
    omega (arith, all, count, c.loop-sprite.invariant.most line tall below)
