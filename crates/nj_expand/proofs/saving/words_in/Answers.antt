-- One word more.
use Rattle.std.proofs.Common.{◌<◌, length, ◌∙◌, arith}
use Rattle.nj_expand.proofs.SavedWhole.{concat_more}
use Rattle.nj_expand.proofs.saving.words_in.Goals as goal

pub loop-place-preserved : goal.loop-place-preserved
loop-place-preserved c =
    let within : c.loop-place.place < length c.args.front.now.words =
    omega (arith, c.loop-place-test.true, c.requires) in
    concat_more c.args.front.now.words c.loop-place.place c.as_slice.result.now c.loop-place.words _ within
    (c.as_slice.ensures.value ∙ c.in_ok-word.ensures) c.loop-place.invariant c.in_ok-extend_from_slice.ensures
