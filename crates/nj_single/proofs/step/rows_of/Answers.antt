-- One word more.
use Rattle.std.proofs.Common.{List, [], ◌++◌, ◌∙◌, ap, get_or, length, rules}
use Rattle.nj_rows.specs.declared.Row.{Row}
use Rattle.nj_expand.specs.Children.{word_rows}
use Rattle.nj_single.proofs.Fronts.{none_done, one_done}
use Rattle.nj_single.proofs.step.rows_of.Goals as goal

pub loop-place-init : goal.loop-place-init
loop-place-init g c =
    none_done c.live_rows_come_by_words.ensures.rows c.live_rows_come_by_words.ensures.runs
    c.args.search.now _ c.args.steps.now
    (length c.as_mut_slice-image.result.now) c.in_ok-machine.machine c.new-rows.ensures.items
    c.in_ok-machine.ensures (search rules)

pub loop-place-preserved : goal.loop-place-preserved
loop-place-preserved g c =
    one_done c.args.search.now c.loop-place.place c.loop-place.rows.items c.expand_word.new.rows.items c.args.steps.now
    c.loop-place.steps c.expand_word.new.steps c.loop-place.machine
    c.expand_word.new.machine (length c.loop-place.image) (length c.expand_word.new.image)
    (search rules) c.loop-place.invariant
    (c.expand_word.ensures.rows
    ∙ ap (λ (xs : List Row). xs ++ word_rows c.args.search.now c.loop-place.place
    (get_or c.args.search.now.state.front c.loop-place.place [])) c.in_ok-reserve.ensures.items)
    c.expand_word.ensures.frames c.expand_word.ensures.never_falls c.expand_word.ensures.cartridge
    c.expand_word.ensures.long
