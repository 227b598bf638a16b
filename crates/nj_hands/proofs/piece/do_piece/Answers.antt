-- One word more.
use Rattle.std.proofs.Common.{◌≤◌, ◌+◌, ◌-◌, ◌*◌, arith, refl, ◌∙◌}
use Rattle.std.specs.Prelude.{vec_len}
use Rattle.nj_hands.proofs.Words.{none_done, one_done, still_room, all_done}
use Rattle.nj_hands.proofs.piece.do_piece.Goals as goal

pub loop-place-init : goal.loop-place-init
loop-place-init g c = (
  none_done c.args.search.now (16 * c.args.piece) c.args.pass.now c.args.rows.now.items c.args.steps.now
      (vec_len c.args.rows.now) c.args.machine.now c.requires.cartridge,
  omega arith,
  omega arith,
  refl,
  refl,
  refl,
)

pub loop-place-preserved : goal.loop-place-preserved
loop-place-preserved g c =
    let was = c.loop-place.invariant in
    let low = was.1 in
    let end = c.min-last.ensures in
    let many = c.front_len-words.ensures.len in
    let below = c.loop-place-test.true in
    let done = c.do_word.ensures in (
      one_done c.args.search.now (16 * c.args.piece) c.loop-place.place c.args.pass.now c.loop-place.pass
          c.do_word.new.pass c.args.rows.now.items c.loop-place.rows.items c.do_word.new.rows.items
          c.args.steps.now c.loop-place.steps c.do_word.new.steps (vec_len c.args.rows.now) (vec_len c.loop-place.rows)
          (vec_len c.do_word.new.rows) c.loop-place.machine c.do_word.new.machine
          low (omega arith) was.0 done.claimed done.frames done.never_falls done.few done.cartridge,
      omega arith,
      omega arith,
      done.long ∙ was.3,
      done.found ∙ was.4,
      done.capacity ∙ was.5,
    )

pub returns-clause-claimed : goal.returns-clause-claimed
returns-clause-claimed g c =
    let many = c.front_len-words.ensures.len in
    let end = c.min-last.ensures in
    let past = c.loop-place-test.false in
    (all_done c.args.search.now c.args.piece c.loop-place.place c.args.pass.now c.loop-place.pass c.args.rows.now.items
    c.loop-place.rows.items c.args.steps.now c.loop-place.steps
    (vec_len c.args.rows.now) (vec_len c.loop-place.rows) c.loop-place.machine (omega arith) c.loop-place.invariant.1
    c.loop-place.invariant.2 c.loop-place.invariant.0).0

pub returns-clause-frames : goal.returns-clause-frames
returns-clause-frames g c =
    let many = c.front_len-words.ensures.len in
    let end = c.min-last.ensures in
    let past = c.loop-place-test.false in
    (all_done c.args.search.now c.args.piece c.loop-place.place c.args.pass.now c.loop-place.pass c.args.rows.now.items
    c.loop-place.rows.items c.args.steps.now c.loop-place.steps
    (vec_len c.args.rows.now) (vec_len c.loop-place.rows) c.loop-place.machine (omega arith) c.loop-place.invariant.1
    c.loop-place.invariant.2 c.loop-place.invariant.0).1

pub do_word-requires-clause-room : goal.do_word-requires-clause-room
do_word-requires-clause-room g c =
    let was = c.loop-place.invariant in
    let end = c.min-last.ensures in
    let below = c.loop-place-test.true in
    let now : vec_len c.loop-place.rows ≤ vec_len c.args.rows.now + (c.loop-place.place - 16 * c.args.piece) *
    c.args.search.now.bounds.inputs = was.0.room in
    let fits = still_room (16 * c.args.piece) c.loop-place.place c.args.search.now.bounds.inputs
    (vec_len c.args.rows.now) (vec_len c.loop-place.rows) _ (omega arith) was.1 now c.requires.room in
    let same = was.5 in
    omega arith
