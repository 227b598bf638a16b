-- No word, one word more, all words.
use Rattle.std.proofs.Common.{◌≡◌, ◌+◌, ◌*◌, ◌<◌, ◌≤◌, ℕ, length, refl, ap, sym, subst, ◌∙◌, arith, le-add_right}
use Rattle.nj_machine.specs.State.{rom_of}
use Rattle.nj_machine.specs.Image.{image_len, image_of, of_image}
use Rattle.nj_pool.specs.Front.{bytes_held}
use Rattle.nj_saved.specs.Ranges.{words_of}
use Rattle.nj_candidate.specs.Resuming.{Reached, replayed}
use Rattle.nj_candidate.proofs.Agains.{room_left}
use Rattle.nj_candidate.proofs.Replays.{first_pool, has_parts, one_word, all_words}
use Rattle.nj_candidate.proofs.resuming.replay_all.Goals as goal

pub loop-place-init : goal.loop-place-init
loop-place-init g c =
    let from : Reached =
    record {
      state = of_image (rom_of c.args.begun.machine) c.args.begun.image.items;
      judged = c.args.begun.judged;
    } in
    record {
      held = first_pool c.args.script.now from c.args.begun.image.items c.as_slice.result.now c.args.limit
          c.in_ok-new.field-0 c.as_slice.ensures.value c.in_ok-new.ensures;
      told = c.new-2.ensures.items;
      bytes = omega (arith, ap bytes_held c.in_ok-new.ensures);
      long = c.in_ok-own.ensures ∙ sym c.requires.long;
      cartridge = refl;
      frames = le-add_right c.args.steps.now (c.args.script.now.hold * (c.args.saved.now.step * 0));
      never_falls = omega arith;
    }

pub push_word-requires-clause-long : goal.push_word-requires-clause-long
push_word-requires-clause-long g c =
    let rom = c.replay-told.ensures.cartridge ∙ c.loop-place.invariant.cartridge in
    ap length c.as_slice-in-loop-place-2.ensures.value
    ∙ (c.save_into.ensures.long ∙ ap image_len rom ∙ sym c.requires.long)
    ∙ sym (ap length (has_parts c.args.script.now _ c.args.begun.image.items c.args.limit _ c.loop-place.again.pool
    c.loop-place.invariant.held).over)

pub push_word-requires-clause-first : goal.push_word-requires-clause-first
push_word-requires-clause-first g c =
    (has_parts c.args.script.now _ c.args.begun.image.items c.args.limit _ c.loop-place.again.pool
    c.loop-place.invariant.held).first

pub push_word-requires-clause-room : goal.push_word-requires-clause-room
push_word-requires-clause-room g c =
    let rom = c.replay-told.ensures.cartridge ∙ c.loop-place.invariant.cartridge in
    let long : length c.as_slice-in-loop-place-2.result.now ≡ length c.args.begun.image.items =
    ap length c.as_slice-in-loop-place-2.ensures.value
    ∙ (c.save_into.ensures.long ∙ ap image_len rom ∙ sym c.requires.long) in
    let within : c.loop-place.place < words_of c.args.saved.now =
    omega (arith, c.loop-place-test.true, c.count_of-place-end.ensures) in
    subst (λ m. bytes_held c.loop-place.again.pool + (length c.as_slice-in-loop-place-2.result.now + 16) ≤ m)
    (sym (has_parts c.args.script.now _ c.args.begun.image.items c.args.limit _ c.loop-place.again.pool
    c.loop-place.invariant.held).most)
    (room_left c.loop-place.place (words_of c.args.saved.now) (length c.args.begun.image.items) c.args.limit
    (length c.as_slice-in-loop-place-2.result.now) (bytes_held c.loop-place.again.pool)
    c.loop-place.invariant.bytes within c.requires.room long)

pub loop-place-preserved : goal.loop-place-preserved
loop-place-preserved g c =
    let rom = c.replay-told.ensures.cartridge ∙ c.loop-place.invariant.cartridge in
    let from : Reached =
    record {
      state = of_image (rom_of c.args.begun.machine) c.args.begun.image.items;
      judged = c.args.begun.judged;
    } in
    let shown : c.as_slice-in-loop-place-2.result.now ≡ image_of c.save_into.new.machine =
    c.as_slice-in-loop-place-2.ensures.value ∙ c.save_into.ensures.image ∙ ap image_of (sym c.save_into.ensures.same) in
    let long : length c.as_slice-in-loop-place-2.result.now ≡ length c.args.begun.image.items =
    ap length c.as_slice-in-loop-place-2.ensures.value
    ∙ (c.save_into.ensures.long ∙ ap image_len rom ∙ sym c.requires.long) in
    let within : c.loop-place.place < words_of c.args.saved.now =
    omega (arith, c.loop-place-test.true, c.count_of-place-end.ensures) in
    let reaches : (let r : Reached = record { state = c.save_into.new.machine; judged = c.replay-told.result } in r)
    ≡ replayed c.args.script.now from c.word_of-word.result.now =
    (λ i. record { state = c.save_into.ensures.same i; judged = c.replay-told.result })
    ∙ c.replay-told.ensures.reached
    ∙ (λ i. replayed c.args.script.now
    (record {
      state = of_image (c.loop-place.invariant.cartridge i) (c.as_slice-in-loop-place.ensures.value i);
      judged = c.args.begun.judged;
    }) c.word_of-word.result.now) in
    one_word _ c.loop-place.place c.loop-place.again.pool c.push_word.new.self.pool c.loop-place.again.judged.items
    c.push_word.new.self.judged.items
    (length c.loop-place.own.items) (length c.save_into.new.image.items) c.loop-place.machine c.save_into.new.machine
    c.loop-place.steps c.replay-told.new.steps
    c.word_of-word.result.now c.as_slice-in-loop-place-2.result.now c.replay-told.result
    within c.loop-place.invariant c.word_of-word.ensures.word c.word_of-word.ensures.long reaches shown long
    c.in_ok-push_word.ensures.pool c.in_ok-push_word.ensures.bytes c.in_ok-push_word.ensures.judged
    (sym (ap length c.as_slice-in-loop-place-2.ensures.value))
    (ap rom_of c.save_into.ensures.same ∙ c.replay-told.ensures.cartridge)
    c.replay-told.ensures.frames c.replay-told.ensures.never_falls

pub returns-clause-again : goal.returns-clause-again
returns-clause-again g c =
    let all : words_of c.args.saved.now ≤ c.loop-place.place =
    omega (arith, c.count_of-place-end.ensures, c.loop-place-test.false) in
    all_words _ c.loop-place.place c.loop-place.again _ _ _ all c.loop-place.invariant

pub returns-clause-frames : goal.returns-clause-frames
returns-clause-frames g c =
    let all : c.loop-place.place ≡ words_of c.args.saved.now =
    omega (arith, c.count_of-place-end.ensures, c.loop-place-test.false, c.loop-place.auto.place-end) in
    subst (λ (n : ℕ). c.loop-place.steps ≤ c.args.steps.now + c.args.script.now.hold * (c.args.saved.now.step * n)) all
    c.loop-place.invariant.frames
