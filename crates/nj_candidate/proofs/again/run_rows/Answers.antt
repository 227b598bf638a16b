use Rattle.std.proofs.Common.{arith, ◌≡◌, ◌+◌, ◌*◌, ◌<◌, ◌≤◌, [], length, get_or, pos, refl, ap, sym, subst, ◌∙◌, le-add_right}
use Rattle.std.specs.Prelude.{All}
use Rattle.nj_machine.specs.State.{Rom, rom_of}
use Rattle.nj_machine.specs.Image.{IsImage}
use Rattle.nj_rows.specs.declared.Row.{Row}
use Rattle.nj_rows.specs.declared.Verdict3.TheVariants.{Go}
use Rattle.nj_pool.specs.Front.{bytes_held}
use Rattle.nj_candidate.specs.Again.{Before, statuses_of, image_again, judged_again}
use Rattle.nj_candidate.proofs.Agains.{pool_none, pool_base, pool_limit, pool_more, judged_more, bytes_more, room_left, frames_more}
use Rattle.nj_candidate.proofs.again.run_rows.Goals as goal

pub loop-row-init : goal.loop-row-init
loop-row-init g c =
    let before : Before =
    record {
      rom = rom_of c.args.machine.now;
      script = c.args.script.now;
      images = c.args.front.now.images;
      statuses = statuses_of c.args.judged.now;
    } in
    let long : length c.in_ok-image.image.items ≡ length c.args.front.now.base =
    c.in_ok-image.ensures ∙ sym c.requires.size in
    record {
      cartridge = refl;
      long = long;
      pool =
          pool_none before c.args.front.now.base c.base.result.now c.args.limit c.in_ok-pool.pool
          c.base.ensures.base c.in_ok-pool.ensures;
      judged = c.in_ok-with_capacity.ensures.items;
      bytes = omega (arith, ap bytes_held c.in_ok-pool.ensures);
      frames = le-add_right c.args.steps.now (c.args.script.now.hold * 0);
      never_falls = omega arith;
    }

pub child_again-told-requires-clause-images : goal.child_again-told-requires-clause-images
child_again-told-requires-clause-images g c =
    subst (λ r. All (IsImage r) c.args.front.now.images) (sym c.loop-row.invariant.cartridge) c.requires.images

pub push-requires-clause-long : goal.push-requires-clause-long
push-requires-clause-long g c =
    let before : Before =
    record {
      rom = rom_of c.args.machine.now;
      script = c.args.script.now;
      images = c.args.front.now.images;
      statuses = statuses_of c.args.judged.now;
    } in
    ap length c.as_slice.ensures.value
    ∙ c.child_again-told.ensures.long
    ∙ sym (ap length (pool_base before c.args.front.now.base c.args.limit _ c.loop-row.again.pool
    c.loop-row.invariant.pool))

pub push-requires-clause-room : goal.push-requires-clause-room
push-requires-clause-room g c =
    let before : Before =
    record {
      rom = rom_of c.args.machine.now;
      script = c.args.script.now;
      images = c.args.front.now.images;
      statuses = statuses_of c.args.judged.now;
    } in
    let long : length c.as_slice.result.now ≡ length c.args.front.now.base =
    ap length c.as_slice.ensures.value ∙ c.child_again-told.ensures.long in
    let within : c.loop-row.row-index < length c.args.rows.now = omega arith in
    subst (λ m. bytes_held c.loop-row.again.pool + (length c.as_slice.result.now + 16) ≤ m)
    (sym (pool_limit before c.args.front.now.base c.args.limit _ c.loop-row.again.pool c.loop-row.invariant.pool))
    (room_left c.loop-row.row-index (length c.args.rows.now) (length c.args.front.now.base) c.args.limit
    (length c.as_slice.result.now) (bytes_held c.loop-row.again.pool)
    c.loop-row.invariant.bytes within c.requires.room long)

pub loop-row-preserved : goal.loop-row-preserved
loop-row-preserved g c =
    let before : Before =
    record {
      rom = rom_of c.args.machine.now;
      script = c.args.script.now;
      images = c.args.front.now.images;
      statuses = statuses_of c.args.judged.now;
    } in
    let d : Row = record { number = 0; key = 0; reward = pos 0; level = 0; verdict = Go; pad = 0; bucket = [] } in
    let row = get_or c.args.rows.now c.loop-row.row-index d in
    let at = λ (rom : Rom). (let b : Before = record {
      rom = rom;
      script = c.args.script.now;
      images = c.args.front.now.images;
      statuses = statuses_of c.args.judged.now;
    } in b) in
    let cartridge = c.loop-row.invariant.cartridge in
    let shown : c.as_slice.result.now ≡ image_again before row =
    c.as_slice.ensures.value ∙ c.child_again-told.ensures.image ∙ ap (λ rom. image_again (at rom) row) cartridge in
    let told : c.child_again-told.result ≡ judged_again before row =
    c.child_again-told.ensures.judged ∙ ap (λ rom. judged_again (at rom) row) cartridge in
    let long : length c.as_slice.result.now ≡ length c.args.front.now.base =
    ap length c.as_slice.ensures.value ∙ c.child_again-told.ensures.long in
    record {
      cartridge = c.child_again-told.ensures.cartridge ∙ cartridge;
      long = c.child_again-told.ensures.long;
      pool =
          pool_more before c.args.front.now.base c.args.limit c.args.rows.now c.loop-row.row-index d
          c.as_slice.result.now c.loop-row.again.pool c.push.new.self.pool
          c.loop-row-test.true shown c.loop-row.invariant.pool c.in_ok-push.ensures.pool;
      judged =
          judged_more before c.args.rows.now c.loop-row.row-index d c.child_again-told.result
          c.loop-row.again.judged.items c.push.new.self.judged.items
          c.loop-row-test.true told c.loop-row.invariant.judged c.in_ok-push.ensures.judged;
      bytes =
          bytes_more c.loop-row.row-index (length c.args.front.now.base) (length c.as_slice.result.now)
          (bytes_held c.loop-row.again.pool) (bytes_held c.push.new.self.pool)
          c.in_ok-push.ensures.bytes c.loop-row.invariant.bytes long;
      frames =
          frames_more c.args.script.now.hold c.loop-row.row-index c.loop-row.steps c.args.steps.now
          c.child_again-told.new.steps
          c.loop-row.invariant.frames c.child_again-told.ensures.frames;
      never_falls = omega (arith, c.loop-row.invariant.never_falls, c.child_again-told.ensures.never_falls);
    }
