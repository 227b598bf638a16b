-- The states of rows, run again from the front's images.
use Rattle.std.proofs.Common.{◌≡◌, ◌+◌, ◌*◌, ◌<◌, ◌≤◌, length, ap, sym, subst, ◌∙◌, arith, mul-le-mul_right}
use Rattle.std.specs.List.{All}
use Rattle.nj_game.specs.Plan.{plan_of}
use Rattle.nj_seen.specs.Held.{seen_in}
use Rattle.nj_candidate.specs.Front.{size_in}
use Rattle.nj_candidate.specs.Again.{parent_of}
use Rattle.nj_expand.specs.Held.{Held, bounds_of}
use Rattle.nj_expand.proofs.Nexts.{before_is, machine_size, all_images, image_count}
use Rattle.nj_expand.proofs.Parts.{run_from}
use Rattle.nj_expand.proofs.search.Search.run_again.Goals as goal

pub overflow_add-limit : goal.overflow_add-limit
overflow_add-limit g c =
    let s = c.self.inside in
    let plan = plan_of s.cart s.script s.start in
    let long : c.image_len.result ≡ size_in plan =
    c.image_len.ensures ∙ sym (machine_size plan c.in_ok-machine.machine c.in_ok-machine.ensures.begun) in
    let few = c.an_image_stands_for_its_word.ensures.few plan in
    omega (arith, long, few)

pub overflow_mul-limit : goal.overflow_mul-limit
overflow_mul-limit g c =
    let s = c.self.inside in
    let plan = plan_of s.cart s.script s.start in
    let long : c.image_len.result ≡ size_in plan =
    c.image_len.ensures ∙ sym (machine_size plan c.in_ok-machine.machine c.in_ok-machine.ensures.begun) in
    let few = c.an_image_stands_for_its_word.ensures.few plan in
    let most : s.bounds.front * (c.image_len.result + 16) ≤ 1048576 * (c.image_len.result + 16) =
    mul-le-mul_right (c.image_len.result + 16) c.self.invariant.0.most in
    omega (arith, most, long, few)

pub run_rows-requires-clause-parents : goal.run_rows-requires-clause-parents
run_rows-requires-clause-parents g c =
    let s = c.self.inside in
    let plan = plan_of s.cart s.script s.start in
    subst (λ n. All (λ row. parent_of row < n) c.args.rows.now)
    (sym (ap (λ (h : Held). length h.state.front) c.self.view_is)
    ∙ sym (image_count plan s.bounds.front s.pool s.judged.items c.self.invariant.1))
    c.requires.parents

pub run_rows-requires-clause-images : goal.run_rows-requires-clause-images
run_rows-requires-clause-images g c =
    let s = c.self.inside in
    let plan = plan_of s.cart s.script s.start in
    all_images plan c.in_ok-machine.machine s.bounds.front s.pool s.judged.items
    c.in_ok-machine.ensures.begun c.self.invariant.1
    (λ word. c.an_image_stands_for_its_word.ensures.is_image plan word c.self.invariant.1.nrom)

pub run_rows-requires-clause-size : goal.run_rows-requires-clause-size
run_rows-requires-clause-size g c =
    let s = c.self.inside in
    c.self.invariant.1.size ∙ machine_size (plan_of s.cart s.script s.start) c.in_ok-machine.machine
    c.in_ok-machine.ensures.begun

pub run_rows-requires-clause-room : goal.run_rows-requires-clause-room
run_rows-requires-clause-room g c =
    let s = c.self.inside in
    let plan = plan_of s.cart s.script s.start in
    let long : length s.pool.base ≡ c.image_len.result =
    c.self.invariant.1.size ∙ machine_size plan c.in_ok-machine.machine c.in_ok-machine.ensures.begun
    ∙ sym c.image_len.ensures in
    let few : length c.args.rows.now ≤ s.bounds.front =
    subst (λ (h : Held). length c.args.rows.now ≤ h.bounds.most) (sym c.self.view_is) c.requires.few in
    subst (λ n. length c.args.rows.now * (n + 16) ≤ s.bounds.front * (c.image_len.result + 16)) (sym long)
    (mul-le-mul_right (c.image_len.result + 16) few)

pub returns-clause-again : goal.returns-clause-again
returns-clause-again g c =
    let s = c.self.inside in
    let plan = plan_of s.cart s.script s.start in
    let h : Held =
    record {
      plan = plan;
      bounds = bounds_of s.bounds s.script;
      state = record {
        step = s.step;
        front = s.pool.words;
        seen = seen_in s.words.items s.step s.keys.oldest;
        mark = record { level = s.mark.level; until = s.mark.until };
      };
      spent = s.spent;
    } in
    let was = before_is plan c.in_ok-machine.machine s.bounds.front s.pool s.judged.items c.as_slice.result.now
    c.in_ok-machine.ensures.begun c.self.invariant.1 c.as_slice.ensures.value in
    run_from h c.args.self.now c.args.rows.now _ s.pool.base (s.bounds.front * (c.image_len.result + 16))
    c.run_rows.result c.self.view_is was c.self.invariant.1.base
    (ap (λ n. s.bounds.front * (n + 16))
    (c.image_len.ensures ∙ sym (machine_size plan c.in_ok-machine.machine c.in_ok-machine.ensures.begun)))
    c.run_rows.ensures.again
