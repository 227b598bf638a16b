-- The start's state alone in a pool, its judgement, and a table of its key.
use Rattle.std.proofs.Common.{ℕ, [], ◌∷◌, length, ap, subst, ◌∙◌}
use Rattle.nj_rules.specs.declared.record.Judged.{Judged}
use Rattle.nj_seen.specs.Held.{HoldsSeen}
use Rattle.nj_game.specs.Plan.{plan_of}
use Rattle.nj_expand.proofs.Starts.{start_key, start_pool}
use Rattle.nj_expand.proofs.Images.{image_size}
use Rattle.nj_expand.proofs.opening.First.run.Goals as goal

pub pool_of-requires-clause-size : goal.pool_of-requires-clause-size
pool_of-requires-clause-size g c =
    let plan = plan_of c.args.cart.now c.args.script.now c.args.start.now in
    image_size plan c.as_slice.result.now
    (ap length (c.as_slice.ensures.value ∙ c.in_ok-machine.ensures.begun.image)
    ∙ c.an_image_stands_for_its_word.ensures.len plan [] c.is_cartridge.ensures)

pub returns-clause-first : goal.returns-clause-first
returns-clause-first g c =
    let plan = plan_of c.args.cart.now c.args.script.now c.args.start.now in
    let begun = c.in_ok-machine.ensures.begun in
    record {
      pool = c.pool.view_is ∙ start_pool plan c.args.bounds.front c.as_slice.result.now c.in_ok-pool.pool
          (c.as_slice.ensures.value ∙ begun.image)
          (c.an_image_stands_for_its_word.ensures.len plan [] c.is_cartridge.ensures) c.in_ok-pool.ensures;
      judged = c.in_ok-vec.ensures.items ∙ ap (λ j. j ∷ []) begun.judged;
      table = c.in_ok-words.ensures.table;
      slots = c.in_ok-words.ensures.slots;
      seen = subst (λ (k : ℕ). HoldsSeen c.in_ok-words.words.items ((k ∷ []) ∷ []) 0)
          (start_key plan c.in_ok-machine.field-0.machine c.in_ok-machine.field-0.judged c.key_in-key.result
          begun.machine begun.judged c.key_in-key.ensures.key)
          c.in_ok-words.ensures.seen;
      level = ap (λ (j : Judged). j.level) begun.judged;
    }
