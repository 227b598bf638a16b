-- The search that goes on from a saved one: its front, its table and its state.
use Rattle.std.proofs.Common.{◌≡◌, ℕ, ◌+◌, ◌*◌, ◌≤◌, false, List, [], length, map, refl, sym, ap, subst, ◌∙◌}
use Rattle.std.proofs.lemmas.List.FromFn.{length-map-range_with_len}
use Rattle.nj_search_defs.specs.Game.{Bounds}
use Rattle.nj_search_defs.specs.Pruning.{Seen, key_count, forgotten}
use Rattle.nj_search_defs.specs.Outcome.{seen_of}
use Rattle.nj_ines.specs.Cartridge.{IsCartridge}
use Rattle.nj_game.specs.Plan.{Plan}
use Rattle.nj_game.specs.Words.{judged_of}
use Rattle.nj_rules.specs.declared.record.Judged.{Judged}
use Rattle.nj_pool.specs.Front.{Front}
use Rattle.nj_claims.specs.Tables.{IsTable}
use Rattle.nj_seen.specs.declared.forgetting.SeenKeys.{SeenKeys}
use Rattle.nj_seen.specs.Held.{HoldsSeen, oldest_step, seen_in}
use Rattle.nj_saved.specs.declared.saved.Saved.{Saved}
use Rattle.nj_saved.specs.Ranges.{words_of}
use Rattle.nj_search_defs.specs.Game.{Word}
use Rattle.nj_candidate.specs.Front.{size_in, image_at}
use Rattle.nj_candidate.specs.SavedFront.{word_at, front_in}
use Rattle.nj_candidate.specs.Resuming.{pool_at}
use Rattle.nj_expand.specs.Held.{Held}
use Rattle.nj_expand.specs.Ranges.{IsFront}
use Rattle.nj_expand.specs.Table.{IsTableAt, IsSeenTable}
use Rattle.nj_expand.specs.Saving.{state_in, state_from, resumed}

-- the front of words of a plan
pub front_of : (plan : Plan) (most : ℕ) (words : List Word) (pool : Front) (judged : List Judged)
    → IsCartridge plan.cartridge → 1 ≤ length words → length words ≤ most
    → length (image_at plan []) ≡ size_in plan → pool ≡ pool_at plan (most * (size_in plan + 16)) words
    → judged ≡ map (judged_of plan) words
    → IsFront plan most pool judged
unfolding pool_at
front_of plan most words pool judged nrom some few long is are =
    subst (λ (p : Front). IsFront plan most p judged) (sym is)
    (record {
      nrom = nrom;
      images = refl;
      judged_are = are;
      some = some;
      few = few;
      base = refl;
      size = long;
      limit = refl;
    })

-- a table that holds seen keys tells them
pub told_table : ((words : List ℕ) (seen : Seen) (step : ℕ) → IsTable words → HoldsSeen words seen step
    → seen ≡ seen_in words step (oldest_step step seen))
    → (words : List ℕ) (keys : SeenKeys) (seen : Seen) (step exponent : ℕ) → IsSeenTable words keys seen step exponent
    → seen ≡ seen_in words step keys.oldest
told_table law words keys seen step exponent is =
    law words seen step is.table is.holds ∙ ap (seen_in words step) (sym is.oldest)

pub table_at : (words : List ℕ) (keys : SeenKeys) (seen : Seen) (step exponent : ℕ)
    → IsSeenTable words keys seen step exponent → seen ≡ seen_in words step keys.oldest
    → step ≤ 16777215 → IsTableAt words keys step exponent
table_at words keys seen step exponent is told last = record {
  table = is.table;
  slots = is.slots;
  seen = subst (λ (seen : Seen). HoldsSeen words seen step) told is.holds;
  oldest = is.oldest ∙ ap (oldest_step step) told;
  count = is.count ∙ ap key_count told;
  last = last;
}

pub pool_words : (plan : Plan) (limit : ℕ) (words : List Word) (pool : Front) → pool ≡ pool_at plan limit words
    → pool.words ≡ words
unfolding pool_at
pool_words plan limit words pool is = ap (λ p. p.words) is

-- as many words as the file says
pub front_count : (saved : Saved) → length (front_in saved) ≡ words_of saved
unfolding front_in
front_count saved = length-map-range_with_len (word_at saved.words saved.step) 0 (words_of saved)

-- what the bounds forget at once of a saved search
seen_from : (bounds : Bounds) (saved : Saved)
    → forgotten bounds.slots (words_of saved * bounds.inputs) saved.generations ≡ seen_of bounds (state_in saved)
unfolding seen_of state_in
seen_from bounds saved =
    ap (λ n. forgotten bounds.slots (n * bounds.inputs) saved.generations) (sym (front_count saved))

-- the search with this front and these keys
pub resumed_is : (plan : Plan) (bounds : Bounds) (saved : Saved) (words : List Word) (seen : Seen)
    → words ≡ front_in saved
    → forgotten bounds.slots (words_of saved * bounds.inputs) saved.generations ≡ seen
    → (let h : Held = record {
      plan = plan;
      bounds = bounds;
      state = record {
        step = saved.step;
        front = words;
        seen = seen;
        mark = record { level = saved.level; until = saved.until };
      };
      spent = false;
    } in h)
    ≡ resumed plan bounds saved
unfolding resumed state_from state_in
resumed_is plan bounds saved words seen are told =
    let keys : seen ≡ seen_of bounds (state_in saved) = sym told ∙ seen_from bounds saved in
    λ i. record {
      plan = plan;
      bounds = bounds;
      state = record {
        step = saved.step;
        front = are i;
        seen = keys i;
        mark = record { level = saved.level; until = saved.until };
      };
      spent = false;
    }
