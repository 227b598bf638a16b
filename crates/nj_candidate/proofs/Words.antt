-- Words: their images, and the rows of their children.
use Rattle.std.proofs.Common.{◌≡◌, ◌≤◌, ◌+◌, ℕ, Bool, true, false, cond, arith, map, ◌⊎◌, inl, inr, List, [], ◌∷◌, ◌++◌, length, refl, sym, ap, subst, ◌∙◌}
use Rattle.nj_search_defs.specs.Game.{Word, Game}
use Rattle.nj_search_defs.specs.Candidates.{Candidate}
use Rattle.nj_machine.specs.State.{State, Rom, rom_of, power_on, ram_of, is_jammed}
use Rattle.nj_machine.specs.Frame.{IsReady}
use Rattle.nj_machine.specs.Image.{image_of, image_len, of_image, IsImage}
use Rattle.nj_rules.specs.declared.record.Verdict.{Verdict}
use Rattle.nj_rules.specs.declared.record.Verdict.TheVariants.{Go, Win, Fail}
use Rattle.nj_rules.specs.Rules.{status_after, judged_of as judged_in}
use Rattle.nj_rules.specs.Pads.{allowed_pads}
use Rattle.nj_rules.specs.Key.{key_in}
use Rattle.nj_game.specs.Plan.{Plan}
use Rattle.nj_property.specs.Property.{value_of}
use Rattle.nj_game.specs.Words.{state_of, status_of, judged_of, allowed_of, key_of, bucket_of, held, search_verdict, game_of}
use Rattle.nj_rows.specs.declared.Row.{Row}
use Rattle.nj_image.specs.Pages.{IsImageSize}
use Rattle.nj_candidate.specs.Rows.{row_verdict, told_verdict, row_bucket, row_of, judged_at, key_at, row_told, row_at}
use Rattle.nj_candidate.specs.Front.{rom_in, size_in, image_at}

pub is_image : (plan : Plan) (word : Word) → IsReady (state_of plan word)
    → rom_of (state_of plan word) ≡ rom_of (power_on plan.cartridge)
    → ((s : State) → IsReady s → IsImage (rom_of s) (image_of s)) → IsImage (rom_in plan) (image_at plan word)
unfolding rom_in image_at
is_image plan word ready rom saved =
    subst (λ r. IsImage r (image_of (state_of plan word))) rom (saved (state_of plan word) ready)

pub state_again : (plan : Plan) (word : Word) → IsReady (state_of plan word)
    → rom_of (state_of plan word) ≡ rom_of (power_on plan.cartridge)
    → ((s : State) → IsReady s → of_image (rom_of s) (image_of s) ≡ s)
    → of_image (rom_in plan) (image_at plan word) ≡ state_of plan word
unfolding rom_in image_at
state_again plan word ready rom again =
    ap (λ r. of_image r (image_of (state_of plan word))) (sym rom) ∙ again (state_of plan word) ready

pub image_length : (plan : Plan) (word : Word) → IsReady (state_of plan word)
    → rom_of (state_of plan word) ≡ rom_of (power_on plan.cartridge)
    → ((s : State) → IsReady s → length (image_of s) ≡ image_len (rom_of s))
    → length (image_at plan word) ≡ size_in plan
unfolding rom_in size_in image_at
image_length plan word ready rom len = len (state_of plan word) ready ∙ ap image_len rom

few_of : (b : Bool) → cond b 12672 4480 ≤ 12672
few_of true = omega arith
few_of false = omega arith

pub few_bytes : (plan : Plan) → size_in plan ≤ 12672
unfolding size_in image_len
few_bytes plan = few_of (let r : Rom = rom_in plan in r.chr_ram)

pub told_status : (plan : Plan) (word : Word) → (let j = judged_of plan word in j.status.0) ≡ status_of plan word
unfolding judged_of
told_status plan word = refl

pub told_allowed : (plan : Plan) (word : Word) → (let g : Game = game_of plan in g.allowed word)
    ≡ allowed_pads plan.script.inputs.sets (ram_of (state_of plan word))
unfolding game_of allowed_of
told_allowed plan word = refl

-- a verdict of the rules is the same in a row, by the search's or not
same_verdict : (v : Verdict) → told_verdict v ≡ row_verdict (search_verdict v)
same_verdict Go = refl
same_verdict Win = refl
same_verdict Fail = refl

-- the row of a word that is judged so
row_told_word : (plan : Plan) (word : Word) (number pad : ℕ) → Row
row_told_word plan word number pad = row_told plan.script number pad (state_of plan word) (judged_of plan word)

-- the row of a word by the rules' judgement is its row in the game
same_row : (plan : Plan) (parent : Word) (number pad : ℕ) →
    let c : Candidate = record { number = number; parent = parent; pad = pad } in
    row_told plan.script number pad (state_of plan (parent ++ pad ∷ [])) (judged_of plan (parent ++ pad ∷ []))
    ≡ row_of (game_of plan) c
unfolding row_told row_of game_of key_at key_of judged_of bucket_of
same_row plan parent number pad =
    let word = parent ++ pad ∷ [] in
    let e = same_verdict (let j = judged_of plan word in j.verdict) in
    λ i. record {
      number = number;
      key = key_in plan.script.hash.items (length plan.script.rules.rules)
          (ram_of (state_of plan word)) (status_of plan word);
      reward = (let j = judged_of plan word in j.reward);
      level = (let j = judged_of plan word in j.level);
      verdict = e i;
      pad = pad;
      bucket = row_bucket (map (λ property. value_of property (ram_of (state_of plan word))) plan.script.bucket);
    }

-- the row of a child, from its parent's state and status
pub told_row : (plan : Plan) (word : Word) (pad number : ℕ) →
    state_of plan (word ++ pad ∷ []) ≡ held plan.script.hold pad (state_of plan word) →
    status_of plan (word ++ pad ∷ [])
    ≡ status_after plan.script.rules.rules (ram_of (state_of plan (word ++ pad ∷ []))) (status_of plan word) →
    judged_of plan (word ++ pad ∷ []) ≡ judged_in plan.script.rules.rules (ram_of (state_of plan (word ++ pad ∷ [])))
    (status_of plan word) (is_jammed (state_of plan (word ++ pad ∷ []))) →
    row_at plan.script (status_of plan word) (state_of plan word) pad number
    ≡ row_of (game_of plan) (record { number = number; parent = word; pad = pad })
unfolding row_at judged_at
told_row plan word pad number state status judged =
    ap (λ s. row_told plan.script number pad s (judged_at plan.script (status_of plan word) s)) (sym state)
    ∙ ap (λ j. row_told plan.script number pad (state_of plan (word ++ pad ∷ [])) j) (sym judged)
    ∙ same_row plan word number pad

-- an image of a plan has one of the two sizes
size_of : (b : Bool) → (◌≡◌ {A = ℕ} (cond b 12672 4480) 4480) ⊎ (◌≡◌ {A = ℕ} (cond b 12672 4480) 12672)
size_of true = inr refl
size_of false = inl refl

pub image_size : (plan : Plan) (image : List ℕ) → length image ≡ size_in plan → IsImageSize image
unfolding size_in image_len
image_size plan image long =
    let either = size_of (let r : Rom = rom_in plan in r.chr_ram) in
    elim either [
      | inl small ↦ inl (long ∙ small)
      | inr large ↦ inr (long ∙ large)
    ]
