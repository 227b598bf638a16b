-- The counters of several workers, from step to step.
use Rattle.std.proofs.Common.{◌≡◌, ◌≤◌, ◌<◌, ◌+◌, ◌-◌, ◌*◌, ℕ, List, [], ◌∷◌, drop, length, get_or, set, refl, sym, ap, ◌∙◌, arith}
use Rattle.std.specs.Prelude.{sum}
use Rattle.std.specs.List.{AllZip}
use Rattle.std.proofs.Math.Nat.{mul-le-mul_left}
use Rattle.std.proofs.lemmas.List.{drop-drop}
use Rattle.std.proofs.lemmas.List.Sums.{sum_by-set}
use Rattle.nj_search_defs.specs.Game.{Bounds}
use Rattle.nj_script.specs.Script.{Record}
use Rattle.nj_expand.specs.declared.Bounds.{Bounds as Given}
use Rattle.nj_expand.specs.Held.{Held, bounds_of}
use Rattle.nj_plan.specs.Plans.{Planned}
use Rattle.nj_plan.specs.Outcomes.{frames_before, frames_most}
use Rattle.nj_search.specs.Rests.{frames_a_step}
use Rattle.nj_search.specs.Starts.{IsGoing}
use Rattle.nj_search.proofs.Going.{AreMade, start_within, all_frames, same_frames}
use Rattle.nj_workers.specs.Counted.{AreCounted}

stay : (xs : List ℕ) → AllZip (λ before after. before ≤ after) xs xs
stay [] = tt
stay (x ∷ xs) = (omega arith, stay xs)

-- where none falls twice none falls in all
rise_on : (xs ys zs : List ℕ) → AllZip (λ before after. before ≤ after) xs ys
    → AllZip (λ before after. before ≤ after) ys zs → AllZip (λ before after. before ≤ after) xs zs
rise_on [] [] zs a b = b
rise_on [] (y ∷ ys) zs a b = absurd a
rise_on (x ∷ xs) [] zs a b = absurd a
rise_on (x ∷ xs) (y ∷ ys) [] a b = absurd b
rise_on (x ∷ xs) (y ∷ ys) (z ∷ zs) a b = (omega (arith, a.0, b.0), rise_on xs ys zs a.1 b.1)

-- no counter rose
pub none_counted : (workers : ℕ) (xs : List ℕ) (most : ℕ) → AreCounted workers xs xs most
none_counted workers xs most = record { many = refl; none_falls = stay xs; others = refl; together = omega arith }

-- what two steps count
pub more_counted : (workers : ℕ) (old mid new : List ℕ) (a b most : ℕ) → AreCounted workers old mid a
    → AreCounted workers mid new b → a + b ≤ most → AreCounted workers old new most
more_counted workers old mid new a b most first second within = record {
  many = second.many ∙ first.many;
  none_falls = rise_on old mid new first.none_falls second.none_falls;
  others = second.others ∙ first.others;
  together = omega (arith, first.together, second.together, within);
}

-- so many more steps, of as many frames each
pub step_counted : (workers : ℕ) (old mid new : List ℕ) (each now made : ℕ) → now ≡ each
    → AreCounted workers old mid (each * made) → AreCounted workers mid new now
    → AreCounted workers old new (each * (made + 1))
step_counted workers old mid new each now made same first second =
    let e : each * (made + 1) ≡ each * made + each = grind arith in
    more_counted workers old mid new (each * made) now (each * (made + 1)) first second (omega (arith, same, e))

-- they are within those of all steps
pub steps_counted : (workers : ℕ) (old new : List ℕ) (each made limit : ℕ) → made ≤ limit
    → AreCounted workers old new (each * made) → AreCounted workers old new (each * limit)
steps_counted workers old new each made limit le first =
    more_counted workers old new new (each * made) 0 (each * limit) first (none_counted workers new 0)
    (let more : each * made ≤ each * limit = mul-le-mul_left each le in omega (arith, more))

-- so is one step more, after which no other is made
pub last_counted : (begun now : Held) (limit made workers : ℕ) (old mid new : List ℕ) → made < limit
    → AreMade begun now limit made 0 0
    → AreCounted workers old mid (frames_a_step begun * made) → AreCounted workers mid new (frames_a_step now)
    → AreCounted workers old new (frames_a_step begun * limit)
last_counted begun now limit made workers old mid new within are_made first second =
    steps_counted workers old new (frames_a_step begun) (made + 1) limit (omega arith)
    (step_counted workers old mid new (frames_a_step begun) (frames_a_step now) made
    (same_frames begun now are_made.plan are_made.bounds) first second)

-- the first counter alone
pub first_counted : (xs : List ℕ) (other before after most : ℕ) → 0 < length xs → before ≡ get_or xs 0 other
    → before ≤ after → after ≤ before + most → AreCounted 1 xs (set xs 0 after) most
first_counted [] other before after most some is low high = absurd (omega arith)
first_counted (x ∷ xs) other before after most some is low high =
    let at : before ≡ x = is in
    let sum_set : sum (after ∷ xs) + x ≡ sum (x ∷ xs) + after = sum_by-set (λ n. n) (x ∷ xs) 0 after other some in
    record {
      many = refl;
      none_falls = (omega (arith, at, low), stay xs);
      others = refl;
      together = omega (arith, at, high, sum_set);
    }

-- what one worker counts several may
pub by_more : (workers : ℕ) (old new : List ℕ) (most : ℕ) → 1 ≤ workers → AreCounted 1 old new most
    → AreCounted workers old new most
by_more workers old new most some one =
    let is : workers ≡ 1 + (workers - 1) = omega arith in record {
      many = one.many;
      none_falls = one.none_falls;
      others =
          ap (λ n. drop n new) is ∙ sym (drop-drop (workers - 1) 1 new) ∙ ap (drop (workers - 1)) one.others
          ∙ drop-drop (workers - 1) 1 old ∙ ap (λ n. drop n old) (sym is);
      together = one.together;
    }

-- the inputs of the bounds are those of what they were given as
pub inputs_are : (given : Given) (script : Record) (bounds : Bounds) → bounds_of given script ≡ bounds
    → given.inputs ≡ bounds.inputs
inputs_are given script bounds is = ap (λ (b : Bounds). b.inputs) is

-- the frames before the first step, on the first counter, are within those of the search
pub start_counted : (planned : Planned) (workers : ℕ) (old new : List ℕ) → 1 ≤ workers
    → AreCounted 1 old new (frames_before planned) → AreCounted workers old new (frames_most planned)
start_counted planned workers old new some first =
    let within = start_within planned 0 (frames_before planned) (omega arith) in
    more_counted workers old new new (frames_before planned) 0 (frames_most planned)
    (by_more workers old new (frames_before planned) some first) (none_counted workers new 0) (omega (arith, within))

-- so are these and those of all steps
pub all_counted : (planned : Planned) (held : Held) (limit workers : ℕ) (old mid new : List ℕ) → 1 ≤ workers
    → IsGoing planned held → limit ≡ planned.limits.steps → AreCounted 1 old mid (frames_before planned)
    → AreCounted workers mid new (frames_a_step held * limit) → AreCounted workers old new (frames_most planned)
all_counted planned held limit workers old mid new some is limited first second =
    let steps : frames_a_step held * limit ≡ frames_a_step held * planned.limits.steps =
    ap (λ n. frames_a_step held * n) limited in
    more_counted workers old mid new (frames_before planned) (frames_a_step held * limit) (frames_most planned)
    (by_more workers old mid (frames_before planned) some first) second
    (omega (arith, all_frames planned held is, steps))
