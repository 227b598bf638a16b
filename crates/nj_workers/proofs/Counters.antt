-- The counters of all workers, before and after.
use Rattle.std.proofs.Common.{◌≡◌, ℕ, ◌+◌, ◌-◌, ◌*◌, ◌≤◌, List, [], ◌∷◌, length, drop, refl, sym, ap, ◌∙◌, subst, arith}
use Rattle.std.specs.Prelude.{sum}
use Rattle.std.specs.List.{AllZip}
use Rattle.std.proofs.Math.Nat.{mul-add}
use Rattle.std.proofs.lemmas.List.{drop-drop}
use Rattle.nj_rows.specs.declared.Row.{Row}
use Rattle.nj_expand.specs.declared.kept.Kept.{Kept}
use Rattle.nj_expand.specs.declared.kept.Chosen.{Chosen}
use Rattle.nj_expand.specs.declared.kept.Chosen.TheVariants.{Keeps}
use Rattle.nj_expand.specs.Held.{Held, candidates_in, kept_in}
use Rattle.nj_expand.specs.Kept.{IsKept, IsChosen}
use Rattle.nj_workers.specs.Desks.{AllHave}
use Rattle.nj_workers.specs.Counted.{AreCounted}

-- nothing was counted
same_counts : (counts : List ℕ) → AllZip (λ before after. before ≤ after) counts counts
same_counts [] = tt
same_counts (count ∷ counts) = (omega arith, same_counts counts)

pub counted_none : (workers most : ℕ) (counts : List ℕ) → AreCounted workers counts counts most
counted_none workers most counts =
    record { many = refl; none_falls = same_counts counts; others = refl; together = omega arith }

-- of those who sat at desks no counter falls
none_falls : {X : Type 0} (Has : X → X → ℕ → ℕ → Type 0)
    → ((old new : X) (from to : ℕ) → Has old new from to → from ≤ to)
    → (olds news : List X) (counts afters : List ℕ) → AllHave Has olds news counts afters
    → AllZip (λ before after. before ≤ after) counts afters
none_falls Has rises [] [] counts afters have =
    subst (λ xs. AllZip (λ before after. before ≤ after) counts xs) (sym have) (same_counts counts)
none_falls Has rises [] (new ∷ news) counts afters have = absurd have
none_falls Has rises (old ∷ olds) [] counts afters have = absurd have
none_falls Has rises (old ∷ olds) (new ∷ news) [] afters have = absurd have
none_falls Has rises (old ∷ olds) (new ∷ news) (count ∷ counts) [] have = absurd have
none_falls Has rises (old ∷ olds) (new ∷ news) (count ∷ counts) (after ∷ afters) have =
    (rises old new count after have.0, none_falls Has rises olds news counts afters have.1)

-- the counters past them are as they were
others_stay : {X : Type 0} (Has : X → X → ℕ → ℕ → Type 0) (olds news : List X) (counts afters : List ℕ)
    → AllHave Has olds news counts afters
    → drop (length olds) afters ≡ drop (length olds) counts
others_stay Has [] [] counts afters have = have
others_stay Has [] (new ∷ news) counts afters have = absurd have
others_stay Has (old ∷ olds) [] counts afters have = absurd have
others_stay Has (old ∷ olds) (new ∷ news) [] afters have = absurd have
others_stay Has (old ∷ olds) (new ∷ news) (count ∷ counts) [] have = absurd have
others_stay Has (old ∷ olds) (new ∷ news) (count ∷ counts) (after ∷ afters) have =
    others_stay Has olds news counts afters have.1

as_many : (counts afters : List ℕ) → AllZip (λ before after. before ≤ after) counts afters
    → length afters ≡ length counts
as_many [] [] zip = refl
as_many [] (after ∷ afters) zip = absurd zip
as_many (count ∷ counts) [] zip = absurd zip
as_many (count ∷ counts) (after ∷ afters) zip = let rest = as_many counts afters zip.1 in omega arith

pub counted : {X : Type 0} (Has : X → X → ℕ → ℕ → Type 0)
    → ((old new : X) (from to : ℕ) → Has old new from to → from ≤ to) → (workers most : ℕ) (olds news : List X)
    (counts afters : List ℕ) → length olds ≡ workers
    → AllHave Has olds news counts afters → sum afters ≤ sum counts + most
    → AreCounted workers counts afters most
counted Has rises workers most olds news counts afters many have together =
    let zip = none_falls Has rises olds news counts afters have in record {
      many = as_many counts afters zip;
      none_falls = zip;
      others = subst (λ (n : ℕ). drop n afters ≡ drop n counts) many (others_stay Has olds news counts afters have);
      together = together;
    }

-- where none falls twice none falls in all
rise_on : (xs ys zs : List ℕ) → AllZip (λ before after. before ≤ after) xs ys
    → AllZip (λ before after. before ≤ after) ys zs → AllZip (λ before after. before ≤ after) xs zs
rise_on [] [] zs a b = b
rise_on [] (y ∷ ys) zs a b = absurd a
rise_on (x ∷ xs) [] zs a b = absurd a
rise_on (x ∷ xs) (y ∷ ys) [] a b = absurd b
rise_on (x ∷ xs) (y ∷ ys) (z ∷ zs) a b = (omega (arith, a.0, b.0), rise_on xs ys zs a.1 b.1)

-- what is counted first and then
pub counted_then : (workers : ℕ) (old mid new : List ℕ) (a b : ℕ) → AreCounted workers old mid a
    → AreCounted workers mid new b → AreCounted workers old new (a + b)
counted_then workers old mid new a b first second = record {
  many = second.many ∙ first.many;
  none_falls = rise_on old mid new first.none_falls second.none_falls;
  others = second.others ∙ first.others;
  together = omega (arith, first.together, second.together);
}

-- what some workers count more of them may
pub by_more : (workers more : ℕ) (old new : List ℕ) (most : ℕ) → workers ≤ more → AreCounted workers old new most
    → AreCounted more old new most
by_more workers more old new most le counted =
    let is : more ≡ workers + (more - workers) = omega arith in record {
      many = counted.many;
      none_falls = counted.none_falls;
      others =
          ap (λ n. drop n new) is ∙ sym (drop-drop (more - workers) workers new)
          ∙ ap (drop (more - workers)) counted.others
          ∙ drop-drop (more - workers) workers old ∙ ap (λ n. drop n old) (sym is);
      together = counted.together;
    }

-- the candidates are counted, and then the rows that are kept
pub counted_whole : (workers : ℕ) (held : Held) (chosen : Chosen) (kept : Kept) (rows : List Row)
    (counts mid afters : List ℕ)
    → IsChosen held chosen → chosen ≡ Keeps kept → rows ≡ kept.rows.items
    → AreCounted workers counts mid (held.plan.script.hold * length (candidates_in held))
    → AreCounted workers mid afters (held.plan.script.hold * length rows)
    → AreCounted workers counts afters
    (held.plan.script.hold * (length (candidates_in held) + length (kept_in held)))
counted_whole workers held chosen kept rows counts mid afters is keeps same first later =
    let hold = held.plan.script.hold in
    let runs = length (candidates_in held) in
    let is_kept : IsKept held kept = subst (IsChosen held) keeps is in
    let count : length rows ≡ length (kept_in held) = ap length same ∙ is_kept.count in
    subst (λ (n : ℕ). AreCounted workers counts afters n) (sym (mul-add hold runs (length (kept_in held))))
    (counted_then workers counts mid afters (hold * runs) (hold * length (kept_in held)) first
    (subst (λ (n : ℕ). AreCounted workers mid afters (hold * n)) count later))
