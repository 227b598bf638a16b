-- The counters of several workers.
use Rattle.std.proofs.Common.{◌≡◌, ◌≤◌, ◌<◌, ◌+◌, ◌-◌, ℕ, List, [], ◌∷◌, drop, length, get_or, set, refl, sym, ap, ◌∙◌, arith}
use Rattle.std.specs.Prelude.{sum}
use Rattle.std.specs.List.{AllZip}
use Rattle.std.proofs.lemmas.List.{drop-drop}
use Rattle.std.proofs.lemmas.List.Sums.{sum_by-set}
use Rattle.nj_workers.specs.Counted.{AreCounted}

-- no counter fell
pub none_fell : (xs : List ℕ) → AllZip (λ before after. before ≤ after) xs xs
none_fell [] = tt
none_fell (x ∷ xs) = (omega arith, none_fell xs)

-- no counter rose
pub none_counted : (workers : ℕ) (xs : List ℕ) (most : ℕ) → AreCounted workers xs xs most
none_counted workers xs most = record { many = refl; none_falls = none_fell xs; others = refl; together = omega arith }

-- the first counter alone
pub first_counted : (xs : List ℕ) (other before after most : ℕ) → 0 < length xs → before ≡ get_or xs 0 other →
    before ≤ after → after ≤ before + most → AreCounted 1 xs (set xs 0 after) most
first_counted [] other before after most some is low high = absurd (omega arith)
first_counted (x ∷ xs) other before after most some is low high =
    let at : before ≡ x = is in
    let same : sum (after ∷ xs) + x ≡ sum (x ∷ xs) + after = sum_by-set (λ n. n) (x ∷ xs) 0 after other some in record {
      many = refl;
      none_falls = (omega (arith, at, low), none_fell xs);
      others = refl;
      together = omega (arith, at, high, same);
    }

-- what some workers count more of them may
pub by_more : (workers more : ℕ) (old new : List ℕ) (most : ℕ) → workers ≤ more → AreCounted workers old new most →
    AreCounted more old new most
by_more workers more old new most le counted =
    let is : more ≡ workers + (more - workers) = omega arith in record {
      many = counted.many;
      none_falls = counted.none_falls;
      others =
          ap (λ n. drop n new) is ∙ sym (drop-drop (more - workers) workers new)
          ∙ ap (drop (more - workers)) counted.others
          ∙ drop-drop (more - workers) workers old ∙ ap (λ n. drop n old) (sym is);
      together = counted.together;
    }
