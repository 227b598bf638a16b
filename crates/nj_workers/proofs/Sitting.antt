-- Workers and counters on their way to the desks and back.
use Rattle.std.proofs.Common.{◌≡◌, ℕ, suc, ◌<◌, List, [], ◌∷◌, ◌++◌, length, take, get_or, refl, sym, ap, ◌∙◌, subst, arith, append_assoc, append-nil}
use Rattle.std.specs.Prelude.{map, reverse}
use Rattle.std.specs.List.{All, AllZip}
use Rattle.std.proofs.lemmas.List.Elements.{All-nil, All-cons, All-head, All-tail}
use Rattle.std.proofs.lemmas.List.{map-append, reverse-append, reverse-reverse}
use Rattle.std.proofs.Math.Seq.{take-append_seam}
use Rattle.nj_workers.specs.Desks.{EachPair, AllHave}

-- one element goes over from the end of a list that stands turned round
pub gone_over : {D X : Type 0} (f : D → X) (there : List D) (d : D) (rest : List X)
    → map f (there ++ d ∷ []) ++ reverse rest ≡ map f there ++ reverse (rest ++ f d ∷ [])
gone_over f there d rest =
    ap (λ xs. xs ++ reverse rest) (map-append f there (d ∷ []))
    ∙ append_assoc (map f there) (f d ∷ []) (reverse rest)
    ∙ ap (λ xs. map f there ++ xs) (sym (reverse-append rest (f d ∷ [])))

-- the same where the element is known by its value, with what stays
pub still_all : {D X : Type 0} (f : D → X) (there next : List D) (d : D) (x : X) (before rest all : List X) → f d ≡ x
    → next ≡ there ++ d ∷ [] → before ≡ rest ++ x ∷ []
    → map f there ++ reverse before ≡ all → map f next ++ reverse rest ≡ all
still_all f there next d x before rest all is next_is before_is whole =
    ap (λ ds. map f ds ++ reverse rest) next_is ∙ gone_over f there d rest
    ∙ ap (λ y. map f there ++ reverse (rest ++ y ∷ [])) is
    ∙ ap (λ xs. map f there ++ reverse xs) (sym before_is) ∙ whole

-- and back
pub still_back : {D X : Type 0} (f : D → X) (there next : List D) (d : D) (x : X) (before rest all : List X) → f d ≡ x
    → there ≡ next ++ d ∷ [] → rest ≡ before ++ x ∷ []
    → map f there ++ reverse before ≡ all → map f next ++ reverse rest ≡ all
still_back f there next d x before rest all is there_is rest_is whole =
    ap (λ xs. map f next ++ reverse xs) (rest_is ∙ ap (λ y. before ++ y ∷ []) (sym is))
    ∙ sym (gone_over f next d before)
    ∙ ap (λ ds. map f ds ++ reverse before) (sym there_is) ∙ whole

-- what holds at each place, as of two lists
pub zip_from_each : {X : Type 0} (R : X → X → Type 0) (xs ys : List X) → length ys ≡ length xs
    → ((k : ℕ) (d : X) → k < length xs → R (get_or xs k d) (get_or ys k d)) → AllZip R xs ys
zip_from_each R [] [] many each = tt
zip_from_each R [] (y ∷ ys) many each = absurd (omega arith)
zip_from_each R (x ∷ xs) [] many each = absurd (omega arith)
zip_from_each R (x ∷ xs) (y ∷ ys) many each =
    (each 0 x (omega arith), zip_from_each R xs ys (omega arith) (λ k d within. each (suc k) d (omega arith)))

-- what all have done at their desks, behind whose counters others stand
pub all_have : {D X : Type 0} (Has : X → X → ℕ → ℕ → Type 0) (end : D → X) (count : D → ℕ) (olds news : List D)
    (rest : List ℕ)
    → AllZip (λ old new. Has (end old) (end new) (count old) (count new)) olds news
    → AllHave Has (map end olds) (map end news) (map count olds ++ rest) (map count news ++ rest)
all_have Has end count [] [] rest zip = refl
all_have Has end count [] (new ∷ news) rest zip = absurd zip
all_have Has end count (old ∷ olds) [] rest zip = absurd zip
all_have Has end count (old ∷ olds) (new ∷ news) rest zip = (zip.0, all_have Has end count olds news rest zip.1)

-- when nothing is left to go over, all are there
pub over_all : {D X : Type 0} (f : D → X) (there : List D) (rest all : List X) → length rest ≡ 0
    → map f there ++ reverse rest ≡ all → map f there ≡ all
over_all f there [] all none whole = sym (append-nil (map f there)) ∙ whole
over_all f there (x ∷ rest) all none whole = absurd (omega arith)

pub over_back : {D X : Type 0} (f : D → X) (there : List D) (rest all : List X) → length there ≡ 0
    → map f there ++ reverse rest ≡ all → reverse rest ≡ all
over_back f [] rest all none whole = whole
over_back f (d ∷ there) rest all none whole = absurd (omega arith)

-- before any goes over, and before any comes back
pub begun_over : {D X : Type 0} (f : D → X) (there : List D) (turned all : List X) → there ≡ [] → turned ≡ reverse all
    → map f there ++ reverse turned ≡ all
begun_over f there turned all none is = ap (λ ds. map f ds ++ reverse turned) none ∙ ap reverse is ∙ reverse-reverse all

pub begun_back : {D X : Type 0} (f : D → X) (there : List D) (rest : List X) → rest ≡ []
    → map f there ++ reverse rest ≡ map f there
begun_back f there rest none = ap (λ xs. map f there ++ reverse xs) none ∙ append-nil (map f there)

-- what holds of all who sit at desks
pub all_at : {D X : Type 0} (P : X → Type 0) (f : D → X) (there slice : List D) (all : List X) → slice ≡ there
    → map f there ≡ all → All P all → All (λ d. P (f d)) slice
all_at {D} {X} P f there slice all same is each =
    subst (All (λ d. P (f d))) (sym same) (from_map there (subst (All P) (sym is) each)) where
      from_map : (ds : List D) → All P (map f ds) → All (λ d. P (f d)) ds
      from_map [] each = All-nil (λ d. P (f d))
      from_map (d ∷ ds) each =
          All-cons (λ d. P (f d)) d ds (All-head P (f d) (map f ds) each)
          (from_map ds (All-tail P (f d) (map f ds) each))

-- all have stood up again, with their counters behind which the others stand
pub all_stood_up : {D X : Type 0} (Has : X → X → ℕ → ℕ → Type 0) (end : D → X) (count : D → ℕ)
    (olds slice news back : List D) (before after : List X) (counts afters mid : List ℕ)
    → slice ≡ olds → back ≡ news
    → AllZip (λ old new. Has (end old) (end new) (count old) (count new)) slice news
    → map end olds ≡ before → map count olds ++ reverse mid ≡ counts → after ≡ map end back
    → afters ≡ map count back ++ reverse mid
    → AllHave Has before after counts afters
all_stood_up {D} Has end count olds slice news back before after counts afters mid slice_is back_is zip before_is
    counts_are after_is afters_are =
    let zipped : AllZip (λ old new. Has (end old) (end new) (count old) (count new)) olds back =
    subst (λ (os : List D). AllZip (λ old new. Has (end old) (end new) (count old) (count new)) os back) slice_is
    (subst (λ (ns : List D). AllZip (λ old new. Has (end old) (end new) (count old) (count new)) slice ns)
    (sym back_is) zip) in
    subst (λ b. AllHave Has b after counts afters) before_is
    (subst (λ a. AllHave Has (map end olds) a counts afters) (sym after_is)
    (subst (λ cs. AllHave Has (map end olds) (map end back) cs afters) counts_are
    (subst (λ ts. AllHave Has (map end olds) (map end back) (map count olds ++ reverse mid) ts) (sym afters_are)
    (all_have Has end count olds back (reverse mid) zipped))))

-- what a list has become of which a slice was lent
pub left_by_slice : {D : Type 0} (n : ℕ) (olds slice news rest : List D) → slice ≡ olds → n ≡ length olds
    → length news ≡ length slice → take n (news ++ rest) ≡ news
left_by_slice n olds slice news rest is many as_many =
    ap (λ (k : ℕ). take k (news ++ rest)) (many ∙ sym (ap length is) ∙ sym as_many) ∙ take-append_seam news rest

-- the same where the desks were lent as a slice
pub all_stood_within : {D X : Type 0} (Has : X → X → ℕ → ℕ → Type 0) (end : D → X) (count : D → ℕ) (n : ℕ)
    (olds slice news rest : List D) (before after : List X) (counts afters mid : List ℕ)
    → slice ≡ olds → n ≡ length olds → length news ≡ length slice
    → EachPair (λ old new. Has (end old) (end new) (count old) (count new)) slice news
    → map end olds ≡ before → map count olds ++ reverse mid ≡ counts → after ≡ map end (take n (news ++ rest))
    → afters ≡ map count (take n (news ++ rest)) ++ reverse mid
    → AllHave Has before after counts afters
all_stood_within {D} Has end count n olds slice news rest before after counts afters mid slice_is many as_many each
    before_is counts_are after_is afters_are =
    all_stood_up Has end count olds slice news (take n (news ++ rest)) before after counts afters mid slice_is
    (left_by_slice n olds slice news rest slice_is many as_many)
    (zip_from_each (λ (old new : D). Has (end old) (end new) (count old) (count new)) slice news as_many each)
    before_is counts_are after_is afters_are
