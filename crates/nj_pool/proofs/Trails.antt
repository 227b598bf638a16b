-- The words of a trail, from its last step back to its first words.
use Rattle.std.proofs.Common.{◌≡◌, ℕ, zero, suc, ◌+◌, ◌<◌, ◌≤◌, List, [], ◌∷◌, ◌++◌, length, take, reverse, get_or, refl, sym, ap, ◌∙◌, subst, arith, Bool, true, false, ◌-◌, if◌then◌else◌}
use Rattle.std.proofs.lemmas.List.{take_more, take_all, append-nil, append_assoc, length-map, reverse-append, length_push, get_or_default}
use Rattle.std.proofs.lemmas.List.Elements.{All-get_or}
use Rattle.nj_pool.specs.declared.birth.Birth.{Birth}
use Rattle.nj_pool.specs.Words.{child_word, child_words, HaveParents, words_after, IsLinked, Grown, grown}

-- the words after a step more
pub words_push : (words : List (List ℕ)) (steps : List (List Birth)) (born : List Birth)
    → words_after words (steps ++ born ∷ []) ≡ child_words (words_after words steps) born
words_push words [] born = refl
words_push words (step ∷ steps) born = words_push (child_words words step) steps born

-- a step more is linked where its parents stood in the front before
pub linked_push : (words : List (List ℕ)) (steps : List (List Birth)) (born : List Birth)
    → IsLinked words steps → HaveParents (words_after words steps) born → IsLinked words (steps ++ born ∷ [])
linked_push words [] born linked parents = (parents, tt)
linked_push words (step ∷ steps) born linked parents =
    (linked.0, linked_push (child_words words step) steps born linked.1 parents)

-- the parents of a step stood in the front before it
parents_at : (words : List (List ℕ)) (steps : List (List Birth)) (k : ℕ) → k < length steps → IsLinked words steps
    → HaveParents (words_after words (take k steps)) (get_or steps k [])
parents_at words [] k lt linked = absurd (omega arith)
parents_at words (step ∷ steps) zero lt linked = linked.0
parents_at words (step ∷ steps) (suc k) lt linked = parents_at (child_words words step) steps k (omega arith) linked.1

words_more : (words : List (List ℕ)) (steps : List (List Birth)) (k : ℕ) → k < length steps
    → words_after words (take (k + 1) steps) ≡ child_words (words_after words (take k steps)) (get_or steps k [])
words_more words steps k lt =
    ap (words_after words) (take_more steps k [] lt) ∙ words_push words (take k steps) (get_or steps k [])

-- the word of a place among children
child_at : (words : List (List ℕ)) (born : List Birth) (i : ℕ) (default : Birth) → i < length born
    → get_or (child_words words born) i [] ≡ child_word words (get_or born i default)
child_at words [] i default lt = absurd (omega arith)
child_at words (birth ∷ born) zero default lt = refl
child_at words (birth ∷ born) (suc i) default lt = child_at words born i default (omega arith)

-- a walk back from a place has come to this place with these pads, the last first, and so many steps are left
pub record IsOnTheWay (roots : List (List ℕ)) (steps : List (List Birth)) (place left at : ℕ) (back : List ℕ)
    : Type 0 where
  pub in_steps : left ≤ length steps
  pub in_words : at < length (words_after roots (take left steps))
  pub word : get_or (words_after roots steps) place []
      ≡ get_or (words_after roots (take left steps)) at [] ++ reverse back

-- a walk begins
pub begun : (roots : List (List ℕ)) (steps : List (List Birth)) (place left : ℕ) → left ≡ length steps
    → place < length (words_after roots steps) → IsOnTheWay roots steps place left place []
begun roots steps place left is lt =
    let whole : take left steps ≡ steps = take_all left steps (omega arith) in
    record {
      in_steps = omega arith;
      in_words = subst (λ s. place < length (words_after roots s)) (sym whole) lt;
      word = sym (append-nil (get_or (words_after roots (take left steps)) place [])
          ∙ ap (λ s. get_or (words_after roots s) place []) whole);
    }

-- the place that a walk has come to has a birth
pub has_birth : (roots : List (List ℕ)) (steps : List (List Birth)) (place k at : ℕ) (back : List ℕ) → k < length steps
    → IsOnTheWay roots steps place (k + 1) at back → at < length (get_or steps k [])
has_birth roots steps place k at back lt way =
    subst (λ n. at < n) (ap length (words_more roots steps k lt)
    ∙ length-map (get_or steps k []) (child_word (words_after roots (take k steps)))) way.in_words

-- and goes on from its parent
pub went_back : (roots : List (List ℕ)) (steps : List (List Birth)) (place k at : ℕ) (back : List ℕ) (default : Birth)
    → k < length steps → IsLinked roots steps
    → IsOnTheWay roots steps place (k + 1) at back
    → IsOnTheWay roots steps place k (get_or (get_or steps k []) at default).parent
    (back ++ (get_or (get_or steps k []) at default).pad ∷ [])
went_back roots steps place k at back default lt linked way =
    let words : List (List ℕ) = words_after roots (take k steps) in
    let born : List Birth = get_or steps k [] in
    let birth : Birth = get_or born at default in
    let inside : at < length born = has_birth roots steps place k at back lt way in
    record {
      in_steps = omega arith;
      in_words = All-get_or (λ (b : Birth). b.parent < length words) born at default inside
          (parents_at roots steps k lt linked);
      word = way.word
          ∙ ap (λ (w : List (List ℕ)). get_or w at [] ++ reverse back) (words_more roots steps k lt)
          ∙ ap (λ (w : List ℕ). w ++ reverse back) (child_at words born at default inside)
          ∙ append_assoc (get_or words birth.parent []) (birth.pad ∷ []) (reverse back)
          ∙ ap (λ (w : List ℕ). get_or words birth.parent [] ++ w) (sym (reverse-append back (birth.pad ∷ [])));
    }

-- at the whole words it is done
pub arrived : (roots : List (List ℕ)) (steps : List (List Birth)) (place at : ℕ) (back : List ℕ)
    → IsOnTheWay roots steps place 0 at back
    → (at < length roots) × (get_or (words_after roots steps) place [] ≡ get_or roots at [] ++ reverse back)
arrived roots steps place at back way = (way.in_words, way.word)

-- a trail as it is seen
abbrev pub seen : List (List ℕ) → List (List Birth) → Grown
seen roots steps = record { words = words_after roots steps; depth = length steps }

-- after the push of a step a trail is linked
pub linked_after : (ok : Bool) (roots : List (List ℕ)) (steps new : List (List Birth)) (born : List Birth)
    (trail : Grown)
    → new ≡ (if ok then steps ++ born ∷ [] else steps) → seen roots steps ≡ trail → IsLinked roots steps
    → HaveParents trail.words born → IsLinked roots new
linked_after true roots steps new born trail is view linked parents =
    subst (IsLinked roots) (sym is)
    (linked_push roots steps born linked (subst (λ (t : Grown). HaveParents t.words born) (sym view) parents))
linked_after false roots steps new born trail is view linked parents = subst (IsLinked roots) (sym is) linked

-- and is seen as grown where the push was made
pub grown_after : (ok : Bool) (roots : List (List ℕ)) (steps new : List (List Birth)) (born : List Birth)
    (trail : Grown)
    → new ≡ (if ok then steps ++ born ∷ [] else steps) → seen roots steps ≡ trail
    → seen roots new ≡ (if ok then grown born trail else trail)
grown_after true roots steps new born trail is view =
    ap (seen roots) is
    ∙ (λ i. record { words = words_push roots steps born i; depth = length_push steps born i })
    ∙ ap (grown born) view
grown_after false roots steps new born trail is view = ap (seen roots) is ∙ view

-- where steps are left, the place has a birth in the last of them
pub birth_before : (roots : List (List ℕ)) (steps : List (List Birth)) (place left at : ℕ) (back : List ℕ) → 0 < left
    → IsOnTheWay roots steps place left at back → at < length (get_or steps (left - 1) [])
birth_before roots steps place left at back some way =
    let next : left ≡ left - 1 + 1 = omega arith in
    has_birth roots steps place (left - 1) at back
    (omega (arith, way.in_steps)) (subst (λ n. IsOnTheWay roots steps place n at back) next way)

-- and the walk goes on from its parent
pub step_before : (roots : List (List ℕ)) (steps : List (List Birth)) (place left at : ℕ) (back : List ℕ)
    (default : Birth) → 0 < left → IsLinked roots steps
    → IsOnTheWay roots steps place left at back
    → IsOnTheWay roots steps place (left - 1) (get_or (get_or steps (left - 1) []) at default).parent
    (back ++ (get_or (get_or steps (left - 1) []) at default).pad ∷ [])
step_before roots steps place left at back default some linked way =
    let next : left ≡ left - 1 + 1 = omega arith in
    went_back roots steps place (left - 1) at back default (omega (arith, way.in_steps)) linked
    (subst (λ n. IsOnTheWay roots steps place n at back) next way)

-- the last of the steps that are left, as it is read
pub last_step : (roots : List (List ℕ)) (steps : List (List Birth)) (place left at : ℕ) (back : List ℕ)
    (births : List Birth) → 0 < left
    → IsOnTheWay roots steps place left at back → births ≡ get_or steps (left - 1) births
    → births ≡ get_or steps (left - 1) []
last_step roots steps place left at back births some way is =
    is ∙ get_or_default steps (left - 1) births [] (omega (arith, way.in_steps))

-- the walk goes on from the birth that is read there
pub read_before : (roots : List (List ℕ)) (steps : List (List Birth)) (place left at : ℕ) (back new : List ℕ)
    (births : List Birth) (birth : Birth) → 0 < left → IsLinked roots steps
    → IsOnTheWay roots steps place left at back → births ≡ get_or steps (left - 1) births
    → birth ≡ get_or births at birth → new ≡ back ++ birth.pad ∷ []
    → IsOnTheWay roots steps place (left - 1) birth.parent new
read_before roots steps place left at back new births birth some linked way is read pushed =
    let last : births ≡ get_or steps (left - 1) [] = last_step roots steps place left at back births some way is in
    let found : birth ≡ get_or (get_or steps (left - 1) []) at birth = read
    ∙ ap (λ (b : List Birth). get_or b at birth) last in
    subst (λ (n : List ℕ). IsOnTheWay roots steps place (left - 1) birth.parent n) (sym pushed)
    (subst (λ (b : Birth). IsOnTheWay roots steps place (left - 1) b.parent (back ++ b.pad ∷ [])) (sym found)
    (step_before roots steps place left at back birth some linked way))
