-- Which rules are satisfied after a word.
use Rattle.std.proofs.Common.{◌≡◌, ◌↔◌, ◌⊎◌, ℕ, ◌<◌, Bool, true, false, ◌||◌, List, [], ◌∷◌, ◌++◌, reverse, refl, ap, sym, ◌∙◌, subst, inl, inr, true≢false, append_assoc, append-nil}
use Rattle.std.proofs.lemmas.List.{reverse-append, reverse-reverse}
use Rattle.std.proofs.lemmas.Nat.Bits.{bit_at-zero}
use Rattle.nj_search_defs.specs.Game.{Word}
use Rattle.nj_rules.specs.declared.record.Rule.{Rule}
use Rattle.nj_rules.specs.Rules.{is_in, is_met, own_hold, is_named, status_after}
use Rattle.nj_game.specs.Plan.{Plan}
use Rattle.nj_game.specs.Words.{ram_after, status_back, status_of}
use Rattle.nj_game.specs.Laws.{IsMetAlong}

-- the law of the rules: after a state the satisfied rules are those that were before and those that the memory meets
abbrev pub Naming : Type 0
Naming = (rules : List Rule) (ram : List ℕ) (old k : ℕ) → k < 128 →
    is_in (status_after rules ram old) k ≡ (is_in old k || (own_hold rules ram k || is_named rules ram k))

-- what is one of two
or_cases : (a b : Bool) → (a || b) ≡ true → (a ≡ true) ⊎ (b ≡ true)
or_cases true b e = inl refl
or_cases false b e = inr e

or_left : (a b : Bool) → a ≡ true → (a || b) ≡ true
or_left true b e = refl
or_left false b e = absurd (true≢false (sym e))

or_right : (a b : Bool) → b ≡ true → (a || b) ≡ true
or_right true b e = refl
or_right false b e = e

-- the satisfied rules after a state
in_after :
    Naming → (rules : List Rule) (ram : List ℕ) (old k : ℕ) → k < 128 →
    is_in (status_after rules ram old) k ≡ (is_in old k || is_met rules ram k)
unfolding is_met
in_after law rules ram old k h = law rules ram old k h

-- nothing is in the empty set
in_none : (k : ℕ) → is_in 0 k ≡ false
unfolding is_in
in_none k = rw bit_at-zero refl

-- a rule that memory meets is satisfied at once
met_now : Naming → (plan : Plan) (back : Word) (k : ℕ) → k < 128 →
    is_met plan.script.rules.rules (ram_after plan (reverse back)) k ≡ true → is_in (status_back plan back) k ≡ true
met_now law plan [] k h e =
    in_after law plan.script.rules.rules (ram_after plan []) 0 k h ∙ or_right (is_in 0 k) _ e
met_now law plan (pad ∷ back) k h e =
    in_after law plan.script.rules.rules (ram_after plan (reverse (pad ∷ back))) (status_back plan back) k h
    ∙ or_right (is_in (status_back plan back) k) _ e

-- one more pad forgets no rule
kept_now : Naming → (plan : Plan) (pad : ℕ) (back : Word) (k : ℕ) → k < 128 →
    is_in (status_back plan back) k ≡ true → is_in (status_back plan (pad ∷ back)) k ≡ true
kept_now law plan pad back k h e =
    in_after law plan.script.rules.rules (ram_after plan (reverse (pad ∷ back))) (status_back plan back) k h
    ∙ or_left (is_in (status_back plan back) k) _ e

-- more pads forget no rule
kept_back : Naming → (plan : Plan) (more back : Word) (k : ℕ) → k < 128 →
    is_in (status_back plan back) k ≡ true → is_in (status_back plan (more ++ back)) k ≡ true
kept_back law plan [] back k h e = e
kept_back law plan (pad ∷ more) back k h e =
    kept_now law plan pad (more ++ back) k h (kept_back law plan more back k h e)

pub stays :
    Naming → (plan : Plan) (word more : Word) (k : ℕ) → k < 128 → is_in (status_of plan word) k ≡ true →
    is_in (status_of plan (word ++ more)) k ≡ true
unfolding status_of
stays law plan word more k h e =
    ap (λ back. is_in (status_back plan back) k) (reverse-append word more)
    ∙ kept_back law plan (reverse more) (reverse word) k h e

reverse-cons : (pad : ℕ) (back : Word) → reverse (pad ∷ back) ≡ reverse back ++ pad ∷ []
reverse-cons pad back = reverse-append (pad ∷ []) back

-- a rule that was met along a word was met along a longer one
further : (plan : Plan) (word : Word) (pad k : ℕ) → IsMetAlong plan word k → IsMetAlong plan (word ++ pad ∷ []) k
further plan word pad k m = record {
  before = m.before;
  behind = m.behind ++ pad ∷ [];
  whole = ap (λ w. w ++ pad ∷ []) m.whole ∙ append_assoc m.before m.behind (pad ∷ []);
  met = m.met;
}

-- a rule that memory meets now is met along the word
at_its_end :
    (plan : Plan) (word : Word) (k : ℕ) → is_met plan.script.rules.rules (ram_after plan word) k ≡ true →
    IsMetAlong plan word k
at_its_end plan word k e = record { before = word; behind = []; whole = sym (append-nil word); met = e }

met_by :
    (plan : Plan) (pad : ℕ) (back : Word) (k : ℕ) →
    (is_in (status_back plan back) k ≡ true → IsMetAlong plan (reverse back) k) →
    (is_in (status_back plan back) k ≡ true)
    ⊎ (is_met plan.script.rules.rules (ram_after plan (reverse (pad ∷ back))) k ≡ true)
    → IsMetAlong plan (reverse (pad ∷ back)) k
met_by plan pad back k before (inl e) =
    let P : Word → Type 0 = λ w. IsMetAlong plan w k in
    subst P (sym (reverse-cons pad back)) (further plan (reverse back) pad k (before e))
met_by plan pad back k before (inr e) = at_its_end plan (reverse (pad ∷ back)) k e

-- a rule that is satisfied was met, by the word's last pads back
met_back :
    Naming → (plan : Plan) (back : Word) (k : ℕ) → k < 128 → is_in (status_back plan back) k ≡ true →
    IsMetAlong plan (reverse back) k
met_back law plan [] k h e =
    at_its_end plan [] k
    (sym (in_after law plan.script.rules.rules (ram_after plan []) 0 k h
    ∙ ap (λ b. b || is_met plan.script.rules.rules (ram_after plan []) k) (in_none k)) ∙ e)
met_back law plan (pad ∷ back) k h e =
    met_by plan pad back k (met_back law plan back k h)
    (or_cases (is_in (status_back plan back) k)
    (is_met plan.script.rules.rules (ram_after plan (reverse (pad ∷ back))) k)
    (sym (in_after law plan.script.rules.rules (ram_after plan (reverse (pad ∷ back))) (status_back plan back) k h)
    ∙ e))

-- a rule that was met is satisfied
met_before :
    Naming → (plan : Plan) (word : Word) (k : ℕ) → k < 128 → IsMetAlong plan word k →
    is_in (status_of plan word) k ≡ true
unfolding status_of
met_before law plan word k h m =
    ap (λ w. is_in (status_of plan w) k) m.whole
    ∙ stays law plan m.before m.behind k h
    (met_now law plan (reverse m.before) k h
    (ap (λ w. is_met plan.script.rules.rules (ram_after plan w) k) (reverse-reverse m.before) ∙ m.met))

pub met_along :
    Naming → (plan : Plan) (word : Word) (k : ℕ) → k < 128 →
    (is_in (status_of plan word) k ≡ true) ↔ IsMetAlong plan word k
unfolding status_of
met_along law plan word k h = (
  λ e.
      (let P : Word → Type 0 = λ w. IsMetAlong plan w k in
      subst P (reverse-reverse word) (met_back law plan (reverse word) k h e)),
  met_before law plan word k h,
)
