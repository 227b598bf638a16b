-- What the views of all seats have, before and after one of them changes.
use Rattle.std.proofs.Common.{◌≡◌, ◌≢◌, ℕ, zero, suc, ◌+◌, ◌<◌, ◌≤◌, inl, inr, ⊎_elim, List, [], ◌∷◌, ◌++◌, length, get_or, set, refl, sym, ◌∙◌, subst, arith}
use Rattle.std.specs.List.{sum_by}
use Rattle.std.proofs.lemmas.List.Sums.{sum_by-set, get_or-le-sum_by}
use mathlib.Core.Option.{some, some-injective, some-ne-none}
use mathlib.Core.Logic.{dite}
use native.Mathlib.Decide.{ℕ_discrete}
use lib.ListN.{get_elem?}
use Rattle.atomic_table.proofs.Lists.{at_set, set_else, at_longer}
use Rattle.nj_claims.specs.declared.view.View.{View}
use Rattle.nj_claims.specs.declared.view.Opening.{Opening}
use Rattle.nj_claims.specs.Rule.{Somewhere, Claims, Opens, Stems}

module _ {A : Type 0} where
  -- an element that is there is within the list
  pub at_inside : (l : List A) (i : ℕ) (a : A) → get_elem? l i ≡ some a → i < length l
  at_inside [] i a e = absurd (some-ne-none a (sym e))
  at_inside (x ∷ xs) zero a e = omega arith
  at_inside (x ∷ xs) (suc i) a e = let l : i < length xs = at_inside xs i a e in omega arith

  pub at_get : (l : List A) (i : ℕ) (a d : A) → get_elem? l i ≡ some a → get_or l i d ≡ a
  at_get [] i a d e = absurd (some-ne-none a (sym e))
  at_get (x ∷ xs) zero a d e = some-injective x a e
  at_get (x ∷ xs) (suc i) a d e = at_get xs i a d e

  pub set_at : (l : List A) (i : ℕ) (a b : A) → get_elem? l i ≡ some b → get_elem? (set l i a) i ≡ some a
  set_at [] i a b e = absurd (some-ne-none b (sym e))
  set_at (x ∷ xs) zero a b e = refl
  set_at (x ∷ xs) (suc i) a b e = set_at xs i a b e

  pub same_at : (l : List A) (i : ℕ) (a b : A) → get_elem? l i ≡ some a → get_elem? l i ≡ some b → a ≡ b
  same_at l i a b x y = some-injective a b (sym x ∙ y)

  -- a sum after an element has changed
  pub sum_set : (f : A → ℕ) (l : List A) (i : ℕ) (a b : A) → get_elem? l i ≡ some b
      → sum_by f (set l i a) + f b ≡ sum_by f l + f a
  sum_set f l i a b e = subst (λ (z : A). sum_by f (set l i a) + f z ≡ sum_by f l + f a) (at_get l i b a e)
      (sum_by-set f l i a a (at_inside l i b e))

  pub at_most_sum : (f : A → ℕ) (l : List A) (i : ℕ) (b : A) → get_elem? l i ≡ some b → f b ≤ sum_by f l
  at_most_sum f l i b e =
      subst (λ (z : A). f z ≤ sum_by f l) (at_get l i b b e) (get_or-le-sum_by f l i b (at_inside l i b e))

  -- two elements of a list are within its sum
  pub two_at_most : (f : A → ℕ) (l : List A) (i j : ℕ) (a b c : A) → f c ≡ 0 → j ≢ i → get_elem? l i ≡ some a
      → get_elem? l j ≡ some b → f a + f b ≤ sum_by f l
  two_at_most f l i j a b c zero_c ne x y =
      let s : sum_by f (set l i c) + f a ≡ sum_by f l + f c = sum_set f l i c a x in
      let t : f b ≤ sum_by f (set l i c) = at_most_sum f (set l i c) j b (set_else l i j c ne ∙ y) in omega arith

-- what some view has, it or its successor has after a step
pub moved : (views : List View) (id : ℕ) (v w : View) (Has : View → Type 0) → get_elem? views id ≡ some v
    → (Has v → Has w)
    → Somewhere views Has → Somewhere (set views id w) Has
moved views id v w Has at carry p = dite (ℕ_discrete p.seat id)
    (λ e. record {
      seat = id;
      view = w;
      there = set_at views id w v at;
      has = carry (subst Has
          (same_at views id p.view v (subst (λ (i : ℕ). get_elem? views i ≡ some p.view) e p.there) at) p.has);
    })
    (λ ne. record { seat = p.seat; view = p.view; there = set_else views id p.seat w ne ∙ p.there; has = p.has })

pub longer : (views : List View) (w : View) (Has : View → Type 0) → Somewhere views Has
    → Somewhere (views ++ w ∷ []) Has
longer views w Has p =
    record { seat = p.seat; view = p.view; there = at_longer views (w ∷ []) p.seat p.view p.there; has = p.has }

-- two views are made one
pub merged : (views : List View) (id other : ℕ) (v w both spent : View) (Has : View → Type 0) → other ≢ id
    → get_elem? views id ≡ some v → get_elem? views other ≡ some w
    → (Has v → Has both) → (Has w → Has both) → Somewhere views Has
    → Somewhere (set (set views id both) other spent) Has
merged views id other v w both spent Has ne at at_other mine theirs p =
    let root : get_elem? (set (set views id both) other spent) id ≡ some both =
    set_else (set views id both) other id spent (λ e. ne (sym e)) ∙ set_at views id both v at in
    dite (ℕ_discrete p.seat id)
    (λ e. record {
      seat = id;
      view = both;
      there = root;
      has = mine (subst Has
          (same_at views id p.view v (subst (λ (i : ℕ). get_elem? views i ≡ some p.view) e p.there) at) p.has);
    })
    (λ no. dite (ℕ_discrete p.seat other)
    (λ e. record {
      seat = id;
      view = both;
      there = root;
      has = theirs (subst Has
          (same_at views other p.view w (subst (λ (i : ℕ). get_elem? views i ≡ some p.view) e p.there) at_other) p.has);
    })
    (λ nor. record {
      seat = p.seat;
      view = p.view;
      there = set_else (set views id both) other p.seat spent nor ∙ (set_else views id p.seat both no ∙ p.there);
      has = p.has;
    }))

-- what holds of the changed view and of each other one holds of all
pub all_seats : (K : ℕ → View → Type 0) (views : List View) (id : ℕ) (w : View) → K id w
    → ((j : ℕ) (u : View) → j ≢ id → get_elem? views j ≡ some u → K j u)
    → (j : ℕ) (u : View) → get_elem? (set views id w) j ≡ some u → K j u
all_seats K views id w mine others j u e =
    ⊎_elim (λ (t : (j ≡ id) × (w ≡ u)). subst (λ (x : ℕ × View). K x.0 x.1) (λ i. (sym t.0 i, t.1 i)) mine)
    (λ (t : (j ≢ id) × (get_elem? views j ≡ some u)). others j u t.0 t.1) (at_set views id j w u e)

-- an owner's origin stays
pub stems_on : (o : Opening) (views views' : List View) (key owner : ℕ)
    → (Somewhere views (Claims key owner) → Somewhere views' (Claims key owner))
    → Stems o views key owner → Stems o views' key owner
stems_on o views views' key owner on s = ⊎_elim (λ (a : (slot : ℕ) × Opens o slot key owner). inl a)
    (λ (b : Somewhere views (Claims key owner)). inr (on b)) s
