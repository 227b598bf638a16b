-- Each step of a claim keeps the rule.
use Rattle.std.proofs.Common.{◌≡◌, ◌≢◌, ℕ, ◌+◌, ◌*◌, ◌<◌, ◌≤◌, ◌⊎◌, inl, inr, ⊎_elim, true, false, List, length, set, refl, sym, ap, ◌∙◌, subst, arith, le_refl, if◌then◌else◌}
use Rattle.std.specs.List.{All, sum_by}
use Rattle.std.proofs.lemmas.List.Elements.{All-weaker}
use mathlib.Core.Option.{some}
use mathlib.Core.Logic.{dite}
use native.Mathlib.Decide.{ℕ_discrete}
use lib.ListN.{get_elem?}
use Rattle.atomic_table.specs.Table.{State}
use Rattle.atomic_table.proofs.Lists.{exchanged}
use Rattle.nj_claims.specs.declared.view.View.{View}
use Rattle.nj_claims.specs.declared.view.Opening.{Opening}
use Rattle.nj_claims.specs.declared.view.Flight.{Flight}
use Rattle.nj_claims.specs.declared.view.Flight.TheVariants.{Idle, Looking, Found}
use Rattle.nj_claims.specs.Tables.{no_owner, key_at, owner_at, slot_from, IsPlaced}
use Rattle.nj_claims.specs.Rule.{Reaches, HoldsOther, IsFullFor, FitsFlight, Fits, Somewhere, HasFound, Brings, Claims, Opens, Stems, Stays, living_count, Holds}
use Rattle.nj_claims.proofs.Slots.{slot-inside}
use Rattle.nj_claims.proofs.Views.{same_at, set_at, sum_set, moved, all_seats, stems_on}

-- a slot that holds a key keeps it, with an owner that only falls
pub record Grows (n : ℕ) (words words' : List ℕ) : Type 0 where
  pub keys : (i : ℕ) → i < n → key_at words i ≢ 0 → key_at words' i ≡ key_at words i
  pub owners : (i : ℕ) → i < n → key_at words i ≢ 0 → owner_at words' i ≤ owner_at words i

pub same_words : (n : ℕ) (words : List ℕ) → Grows n words words
same_words n words = record { keys = λ i l t. refl; owners = λ i l t. le_refl (owner_at words i) }

pub reaches_on : (n : ℕ) (W X : List ℕ) → Grows n W X → (key number : ℕ) → Reaches n W key number
    → Reaches n X key number
reaches_on n W X g key number r = let taken : key_at W r.slot ≢ 0 = λ e. r.some_key (sym r.held ∙ e) in
    let low : owner_at X r.slot ≤ owner_at W r.slot = g.owners r.slot r.inside taken in
    let lower : owner_at W r.slot ≤ number = r.owned in record {
      some_key = r.some_key;
      named = r.named;
      slot = r.slot;
      inside = r.inside;
      held = g.keys r.slot r.inside taken ∙ r.held;
      owned = omega arith;
    }

pub other_on : (n : ℕ) (W X : List ℕ) → Grows n W X → (key slot : ℕ) → slot < n → HoldsOther W key slot
    → HoldsOther X key slot
other_on n W X g key slot l h =
    let e = g.keys slot l h.taken in record { taken = λ z. h.taken (sym e ∙ z); other = λ z. h.other (sym e ∙ z) }

flight_on : (n : ℕ) (W X : List ℕ) → 0 < n → Grows n W X → (f : Flight) → FitsFlight n W f → FitsFlight n X f
flight_on n W X pos g Idle h = tt
flight_on n W X pos g (Looking key depth) h =
    λ d l. other_on n W X g key (slot_from n key d) (slot-inside n key d pos) (h d l)
flight_on n W X pos g (Found key slot) h = (h.0, h.1, g.keys slot h.1 (λ z. h.0 (sym h.2 ∙ z)) ∙ h.2)

-- what a view knows stays true
pub fits_on : (n : ℕ) (W X : List ℕ) → 0 < n → Grows n W X → (v : View) → Fits n W v → Fits n X v
fits_on n W X pos g v f = record {
  claims = All-weaker (λ c. Reaches n W c.0 c.1) (λ c. Reaches n X c.0 c.1) (λ c r. reaches_on n W X g c.0 c.1 r)
      v.claims f.claims;
  seen = All-weaker (λ c. Reaches n W c.0 c.1) (λ c. Reaches n X c.0 c.1) (λ c r. reaches_on n W X g c.0 c.1 r)
      v.seen f.seen;
  full = All-weaker (IsFullFor n W) (IsFullFor n X) (λ k h slot l. other_on n W X g k slot l (h slot l)) v.full f.full;
  flight = flight_on n W X pos g v.flight f.flight;
}

-- What a step owes the rule, by which the words and the view of one seat change.
pub record Owes (o : Opening) (s : State ℕ View) (id : ℕ) (v : View) (words : List ℕ) (w : View) : Type 0 where
  pub wide : length words ≡ length s.words
  pub placed : IsPlaced o.slots words
  pub grows : Grows o.slots s.words words
  pub claims : (key number : ℕ) → Claims key number v → Claims key number w
  pub brings : (key : ℕ) → Brings key v → Brings key w
  pub fits : Fits o.slots words w
  pub keys : (i : ℕ) → i < o.slots → key_at words i ≢ 0 → (key_at words i ≡ key_at s.words i)
      ⊎ Brings (key_at words i) w
  pub owners : (i : ℕ) → i < o.slots → (owner_at words i ≡ no_owner)
      ⊎ (((key_at words i ≡ key_at s.words i) × (owner_at words i ≡ owner_at s.words i))
      ⊎ Claims (key_at words i) (owner_at words i) w)
  pub told : All (λ c. Stems o (set s.views id w) c.0 c.1) w.seen
  pub living : w.living ≡ v.living
  pub lives : w.living ≡ true
  pub out : w.out ≡ v.out

-- such a step keeps it
pub kept_step : (o : Opening) (s : State ℕ View) (id : ℕ) (v : View) (words : List ℕ) (w : View) → Holds o s
    → get_elem? s.views id ≡ some v
    → Owes o s id v words w → Holds o record { words = words; homes = s.homes; views = set s.views id w }
kept_step o s id v words w h at x = let wide : length s.words ≡ 2 * o.slots = h.wide in
    let on : (key owner : ℕ) → Somewhere s.views (Claims key owner) → Somewhere (set s.views id w) (Claims key owner) =
    λ key owner p.
    moved s.views id v w (Claims key owner) at (x.claims key owner) p in
    let stems : (key owner : ℕ) → Stems o s.views key owner → Stems o (set s.views id w) key owner =
    λ key owner. stems_on o s.views (set s.views id w) key owner (on key owner) in
    let here : get_elem? (set s.views id w) id ≡ some w = set_at s.views id w v at in record {
      some_slot = h.some_slot;
      wide = x.wide ∙ h.wide;
      small = h.small;
      placed = x.placed;
      stays = λ i l taken. let a = h.stays i l taken in let held : key_at s.words i ≢ 0 = λ z. taken (sym a.key ∙ z) in
          let low : owner_at words i ≤ owner_at s.words i = x.grows.owners i l held in
          let lower : owner_at s.words i ≤ owner_at o.words.items i = a.owner in
          record { key = x.grows.keys i l held ∙ a.key; owner = omega arith };
      known = λ i l taken. ⊎_elim
          (λ (e : key_at words i ≡ key_at s.words i). let P : ℕ → Type 0 = λ key. (key_at o.words.items i ≡ key)
          ⊎ Somewhere (set s.views id w) (Brings key) in
          subst P (sym e) (⊎_elim (λ (a : key_at o.words.items i ≡ key_at s.words i). inl a)
          (λ (b : Somewhere s.views (Brings (key_at s.words i))).
          inr (moved s.views id v w (Brings (key_at s.words i)) at (x.brings (key_at s.words i)) b))
          (h.known i l (λ z. taken (e ∙ z)))))
          (λ (b : Brings (key_at words i) w). inr record { seat = id; view = w; there = here; has = b })
          (x.keys i l taken);
      owned = λ i l. ⊎_elim (λ (e : owner_at words i ≡ no_owner). inl e)
          (λ (r : ((key_at words i ≡ key_at s.words i) × (owner_at words i ≡ owner_at s.words i))
          ⊎ Claims (key_at words i) (owner_at words i) w). ⊎_elim
          (λ (e : (key_at words i ≡ key_at s.words i) × (owner_at words i ≡ owner_at s.words i)).
          let P : ℕ × ℕ → Type 0 = λ z. (z.1 ≡ no_owner) ⊎ Stems o (set s.views id w) z.0 z.1 in
          subst P (λ j. (sym e.0 j, sym e.1 j)) (⊎_elim (λ (a : owner_at s.words i ≡ no_owner). inl a)
          (λ (b : Stems o s.views (key_at s.words i) (owner_at s.words i)).
          inr (stems (key_at s.words i) (owner_at s.words i) b)) (h.owned i l)))
          (λ (c : Claims (key_at words i) (owner_at words i) w).
          inr (inr record { seat = id; view = w; there = here; has = c })) r)
          (x.owners i l);
      fits = all_seats (λ j u. Fits o.slots words u) s.views id w x.fits
          (λ j u ne e. fits_on o.slots s.words words h.some_slot x.grows u (h.fits j u e));
      told = all_seats (λ j u. All (λ c. Stems o (set s.views id w) c.0 c.1) u.seen) s.views id w x.told
          (λ j u ne e. All-weaker (λ c. Stems o s.views c.0 c.1) (λ c. Stems o (set s.views id w) c.0 c.1)
          (λ c t. stems c.0 c.1 t) u.seen (h.told j u e));
      spent = all_seats (λ j u. u.living ≡ false → u ≡ Rattle.nj_claims.specs.Rule.spent_view) s.views id w
          (λ dead. absurd (let lives : w.living ≡ true = x.lives in cc)) (λ j u ne e. h.spent j u e);
      counted = let sum : sum_by living_count (set s.views id w) + living_count v ≡ sum_by living_count s.views +
          living_count w = sum_set living_count s.views id w v at in
          let one : living_count w ≡ living_count v = ap (λ b. if b then 1 else 0) x.living in
          let total : sum_by living_count (set s.views id w) ≡ sum_by living_count s.views = omega arith in
          λ u e. dite (ℕ_discrete 0 id)
          (λ (z : 0 ≡ id). let is : u ≡ w =
          same_at (set s.views id w) id u w (subst (λ i. get_elem? (set s.views id w) i ≡ some u) z e) here in
          let c : sum_by living_count s.views ≡ 1 + v.out =
          h.counted v (subst (λ i. get_elem? s.views i ≡ some v) (sym z) at) in
          total ∙ (c ∙ ap (λ k. 1 + k) (sym x.out ∙ ap (λ (y : View). y.out) (sym is))))
          (λ ne. total ∙ h.counted u (sym (Rattle.atomic_table.proofs.Lists.set_else s.views id 0 w ne) ∙ e));
    }
