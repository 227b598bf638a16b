-- The three steps of a claim keep the rule: a load of a key word, a try to put the key, and the owner's step.
use Rattle.std.proofs.Common.{◌≡◌, ◌≢◌, ℕ, zero, suc, ◌+◌, ◌*◌, ◌<◌, ◌≤◌, ◌==◌, eqb, min, inl, inr, ⊎_elim, true, false, Bool, List, [], ◌∷◌, ◌++◌, get_or, set, refl, sym, ap, ◌∙◌, subst, arith, length-set, eq-eqb, ne_eqb, le_refl, if◌then◌else◌}
use Rattle.std.specs.List.{All, Contains}
use Rattle.std.proofs.lemmas.List.Elements.{All-push, All-weaker, Contains-append_left, Contains-push}
use mathlib.Core.Option.{some}
use mathlib.Core.Logic.{dite}
use native.Mathlib.Decide.{ℕ_discrete}
use Rattle.std.proofs.lemmas.Bool.{cases_lt}
use lib.ListN.{get_elem?}
use lib.Seq.{set-get_or}
use prog.Atomic.{either}
use Rattle.atomic_table.specs.Table.{State, Me, keeps, stepped, Allows}
use Rattle.nj_claims.specs.declared.view.View.{View}
use Rattle.nj_claims.specs.declared.view.Opening.{Opening}
use Rattle.nj_claims.specs.declared.view.Flight.{Flight}
use Rattle.nj_claims.specs.declared.view.Flight.TheVariants.{Idle, Found}
use Rattle.nj_claims.specs.Tables.{no_owner, key_at, owner_at, slot_from, IsPlaced}
use Rattle.nj_claims.specs.Places.{ArePassed}
use Rattle.atomic_table.specs.Seated.{TableId}
use Rattle.nj_claims.specs.Boards.{HasFirst, IsBoard}
use Rattle.nj_claims.specs.Rule.{Reaches, HoldsOther, IsFullFor, FitsFlight, Fits, HasFound, Brings, Claims, Opens, Stems, Holds}
use Rattle.nj_claims.specs.Steps.{looking, with_flight, passed, probed, after_look, after_put, after_own, Owns}
use Rattle.nj_claims.proofs.Slots.{slot-inside, each_slot, put_placed, own_placed, key_at-set_owner, owner_at-set_key, key_at-set_same, key_at-set_other, owner_at-set_same, owner_at-set_other}
use Rattle.nj_claims.proofs.Views.{set_at, moved, stems_on}
use Rattle.nj_claims.proofs.Keeping.{Grows, same_words, fits_on, Owes, kept_step}

-- a walk over so many slots is what a flight says of them
pub fits_looking : (n : ℕ) (W : List ℕ) (key depth : ℕ) → ArePassed n W key depth → FitsFlight n W (looking key depth)
fits_looking n W key zero h = tt
fits_looking n W key (suc depth) h = h

pub looking_fits : (n : ℕ) (W : List ℕ) (key depth : ℕ) → FitsFlight n W (looking key depth) → ArePassed n W key depth
looking_fits n W key zero h = λ d l. absurd (omega arith)
looking_fits n W key (suc depth) h = h

looking_not_found : (k key depth : ℕ) → HasFound k (looking key depth) → ⊥
looking_not_found k key zero h = h
looking_not_found k key (suc depth) h = h

-- a view that brings a key by its claims alone brings it as long as they stay
looking_brings : (k key depth : ℕ) (v w : View) → v.flight ≡ looking key depth → w.claims ≡ v.claims → Brings k v
    → Brings k w
looking_brings k key depth v w flight same b = ⊎_elim
    (λ (a : (number : ℕ) × Contains v.claims (k, number)). inl (a.0, subst (λ cs. Contains cs (k, a.0)) (sym same) a.1))
    (λ (f : HasFound k v.flight). absurd (looking_not_found k key depth (subst (HasFound k) flight f))) b

-- what a walk leaves of a view as it is
pub record IsAsBefore (v w : View) : Type 0 where
  pub claims : w.claims ≡ v.claims
  pub seen : w.seen ≡ v.seen
  pub living : w.living ≡ v.living
  pub out : w.out ≡ v.out

before_if : (b : Bool) (key : ℕ) (f : Flight) (v : View)
    → IsAsBefore v (if b then record v { full = v.full ++ key ∷ []; flight = Idle } else with_flight f v)
before_if true key f v = record { claims = refl; seen = refl; living = refl; out = refl }
before_if false key f v = record { claims = refl; seen = refl; living = refl; out = refl }

pub before_probed : (n key depth : ℕ) (b : Bool) (v : View) → IsAsBefore v (probed n key depth b v)
before_probed n key depth true v = record { claims = refl; seen = refl; living = refl; out = refl }
before_probed n key depth false v = before_if (depth + 1 == n) key (looking key (depth + 1)) v

fits_found : (n : ℕ) (W : List ℕ) (key slot : ℕ) (v : View) → Fits n W v → key ≢ 0 → slot < n → key_at W slot ≡ key
    → Fits n W (with_flight (Found key slot) v)
fits_found n W key slot v f some_key inside held =
    record { claims = f.claims; seen = f.seen; full = f.full; flight = (some_key, inside, held) }

fits_passed : (n : ℕ) (W : List ℕ) (key depth : ℕ) (v : View) → Fits n W v → ArePassed n W key depth
    → Fits n W (passed n key depth v)
fits_passed n W key depth v f h = dite (ℕ_discrete depth n)
    (λ e. subst (λ b. Fits n W (if b then record v { full = v.full ++ key ∷ []; flight = Idle }
    else with_flight (looking key depth) v)) (sym (eq-eqb depth n e)) record {
      claims = f.claims;
      seen = f.seen;
      full = All-push (IsFullFor n W) v.full key f.full (λ slot l. let at = each_slot n key slot l in
          let ld : at.0 < n = at.1 in let d : ℕ = at.0 in subst (HoldsOther W key) at.2 (h d (omega arith)));
      flight = tt;
    })
    (λ ne. subst (λ b. Fits n W (if b then record v { full = v.full ++ key ∷ []; flight = Idle }
    else with_flight (looking key depth) v)) (sym (ne_eqb depth n ne)) record {
      claims = f.claims;
      seen = f.seen;
      full = f.full;
      flight = fits_looking n W key depth h;
    })

-- a slot that is not empty is the key's, or one more is passed
fits_probed : (n : ℕ) (W : List ℕ) (key depth held : ℕ) (v : View) → Fits n W v → key ≢ 0 → depth < n
    → v.flight ≡ looking key depth
    → held ≡ key_at W (slot_from n key depth) → held ≢ 0 → Fits n W (probed n key depth (held == key) v)
fits_probed n W key depth held v f some_key near flight is taken =
    let p : ℕ = slot_from n key depth in dite (ℕ_discrete held key)
    (λ e. subst (λ b. Fits n W (probed n key depth b v)) (sym (eq-eqb held key e))
    (fits_found n W key p v f some_key (slot-inside n key depth (omega arith)) (sym is ∙ e)))
    (λ ne. subst (λ b. Fits n W (probed n key depth b v)) (sym (ne_eqb held key ne))
    (fits_passed n W key (depth + 1) v f (λ d l. dite (ℕ_discrete d depth)
    (λ e. subst (λ x. HoldsOther W key (slot_from n key x)) (sym e) record {
      taken = λ z. taken (is ∙ z);
      other = λ z. ne (is ∙ z);
    })
    (λ no. looking_fits n W key depth (subst (FitsFlight n W) flight f.flight) d (omega arith)))))

-- a step that changes no word, and of the view no more than its flight and the refused keys
still : (o : Opening) (s : State ℕ View) (id i key depth : ℕ) (v w : View) → Holds o s → get_elem? s.views id ≡ some v
    → v.flight ≡ looking key depth → v.living ≡ true
    → IsAsBefore v w → Fits o.slots s.words w
    → Holds o record { words = set s.words i (get_or s.words i 0); homes = s.homes; views = set s.views id w }
still o s id i key depth v w h at flight lives same fits =
    subst (λ (ws : List ℕ). Holds o record { words = ws; homes = s.homes; views = set s.views id w })
    (sym (set-get_or s.words i 0)) (kept_step o s id v s.words w h at record {
      wide = refl;
      placed = h.placed;
      grows = same_words o.slots s.words;
      claims = λ k m c. subst (λ cs. Contains cs (k, m)) (sym same.claims) c;
      brings = λ k b. looking_brings k key depth v w flight same.claims b;
      fits = fits;
      keys = λ i l t. inl refl;
      owners = λ i l. inr (inl (refl, refl));
      told = let on : (k m : ℕ) → Stems o s.views k m → Stems o (set s.views id w) k m =
          λ k m. stems_on o s.views (set s.views id w) k m
          (moved s.views id v w (Claims k m) at (λ c. subst (λ cs. Contains cs (k, m)) (sym same.claims) c)) in
          subst (λ cs. All (λ c. Stems o (set s.views id w) c.0 c.1) cs) (sym same.seen)
          (All-weaker (λ c. Stems o s.views c.0 c.1) (λ c. Stems o (set s.views id w) c.0 c.1)
          (λ c t. on c.0 c.1 t) v.seen (h.told id v at));
      living = same.living;
      lives = same.living ∙ lives;
      out = same.out;
    })

as_itself : (v : View) → IsAsBefore v v
as_itself v = record { claims = refl; seen = refl; living = refl; out = refl }

-- a load of the next key word
pub look_allowed : (o : Opening) (key depth slots id : ℕ) (me : Me ℕ View) (slot : ℕ) → key ≢ 0 → depth < o.slots
    → slot ≡ slot_from o.slots key depth
    → me.0.flight ≡ looking key depth → me.0.living ≡ true
    → Allows (Holds o) slots id me (2 * slot) (λ x. x) (λ x me'. me' ≡ (after_look o.slots key depth x me.0, me.1))
look_allowed o key depth slots id me slot some_key near is flight lives s h wide at small =
    let held : ℕ = get_or s.words (2 * slot) 0 in let v : View = me.0 in (
      after_look o.slots key depth held v,
      keeps,
      tt,
      dite (ℕ_discrete held 0)
          (λ e. subst (λ b. Holds o (stepped s (2 * slot) held id me.1
          (if b then v else probed o.slots key depth (held == key) v) keeps)) (sym (eq-eqb held 0 e))
          (still o s id (2 * slot) key depth v v h at flight lives (as_itself v) (h.fits id v at)))
          (λ ne. subst (λ b. Holds o (stepped s (2 * slot) held id me.1
          (if b then v else probed o.slots key depth (held == key) v) keeps)) (sym (ne_eqb held 0 ne))
          (still o s id (2 * slot) key depth v (probed o.slots key depth (held == key) v) h at flight lives
          (before_probed o.slots key depth (held == key) v)
          (fits_probed o.slots s.words key depth held v (h.fits id v at) some_key near flight
          (ap (key_at s.words) is) ne))),
      refl,
    )

-- a key that comes into the first empty slot of its walk
put_step : (o : Opening) (s : State ℕ View) (id key depth slot : ℕ) (v : View) → Holds o s
    → get_elem? s.views id ≡ some v → key ≢ 0 → depth < o.slots
    → slot ≡ slot_from o.slots key depth → v.flight ≡ looking key depth → v.living ≡ true → key_at s.words slot ≡ 0
    → Holds o record {
      words = set s.words (2 * slot) key;
      homes = s.homes;
      views = set s.views id (probed o.slots key depth true v);
    }
put_step o s id key depth slot v h at some_key near is flight lives empty =
    let n : ℕ = o.slots in let W : List ℕ = set s.words (2 * slot) key in
    let w : View = probed n key depth true v in
    let inside : slot < n = subst (λ x. x < n) (sym is) (slot-inside n key depth h.some_slot) in
    let here : key_at W slot ≡ key = key_at-set_same s.words n slot key h.wide inside in
    let passed_so = looking_fits n s.words key depth (subst (FitsFlight n s.words) flight (h.fits id v at).flight) in
    let grows : Grows n s.words W = record {
      keys = λ i l taken. key_at-set_other s.words slot key i (λ e. taken (ap (key_at s.words) e ∙ empty));
      owners = λ i l taken. let e : owner_at W i ≡ owner_at s.words i = owner_at-set_key s.words slot key i in
          omega arith;
    } in kept_step o s id v W w h at record {
      wide = length-set s.words (2 * slot) key;
      placed = subst (λ x. IsPlaced n (set s.words (2 * x) key)) (sym is) (put_placed n s.words key depth h.wide
          h.placed some_key near passed_so (ap (key_at s.words) (sym is) ∙ empty));
      grows = grows;
      claims = λ k m c. c;
      brings = λ k b. looking_brings k key depth v w flight refl b;
      fits = subst (λ x. Fits n W (with_flight (Found key x) v)) is
          (fits_found n W key slot v (fits_on n s.words W h.some_slot grows v (h.fits id v at)) some_key inside here);
      keys = λ i l taken. dite (ℕ_discrete i slot)
          (λ e. inr (inr (sym (ap (key_at W) e ∙ here))))
          (λ ne. inl (key_at-set_other s.words slot key i ne));
      owners = λ i l. dite (ℕ_discrete i slot)
          (λ e. inl (owner_at-set_key s.words slot key i ∙ h.placed.bare i l (ap (key_at s.words) e ∙ empty)))
          (λ ne. inr (inl (key_at-set_other s.words slot key i ne, owner_at-set_key s.words slot key i)));
      told = All-weaker (λ c. Stems o s.views c.0 c.1) (λ c. Stems o (set s.views id w) c.0 c.1)
          (λ c t. stems_on o s.views (set s.views id w) c.0 c.1 (moved s.views id v w (Claims c.0 c.1) at (λ x. x)) t)
          v.seen (h.told id v at);
      living = refl;
      lives = lives;
      out = refl;
    }

-- a try to put the key into the next slot
pub put_allowed : (o : Opening) (key depth slots id : ℕ) (me : Me ℕ View) (slot : ℕ) → key ≢ 0 → depth < o.slots
    → slot ≡ slot_from o.slots key depth
    → me.0.flight ≡ looking key depth → me.0.living ≡ true
    → Allows (Holds o) slots id me (2 * slot) (λ x. either (eqb x 0) key x) (λ x me'. me'
    ≡ (after_put o.slots key depth x me.0, me.1))
put_allowed o key depth slots id me slot some_key near is flight lives s h wide at small =
    let held : ℕ = get_or s.words (2 * slot) 0 in let v : View = me.0 in (
      after_put o.slots key depth held v,
      keeps,
      tt,
      dite (ℕ_discrete held 0)
          (λ e.
          subst (λ b. Holds o (stepped s (2 * slot) (either b key held) id me.1 (if b then probed o.slots key depth
          true v else probed o.slots key depth (held == key) v) keeps)) (sym (eq-eqb held 0 e))
          (put_step o s id key depth slot v h at some_key near is flight lives e))
          (λ ne.
          subst (λ b. Holds o (stepped s (2 * slot) (either b key held) id me.1 (if b then probed o.slots key depth
          true v else probed o.slots key depth (held == key) v) keeps)) (sym (ne_eqb held 0 ne))
          (still o s id (2 * slot) key depth v (probed o.slots key depth (held == key) v) h at flight lives
          (before_probed o.slots key depth (held == key) v)
          (fits_probed o.slots s.words key depth held v (h.fits id v at) some_key near flight
          (ap (key_at s.words) is) ne))),
      refl,
    )

-- the owner's step
own_owes : (o : Opening) (s : State ℕ View) (id key number slot x : ℕ) (v : View) → Holds o s
    → get_elem? s.views id ≡ some v → number < no_owner
    → v.flight ≡ Found key slot → v.living ≡ true → x ≡ owner_at s.words slot
    → Owes o s id v (set s.words (2 * slot + 1) (min x number)) (after_own key number x v)
own_owes o s id key number slot x v h at small flight lives is =
    let n : ℕ = o.slots in let m : ℕ = min x number in let W : List ℕ = set s.words (2 * slot + 1) m in
    let w : View = after_own key number x v in let f = h.fits id v at in
    let found : (key ≢ 0) × (slot < n) × (key_at s.words slot ≡ key) = subst (FitsFlight n s.words) flight f.flight in
    let inside : slot < n = found.1 in
    let same : (i : ℕ) → key_at W i ≡ key_at s.words i = λ i. key_at-set_owner s.words slot m i in
    let here : owner_at W slot ≡ m = owner_at-set_same s.words n slot m h.wide inside in
    let else_at : (i : ℕ) → i ≢ slot → owner_at W i ≡ owner_at s.words i =
    λ i ne. owner_at-set_other s.words slot m i ne in
    let grows : Grows n s.words W = record {
      keys = λ i l t. same i;
      owners = λ i l t. dite (ℕ_discrete i slot)
          (λ e. let a : owner_at W i ≡ m = ap (owner_at W) e ∙ here in
          let b : owner_at s.words i ≡ x = ap (owner_at s.words) e ∙ sym is in omega arith)
          (λ ne. let a : owner_at W i ≡ owner_at s.words i = else_at i ne in omega arith);
    } in
    let on = fits_on n s.words W h.some_slot grows v f in
    let mine : (k p : ℕ) → Claims k p v → Claims k p w =
    λ k p c. Contains-append_left v.claims ((key, number) ∷ []) (k, p) c in
    let new : Claims key number w = Contains-push v.claims (key, number) in
    let reach : (p : ℕ) → p < no_owner → m ≤ p → Reaches n W key p = λ p named l. record {
      some_key = found.0;
      named = named;
      slot = slot;
      inside = inside;
      held = same slot ∙ found.2;
      owned = subst (λ (z : ℕ). z ≤ p) (sym here) l;
    } in
    let stems : (k p : ℕ) → Stems o s.views k p → Stems o (set s.views id w) k p =
    λ k p. stems_on o s.views (set s.views id w) k p (moved s.views id v w (Claims k p) at (mine k p)) in record {
      wide = length-set s.words (2 * slot + 1) m;
      placed = own_placed n s.words slot m h.wide h.placed inside (λ z. found.0 (sym found.2 ∙ z));
      grows = grows;
      claims = mine;
      brings = λ k b. ⊎_elim
          (λ (a : (p : ℕ) × Contains v.claims (k, p)). inl (a.0, mine k a.0 a.1))
          (λ (a : HasFound k v.flight). let e : key ≡ k = subst (HasFound k) flight a in
          inl (number, subst (λ (z : ℕ). Claims z number w) e new)) b;
      fits = record {
        claims =
            All-push (λ c. Reaches n W c.0 c.1) v.claims (key, number) on.claims (reach number small (omega arith));
        seen = All-push (λ c. Reaches n W c.0 c.1) v.seen (key, m) on.seen (reach m (omega arith) (le_refl m));
        full = on.full;
        flight = tt;
      };
      keys = λ i l t. inl (same i);
      owners = λ i l. dite (ℕ_discrete i slot)
          (λ e. ⊎_elim
          (λ (lt : x < number). let eq : m ≡ x = omega arith in
          inr (inl (same i, ap (owner_at W) e ∙ (here ∙ (eq ∙ (is ∙ ap (owner_at s.words) (sym e)))))))
          (λ (le : number ≤ x). let eq : m ≡ number = omega arith in
          let k : key_at W i ≡ key = ap (key_at W) e ∙ (same slot ∙ found.2) in
          let p : owner_at W i ≡ number = ap (owner_at W) e ∙ (here ∙ eq) in
          inr (inr (subst (λ (z : ℕ × ℕ). Claims z.0 z.1 w) (λ j. (sym k j, sym p j)) new)))
          (cases_lt x number))
          (λ ne. inr (inl (same i, else_at i ne)));
      told = All-push (λ c. Stems o (set s.views id w) c.0 c.1) v.seen (key, m)
          (All-weaker (λ c. Stems o s.views c.0 c.1) (λ c. Stems o (set s.views id w) c.0 c.1)
          (λ c t. stems c.0 c.1 t) v.seen (h.told id v at))
          (⊎_elim
          (λ (lt : x < number). let eq : m ≡ x = omega arith in
          subst (λ (z : ℕ). Stems o (set s.views id w) key z) (sym eq)
          (⊎_elim (λ (none_yet : owner_at s.words slot ≡ no_owner). absurd (let a : x ≡ no_owner = is ∙ none_yet in
          omega arith))
          (λ (b : Stems o s.views (key_at s.words slot) (owner_at s.words slot)).
          stems key x (subst (λ (z : ℕ × ℕ). Stems o s.views z.0 z.1) (λ j. (found.2 j, sym is j)) b))
          (h.owned slot inside)))
          (λ (le : number ≤ x). let eq : m ≡ number = omega arith in
          subst (λ (z : ℕ). Stems o (set s.views id w) key z) (sym eq)
          (inr record { seat = id; view = w; there = set_at s.views id w v at; has = new }))
          (cases_lt x number));
      living = refl;
      lives = lives;
      out = refl;
    }

-- what the owner's step tells
own_told : (o : Opening) (s : State ℕ View) (id key number most slot x : ℕ) (me : Me ℕ View) → Holds o s
    → get_elem? s.views id ≡ some me.0 → number < no_owner
    → me.0.flight ≡ Found key slot → x ≡ owner_at s.words slot → HasFirst key most o
    → Owns key number most me x (after_own key number x me.0, me.1)
own_told o s id key number most slot x me h at small flight is first =
    let n : ℕ = o.slots in let v : View = me.0 in let f = h.fits id v at in
    let found : (key ≢ 0) × (slot < n) × (key_at s.words slot ≡ key) = subst (FitsFlight n s.words) flight f.flight in
    let only : (i : ℕ) → i < n → key_at s.words i ≡ key → slot ≡ i = λ i l e.
    h.placed.once slot i found.1 l (λ z. found.0 (sym found.2 ∙ z)) (found.2 ∙ sym e) in record {
      view = refl;
      seen = All-weaker (λ c. Reaches n s.words c.0 c.1) (λ c. c.0 ≡ key → min x number ≤ c.1)
          (λ c r e. let there : slot ≡ r.slot = only r.slot r.inside (r.held ∙ e) in
          let low : owner_at s.words r.slot ≤ c.1 = r.owned in
          let same : x ≡ owner_at s.words r.slot = is ∙ ap (owner_at s.words) there in omega arith) v.seen f.seen;
      first = ⊎_elim
          (λ (a : (i : ℕ) × Opens o i key most). let q = a.1 in
          let st = h.stays a.0 q.inside (λ z. q.some_key (sym q.held ∙ z)) in
          let there : slot ≡ a.0 = only a.0 q.inside (st.key ∙ q.held) in
          let same : x ≡ owner_at s.words a.0 = is ∙ ap (owner_at s.words) there in
          let low : owner_at s.words a.0 ≤ owner_at o.words.items a.0 = st.owner in
          let top : owner_at o.words.items a.0 ≡ most = q.owned in omega arith)
          (λ (e : most ≡ no_owner). omega arith) first;
    }

pub own_allowed : (o : Opening) (key number most slots id : ℕ) (me : Me ℕ View) (slot : ℕ) → number < no_owner
    → me.0.flight ≡ Found key slot → me.0.living ≡ true
    → HasFirst key most o → Allows (Holds o) slots id me (2 * slot + 1) (λ x. min x number) (Owns key number most me)
own_allowed o key number most slots id me slot small flight lives first s h wide at narrow =
    let x : ℕ = get_or s.words (2 * slot + 1) 0 in (
      after_own key number x me.0,
      keeps,
      tt,
      kept_step o s id me.0 (set s.words (2 * slot + 1) (min x number)) (after_own key number x me.0) h at
          (own_owes o s id key number slot x me.0 h at small flight lives refl),
      own_told o s id key number most slot x me h at small flight refl first,
    )

-- where the slots are named otherwise
pub look_on : (o : Opening) (n key depth slots id : ℕ) (me : Me ℕ View) (slot : ℕ) → n ≡ o.slots → key ≢ 0 → depth < n
    → slot ≡ slot_from n key depth
    → me.0.flight ≡ looking key depth → me.0.living ≡ true
    → Allows (Holds o) slots id me (2 * slot) (λ x. x) (λ x me'. me' ≡ (after_look n key depth x me.0, me.1))
look_on o n key depth slots id me slot e = subst (λ (m : ℕ). key ≢ 0 → depth < m → slot ≡ slot_from m key depth
    → me.0.flight ≡ looking key depth → me.0.living ≡ true
    → Allows (Holds o) slots id me (2 * slot) (λ x. x) (λ x me'. me' ≡ (after_look m key depth x me.0, me.1))) (sym e)
    (look_allowed o key depth slots id me slot)

pub put_on : (o : Opening) (n key depth slots id : ℕ) (me : Me ℕ View) (slot : ℕ) → n ≡ o.slots → key ≢ 0 → depth < n
    → slot ≡ slot_from n key depth
    → me.0.flight ≡ looking key depth → me.0.living ≡ true
    → Allows (Holds o) slots id me (2 * slot) (λ x. either (eqb x 0) key x) (λ x me'. me'
    ≡ (after_put n key depth x me.0, me.1))
put_on o n key depth slots id me slot e = subst (λ (m : ℕ). key ≢ 0 → depth < m → slot ≡ slot_from m key depth
    → me.0.flight ≡ looking key depth → me.0.living ≡ true
    → Allows (Holds o) slots id me (2 * slot) (λ x. either (eqb x 0) key x) (λ x me'. me'
    ≡ (after_put m key depth x me.0, me.1))) (sym e) (put_allowed o key depth slots id me slot)

-- the words of a slot are within the table's
pub key_word : (n : ℕ) (o : Opening) (id : TableId) (slot : ℕ) → IsBoard n o id → slot < n → 2 * slot < id.words
key_word n o id slot b l = let e : n ≡ o.slots = b.as_opened in let w : id.words ≡ 2 * o.slots = b.words in omega arith

pub owner_word : (n : ℕ) (o : Opening) (id : TableId) (slot : ℕ) → IsBoard n o id → slot < n → 2 * slot + 1 < id.words
owner_word n o id slot b l =
    let e : n ≡ o.slots = b.as_opened in let w : id.words ≡ 2 * o.slots = b.words in omega arith

pub walk_inside : (n key depth slot : ℕ) → depth < n → slot ≡ slot_from n key depth → slot < n
walk_inside n key depth slot l e = subst (λ (x : ℕ). x < n) (sym e) (slot-inside n key depth (omega arith))
