-- What the last words are: all views but the first are spent, so each owner stems from the opening table or from the
-- first pass's claims.
use Rattle.std.proofs.Common.{◌≡◌, ◌≢◌, ℕ, suc, ◌+◌, ◌*◌, ◌/◌, ◌<◌, ◌≤◌, inl, inr, ⊎_elim, true, false, Bool, List, [], ◌∷◌, length, get_or, refl, sym, ap, ◌∙◌, subst, arith, if◌then◌else◌, set, get_or-set_other, get_or-set_same}
use Rattle.std.specs.Prelude.{Option, Some, None, IfSome}
use Rattle.std.specs.List.{All, Contains, sum_by}
use Rattle.std.proofs.lemmas.List.Elements.{All-weaker, All-contains}
use mathlib.Core.Option.{some}
use mathlib.Core.Logic.{dite}
use native.Mathlib.Decide.{ℕ_discrete}
use lib.ListN.{get_elem?}
use Rattle.atomic_table.specs.Table.{State, Final, Seen}
use Rattle.nj_claims.specs.declared.view.View.{View}
use Rattle.nj_claims.specs.declared.view.Opening.{Opening}
use Rattle.nj_claims.specs.declared.view.Flight.TheVariants.{Idle}
use Rattle.nj_claims.specs.Tables.{no_owner, key_at, owner_at, slot_count, IsPlaced, IsTable, owner_in, owner_after}
use Rattle.nj_claims.specs.Passes.{WasOwner, HadNoRoom}
use Rattle.nj_claims.specs.Rule.{Reaches, IsFullFor, Somewhere, HasFound, Brings, Claims, Opens, Stems, spent_view, living_count, Holds}
use Rattle.nj_claims.proofs.Views.{same_at, two_at_most, at_get}
use Rattle.nj_claims.proofs.Mapping.{standing, absent_in, stood, zero_in, all_taken, seek, least_is, none_is, two_each}

-- the last state: the first seat's view lives, is in no flight and has no pass out
pub record IsLast (o : Opening) (s : State ℕ View) (v : View) : Type 0 where
  pub holds : Holds o s
  pub there : get_elem? s.views 0 ≡ some v
  pub lives : v.living ≡ true
  pub idle : v.flight ≡ Idle
  pub none_out : v.out ≡ 0
  pub slots : o.slots ≡ slot_count o.words.items
  pub table : IsTable o.words.items

nowhere : (x : ℕ × ℕ) → Contains [] x → ⊥
nowhere x c = let l : c.0 < 0 = c.1 in omega arith

dead : (b : Bool) → ◌≡◌ {A = ℕ} (if b then 1 else 0) 0 → b ≡ false
dead true e = absurd (omega arith)
dead false e = refl

others_spent : (o : Opening) (s : State ℕ View) (v : View) → IsLast o s v → (j : ℕ) (u : View) → j ≢ 0
    → get_elem? s.views j ≡ some u → u ≡ spent_view
others_spent o s v x j u ne e = let two : living_count v + living_count u ≤ sum_by living_count s.views =
    two_at_most living_count s.views 0 j v u spent_view refl ne x.there e in
    let all : sum_by living_count s.views ≡ 1 + v.out = x.holds.counted v x.there in let out : v.out ≡ 0 = x.none_out in
    let one : living_count v ≡ 1 = ap (λ b. if b then 1 else 0) x.lives in
    let z : living_count u ≡ 0 = omega arith in x.holds.spent j u e (dead u.living z)

root_claims : (o : Opening) (s : State ℕ View) (v : View) → IsLast o s v → (key number : ℕ)
    → Somewhere s.views (Claims key number) → Contains v.claims (key, number)
root_claims o s v x key number p = dite (ℕ_discrete p.seat 0)
    (λ e. subst (λ (u : View). Contains u.claims (key, number))
    (same_at s.views 0 p.view v (subst (λ (i : ℕ). get_elem? s.views i ≡ some p.view) e p.there) x.there) p.has)
    (λ ne. let c : Contains spent_view.claims (key, number) =
    subst (λ (u : View). Contains u.claims (key, number)) (others_spent o s v x p.seat p.view ne p.there) p.has in
    absurd (nowhere (key, number) c))

root_brings : (o : Opening) (s : State ℕ View) (v : View) → IsLast o s v → (key : ℕ) → Somewhere s.views (Brings key)
    → (number : ℕ) × Contains v.claims (key, number)
root_brings o s v x key p = dite (ℕ_discrete p.seat 0)
    (λ e. let b : Brings key v = subst (Brings key)
    (same_at s.views 0 p.view v (subst (λ (i : ℕ). get_elem? s.views i ≡ some p.view) e p.there) x.there) p.has in
    ⊎_elim (λ (a : (number : ℕ) × Contains v.claims (key, number)). a) (λ (f : HasFound key v.flight).
    absurd (let z : HasFound key Idle = subst (HasFound key) x.idle f in z)) b)
    (λ ne. let b : Brings key spent_view = subst (Brings key) (others_spent o s v x p.seat p.view ne p.there) p.has in
    ⊎_elim (λ (a : (number : ℕ) × Contains spent_view.claims (key, number)). absurd (nowhere (key, a.0) a.1))
    (λ (f : HasFound key spent_view.flight). absurd f) b)

opened : (o : Opening) (s : State ℕ View) (v : View) → IsLast o s v → length o.words.items ≡ 2 * o.slots
opened o s v x = two_each o.words.items x.table ∙ ap (λ (n : ℕ). 2 * n) (sym x.slots)

placed : (o : Opening) (s : State ℕ View) (v : View) → IsLast o s v → IsPlaced o.slots o.words.items
placed o s v x = subst (λ (n : ℕ). IsPlaced n o.words.items) (sym x.slots) x.table.placed

-- a key that stands in the opening table has the owner of its slot there
opens : (o : Opening) (s : State ℕ View) (v : View) → IsLast o s v → (slot key owner : ℕ) → Opens o slot key owner
    → owner_in o.words.items key ≡ Some owner
opens o s v x slot key owner p =
    standing o.slots o.words.items key slot (opened o s v x) (placed o s v x) p.some_key p.inside p.held
    ∙ ap (λ (y : ℕ). Some y) p.owned

-- the owner of a key that stands
stands : (o : Opening) (s : State ℕ View) (v : View) → IsLast o s v → (key i : ℕ) → key ≢ 0 → i < o.slots
    → key_at s.words i ≡ key
    → owner_in s.words key ≡ owner_after key (owner_in o.words.items key) v.claims
stands o s v x key i real inside held =
    let h = x.holds in let n : ℕ = o.slots in let m : ℕ = owner_at s.words i in let f = h.fits 0 v x.there in
    let only : (j : ℕ) → j < n → key_at s.words j ≡ key → j ≡ i =
    λ j l e. h.placed.once j i l inside (λ z. real (sym e ∙ z)) (e ∙ sym held) in
    let reached : (c : ℕ × ℕ) → Reaches n s.words c.0 c.1 → c.0 ≡ key → m ≤ c.1 = λ c r e. let same =
    only r.slot r.inside (r.held ∙ e) in
    subst (λ (j : ℕ). owner_at s.words j ≤ c.1) same r.owned in
    standing n s.words key i h.wide h.placed real inside held
    ∙ sym (least_is key (owner_in o.words.items key) v.claims m
    (bound (owner_in o.words.items key) refl)
    (All-weaker (λ c. Reaches n s.words c.0 c.1) (λ c. c.0 ≡ key → m ≤ c.1) reached v.claims f.claims)
    (⊎_elim
    (λ (none_yet : m ≡ no_owner). ⊎_elim
    (λ (e : key_at o.words.items i ≡ key_at s.words i). let first : key_at o.words.items i ≡ key = e ∙ held in
    let st = h.stays i inside (λ z. real (sym first ∙ z)) in let low : m ≤ owner_at o.words.items i = st.owner in
    let top : owner_at o.words.items i ≤ no_owner = h.small i inside in
    inl (standing n o.words.items key i (opened o s v x) (placed o s v x) real inside first
    ∙ ap (λ (y : ℕ). Some y) (let eq : owner_at o.words.items i ≡ m = omega arith in eq)))
    (λ (b : Somewhere s.views (Brings (key_at s.words i))). let p = root_brings o s v x (key_at s.words i) b in
    let r : Reaches n s.words (key_at s.words i) p.0 =
    All-contains (λ c. Reaches n s.words c.0 c.1) v.claims (key_at s.words i, p.0) f.claims p.1 in
    let low : m ≤ p.0 = reached (key_at s.words i, p.0) r held in let named : p.0 < no_owner = r.named in
    absurd (omega arith))
    (h.known i inside (λ z. real (sym held ∙ z))))
    (λ (st : Stems o s.views (key_at s.words i) m). ⊎_elim
    (λ (p : (slot : ℕ) × Opens o slot (key_at s.words i) m).
    inl (subst (λ (k : ℕ). owner_in o.words.items k ≡ Some m) held (opens o s v x p.0 (key_at s.words i) m p.1)))
    (λ (p : Somewhere s.views (Claims (key_at s.words i) m)).
    inr (subst (λ (k : ℕ). Contains v.claims (k, m)) held (root_claims o s v x (key_at s.words i) m p))) st)
    (h.owned i inside))) where
      bound : (y : Option ℕ) → owner_in o.words.items key ≡ y → IfSome y (λ z. owner_at s.words i ≤ z)
      bound None e = tt
      bound (Some first) e = let h = x.holds in let a = stood o.slots o.words.items key first (opened o s v x) e in
          let st = h.stays a.slot a.inside (λ z. real (sym a.held ∙ z)) in
          let low : owner_at s.words a.slot ≤ owner_at o.words.items a.slot = st.owner in
          let same : a.slot ≡ i = h.placed.once a.slot i a.inside inside (λ z. real (sym (st.key ∙ a.held) ∙ z)) (st.key
          ∙ (a.held ∙ sym held)) in
          let now : owner_at s.words a.slot ≡ owner_at s.words i = ap (owner_at s.words) same in
          let top : owner_at o.words.items a.slot ≡ first = a.owned in omega arith

-- a key that stands in no slot
stands_not : (o : Opening) (s : State ℕ View) (v : View) → IsLast o s v → (key : ℕ) → key ≢ 0
    → ((i : ℕ) → i < o.slots → key_at s.words i ≢ key)
    → owner_in s.words key ≡ owner_after key (owner_in o.words.items key) v.claims
stands_not o s v x key real none = let h = x.holds in let n : ℕ = o.slots in let f = h.fits 0 v x.there in
    absent_in n s.words key h.wide none ∙ sym (ap (λ (y : Option ℕ). owner_after key y v.claims)
    (absent_in n o.words.items key (opened o s v x) (λ i l e. none i l ((h.stays i l (λ z. real (sym e ∙ z))).key ∙ e)))
    ∙ none_is key v.claims (All-weaker (λ c. Reaches n s.words c.0 c.1) (λ c. c.0
    ≢ key) (λ c r e. none r.slot r.inside (r.held ∙ e)) v.claims f.claims))

-- each owner at the end is the least of the opening owner and the numbers claimed
pub closed_owner : (o : Opening) (s : State ℕ View) (v : View) → IsLast o s v → (key : ℕ)
    → owner_in s.words key ≡ owner_after key (owner_in o.words.items key) v.claims
closed_owner o s v x key =
    let h = x.holds in let n : ℕ = o.slots in let f = h.fits 0 v x.there in dite (ℕ_discrete key 0)
    (λ z. subst (λ (k : ℕ). owner_in s.words k ≡ owner_after k (owner_in o.words.items k) v.claims) (sym z)
    (zero_in n s.words h.wide
    ∙ sym (ap (λ (y : Option ℕ). owner_after 0 y v.claims) (zero_in n o.words.items (opened o s v x))
    ∙ none_is 0 v.claims
    (All-weaker (λ c. Reaches n s.words c.0 c.1) (λ c. c.0 ≢ 0) (λ c r. r.some_key) v.claims f.claims))))
    (λ real. ⊎_elim (λ (p : (slot : ℕ) × (slot < n) × (key_at s.words slot ≡ key)). stands o s v x key p.0 real p.1 p.2)
    (λ (none : (i : ℕ) → i < n → key_at s.words i ≢ key). stands_not o s v x key real none) (seek n s.words key))

-- each number seen for a key was its owner, and the last owner is at most it
pub closed_seen : (o : Opening) (s : State ℕ View) (v : View) → IsLast o s v
    → All (λ c. WasOwner o.words.items s.words v.claims c.0 c.1) v.seen
closed_seen o s v x = let h = x.holds in λ k d l.
    was (get_or v.seen k d).0 (get_or v.seen k d).1 ((h.fits 0 v x.there).seen k d l) (h.told 0 v x.there k d l) where
      was : (key number : ℕ) → Reaches o.slots s.words key number → Stems o s.views key number
          → WasOwner o.words.items s.words v.claims key number
      was key number r st = record {
        bound = (
          owner_at s.words r.slot,
          standing o.slots s.words key r.slot x.holds.wide x.holds.placed r.some_key r.inside r.held,
          r.owned,
        );
        source = ⊎_elim (λ (p : (slot : ℕ) × Opens o slot key number). inl (opens o s v x p.0 key number p.1))
            (λ (p : Somewhere s.views (Claims key number)). inr (root_claims o s v x key number p)) st;
      }

-- where a claim found no room, no slot is empty and none has the key
pub closed_full : (o : Opening) (s : State ℕ View) (v : View) → IsLast o s v → All (HadNoRoom s.words) v.full
closed_full o s v x = let h = x.holds in let n : ℕ = o.slots in let wide : length s.words ≡ 2 * n = h.wide in
    All-weaker (IsFullFor n s.words) (HadNoRoom s.words) (λ key full. record {
      full = all_taken n s.words h.wide (λ i l. (full i l).taken) ∙ (let e : n ≡ length s.words / 2 = omega arith in e);
      absent = absent_in n s.words key h.wide (λ i l. (full i l).other);
    }) v.full (h.fits 0 v x.there).full

pub closed_size : (o : Opening) (s : State ℕ View) (v : View) → IsLast o s v → length s.words ≡ length o.words.items
closed_size o s v x = x.holds.wide ∙ sym (opened o s v x)

pub closed_table : (o : Opening) (s : State ℕ View) (v : View) → IsLast o s v → IsTable s.words
closed_table o s v x = let size = closed_size o s v x in record {
  size = (x.table.size.0, size ∙ x.table.size.1);
  placed = subst (λ (n : ℕ). IsPlaced n s.words) (x.slots ∙ ap (λ (n : ℕ). n / 2) (sym size)) x.holds.placed;
}

-- what the last words are
pub record AreLast (opening : List ℕ) (claims seen : List (ℕ × ℕ)) (full words : List ℕ) : Type 0 where
  pub table : IsTable words
  pub owners : (key : ℕ) → owner_in words key ≡ owner_after key (owner_in opening key) claims
  pub seen_then : All (λ c. WasOwner opening words claims c.0 c.1) seen
  pub no_room : All (HadNoRoom words) full

same_list : (xs ys : List ℕ) → length xs ≡ length ys → ((k : ℕ) → k < length xs → get_or xs k 0 ≡ get_or ys k 0)
    → xs ≡ ys
same_list [] [] e h = refl
same_list [] (y ∷ ys) e h = absurd (omega arith)
same_list (x ∷ xs) [] e h = absurd (omega arith)
same_list (x ∷ xs) (y ∷ ys) e h =
    λ i. h 0 (omega arith) i ∷ same_list xs ys (omega arith) (λ k l. h (suc k) (omega arith)) i

-- the words that are copied from the last state
pub closes : (o key : Opening) (id : ℕ) (v : View) (last words others : List ℕ) → key ≡ o
    → o.slots ≡ slot_count o.words.items → IsTable o.words.items → id ≡ 0
    → v.living ≡ true → v.flight ≡ Idle → v.out ≡ 0 → Final {S = ℕ} (Seen (Holds key) id v) last others
    → length words ≡ length o.words.items
    → ((k : ℕ) → k < length words → get_or words k 0 ≡ get_or last k 0)
    → AreLast o.words.items v.claims v.seen v.full words
closes o key id v last words others is slots table root lives idle out final size copied =
    let s : State ℕ View = final.0 in
    let h : Holds o s = subst (λ (k : Opening). Holds k s) is final.1.0 in
    let x : IsLast o s v = record {
      holds = h;
      there = subst (λ (i : ℕ). get_elem? s.views i ≡ some v) root final.1.1;
      lives = lives;
      idle = idle;
      none_out = out;
      slots = slots;
      table = table;
    } in
    let same : s.words ≡ last = final.2 in let long : length s.words ≡ length o.words.items = closed_size o s v x in
    let now : words ≡ last = same_list words last (size ∙ (sym long ∙ ap length same)) copied in
    subst (λ (ws : List ℕ). AreLast o.words.items v.claims v.seen v.full ws) (same ∙ sym now) record {
      table = closed_table o s v x;
      owners = closed_owner o s v x;
      seen_then = closed_seen o s v x;
      no_room = closed_full o s v x;
    }

-- one word more is copied
pub copied_one : (words last : List ℕ) (i x : ℕ) → i < length words → get_elem? last i ≡ some x
    → ((k : ℕ) → k < i → get_or words k 0 ≡ get_or last k 0)
    → (k : ℕ) → k < i + 1 → get_or (set words i x) k 0 ≡ get_or last k 0
copied_one words last i x inside found copied k l = dite (ℕ_discrete k i)
    (λ e. ap (λ (j : ℕ). get_or (set words i x) j 0) e ∙ (get_or-set_same words i x 0 inside
    ∙ (sym (at_get last i x 0 found) ∙ ap (λ (j : ℕ). get_or last j 0) (sym e))))
    (λ ne. get_or-set_other words i k x 0 ne ∙ copied k (omega arith))
