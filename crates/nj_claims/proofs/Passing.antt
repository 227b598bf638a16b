-- A further pass, and one that comes back, keep the rule.
use Rattle.std.proofs.Common.{◌≡◌, ℕ, zero, suc, ◌+◌, ◌-◌, ◌*◌, ◌<◌, ◌≤◌, inl, inr, ⊎_elim, true, false, List, [], ◌∷◌, ◌++◌, length, get_or, set, refl, sym, ap, ◌∙◌, subst, arith, if◌then◌else◌, ◌==◌, ne_eqb, ◌^◌}
use Rattle.std.specs.List.{All, Contains, sum_by}
use Rattle.std.proofs.lemmas.List.Sums.{sum_by_push}
use Rattle.std.proofs.lemmas.List.Elements.{All-nil, All-append, All-weaker, Contains-append_left, Contains-append_right}
use mathlib.Core.Option.{some, some-injective, some-ne-none}
use mathlib.Core.Logic.{dite}
use native.Mathlib.Decide.{ℕ_discrete}
use lib.ListN.{get_elem?}
use Rattle.atomic_table.specs.Table.{State, Splits, Joins, opening}
use Rattle.atomic_table.specs.Seated.{TableId}
use Rattle.nj_claims.specs.Boards.{IsBoard}
use Rattle.atomic_table.proofs.Lists.{at_snoc, at_longer, set_else}
use Rattle.nj_claims.specs.declared.view.View.{View}
use Rattle.nj_claims.specs.declared.view.Opening.{Opening}
use Rattle.nj_claims.specs.declared.view.Flight.TheVariants.{Idle}
use Rattle.nj_claims.specs.Tables.{no_owner, key_at, owner_at, slot_count, IsTable, IsPlaced}
use Rattle.nj_claims.proofs.Mapping.{two_each, some_slot}
use Rattle.nj_claims.specs.Rule.{first_view, Fits, Reaches, IsFullFor, Somewhere, HasFound, Brings, Claims, Stems, spent_view, living_count, Holds}
use Rattle.nj_claims.specs.Steps.{lent_view, given_view, joined_view}
use Rattle.nj_claims.proofs.Views.{same_at, set_at, sum_set, at_most_sum, moved, longer, merged, all_seats, stems_on}

-- What a change of the views alone owes.
pub record Rearranges (o : Opening) (s : State ℕ View) (views : List View) : Type 0 where
  pub claims : (key number : ℕ) → Somewhere s.views (Claims key number) → Somewhere views (Claims key number)
  pub brings : (key : ℕ) → Somewhere s.views (Brings key) → Somewhere views (Brings key)
  pub fits : (j : ℕ) (u : View) → get_elem? views j ≡ some u → Fits o.slots s.words u
  pub told : (j : ℕ) (u : View) → get_elem? views j ≡ some u → All (λ c. Stems o s.views c.0 c.1) u.seen
  pub spent : (j : ℕ) (u : View) → get_elem? views j ≡ some u → u.living ≡ false → u ≡ spent_view
  pub counted : (u : View) → get_elem? views 0 ≡ some u → sum_by living_count views ≡ 1 + u.out

rearranged : (o : Opening) (s : State ℕ View) (views : List View) → Holds o s → Rearranges o s views
    → Holds o record { words = s.words; homes = s.homes; views = views }
rearranged o s views h x = let stems : (key owner : ℕ) → Stems o s.views key owner → Stems o views key owner =
    λ key owner. stems_on o s.views views key owner (x.claims key owner) in record {
      some_slot = h.some_slot;
      wide = h.wide;
      small = h.small;
      placed = h.placed;
      stays = h.stays;
      known = λ i l taken. ⊎_elim (λ (a : key_at o.words.items i ≡ key_at s.words i). inl a)
          (λ (b : Somewhere s.views (Brings (key_at s.words i))). inr (x.brings (key_at s.words i) b))
          (h.known i l taken);
      owned = λ i l. ⊎_elim (λ (a : owner_at s.words i ≡ no_owner). inl a)
          (λ (b : Stems o s.views (key_at s.words i) (owner_at s.words i)).
          inr (stems (key_at s.words i) (owner_at s.words i) b)) (h.owned i l);
      fits = x.fits;
      told = λ j u e.
          All-weaker (λ c. Stems o s.views c.0 c.1) (λ c. Stems o views c.0 c.1) (λ c t. stems c.0 c.1 t) u.seen
          (x.told j u e);
      spent = x.spent;
      counted = x.counted;
    }

-- a further pass
pub splits : (o : Opening) (v : View) → v.living ≡ true → Splits (Holds o) 0 v (lent_view v) (given_view v)
splits o v lives s h at = let n : ℕ = o.slots in let left : View = lent_view v in let right : View = given_view v in
    let lent : List View = set s.views 0 left in let views : List View = lent ++ right ∷ [] in let f = h.fits 0 v at in
    let on : (Has : View → Type 0) → (Has v → Has left) → Somewhere s.views Has → Somewhere views Has =
    λ Has carry p. longer lent right Has (moved s.views 0 v left Has at carry p) in
    let each : (K : ℕ → View → Type 0) → K 0 left → ((j : ℕ) → K j right) →
    ((j : ℕ) (u : View) → get_elem? s.views j ≡ some u → K j u)
    → (j : ℕ) (u : View) → get_elem? views j ≡ some u → K j u = λ K mine new others j u e. ⊎_elim
    (λ (t : get_elem? lent j ≡ some u). all_seats K s.views 0 left mine (λ i w ne a. others i w a) j u t)
    (λ (is : right ≡ u). subst (λ (w : View). K j w) is (new j)) (at_snoc lent right u j e) in
    rearranged o s views h record {
      claims = λ key number. on (Claims key number) (λ c. c);
      brings = λ key. on (Brings key) (λ b. b);
      fits =
          each (λ j u. Fits n s.words u) record { claims = f.claims; seen = f.seen; full = f.full; flight = f.flight }
          (λ j. record {
            claims = All-nil (λ c. Reaches n s.words c.0 c.1);
            seen = f.seen;
            full = All-nil (IsFullFor n s.words);
            flight = tt;
          }) h.fits;
      told = each (λ j u. All (λ c. Stems o s.views c.0 c.1) u.seen) (h.told 0 v at) (λ j. h.told 0 v at) h.told;
      spent = each (λ j u. u.living ≡ false → u ≡ spent_view) (λ dead. absurd (let l : v.living ≡ false = dead in
          cc)) (λ j dead. absurd (let l : v.living ≡ false = dead in cc)) h.spent;
      counted = λ u e. let is : u ≡ left =
          same_at views 0 u left e (at_longer lent (right ∷ []) 0 left (set_at s.views 0 left v at)) in
          let c : sum_by living_count s.views ≡ 1 + v.out = h.counted v at in
          let q : sum_by living_count lent + living_count v ≡ sum_by living_count s.views + living_count left =
          sum_set living_count s.views 0 left v at in
          let p : sum_by living_count views ≡ sum_by living_count lent + living_count right =
          sum_by_push living_count lent right in
          let one : living_count v ≡ 1 = ap (λ b. if b then 1 else 0) lives in
          let a : living_count left ≡ living_count v = refl in let b : living_count right ≡ living_count v = refl in
          let out : u.out ≡ v.out + 1 = ap (λ (w : View). w.out) is in omega arith;
    }

-- a pass that comes back
pub joins : (o : Opening) (v w : View) (other : ℕ) → v.living ≡ true → w.living ≡ true → v.flight ≡ Idle
    → w.flight ≡ Idle
    → Joins (Holds o) 0 v other w (joined_view v w) spent_view
joins o v w other lives lives' idle idle' s h at ne at' = let n : ℕ = o.slots in let both : View = joined_view v w in
    let one : List View = set s.views 0 both in let views : List View = set one other spent_view in
    let there : get_elem? s.views other ≡ some w = sym (set_else s.views 0 other both ne) ∙ at' in
    let f = h.fits 0 v at in let g = h.fits other w there in
    let on : (Has : View → Type 0) → (Has v → Has both) → (Has w → Has both) → Somewhere s.views Has → Somewhere
    views Has =
    λ Has mine theirs p. merged s.views 0 other v w both spent_view Has ne at there mine theirs p in
    let each : (K : ℕ → View → Type 0) → K 0 both → K other spent_view →
    ((j : ℕ) (u : View) → get_elem? s.views j ≡ some u → K j u)
    → (j : ℕ) (u : View) → get_elem? views j ≡ some u → K j u =
    λ K mine new others. all_seats K one other spent_view new
    (λ j u no e. all_seats K s.views 0 both mine (λ i x nor a. others i x a) j u e) in
    rearranged o s views h record {
      claims = λ key number. on (Claims key number) (λ c. Contains-append_left v.claims w.claims (key, number) c)
          (λ c. Contains-append_right v.claims w.claims (key, number) c);
      brings = λ key. on (Brings key)
          (λ b. ⊎_elim (λ (a : (number : ℕ) × Contains v.claims (key, number)). inl (
            a.0,
            Contains-append_left v.claims w.claims (key, a.0) a.1,
          )) (λ (a : HasFound key v.flight). inr a) b)
          (λ b. ⊎_elim (λ (a : (number : ℕ) × Contains w.claims (key, number)).
          inl (a.0, Contains-append_right v.claims w.claims (key, a.0) a.1))
          (λ (a : HasFound key w.flight). absurd (let z : HasFound key Idle = subst (HasFound key) idle' a in z)) b);
      fits = each (λ j u. Fits n s.words u) record {
        claims = All-append (λ c. Reaches n s.words c.0 c.1) v.claims w.claims f.claims g.claims;
        seen = All-append (λ c. Reaches n s.words c.0 c.1) v.seen w.seen f.seen g.seen;
        full = All-append (IsFullFor n s.words) v.full w.full f.full g.full;
        flight = f.flight;
      } record {
        claims = All-nil (λ c. Reaches n s.words c.0 c.1);
        seen = All-nil (λ c. Reaches n s.words c.0 c.1);
        full = All-nil (IsFullFor n s.words);
        flight = tt;
      } h.fits;
      told = each (λ j u. All (λ c. Stems o s.views c.0 c.1) u.seen) (All-append (λ c. Stems o s.views c.0 c.1) v.seen
          w.seen (h.told 0 v at) (h.told other w there)) (All-nil (λ c. Stems o s.views c.0 c.1)) h.told;
      spent = each (λ j u. u.living ≡ false
          → u ≡ spent_view) (λ dead. absurd (let l : v.living ≡ false = dead in cc)) (λ dead. refl) h.spent;
      counted = λ u e. let is : u ≡ both =
          same_at views 0 u both e (set_else one other 0 spent_view (λ z. ne (sym z)) ∙ set_at s.views 0 both v at) in
          let c : sum_by living_count s.views ≡ 1 + v.out = h.counted v at in
          let q : sum_by living_count one + living_count v ≡ sum_by living_count s.views + living_count both =
          sum_set living_count s.views 0 both v at in
          let p : sum_by living_count views + living_count w ≡ sum_by living_count one + living_count spent_view =
          sum_set living_count one other spent_view w at' in
          let r : living_count both ≤ sum_by living_count views = at_most_sum living_count views 0 both
          (set_else one other 0 spent_view (λ z. ne (sym z)) ∙ set_at s.views 0 both v at) in
          let a : living_count v ≡ 1 = ap (λ b. if b then 1 else 0) lives in
          let b : living_count w ≡ 1 = ap (λ b. if b then 1 else 0) lives' in
          let d : living_count both ≡ living_count v = refl in let k : living_count spent_view ≡ 0 = refl in
          let out : u.out ≡ v.out - 1 = ap (λ (w : View). w.out) is in omega arith;
    }

-- the first seat's number is 0
pub is_zero : (n : ℕ) → (n == 0) ≡ true → n ≡ 0
is_zero zero e = refl
is_zero (suc n) e = absurd (let f : (suc n == 0) ≡ false = ne_eqb (suc n) 0 (λ z. omega arith) in cc)

-- a table has words
pub has_words : (words : ℕ) (ws : List ℕ) → IsTable ws → words ≡ length ws → 0 < words
has_words words ws t e =
    let a : length ws ≡ 2 * slot_count ws = two_each ws t in let b : 0 < slot_count ws = some_slot ws t in omega arith

-- the first state meets the rule
pub opens_well : (o : Opening) (words : List ℕ) → words ≡ o.words.items → o.slots ≡ slot_count words → IsTable words
    → ((k : ℕ) → k < length words → get_or words k 0 < 18446744073709551616) → Holds o (opening words [] first_view)
opens_well o words same slots table small = let n : ℕ = o.slots in
    let wide : length words ≡ 2 * n = two_each words table ∙ ap (λ (m : ℕ). 2 * m) (sym slots) in
    let one : (j : ℕ) (u : View) → get_elem? (first_view ∷ []) j ≡ some u → first_view ≡ u = λ j u e. at_first j u e in
    record {
      some_slot = subst (λ (m : ℕ). 0 < m) (sym slots) (some_slot words table);
      wide = wide;
      small =
          λ i l. let e : owner_at o.words.items i ≡ owner_at words i = ap (λ (ws : List ℕ). owner_at ws i) (sym same) in
          let b : get_or words (2 * i + 1) 0 < 18446744073709551616 = small (2 * i + 1) (omega arith) in omega arith;
      placed = subst (λ (m : ℕ). IsPlaced m words) (sym slots) table.placed;
      stays = λ i l taken. let e : words ≡ o.words.items = same in record {
        key = ap (λ (ws : List ℕ). key_at ws i) e;
        owner = le_of_eq _ _ (ap (λ (ws : List ℕ). owner_at ws i) e);
      };
      known = λ i l taken. inl (ap (λ (ws : List ℕ). key_at ws i) (sym same));
      owned = λ i l. dite (ℕ_discrete (key_at words i) 0)
          (λ z. inl ((subst (λ (m : ℕ). IsPlaced m words) (sym slots) table.placed).bare i l z))
          (λ taken. inr (inl (
            i,
            record {
              some_key = taken;
              inside = l;
              held = ap (λ (ws : List ℕ). key_at ws i)
                  (sym same);
              owned = ap (λ (ws : List ℕ). owner_at ws i) (sym same);
            },
          )));
      fits = λ j u e. subst (Fits n words) (one j u e) record {
        claims = All-nil (λ c. Reaches n words c.0 c.1);
        seen = All-nil (λ c. Reaches n words c.0 c.1);
        full = All-nil (IsFullFor n words);
        flight = tt;
      };
      told = λ j u e. subst (λ (v : View). All (λ c. Stems o (first_view ∷ []) c.0 c.1) v.seen) (one j u e)
          (All-nil (λ c. Stems o (first_view ∷ []) c.0 c.1));
      spent = λ j u e dead. absurd (let l : first_view.living ≡ false = ap (λ (v : View). v.living) (one j u e)
          ∙ dead in cc);
      counted = λ u e. ap (λ (v : View). 1 + v.out) (one 0 u e);
    } where
      at_first : (j : ℕ) (u : View) → get_elem? (first_view ∷ []) j ≡ some u → first_view ≡ u
      at_first zero u e = some-injective first_view u e
      at_first (suc j) u e = absurd (some-ne-none u (sym e))

      le_of_eq : (a b : ℕ) → a ≡ b → a ≤ b
      le_of_eq a b e = omega arith

-- what a claim asks of its table
pub board_of : (o key : Opening) (id : TableId) → key ≡ o → id.words ≡ length o.words.items → id.slots ≡ 0
    → o.slots ≡ slot_count o.words.items → IsTable o.words.items
    → length o.words.items < 2 ^ 64 → IsBoard o.slots key id
board_of o key id same words bare slots table small =
    let wide : length o.words.items ≡ 2 * slot_count o.words.items = two_each o.words.items table in
    subst (λ (k : Opening). IsBoard o.slots k id) (sym same) record {
      as_opened = refl;
      words = let w : id.words ≡ length o.words.items = words in let n : o.slots ≡ slot_count o.words.items = slots in
          omega arith;
      none = bare;
      opened = omega arith;
      small = omega arith;
      some_slot = let l : 0 < slot_count o.words.items = some_slot o.words.items table in omega arith;
    }
