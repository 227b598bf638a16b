-- How claims of rows go together.
use Rattle.std.proofs.Common.{◌≡◌, ℕ, ◌+◌, ◌<◌, ◌≤◌, false, List, [], ◌∷◌, ◌++◌, length, take, get_or, refl, sym, ap, ◌∙◌, subst, append_assoc, append-nil}
use Rattle.std.specs.Prelude.{map}
use Rattle.std.specs.List.{All, Contains}
use Rattle.std.specs.List.Sorted.{IsPermutation}
use Rattle.std.proofs.lemmas.List.{map-append, take_more, take_all}
use Rattle.std.proofs.lemmas.List.Elements.{All-append, All-weaker, All-nil, All-cons, Contains-append_left, Contains-append_right, Contains-push}
use Rattle.std.proofs.lemmas.List.Sorted.{IsPermutation-refl, IsPermutation-trans, IsPermutation-append, IsPermutation-append_comm}
use Rattle.nj_claims.specs.Passes.{PassView, joined_pass}
use Rattle.nj_claims.specs.Answers.{after_claim, IsTold}
use Rattle.nj_claims.specs.declared.claimed.Claimed.{Claimed}
use Rattle.nj_claims.specs.declared.claimed.Claimed.TheVariants.{Before, Least, Full}
use Rattle.nj_rows.specs.declared.Row.{Row}
use Rattle.nj_rows.specs.Order.{is_win_row}
use Rattle.nj_seen.specs.Held.{first_claim, claim_of}
use Rattle.nj_hands.specs.Claimed.{MayBeDropped, IsSamePass, AreClaimed, AddsClaimed, IsBeaten}

-- two lists, each in two parts, part by part
four : (w x y z : List Row) → IsPermutation ((w ++ x) ++ (y ++ z)) ((w ++ y) ++ (x ++ z))
four w x y z =
    let inner : IsPermutation ((x ++ y) ++ z) ((y ++ x) ++ z) =
    IsPermutation-append _ _ _ _ (IsPermutation-append_comm x y) (IsPermutation-refl z) in
    let outer : IsPermutation (w ++ ((x ++ y) ++ z)) (w ++ ((y ++ x) ++ z)) =
    IsPermutation-append _ _ _ _ (IsPermutation-refl w) inner in
    let left : w ++ ((x ++ y) ++ z) ≡ (w ++ x) ++ (y ++ z) = ap (λ r. w ++ r) (append_assoc x y z)
    ∙ sym (append_assoc w x (y ++ z)) in
    let right : w ++ ((y ++ x) ++ z) ≡ (w ++ y) ++ (x ++ z) = ap (λ r. w ++ r) (append_assoc y x z)
    ∙ sym (append_assoc w y (x ++ z)) in
    subst (λ r. IsPermutation ((w ++ x) ++ (y ++ z)) r) right
    (subst (λ l. IsPermutation l (w ++ ((y ++ x) ++ z))) left outer)

pub parts_more : (a b p q r s : List Row) → IsPermutation a (p ++ q) → IsPermutation b (r ++ s)
    → IsPermutation (a ++ b) ((p ++ r) ++ (q ++ s))
parts_more a b p q r s first second =
    IsPermutation-trans (a ++ b) ((p ++ q) ++ (r ++ s)) ((p ++ r) ++ (q ++ s))
    (IsPermutation-append a (p ++ q) b (r ++ s) first second) (four p q r s)

-- what was seen stays seen
still_dropped : (seen more : List (ℕ × ℕ)) (row : Row) → MayBeDropped seen row → MayBeDropped (seen ++ more) row
still_dropped seen more row may =
    (may.0, record { number = may.1.number; stands = Contains-append_left seen more _ may.1.stands; less = may.1.less })

all_still_dropped : (seen more now : List (ℕ × ℕ)) (rows : List Row) → now ≡ seen ++ more → All (MayBeDropped seen) rows
    → All (MayBeDropped now) rows
all_still_dropped seen more now rows now_is may =
    subst (λ s. All (MayBeDropped s) rows) (sym now_is)
    (All-weaker (MayBeDropped seen) (MayBeDropped (seen ++ more)) (still_dropped seen more) rows may)

-- no rows, no claims
pub claimed_none : (pass : PassView) → AreClaimed [] pass pass []
claimed_none pass = record {
  placed = [];
  refused = [];
  parts = IsPermutation-refl [];
  claims = sym (append-nil pass.claims);
  full = sym (append-nil pass.full);
  more = [];
  seen = sym (append-nil pass.seen);
  dropped = [];
  choice = IsPermutation-refl [];
  dropped_may = All-nil (MayBeDropped pass.seen);
}

-- claims of rows, and then of others
pub claimed_more : (a b : List Row) (p q s : PassView) (xs ys : List Row) → AreClaimed a p q xs → AreClaimed b q s ys
    → AreClaimed (a ++ b) p s (xs ++ ys)
claimed_more a b p q s xs ys f g = record {
  placed = f.placed ++ g.placed;
  refused = f.refused ++ g.refused;
  parts = parts_more a b f.placed f.refused g.placed g.refused f.parts g.parts;
  claims = g.claims ∙ ap (λ c. c ++ map claim_of g.placed) f.claims
      ∙ append_assoc p.claims (map claim_of f.placed) (map claim_of g.placed)
      ∙ ap (λ c. p.claims ++ c) (sym (map-append claim_of f.placed g.placed));
  full = g.full ∙ ap (λ c. c ++ map (λ row. row.key) g.refused) f.full
      ∙ append_assoc p.full (map (λ row. row.key) f.refused) (map (λ row. row.key) g.refused)
      ∙ ap (λ c. p.full ++ c) (sym (map-append (λ (row : Row). row.key) f.refused g.refused));
  more = f.more ++ g.more;
  seen = g.seen ∙ ap (λ c. c ++ g.more) f.seen ∙ append_assoc p.seen f.more g.more;
  dropped = f.dropped ++ g.dropped;
  choice = parts_more a b xs f.dropped ys g.dropped f.choice g.choice;
  dropped_may = All-append (MayBeDropped s.seen) f.dropped g.dropped
      (all_still_dropped q.seen g.more s.seen f.dropped g.seen f.dropped_may) g.dropped_may;
}

pub same_pass : (p q s : PassView) → IsSamePass p q → IsSamePass q s → IsSamePass p s
same_pass p q s f g = record { table = g.table ∙ f.table; is_root = g.is_root ∙ f.is_root; out = g.out ∙ f.out }

pub adds_none : (pass : PassView) (rows : List Row) → AddsClaimed [] pass pass rows rows
adds_none pass rows = record {
  added = [];
  rows_are = sym (append-nil rows);
  claimed = claimed_none pass;
  pass = record { table = refl; is_root = refl; out = refl };
}

pub adds_more : (a b : List Row) (p q s : PassView) (xs ys zs : List Row) → AddsClaimed a p q xs ys
    → AddsClaimed b q s ys zs → AddsClaimed (a ++ b) p s xs zs
adds_more a b p q s xs ys zs f g = record {
  added = f.added ++ g.added;
  rows_are = g.rows_are ∙ ap (λ r. r ++ g.added) f.rows_are ∙ append_assoc xs f.added g.added;
  claimed = claimed_more a b p q s f.added g.added f.claimed g.claimed;
  pass = same_pass p q s f.pass g.pass;
}

-- the claim of one row, which is kept
pub claimed_kept : (row : Row) (p q : PassView) (answer : Claimed)
    → q ≡ after_claim row.key (first_claim + row.number) answer p → AreClaimed (row ∷ []) p q (row ∷ [])
claimed_kept row p q (Before owner) is = record {
  placed = row ∷ [];
  refused = [];
  parts = IsPermutation-refl (row ∷ []);
  claims = ap (λ v. v.claims) is;
  full = ap (λ v. v.full) is ∙ sym (append-nil p.full);
  more = (row.key, owner) ∷ [];
  seen = ap (λ v. v.seen) is;
  dropped = [];
  choice = IsPermutation-refl (row ∷ []);
  dropped_may = All-nil (MayBeDropped q.seen);
}
claimed_kept row p q Least is = record {
  placed = row ∷ [];
  refused = [];
  parts = IsPermutation-refl (row ∷ []);
  claims = ap (λ v. v.claims) is;
  full = ap (λ v. v.full) is ∙ sym (append-nil p.full);
  more = (row.key, first_claim + row.number) ∷ [];
  seen = ap (λ v. v.seen) is;
  dropped = [];
  choice = IsPermutation-refl (row ∷ []);
  dropped_may = All-nil (MayBeDropped q.seen);
}
claimed_kept row p q Full is = record {
  placed = [];
  refused = row ∷ [];
  parts = IsPermutation-refl (row ∷ []);
  claims = ap (λ v. v.claims) is ∙ sym (append-nil p.claims);
  full = ap (λ v. v.full) is;
  more = [];
  seen = ap (λ v. v.seen) is ∙ sym (append-nil p.seen);
  dropped = [];
  choice = IsPermutation-refl (row ∷ []);
  dropped_may = All-nil (MayBeDropped q.seen);
}

-- the claim of one row, which is dropped
pub claimed_dropped : (row : Row) (p q : PassView) (owner : ℕ)
    → q ≡ after_claim row.key (first_claim + row.number) (Before owner) p → owner < first_claim + row.number
    → is_win_row row ≡ false → AreClaimed (row ∷ []) p q []
claimed_dropped row p q owner is less no_win = record {
  placed = row ∷ [];
  refused = [];
  parts = IsPermutation-refl (row ∷ []);
  claims = ap (λ v. v.claims) is;
  full = ap (λ v. v.full) is ∙ sym (append-nil p.full);
  more = (row.key, owner) ∷ [];
  seen = ap (λ v. v.seen) is;
  dropped = row ∷ [];
  choice = IsPermutation-refl (row ∷ []);
  dropped_may = All-cons (MayBeDropped q.seen) row [] (
    no_win,
    record {
      number = owner;
      stands =
          subst (λ s. Contains s (row.key, owner)) (sym (ap (λ v. v.seen) is)) (Contains-push p.seen (row.key, owner));
      less = less;
    },
  ) (All-nil (MayBeDropped q.seen));
}

pub same_after : (key number : ℕ) (p q : PassView) (answer : Claimed) → q ≡ after_claim key number answer p
    → IsSamePass p q
same_after key number p q (Before owner) is =
    record { table = ap (λ v. v.table) is; is_root = ap (λ v. v.is_root) is; out = ap (λ v. v.out) is }
same_after key number p q Least is =
    record { table = ap (λ v. v.table) is; is_root = ap (λ v. v.is_root) is; out = ap (λ v. v.out) is }
same_after key number p q Full is =
    record { table = ap (λ v. v.table) is; is_root = ap (λ v. v.is_root) is; out = ap (λ v. v.out) is }

-- the same with the list that the row was added to
pub adds_kept : (row : Row) (p q : PassView) (answer : Claimed) (xs ys : List Row)
    → q ≡ after_claim row.key (first_claim + row.number) answer p → ys ≡ xs ++ row ∷ []
    → AddsClaimed (row ∷ []) p q xs ys
adds_kept row p q answer xs ys is now = record {
  added = row ∷ [];
  rows_are = now;
  claimed = claimed_kept row p q answer is;
  pass = same_after row.key (first_claim + row.number) p q answer is;
}

pub adds_dropped : (row : Row) (p q : PassView) (owner : ℕ) (xs : List Row)
    → q ≡ after_claim row.key (first_claim + row.number) (Before owner) p
    → owner < first_claim + row.number → is_win_row row ≡ false → AddsClaimed (row ∷ []) p q xs xs
adds_dropped row p q owner xs is less no_win = record {
  added = [];
  rows_are = sym (append-nil xs);
  claimed = claimed_dropped row p q owner is less no_win;
  pass = same_after row.key (first_claim + row.number) p q (Before owner) is;
}

-- the claims of the rows before a place, and of the one there
pub adds_next : (found : List Row) (at : ℕ) (d : Row) (p q s : PassView) (xs ys zs : List Row) → at < length found
    → AddsClaimed (take at found) p q xs ys → AddsClaimed (get_or found at d ∷ []) q s ys zs
    → AddsClaimed (take (at + 1) found) p s xs zs
adds_next found at d p q s xs ys zs within so_far next =
    subst (λ rows. AddsClaimed rows p s xs zs) (sym (take_more found at d within))
    (adds_more (take at found) (get_or found at d ∷ []) p q s xs ys zs so_far next)

pub adds_all : (found : List Row) (at : ℕ) (p q : PassView) (xs ys : List Row) → length found ≤ at
    → AddsClaimed (take at found) p q xs ys → AddsClaimed found p q xs ys
adds_all found at p q xs ys end adds = subst (λ rows. AddsClaimed rows p q xs ys) (take_all at found end) adds

-- a beaten row
pub adds_beaten : (opening : List ℕ) (row : Row) (p q : PassView) (answer : Claimed) (xs : List Row)
    → q ≡ after_claim row.key (first_claim + row.number) answer p
    → IsTold opening row.key (first_claim + row.number) answer p → IsBeaten answer row.verdict
    → AddsClaimed (row ∷ []) p q xs xs
adds_beaten opening row p q answer xs is told beaten =
    adds_dropped row p q beaten.0 xs (is
    ∙ ap (λ (a : Claimed). after_claim row.key (first_claim + row.number) a p) beaten.1)
    (subst (λ (a : Claimed). IsTold opening row.key (first_claim + row.number) a p) beaten.1 told).0 beaten.2

-- a number that was seen is seen in more
seen_in_right : (seen more : List (ℕ × ℕ)) (row : Row) → MayBeDropped more row → MayBeDropped (seen ++ more) row
seen_in_right seen more row may = (
  may.0,
  record { number = may.1.number; stands = Contains-append_right seen more _ may.1.stands; less = may.1.less },
)

-- claims through the first pass, and those of another pass that is joined to it
pub claimed_joined : (a b : List Row) (first root given other : PassView) (xs ys : List Row) → given.claims ≡ []
    → given.seen ≡ [] → given.full ≡ []
    → AreClaimed a first root xs → AreClaimed b given other ys
    → AreClaimed (a ++ b) first (joined_pass root other) (xs ++ ys)
claimed_joined a b first root given other xs ys no_claims no_seen no_full f g = record {
  placed = f.placed ++ g.placed;
  refused = f.refused ++ g.refused;
  parts = parts_more a b f.placed f.refused g.placed g.refused f.parts g.parts;
  claims =
      ap (λ c. c ++ other.claims) f.claims ∙ ap (λ c. (first.claims ++ map claim_of f.placed) ++ c) (g.claims
      ∙ ap (λ c. c ++ map claim_of g.placed) no_claims)
      ∙ append_assoc first.claims (map claim_of f.placed) (map claim_of g.placed)
      ∙ ap (λ c. first.claims ++ c) (sym (map-append claim_of f.placed g.placed));
  full =
      ap (λ c. c ++ other.full) f.full ∙ ap (λ c. (first.full ++ map (λ row. row.key) f.refused) ++ c) (g.full
      ∙ ap (λ c. c ++ map (λ row. row.key) g.refused) no_full)
      ∙ append_assoc first.full (map (λ row. row.key) f.refused) (map (λ row. row.key) g.refused)
      ∙ ap (λ c. first.full ++ c) (sym (map-append (λ (row : Row). row.key) f.refused g.refused));
  more = f.more ++ other.seen;
  seen = ap (λ s. s ++ other.seen) f.seen ∙ append_assoc first.seen f.more other.seen;
  dropped = f.dropped ++ g.dropped;
  choice = parts_more a b xs f.dropped ys g.dropped f.choice g.choice;
  dropped_may = All-append (MayBeDropped (root.seen ++ other.seen)) f.dropped g.dropped
      (All-weaker (MayBeDropped root.seen) (MayBeDropped (root.seen ++ other.seen)) (still_dropped root.seen other.seen)
      f.dropped f.dropped_may)
      (All-weaker (MayBeDropped other.seen)
      (MayBeDropped (root.seen ++ other.seen)) (seen_in_right root.seen other.seen) g.dropped g.dropped_may);
}

-- claims of the same rows in another order
pub claimed_moved : (lives others : List Row) (p q : PassView) (rows : List Row) → IsPermutation others lives
    → AreClaimed lives p q rows → AreClaimed others p q rows
claimed_moved lives others p q rows moved f = record {
  placed = f.placed;
  refused = f.refused;
  parts = IsPermutation-trans others lives (f.placed ++ f.refused) moved f.parts;
  claims = f.claims;
  full = f.full;
  more = f.more;
  seen = f.seen;
  dropped = f.dropped;
  choice = IsPermutation-trans others lives (rows ++ f.dropped) moved f.choice;
  dropped_may = f.dropped_may;
}
