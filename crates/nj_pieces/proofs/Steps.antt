-- Each step of a pass keeps the rule of its deque.
use Rattle.std.proofs.Common.{◌≡◌, ◌≢◌, ℕ, zero, suc, ◌+◌, ◌<◌, ◌≤◌, ◌⊎◌, inl, inr, List, [], ◌∷◌, ◌++◌, length, replicate, set, sym, refl, ap, ◌∙◌, subst, ⊎_elim, arith}
use Rattle.std.specs.List.{sum_by}
use Rattle.std.proofs.lemmas.List.Sums.{sum_by-append, sum_by-cons, sum_by_push}
use mathlib.Core.Option.{some, some-ne-none, some-injective}
use lib.ListN.{get_elem?}
use Rattle.crossbeam_deque.specs.Tasks.{Pushes, Takes, Finds, FindsFew, Forks, Merges}
use Rattle.crossbeam_deque.proofs.Lists.{at_set}
use Rattle.nj_pieces.specs.declared.rule.Tally.{Tally}
use Rattle.nj_pieces.specs.declared.rule.Task.{Task}
use Rattle.nj_pieces.specs.declared.rule.Task.TheVariants.{Piece, End}
use Rattle.nj_pieces.specs.Tallies.{blank, put, with_piece, with_end, IsOf, TakesOne, IsTaken, IsSettled, DrainsOne, IsDrained, cut, guest, both, noted}
use Rattle.nj_pieces.specs.Rule.{total, root_of, tasks, Fits, Holds}
use Rattle.nj_pieces.proofs.Totals.{Each, each_set, each_snoc, total_set, total_snoc, total_has, total_less, total_none, root_is, root_set, root_else, root_snoc, root_keeps}

abbrev seats : Tally → ℕ
seats v = v.seats

abbrev ends : Tally → ℕ
ends v = v.ends

-- the weights of what a pass has taken
abbrev weight : (ℕ → ℕ) → Tally → ℕ
weight h v = sum_by h v.taken

-- a pass that may take nothing has done nothing
blank_fits : (root : Tally) → Fits root blank
blank_fits root = record { within = omega arith; idle = λ none. refl; told = λ some_seat. absurd (omega arith) }

-- an empty deque keeps the rule
pub begins : Holds [] (blank ∷ [])
begins = record {
  rest = [];
  left = 0;
  items_are = refl;
  seats_are = refl;
  marks_are = refl;
  pieces_are = λ h. refl;
  ended = λ some_ended. refl;
  fits = each_snoc (Fits blank) [] blank (λ port v e. absurd (some-ne-none v (sym e))) (blank_fits blank);
}

-- a piece goes behind the pieces, where no mark stands
tasks_piece : (rest : List ℕ) (left p : ℕ) → left ≡ 0 → tasks rest left ++ Piece p ∷ [] ≡ tasks (rest ++ p ∷ []) left
tasks_piece [] zero p none = refl
tasks_piece (x ∷ rest) zero p none = ap (λ xs. Piece x ∷ xs) (tasks_piece rest zero p none)
tasks_piece rest (suc left) p none = absurd (omega arith)

-- a mark goes behind the marks
tasks_end : (rest : List ℕ) (left : ℕ) → tasks rest left ++ End ∷ [] ≡ tasks rest (left + 1)
tasks_end [] zero = refl
tasks_end [] (suc left) =
    let one_more : suc (left + 1) ≡ suc left + 1 = omega arith in
    ap (λ xs. End ∷ xs) (tasks_end [] left) ∙ ap (λ k. replicate k End) one_more
tasks_end (x ∷ rest) left = ap (λ xs. Piece x ∷ xs) (tasks_end rest left)

-- how many tasks there are
length-tasks : (rest : List ℕ) (left : ℕ) → length (tasks rest left) ≡ length rest + left
length-tasks [] zero = refl
length-tasks [] (suc left) = let fewer = length-tasks [] left in omega arith
length-tasks (x ∷ rest) left = let fewer = length-tasks rest left in omega arith

-- the owner puts a piece, before all marks
pub puts_piece : (port : ℕ) (v : Tally) (p : ℕ) → port ≡ 0 → v.marks ≡ 0
    → Pushes Holds port v (Piece p ∷ []) (λ w. w ≡ put v (Piece p ∷ []))
puts_piece port v p is_root unmarked items views h at =
    let first : get_elem? views 0 ≡ some v = subst (λ k. get_elem? views k ≡ some v) is_root at in
    let w : Tally = put v (Piece p ∷ []) in
    let root = root_is views v first in
    let new_root = root_set views v w first in
    let no_seats : total seats views ≡ 0 = h.seats_are ∙ ap (λ u. u.marks) root ∙ unmarked in
    let no_marks : (root_of views).marks ≡ 0 = ap (λ u. u.marks) root ∙ unmarked in
    let none_left : h.left ≡ 0 = let counted = h.marks_are in omega arith in
    let mine = h.fits 0 v first in
    let kept : Holds (items ++ Piece p ∷ []) (set views 0 w) = record {
      rest = h.rest ++ p ∷ [];
      left = h.left;
      items_are = ap (λ xs. xs ++ Piece p ∷ []) h.items_are ∙ tasks_piece h.rest h.left p none_left;
      seats_are = let s = total_set seats views 0 v w first in
          let now : (root_of (set views 0 w)).marks ≡ v.marks = ap (λ u. u.marks) new_root in omega arith;
      marks_are = let s = total_set ends views 0 v w first in
          let counted = h.marks_are in
          let now : (root_of (set views 0 w)).marks ≡ v.marks = ap (λ u. u.marks) new_root in omega arith;
      pieces_are = λ f.
          let s = total_set (weight f) views 0 v w first in
          let was : sum_by f v.dealt ≡ sum_by f (root_of views).dealt = ap (λ u. sum_by f u.dealt) (sym root) in
          let now : sum_by f (root_of (set views 0 w)).dealt ≡ sum_by f (v.dealt ++ p ∷ []) =
          ap (λ u. sum_by f u.dealt) new_root in
          let balance = h.pieces_are f in omega (arith, sum_by_push f v.dealt p, sum_by_push f h.rest p);
      ended =
          λ some_ended. absurd (let s = total_set ends views 0 v w first in let counted = h.marks_are in omega arith);
      fits = each_set (λ _ u. Fits (root_of (set views 0 w)) u) views 0 w
          (record {
            within = mine.within;
            idle = mine.idle;
            told = λ some_seat. absurd (let has = total_has seats views 0 v first in omega arith);
          })
          (λ j u other e. let theirs = h.fits j u e in
          record {
            within = theirs.within;
            idle = theirs.idle;
            told = λ some_seat. absurd (let has = total_has seats views j u e in omega arith);
          });
    } in
    subst (λ k. (u : Tally) × Holds (items ++ Piece p ∷ []) (set views k u) × (u ≡ w)) (sym is_root) (w, kept, refl)

-- the owner puts a mark, and gets the right to it, before any piece was taken
pub puts_end : (port : ℕ) (v : Tally) → port ≡ 0 → Pushes Holds port v (End ∷ []) (λ w. w ≡ put v (End ∷ []))
puts_end port v is_root items views h at =
    let first : get_elem? views 0 ≡ some v = subst (λ k. get_elem? views k ≡ some v) is_root at in
    let w : Tally = put v (End ∷ []) in
    let root = root_is views v first in
    let new_root = root_set views v w first in
    let was : (root_of views).marks ≡ v.marks = ap (λ u. u.marks) root in
    let now : (root_of (set views 0 w)).marks ≡ v.marks + 1 = ap (λ u. u.marks) new_root in
    let deal : (root_of (set views 0 w)).dealt ≡ (root_of views).dealt = ap (λ u. u.dealt) new_root
    ∙ sym (ap (λ u. u.dealt) root) in
    let mine = h.fits 0 v first in
    let kept : Holds (items ++ End ∷ []) (set views 0 w) = record {
      rest = h.rest;
      left = h.left + 1;
      items_are = ap (λ xs. xs ++ End ∷ []) h.items_are ∙ tasks_end h.rest h.left;
      seats_are = let s = total_set seats views 0 v w first in let counted = h.seats_are in omega arith;
      marks_are = let s = total_set ends views 0 v w first in let counted = h.marks_are in omega arith;
      pieces_are = λ f.
          let s = total_set (weight f) views 0 v w first in
          let same : sum_by f (root_of (set views 0 w)).dealt ≡ sum_by f (root_of views).dealt = ap (sum_by f) deal in
          let balance = h.pieces_are f in omega arith;
      ended = λ some_ended. h.ended (let s = total_set ends views 0 v w first in omega arith);
      fits = each_set (λ _ u. Fits (root_of (set views 0 w)) u) views 0 w
          (record {
            within = let within = mine.within in
                omega arith;
            idle = λ none. absurd (omega arith);
            told = λ some_seat. sym (ap (λ u. u.dealt) new_root);
          })
          (λ j u other e. let theirs = h.fits j u e in
          record { within = theirs.within; idle = theirs.idle; told = λ some_seat. theirs.told some_seat ∙ sym deal });
    } in
    subst (λ k. (u : Tally) × Holds (items ++ End ∷ []) (set views k u) × (u ≡ w)) (sym is_root) (w, kept, refl)

-- the first task is the first piece, or, where no piece is left, a mark
abbrev First : Task → List Task → List ℕ → ℕ → Type 0
First x items rest left = ((p : ℕ) × (r : List ℕ) × (rest ≡ p ∷ r) × (x ≡ Piece p) × (items ≡ tasks r left))
    ⊎ ((l : ℕ) × (rest ≡ []) × (left ≡ suc l) × (x ≡ End) × (items ≡ tasks [] l))

first_of : (x : Task) (items : List Task) (rest : List ℕ) (left : ℕ) → x ∷ items ≡ tasks rest left
    → First x items rest left
first_of x items (p ∷ r) left e = inl (p, r, refl, cc, cc)
first_of x items [] (suc l) e = inr (l, refl, refl, cc, cc)
first_of x items [] zero e = absurd (cc)

-- a pass takes the first piece
piece_step : (port : ℕ) (v : Tally) (x : Task) (items : List Task) (views : List Tally) (h : Holds (x ∷ items) views)
    (p : ℕ) (r : List ℕ)
    → get_elem? views port ≡ some v → 0 < v.seats → h.rest ≡ p ∷ r → items ≡ tasks r h.left
    → Holds items (set views port (with_piece v p))
piece_step port v x items views h p r at some_seat is items_are =
    let w : Tally = with_piece v p in
    let mine = h.fits port v at in
    let marks : (root_of (set views port w)).marks ≡ (root_of views).marks =
    root_keeps (λ u. u.marks) views port v w at refl in
    let deal : (root_of (set views port w)).dealt ≡ (root_of views).dealt =
    root_keeps (λ u. u.dealt) views port v w at refl in
    let no_end : 0 < total ends (set views port w) → ⊥ = λ some_ended.
    let s = total_set ends views port v w at in
    let none : h.rest ≡ [] = h.ended (omega arith) in absurd (cc) in record {
      rest = r;
      left = h.left;
      items_are = items_are;
      seats_are = let s = total_set seats views port v w at in let counted = h.seats_are in omega arith;
      marks_are = let s = total_set ends views port v w at in let counted = h.marks_are in omega arith;
      pieces_are = λ f.
          let s = total_set (weight f) views port v w at in
          let same : sum_by f (root_of (set views port w)).dealt ≡ sum_by f (root_of views).dealt =
          ap (sum_by f) deal in
          let first : sum_by f h.rest ≡ sum_by f (p ∷ r) = ap (sum_by f) is in
          let balance = h.pieces_are f in omega (arith, sum_by_push f v.taken p, sum_by-cons f p r);
      ended = λ some_ended. absurd (no_end some_ended);
      fits = each_set (λ _ u. Fits (root_of (set views port w)) u) views port w
          (record {
            within = mine.within;
            idle = λ none. absurd (omega arith);
            told = λ seat. mine.told seat
                ∙ sym deal;
          })
          (λ j u other e. let theirs = h.fits j u e in
          record { within = theirs.within; idle = theirs.idle; told = λ seat. theirs.told seat ∙ sym deal });
    }

-- a pass takes a mark, where no piece is left
end_step : (port : ℕ) (v : Tally) (x : Task) (items : List Task) (views : List Tally)
    (h : Holds (x ∷ items) views) (l : ℕ)
    → get_elem? views port ≡ some v → v.ends < v.seats → h.rest ≡ [] → h.left ≡ suc l → items ≡ tasks [] l
    → Holds items (set views port (with_end v))
end_step port v x items views h l at some_right none left items_are =
    let w : Tally = with_end v in
    let mine = h.fits port v at in
    let marks : (root_of (set views port w)).marks ≡ (root_of views).marks =
    root_keeps (λ u. u.marks) views port v w at refl in
    let deal : (root_of (set views port w)).dealt ≡ (root_of views).dealt =
    root_keeps (λ u. u.dealt) views port v w at refl in record {
      rest = [];
      left = l;
      items_are = items_are;
      seats_are = let s = total_set seats views port v w at in let counted = h.seats_are in omega arith;
      marks_are = let s = total_set ends views port v w at in let counted = h.marks_are in omega arith;
      pieces_are = λ f.
          let s = total_set (weight f) views port v w at in
          let same : sum_by f (root_of (set views port w)).dealt ≡ sum_by f (root_of views).dealt =
          ap (sum_by f) deal in
          let empty : sum_by f h.rest ≡ 0 = ap (sum_by f) none in
          let balance = h.pieces_are f in omega arith;
      ended = λ some_ended. refl;
      fits = each_set (λ _ u. Fits (root_of (set views port w)) u) views port w
          (record {
            within = omega arith;
            idle = λ no_seat. absurd (omega arith);
            told = λ seat. mine.told seat
                ∙ sym deal;
          })
          (λ j u other e. let theirs = h.fits j u e in
          record { within = theirs.within; idle = theirs.idle; told = λ seat. theirs.told seat ∙ sym deal });
    }

-- the piece that stands first is one that was dealt
is_of : (port : ℕ) (v : Tally) (items : List Task) (views : List Tally) (h : Holds items views) (p : ℕ) (r : List ℕ)
    → get_elem? views port ≡ some v → 0 < v.seats → h.rest ≡ p ∷ r → IsOf v.dealt p
is_of port v items views h p r at some_seat is f =
    let same : sum_by f v.dealt ≡ sum_by f (root_of views).dealt = ap (sum_by f) ((h.fits port v at).told some_seat) in
    let first : sum_by f h.rest ≡ sum_by f (p ∷ r) = ap (sum_by f) is in
    let balance = h.pieces_are f in omega (arith, sum_by-cons f p r)

-- a pass that has an unused right takes a piece or a mark
pub takes : (port : ℕ) (v : Tally) → v.ends < v.seats → Takes Holds port v 1 (IsTaken v)
takes port v some_right [] items views filled few h at = absurd (omega arith)
takes port v some_right (x ∷ y ∷ xs) items views filled few h at = absurd (omega arith)
takes port v some_right (x ∷ []) items views filled few h at =
    let Goal : Task → Type 0 = λ z. (w : Tally) × Holds items (set views port w) × TakesOne v z w in
    let some_seat : 0 < v.seats = omega arith in
    ⊎_elim
    (λ (f : (p : ℕ) × (r : List ℕ) × (h.rest ≡ p ∷ r) × (x ≡ Piece p) × (items ≡ tasks r h.left)).
    subst Goal (sym f.3) (
      with_piece v f.0,
      piece_step port v x items views h f.0 f.1 at some_seat f.2 f.4,
      (refl, is_of port v (x ∷ items) views h f.0 f.1 at some_seat f.2),
    ))
    (λ (f : (l : ℕ) × (h.rest ≡ []) × (h.left ≡ suc l) × (x ≡ End) × (items ≡ tasks [] l)).
    subst Goal (sym f.3) (with_end v, end_step port v x items views h f.0 at some_right f.1 f.2 f.4, refl))
    (first_of x items h.rest h.left h.items_are)

-- it never finds the deque empty
pub never_empty : (port : ℕ) (v : Tally) → v.ends < v.seats → FindsFew Holds 0 port v ⊥
never_empty port v some_right items views few h at =
    let less = total_less ends seats views (λ j u e. (h.fits j u e).within) port v at in
    let counted = h.marks_are in
    let given = h.seats_are in
    let all : length items ≡ length h.rest + h.left = ap length h.items_are ∙ length-tasks h.rest h.left in
    omega arith

-- all rights are the owner's: nobody else has taken a mark or a piece
alone : (f : Tally → ℕ) (views : List Tally) (v : Tally) → get_elem? views 0 ≡ some v → total seats views ≡ v.seats
    → Each (λ _ u. seats u ≡ 0 → f u ≡ 0) views → total f views ≡ f v
alone f [] v e all none = absurd (some-ne-none v (sym e))
alone f (x ∷ xs) v e all none =
    let same : x ≡ v = some_injective_here e in
    let mine : x.seats ≡ v.seats = ap seats same in
    let value : f x ≡ f v = ap f same in
    let others = total_none seats f xs (omega arith) (λ k. none (suc k)) in omega arith where
      some_injective_here : some x ≡ some v → x ≡ v
      some_injective_here q = some-injective x v q

-- what the owner's pass that has all marks knows at a moment: the pieces left are those that are not in its list
settled : (v : Tally) (items : List Task) (views : List Tally) (h : Holds items views) → get_elem? views 0 ≡ some v
    → v.seats ≡ v.marks → h.rest ≡ [] → IsSettled v
settled v items views h first whole none f =
    let root = root_is views v first in
    let all : total seats views ≡ v.seats = h.seats_are ∙ ap (λ u. u.marks) root ∙ sym whole in
    let mine = alone (weight f) views v first all (λ j u e no_seat. ap (sum_by f) ((h.fits j u e).idle no_seat)) in
    let same : sum_by f v.dealt ≡ sum_by f (root_of views).dealt = ap (λ u. sum_by f u.dealt) (sym root) in
    let empty : sum_by f h.rest ≡ 0 = ap (sum_by f) none in
    let balance = h.pieces_are f in omega arith

not_some : (n : ℕ) → (0 < n → ⊥) → n ≡ 0
not_some zero none = refl
not_some (suc n) none = absurd (none (omega arith))

-- the owner's pass that has all marks takes what is left
pub drains : (port : ℕ) (v : Tally) → port ≡ 0 → v.seats ≡ v.marks → 0 < v.seats → Takes Holds port v 1 (IsDrained v)
drains port v is_root whole some_seat [] items views filled few h at = absurd (omega arith)
drains port v is_root whole some_seat (x ∷ y ∷ xs) items views filled few h at = absurd (omega arith)
drains port v is_root whole some_seat (x ∷ []) items views filled few h at =
    let Goal : Task → Type 0 = λ z. (w : Tally) × Holds items (set views port w) × DrainsOne v z w in
    let first : get_elem? views 0 ≡ some v = subst (λ k. get_elem? views k ≡ some v) is_root at in
    let root = root_is views v first in
    ⊎_elim
    (λ (f : (p : ℕ) × (r : List ℕ) × (h.rest ≡ p ∷ r) × (x ≡ Piece p) × (items ≡ tasks r h.left)).
    let no_end : v.ends ≡ 0 = not_some v.ends (λ some_ended.
    let has = total_has ends views port v at in
    let none : h.rest ≡ [] = h.ended (omega arith) in let is = f.2 in absurd (cc)) in
    let most : (g : ℕ → ℕ) → sum_by g v.taken + g f.0 ≤ sum_by g v.dealt = λ g.
    let has = total_has (weight g) views port v at in
    let same : sum_by g v.dealt ≡ sum_by g (root_of views).dealt = ap (λ u. sum_by g u.dealt) (sym root) in
    let start : sum_by g h.rest ≡ sum_by g (f.0 ∷ f.1) = ap (sum_by g) f.2 in
    let balance = h.pieces_are g in omega (arith, sum_by-cons g f.0 f.1) in
    subst Goal (sym f.3) (
      with_piece v f.0,
      piece_step port v x items views h f.0 f.1 at some_seat f.2 f.4,
      (refl, no_end, most),
    ))
    (λ (f : (l : ℕ) × (h.rest ≡ []) × (h.left ≡ suc l) × (x ≡ End) × (items ≡ tasks [] l)).
    let right : v.ends < v.seats =
    let has = total_has ends views port v at in
    let counted = h.marks_are in
    let left = f.2 in
    let marks : (root_of views).marks ≡ v.marks = ap (λ u. u.marks) root in omega arith in
    subst Goal (sym f.3) (
      with_end v,
      end_step port v x items views h f.0 at right f.1 f.2 f.4,
      (refl, settled v (x ∷ items) views h first whole f.1),
    ))
    (first_of x items h.rest h.left h.items_are)

no_rest : (rest : List ℕ) (left : ℕ) → [] ≡ tasks rest left → rest ≡ []
no_rest [] left e = refl
no_rest (x ∷ rest) left e = absurd (cc)

-- where it finds the deque empty, nothing is left
pub finds_nothing : (port : ℕ) (v : Tally) → port ≡ 0 → v.seats ≡ v.marks → Finds Holds port v (IsSettled v)
finds_nothing port v is_root whole views h at =
    settled v [] views h (subst (λ k. get_elem? views k ≡ some v) is_root at) whole (no_rest h.rest h.left h.items_are)

-- a change of the owner's pass that keeps its rights, its pieces and what was dealt; and a new pass that did nothing
splits : (v w u : Tally) (items : List Task) (views : List Tally) → Holds items views → get_elem? views 0 ≡ some v
    → w.seats + u.seats ≡ v.seats → w.marks ≡ v.marks → w.ends ≡ v.ends → u.ends ≡ 0 → w.dealt ≡ v.dealt
    → w.taken ≡ v.taken → u.taken ≡ []
    → ((root : Tally) → root.dealt ≡ w.dealt → Fits root w × Fits root u) → Holds items (set views 0 w ++ u ∷ [])
splits v w u items views h first seats_same marks_same ends_same no_ends deal_same taken_same none fit =
    let middle : List Tally = set views 0 w in
    let root = root_is views v first in
    let new_root : root_of (middle ++ u ∷ []) ≡ w = root_snoc middle w u (set_first views v w first)
    ∙ root_set views v w first in
    let marks : (root_of (middle ++ u ∷ [])).marks ≡ (root_of views).marks = ap (λ y. y.marks) new_root ∙ marks_same
    ∙ sym (ap (λ y. y.marks) root) in
    let deal : (root_of (middle ++ u ∷ [])).dealt ≡ (root_of views).dealt = ap (λ y. y.dealt) new_root ∙ deal_same
    ∙ sym (ap (λ y. y.dealt) root) in
    let now = fit (root_of (middle ++ u ∷ [])) (ap (λ y. y.dealt) new_root) in
    let ends_now : total ends (middle ++ u ∷ []) ≡ total ends views =
    (let s = total_set ends views 0 v w first in let t = total_snoc ends middle u in omega arith) in record {
      rest = h.rest;
      left = h.left;
      items_are = h.items_are;
      seats_are = let s = total_set seats views 0 v w first in let t = total_snoc seats middle u in
          let counted = h.seats_are in omega arith;
      marks_are = let counted = h.marks_are in omega arith;
      pieces_are = λ f.
          let s = total_set (weight f) views 0 v w first in
          let t = total_snoc (weight f) middle u in
          let same : sum_by f w.taken ≡ sum_by f v.taken = ap (sum_by f) taken_same in
          let empty : sum_by f u.taken ≡ 0 = ap (sum_by f) none in
          let dealt_now : sum_by f (root_of (middle ++ u ∷ [])).dealt ≡ sum_by f (root_of views).dealt =
          ap (sum_by f) deal in
          let balance = h.pieces_are f in omega arith;
      ended = λ some_ended. h.ended (omega arith);
      fits = each_snoc (Fits (root_of (middle ++ u ∷ []))) middle u
          (each_set (λ _ y. Fits (root_of (middle ++ u ∷ [])) y) views 0 w now.0
          (λ j y other e. let theirs = h.fits j y e in
          record { within = theirs.within; idle = theirs.idle; told = λ seat. theirs.told seat ∙ sym deal }))
          now.1;
    } where
      set_first : (xs : List Tally) (a b : Tally) → get_elem? xs 0 ≡ some a → get_elem? (set xs 0 b) 0 ≡ some b
      set_first [] a b e = absurd (some-ne-none a (sym e))
      set_first (x ∷ xs) a b e = refl

-- the owner gives one right away, before anything was taken by it
pub cuts : (port : ℕ) (v : Tally) → port ≡ 0 → 0 < v.seats → v.ends ≡ 0 → v.taken ≡ []
    → Forks Holds port v (cut v) (guest v)
cuts port v is_root some_seat no_ends none items views h at =
    subst (λ k. Holds items (set views k (cut v) ++ guest v ∷ [])) (sym is_root)
    (splits v (cut v) (guest v) items views h (subst (λ k. get_elem? views k ≡ some v) is_root at)
    (omega arith) refl refl refl refl refl refl
    (λ root deal. (
      (record { within = omega arith; idle = λ no_seat. none; told = λ seat. sym deal }),
      (record { within = omega arith; idle = λ no_seat. refl; told = λ seat. sym deal }),
    )))

-- the owner notes a piece
pub notes : (port : ℕ) (v : Tally) (p : ℕ) → port ≡ 0 → Forks Holds port v (noted v p) blank
notes port v p is_root items views h at =
    let first : get_elem? views 0 ≡ some v = subst (λ k. get_elem? views k ≡ some v) is_root at in
    let mine = h.fits 0 v first in
    subst (λ k. Holds items (set views k (noted v p) ++ blank ∷ [])) (sym is_root)
    (splits v (noted v p) blank items views h first (omega arith) refl refl refl refl refl refl
    (λ root deal.
    ((record { within = mine.within; idle = mine.idle; told = λ seat. sym deal }), blank_fits root)))

-- nothing is taken where both have taken nothing
both_none : (xs ys : List ℕ) → xs ≡ [] → ys ≡ [] → xs ++ ys ≡ []
both_none xs ys left right = cc

-- the owner takes back what a pass has
pub gives : (port : ℕ) (v : Tally) (other : ℕ) (u : Tally) → port ≡ 0 → Merges Holds port v other u (both v u) blank
gives port v other u is_root items views h at apart at' =
    let first : get_elem? views 0 ≡ some v = subst (λ k. get_elem? views k ≡ some v) is_root at in
    let w : Tally = both v u in
    let middle : List Tally = set views 0 w in
    let there : get_elem? middle other ≡ some u = subst (λ k. get_elem? (set views k w) other ≡ some u) is_root at' in
    let later : 0 < other = not_first other (λ zero_is. apart (zero_is ∙ sym is_root)) in
    let root = root_is views v first in
    let new_root : root_of (set middle other blank) ≡ w = root_else middle other blank later
    ∙ root_set views v w first in
    let marks : (root_of (set middle other blank)).marks ≡ (root_of views).marks = ap (λ y. y.marks) new_root
    ∙ sym (ap (λ y. y.marks) root) in
    let deal : (root_of (set middle other blank)).dealt ≡ (root_of views).dealt = ap (λ y. y.dealt) new_root
    ∙ sym (ap (λ y. y.dealt) root) in
    let was : get_elem? views other ≡ some u =
    ⊎_elim (λ x. absurd (let e = x.0 in omega arith)) (λ x. x.1) (at_set views 0 other w u there) in
    let mine = h.fits 0 v first in
    let theirs_u = h.fits other u was in
    let ends_now : total ends (set middle other blank) ≡ total ends views =
    (let s = total_set ends views 0 v w first in let t = total_set ends middle other u blank there in omega arith) in
    let kept : Holds items (set middle other blank) = record {
      rest = h.rest;
      left = h.left;
      items_are = h.items_are;
      seats_are = let s = total_set seats views 0 v w first in let t = total_set seats middle other u blank there in
          let counted = h.seats_are in omega arith;
      marks_are = let counted = h.marks_are in omega arith;
      pieces_are = λ f.
          let s = total_set (weight f) views 0 v w first in
          let t = total_set (weight f) middle other u blank there in
          let dealt_now : sum_by f (root_of (set middle other blank)).dealt ≡ sum_by f (root_of views).dealt =
          ap (sum_by f) deal in
          let balance = h.pieces_are f in omega (arith, sum_by-append f v.taken u.taken);
      ended = λ some_ended. h.ended (omega arith);
      fits = each_set (λ _ y. Fits (root_of (set middle other blank)) y) middle other blank (blank_fits _)
          (λ j y apart_j e. ⊎_elim
          (λ (x : (j ≡ 0) × (w ≡ y)). subst (Fits (root_of (set middle other blank))) x.1 (record {
            within = let a = mine.within in let b = theirs_u.within in omega arith;
            idle = λ no_seat. both_none v.taken u.taken (mine.idle (omega arith)) (theirs_u.idle (omega arith));
            told = λ seat. sym (ap (λ z. z.dealt) new_root);
          }))
          (λ (x : (j ≢ 0) × (get_elem? views j ≡ some y)). let theirs = h.fits j y x.1 in
          record { within = theirs.within; idle = theirs.idle; told = λ seat. theirs.told seat ∙ sym deal })
          (at_set views 0 j w y e));
    } in
    subst (λ k. Holds items (set (set views k w) other blank)) (sym is_root) kept where
      not_first : (k : ℕ) → (k ≡ 0 → ⊥) → 0 < k
      not_first zero apart_zero = absurd (apart_zero refl)
      not_first (suc k) apart_zero = omega arith
