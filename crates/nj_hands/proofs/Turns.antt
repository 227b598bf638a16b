-- A hand that works on.
use Rattle.std.proofs.Common.{◌≡◌, ℕ, ◌+◌, ◌*◌, ◌≤◌, List, [], ◌∷◌, ◌++◌, length, drop, sym, ap, ◌∙◌, subst, arith, append_assoc, append-nil}
use Rattle.std.specs.List.{sum_by}
use Rattle.std.proofs.Math.Nat.{mul-add}
use Rattle.std.proofs.Math.Seq.{drop-append_seam}
use Rattle.std.proofs.lemmas.List.Concat.{flat_map-append}
use Rattle.std.proofs.lemmas.List.Sums.{sum_by-append, sum_by-cons}
use Rattle.nj_claims.specs.Passes.{TableView, PassView}
use Rattle.nj_pieces.specs.declared.parts.Pieces.{Pieces}
use Rattle.nj_pieces.specs.Takers.{number_of, taken_of}
use Rattle.nj_rows.specs.declared.Row.{Row}
use Rattle.nj_expand.specs.Held.{Held}
use Rattle.nj_hands.specs.declared.hand.Hand.{Hand}
use Rattle.nj_hands.specs.Claimed.{IsSamePass, AreClaimed, AddsClaimed}
use Rattle.nj_hands.specs.Shares.{piece_rows, piece_runs, rows_of, runs_of}
use Rattle.nj_hands.specs.Hands.{MayWork, HasWorked, taken_between}
use Rattle.nj_hands.proofs.Claims.{adds_none, adds_more}

-- the frames of pieces, and of pieces behind them
pub frames_more : (hold : ℕ) (f : ℕ → ℕ) (xs ys : List ℕ) (from to after : ℕ) → to ≤ from + hold * sum_by f xs
    → after ≤ to + hold * sum_by f ys → after ≤ from + hold * sum_by f (xs ++ ys)
frames_more hold f xs ys from to after first second =
    let product : hold * (sum_by f xs + sum_by f ys) ≡ hold * sum_by f xs + hold * sum_by f ys =
    mul-add hold (sum_by f xs) (sum_by f ys) in
    let sum : after ≤ from + hold * (sum_by f xs + sum_by f ys) = omega arith in
    subst (λ (n : ℕ). after ≤ from + hold * n) (sym (sum_by-append f xs ys)) sum

-- nothing more was taken
pub took_none : (table : TableView) (pieces : Pieces) (before after : Hand) (rows : List Row) (steps : ℕ)
    → MayWork table pieces after → after.worker ≡ before.worker
    → after.search.now ≡ before.search.now → number_of after.taker ≡ number_of before.taker
    → taken_of after.taker ≡ taken_of before.taker → after.pass ≡ before.pass
    → HasWorked table pieces before after rows rows steps steps
took_none table pieces before after rows steps may worker search number taken pass = record {
  took = [];
  taken = taken ∙ sym (append-nil (taken_of before.taker));
  worker = worker;
  search = search;
  may = may;
  number = number;
  rows = subst (λ (p : PassView). AddsClaimed [] before.pass p rows rows) (sym pass) (adds_none before.pass rows);
  frames = omega arith;
  rises = omega arith;
}

-- a piece was taken and done
pub took_one : (table : TableView) (pieces : Pieces) (before after : Hand) (piece : ℕ) (old new : List Row)
    (from to : ℕ) → MayWork table pieces after → after.worker ≡ before.worker
    → after.search.now ≡ before.search.now → number_of after.taker ≡ number_of before.taker
    → taken_of after.taker ≡ taken_of before.taker ++ piece ∷ []
    → AddsClaimed (piece_rows before.search.now piece) before.pass after.pass old new
    → to ≤ from + before.search.now.plan.script.hold * piece_runs before.search.now piece → from ≤ to
    → HasWorked table pieces before after old new from to
took_one table pieces before after piece old new from to may worker search number taken rows frames rises = record {
  took = piece ∷ [];
  taken = taken;
  worker = worker;
  search = search;
  may = may;
  number = number;
  rows = subst (λ rows. AddsClaimed rows before.pass after.pass old new)
      (sym (append-nil (piece_rows before.search.now piece))) rows;
  frames = subst (λ (n : ℕ). to ≤ from + before.search.now.plan.script.hold * n)
      (let one : piece_runs before.search.now piece ≡ runs_of before.search.now (piece ∷ []) =
      omega (arith, sum_by-cons (piece_runs before.search.now) piece []) in one) frames;
  rises = rises;
}

-- pieces, and then more
pub took_more : (table : TableView) (pieces : Pieces) (a b c : Hand) (xs ys zs : List Row) (from to after : ℕ)
    → HasWorked table pieces a b xs ys from to
    → HasWorked table pieces b c ys zs to after → HasWorked table pieces a c xs zs from after
took_more table pieces a b c xs ys zs from to after f g = record {
  took = f.took ++ g.took;
  taken = g.taken ∙ ap (λ t. t ++ g.took) f.taken ∙ append_assoc (taken_of a.taker) f.took g.took;
  worker = g.worker ∙ f.worker;
  search = g.search ∙ f.search;
  may = g.may;
  number = g.number ∙ f.number;
  rows = subst (λ rows. AddsClaimed rows a.pass c.pass xs zs)
      (sym (flat_map-append (piece_rows a.search.now) f.took g.took))
      (adds_more (rows_of a.search.now f.took) (rows_of a.search.now g.took) a.pass b.pass c.pass xs ys zs f.rows
      (subst (λ (held : Held). AddsClaimed (rows_of held g.took) b.pass c.pass ys zs) f.search g.rows));
  frames = frames_more a.search.now.plan.script.hold (piece_runs a.search.now) f.took g.took from to after f.frames
      (subst (λ (held : Held). after ≤ to + held.plan.script.hold * runs_of held g.took) f.search g.frames);
  rises = (let early = f.rises in let late = g.rises in omega arith);
}

-- the pass is of the same table after claims
pub same_table : (rows : List Row) (p q : PassView) (xs ys : List Row) → AddsClaimed rows p q xs ys → q.table ≡ p.table
same_table rows p q xs ys adds = adds.pass.table

-- pieces, and then more, where the rows between are the same by another name
pub took_next : (table : TableView) (pieces : Pieces) (a b c : Hand) (xs ys ws zs : List Row) (from to after : ℕ)
    → ws ≡ ys → HasWorked table pieces a b xs ys from to
    → HasWorked table pieces b c ws zs to after → HasWorked table pieces a c xs zs from after
took_next table pieces a b c xs ys ws zs from to after same f g =
    took_more table pieces a b c xs ys zs from to after f
    (subst (λ rows. HasWorked table pieces b c rows zs to after) same g)

-- what a hand that began without rows has done, by the pieces that it took
pub record IsWorkOf (table : TableView) (pieces : Pieces) (before after : Hand) (rows : List Row) (from to : ℕ)
    : Type 0 where
  pub taken : taken_of after.taker ≡ taken_of before.taker ++ taken_between before after
  pub claimed : AreClaimed (rows_of before.search.now (taken_between before after)) before.pass after.pass rows
  pub pass : IsSamePass before.pass after.pass
  pub frames : to ≤ from + before.search.now.plan.script.hold * runs_of before.search.now (taken_between before after)
  pub rises : from ≤ to

pub work_of : (table : TableView) (pieces : Pieces) (before after : Hand) (old new : List Row) (from to : ℕ) → old ≡ []
    → HasWorked table pieces before after old new from to
    → IsWorkOf table pieces before after new from to
work_of table pieces before after old new from to none worked = record {
  taken = worked.taken ∙ ap (λ t. taken_of before.taker ++ t) (sym took_is);
  claimed = subst (λ t. AreClaimed (rows_of before.search.now t) before.pass after.pass new) (sym took_is)
      (subst (λ rows. AreClaimed (rows_of before.search.now worked.took) before.pass after.pass rows)
      (sym (worked.rows.rows_are ∙ ap (λ r. r ++ worked.rows.added) none)) worked.rows.claimed);
  pass = worked.rows.pass;
  frames = subst (λ t. to ≤ from + before.search.now.plan.script.hold * runs_of before.search.now t)
      (sym took_is) worked.frames;
  rises = worked.rises;
} where
  took_is : taken_between before after ≡ worked.took
  took_is = ap (λ (t : List ℕ). drop (length (taken_of before.taker)) t) worked.taken
      ∙ drop-append_seam (taken_of before.taker) worked.took
