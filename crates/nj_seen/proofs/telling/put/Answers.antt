-- A key more.
use Rattle.std.proofs.Common.{◌≡◌, ◌-◌, ◌<◌, ◌++◌, ◌∷◌, [], length, get_or, set, inl, inr, sym, ap, ◌∙◌, arith}
use Rattle.std.proofs.lemmas.List.{get_or_default}
use Rattle.nj_seen.proofs.Owners.{length_by_owner, put_outside, put_inside, of_key, of_none}
use Rattle.nj_seen.proofs.telling.put.Goals.{then-key-eq0-via-then-key-eq0, then-key-eq0-via-else-key-eq0+then-owner-first, then-key-eq0-via-else-key-eq0+else-owner-first+then-owner-first-2}
use Rattle.nj_seen.proofs.telling.put.Goals as goal

pub returns-then-key-eq0 : goal.returns-then-key-eq0
returns-then-key-eq0 c = λ entries count is.
    let long : length c.args.lists.now.items ≡ count = ap length is ∙ length_by_owner entries c.args.first count in
    elim c.then-key-eq0.branch [
      | then-key-eq0-via-then-key-eq0 w ↦ is
          ∙ of_none entries c.args.key c.args.owner c.args.first count w.if-key-eq0.true
      | then-key-eq0-via-else-key-eq0+then-owner-first w ↦
          is ∙ (sym (put_outside entries c.args.key c.args.owner c.args.first count (inl w.if-owner-first.true))
          ∙ of_key entries c.args.key c.args.owner c.args.first count (λ e. omega (arith, e, w.if-key-eq0.false)))
      | then-key-eq0-via-else-key-eq0+else-owner-first+then-owner-first-2 w ↦
          is ∙ (sym (put_outside entries c.args.key c.args.owner c.args.first count
          (inr (omega (arith, w.if-owner-first.false, w.if-owner-first-2.true, w.len.ensures, long))))
          ∙ of_key entries c.args.key c.args.owner c.args.first count (λ e. omega (arith, e, w.if-key-eq0.false)))
    ]

pub returns : goal.returns
returns c = λ entries count is.
    let long : length c.args.lists.now.items ≡ count = ap length is ∙ length_by_owner entries c.args.first count in
    let inside : c.args.owner - c.args.first < length c.args.lists.now.items =
    omega (arith, c.if-owner-first-2.false, c.len.ensures) in
    let pushed : c.push.new.self ≡ get_or c.args.lists.now.items (c.args.owner - c.args.first) [] ++ c.args.key ∷ [] =
    c.in_ok-push.ensures.items ∙ ap (λ l. l ++ c.args.key ∷ [])
    (c.index_mut.ensures.value ∙ get_or_default c.args.lists.now.items (c.args.owner - c.args.first) _ [] inside) in
    ap (set c.args.lists.now.items (c.args.owner - c.args.first)) pushed
    ∙ (ap (λ ls. set ls (c.args.owner - c.args.first) (get_or ls (c.args.owner - c.args.first) [] ++ c.args.key ∷ []))
    is
    ∙ (sym (put_inside entries c.args.key c.args.owner (c.args.owner - c.args.first) c.args.first count
    (omega (arith, c.if-owner-first.false)) (omega (arith, inside, long)))
    ∙ of_key entries c.args.key c.args.owner c.args.first count (λ e. omega (arith, e, c.if-key-eq0.false))))
