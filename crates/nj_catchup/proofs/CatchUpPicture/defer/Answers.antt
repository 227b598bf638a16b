-- Dots that stay pending are counted, or given back.
use Rattle.std.proofs.Common.{◌≡◌, ◌+◌, ◌-◌, ◌%◌, sym, ap, subst, ◌∙◌, arith}
use Rattle.nj_dots.specs.Dots.{after_dots}
use Rattle.nj_catchup.specs.Limit.{pending_of, IsLull}
use Rattle.nj_catchup.proofs.Sums.{dots-sum}
use Rattle.nj_catchup.proofs.Limits.{lull-goes-on, spare-small, taken, given-back}
use Rattle.nj_catchup.proofs.CatchUpPicture.defer.Goals as goal

pub invariant_of-self : goal.invariant_of-self
invariant_of-self c =
    let s = c.args.self.now in
    let small = spare-small s.lull s.screen s.fits s.lulls in
    let same : c.give_back.new.self ≡ s.lull =
    c.give_back.ensures
    ∙ ap (λ n. record s.lull { spare = n }) (given-back s.lull.spare c.args.dots small c.ranges.dots.fits) in
    record { fits = s.fits; lulls = subst (λ l. IsLull l s.screen) (sym same) s.lulls }

pub invariant_of-self-else-past : goal.invariant_of-self-else-past
invariant_of-self-else-past c =
    let s = c.args.self.now in
    let left = taken s.lull.spare c.args.dots (spare-small s.lull s.screen s.fits s.lulls) c.if-past.false in
    record {
      fits = s.fits;
      lulls = subst (λ n. IsLull (record s.lull { spare = n }) s.screen) (sym left)
          (lull-goes-on s.lull s.screen c.args.dots s.lulls c.if-past.false);
    }

pub returns-then-past-clause-due : goal.returns-then-past-clause-due
returns-then-past-clause-due c = λ p due.
    let s = c.args.self.now in
    let small = spare-small s.lull s.screen s.fits s.lulls in
    let same : c.give_back.new.self ≡ s.lull =
    c.give_back.ensures
    ∙ ap (λ n. record s.lull { spare = n }) (given-back s.lull.spare c.args.dots small c.ranges.dots.fits) in
    ap (λ l. after_dots (pending_of l) p s.screen) same

pub returns-clause-pending : goal.returns-clause-pending
returns-clause-pending c = λ p yes.
    let s = c.args.self.now in
    let left = taken s.lull.spare c.args.dots (spare-small s.lull s.screen s.fits s.lulls) c.if-past.false in
    let all : s.lull.limit - (s.lull.spare + (4294967296 - c.args.dots)) % 4294967296
    ≡ c.args.dots + pending_of s.lull = omega (arith, left, s.lulls.within, c.if-past.false) in
    sym (dots-sum _ c.args.dots (pending_of s.lull) p s.screen all)
