-- The window of the board moves.
use Rattle.std.proofs.Common.{subst, ◌<◌, sym, ◌∙◌}
use Rattle.nj_banked.specs.Banks.{bank_count}
use Rattle.nj_banked.proofs.Kept.{set-first, uxrom-moved, cnrom-moved, none-moved}
use Rattle.nj_banked.proofs.banked.Banked.choose.Goals as goal

pub invariant_of-self : goal.invariant_of-self
invariant_of-self c =
    let moved =
    uxrom-moved _ _ _ _ _ c.self.invariant (subst (λ m. c.args.bank < bank_count m) (sym c.self.view_is) c.requires)
    c.if-self-eq-UXROM.true in
    record {
      fits = moved.fits;
      low_is = (set-first c.self.inside.windows _ c.self.told).0 ∙ moved.low_is;
      high_is = (set-first c.self.inside.windows _ c.self.told).1 ∙ moved.high_is;
      pattern_is = moved.pattern_is;
    }

pub invariant_of-self-then-self-eq-CNROM : goal.invariant_of-self-then-self-eq-CNROM
invariant_of-self-then-self-eq-CNROM c =
    cnrom-moved _ _ _ _ _ c.self.invariant (subst (λ m. c.args.bank < bank_count m) (sym c.self.view_is) c.requires)
    c.if-self-eq-CNROM.true

pub invariant_of-self-else-self-eq-CNROM : goal.invariant_of-self-else-self-eq-CNROM
invariant_of-self-else-self-eq-CNROM c =
    none-moved _ _ _ _ _ c.self.invariant (subst (λ m. c.args.bank < bank_count m) (sym c.self.view_is) c.requires)
    c.if-self-eq-UXROM.false c.if-self-eq-CNROM.false
