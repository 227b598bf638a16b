-- By the length, and by each slot.
use Rattle.std.proofs.Common.{◌≡◌, ◌/◌, true, false, sym, ◌∙◌, arith, length, refl}
use Rattle.nj_claims.proofs.Testing.{is_table_if, is_long, is_power, slot_fits, tells_no}
use Rattle.nj_claims.proofs.words.is_table.Goals as goal

pub returns-then-count-lt2 : goal.returns-then-count-lt2
returns-then-count-lt2 c = tells_no c.args.words.now (λ t. let l = is_long c.args.words.now t in omega arith)

pub returns-then-not-is_power_of_two : goal.returns-then-not-is_power_of_two
returns-then-not-is_power_of_two c = tells_no c.args.words.now
    (λ t. absurd (let e : false ≡ true = c.if-not-is_power_of_two.ensures ∙ is_power c.args.words.now t in cc))

pub returns-then-not-fits : goal.returns-then-not-fits
returns-then-not-fits c = tells_no c.args.words.now (λ t.
    absurd (let e : false ≡ true = sym c.if-not-fits.true ∙ c.fits.ensures.1
    (slot_fits c.args.words.now (length c.args.words.now / 2) c.loop-slot.slot refl c.loop-slot-test.true t) in cc))

pub returns : goal.returns
returns c = (
  λ _. is_table_if c.args.words.now (length c.args.words.now / 2) refl (omega arith)
      (sym c.if-not-is_power_of_two.ensures)
      (λ i l. c.loop-slot.invariant i (omega arith)),
  λ _. refl,
)
