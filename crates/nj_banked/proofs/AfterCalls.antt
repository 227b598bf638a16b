-- What holds after every list of calls.
use Rattle.std.proofs.Common.{◌≡◌, ℕ, ◌<◌, Bool, true, false, cond, List, [], ◌∷◌, refl, sym, subst, ◌∙◌, arith, length-set}
use Rattle.std.specs.Prelude.{nat_le, slice_set}
use Rattle.nj_banked.specs.Banks.{Banks, bank_count, IsBanks}
use Rattle.nj_banked.specs.Banked.{written, chosen_by, put_at, with_bank}
use Rattle.nj_banked.specs.Calls.{Call, Writes, Puts, Chooses, after_call, after_calls, IsCall, AreCalls, IsKept}
use Rattle.nj_banked.proofs.Fits.{some_banks}
use Rattle.nj_banked.proofs.Kept.{fits-kept, choice-kept, put-kept}

-- a call keeps the memories, and the bank that it leaves is one that there is
record Stays (old new : Banks) : Type 0 where
  pub kept : IsKept old new
  pub bank : new.bank < bank_count old

kept-same : (m : Banks) → IsKept m m
kept-same m = record { prg = refl; mapper = refl; chr_ram = refl; rom = λ _. refl; chr_size = refl; count = refl }

kept-on : (a b c : Banks) → IsKept a b → IsKept b c → IsKept a c
kept-on a b c first second =
    record {
      prg = second.prg ∙ first.prg;
      mapper = second.mapper ∙ first.mapper;
      chr_ram = second.chr_ram ∙ first.chr_ram;
      rom = λ rom. second.rom (first.chr_ram ∙ rom) ∙ first.rom rom;
      chr_size = second.chr_size ∙ first.chr_size;
      count = second.count ∙ first.count;
    }

written-by : (m : Banks) (bank : ℕ) (b : Bool) → m.bank < bank_count m → bank < bank_count m
    → Stays m (cond b (with_bank m bank) m)
written-by m bank true old new = record { kept = choice-kept m bank; bank = new }
written-by m bank false old new = record { kept = kept-same m; bank = old }

put-by : (m : Banks) (at value : ℕ) (b : Bool) → m.chr_ram ≡ b → m.bank < bank_count m →
    Stays m (cond b (record m { chr = slice_set m.chr at value }) m)
put-by m at value true ram old =
    record { kept = put-kept m (slice_set m.chr at value) ram (length-set m.chr at value); bank = old }
put-by m at value false ram old = record { kept = kept-same m; bank = old }

call-stays : (m : Banks) (call : Call) → IsBanks m → IsCall (bank_count m) call → Stays m (after_call call m)
unfolding written put_at chosen_by
call-stays m (Writes at value) fits is =
    written-by m (chosen_by m at value) (nat_le 0x8000 at) fits.bank (omega (arith, (some_banks m fits).0))
call-stays m (Puts at value) fits is = put-by m at value m.chr_ram refl fits.bank
call-stays m (Chooses bank) fits is = record { kept = choice-kept m bank; bank = is }

calls-count : (m n : Banks) (calls : List Call) → bank_count n ≡ bank_count m → AreCalls (bank_count m) calls
    → AreCalls (bank_count n) calls
calls-count m n calls same are = subst (λ count. AreCalls count calls) (sym same) are

-- so does a list of calls
pub calls-stay : (m : Banks) (calls : List Call) → IsBanks m → AreCalls (bank_count m) calls
    → IsKept m (after_calls calls m) × IsBanks (after_calls calls m)
calls-stay m [] fits are = (kept-same m, fits)
calls-stay m (call ∷ calls) fits are =
    let now = call-stays m call fits are.0 in
    let next : Banks = after_call call m in
    let fits_next = fits-kept m next now.kept now.bank fits in
    let rest = calls-stay next calls fits_next (calls-count m next calls now.kept.count are.1) in
    (kept-on m next (after_calls calls next) now.kept rest.0, rest.1)
