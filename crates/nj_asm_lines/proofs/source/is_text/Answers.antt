-- The bytes are UTF-8 as far as they go.
use Rattle.std.proofs.Common.{◌<◌, length, sym, eq-eqb, arith}
use Rattle.std.specs.Str.Lossy.{utf8_valid_len}
use Rattle.std.proofs.lemmas.Bool.Decides.{nat_tests}
use Rattle.std.proofs.lemmas.Str.{utf8_valid_len-IsUtf8, utf8_valid_len-IsValidUpTo}
use Rattle.nj_asm_lines.proofs.source.is_text.Goals as goal

pub returns-in-Ok : goal.returns-in-Ok
returns-in-Ok c = sym (eq-eqb _ _ (utf8_valid_len-IsUtf8 c.args.bytes.now c.in-Ok.ensures.cases.1))

pub returns-in-Err : goal.returns-in-Err
returns-in-Err c =
    let upto = utf8_valid_len-IsValidUpTo c.args.bytes.now _ c.in-Err.ensures.cases.1 in
    let short = c.in-Err.ensures.cases.1.short in
    let below : utf8_valid_len c.args.bytes.now < length c.args.bytes.now = omega (arith, upto, short) in
    grind (arith, nat_tests)
