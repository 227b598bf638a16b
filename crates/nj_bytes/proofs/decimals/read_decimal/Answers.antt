-- Where the text is short and all digits, the parse of std gives its value.
use Rattle.std.proofs.Common.{◌≡◌, true, arith, ◌∙◌}
use Rattle.std.specs.Char.{is_ascii_digit}
use Rattle.std.specs.List.{list_all}
use Rattle.nj_bytes.proofs.Numbers.{no_decimal, decimal_exactly, parsed}
use Rattle.nj_bytes.proofs.decimals.read_decimal.Goals as goal

pub returns-then-text-gt-MOST_DIGITS-clause-value : goal.returns-then-text-gt-MOST_DIGITS-clause-value
returns-then-text-gt-MOST_DIGITS-clause-value c = no_decimal _ (λ one. let few = one.few in omega arith)

pub returns-then-not-has_digits_alone-clause-value : goal.returns-then-not-has_digits_alone-clause-value
returns-then-not-has_digits_alone-clause-value c =
    no_decimal _ (λ one. let digits = one.digits in let tested = c.has_digits_alone.ensures in cc)

pub returns-clause-value : goal.returns-clause-value
returns-clause-value c =
    let digits : list_all is_ascii_digit c.args.text.now ≡ true = cc (c.has_digits_alone.ensures) in
    c.ok.ensures.value ∙ parsed _ _ c.parse.ensures.value.0 digits (omega arith)

pub returns-clause-exactly : goal.returns-clause-exactly
returns-clause-exactly c = decimal_exactly _ _ (returns-clause-value c)
