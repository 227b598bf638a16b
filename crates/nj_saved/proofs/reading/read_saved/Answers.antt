-- Each test in turn.
use Rattle.std.proofs.Common.{◌≡◌, ◌⊎◌, inl, inr, ℕ, List, ap, sym, ◌∙◌, subst, arith}
use Rattle.std.specs.Prelude.{Some, None, Ok, Err}
use Rattle.std.proofs.lemmas.List.{get_or_default}
use Rattle.std.proofs.lemmas.Result.{err_from_is_err_and}
use Rattle.nj_saved.specs.declared.refusal.SavedRefused.{SavedRefused}
use Rattle.nj_saved.specs.declared.refusal.SavedRefused.TheVariants.{NoMemory}
use Rattle.nj_saved.specs.Ranges.{IsInRange, Fits}
use Rattle.nj_saved.specs.Reading.{first_refusal, identity_tests, size_tests, generations_tests, saved_of}
use Rattle.nj_saved.proofs.InRange.{contents_in_range}
use Rattle.nj_saved.proofs.Said.{contents_fit}
use Rattle.nj_saved.proofs.Whole.{identity_refused, sizes_refused, generations_refused, tail_refused, all_read}
use Rattle.nj_saved.proofs.reading.read_saved.Goals as goal

pub returns-in_err-check_identity-clause-value : goal.returns-in_err-check_identity-clause-value
returns-in_err-check_identity-clause-value c =
    let p = err_from_is_err_and c.from_residual.result c.from_residual.ensures.1 in
    rw (p.1, p.2)
    (inr
    (identity_refused c.args.file.now c.args.cart c.args.script c.in_err-check_identity.field-0.0
    c.in_err-check_identity.ensures.first))

pub returns-in_err-check_sizes-clause-value : goal.returns-in_err-check_sizes-clause-value
returns-in_err-check_sizes-clause-value c =
    let p =
    err_from_is_err_and c.from_residual-in_err-check_sizes.result c.from_residual-in_err-check_sizes.ensures.1 in
    rw (p.1, p.2)
    (inr
    (sizes_refused c.args.file.now c.args.cart c.args.script c.in_ok-check_identity.ensures.first
    c.in_err-check_sizes.field-0.0 c.in_err-check_sizes.ensures.first))

-- a refusal of the generations is one of the file
refused_so :
    (file : List ℕ) (cart script : ℕ) (refused : SavedRefused) →
    first_refusal (identity_tests file cart script) ≡ None → first_refusal (size_tests file) ≡ None →
    (refused ≡ NoMemory) ⊎ (first_refusal (generations_tests file) ≡ Some refused) →
    (refused ≡ NoMemory) ⊎ (saved_of file cart script ≡ Err refused)
refused_so file cart script refused identity sizes (inl memory) = inl memory
refused_so file cart script refused identity sizes (inr first) =
    inr (generations_refused file cart script identity sizes refused first)

pub returns-in_err-older-clause-value : goal.returns-in_err-older-clause-value
returns-in_err-older-clause-value c =
    let p = err_from_is_err_and c.from_residual-in_err-older.result c.from_residual-in_err-older.ensures.1 in
    rw (p.1, p.2)
    (refused_so c.args.file.now c.args.cart c.args.script c.in_err-older.field-0.0 c.in_ok-check_identity.ensures.first
    c.in_ok-check_sizes.ensures.first c.in_err-older.ensures)

pub returns-in_err-check_tail-clause-value : goal.returns-in_err-check_tail-clause-value
returns-in_err-check_tail-clause-value c =
    let p = err_from_is_err_and c.from_residual-in_err-check_tail.result c.from_residual-in_err-check_tail.ensures.1 in
    rw (p.1, p.2)
    (inr
    (tail_refused c.args.file.now c.args.cart c.args.script c.in_ok-check_identity.ensures.first
    c.in_ok-check_sizes.ensures.first
    _ _ c.in_ok-older.ensures c.in_err-check_tail.field-0.0 c.in_err-check_tail.ensures))

pub returns-clause-value : goal.returns-clause-value
returns-clause-value c =
    all_read c.args.file.now c.args.cart c.args.script c.in_ok-check_identity.ensures.first
    c.in_ok-check_sizes.ensures.first _ _ c.in_ok-older.ensures c.in_ok-check_tail.ensures
    ∙ ap Ok (sym c.in_ok-contents.ensures)

pub returns-clause-ranges : goal.returns-clause-ranges
returns-clause-ranges c =
    subst IsInRange (sym c.in_ok-contents.ensures)
    (contents_in_range c.args.file.now _ _ c.in_ok-check_sizes.ensures.there c.in_ok-older.ensures)

pub returns-clause-fits : goal.returns-clause-fits
returns-clause-fits c =
    subst Fits (sym c.in_ok-contents.ensures)
    (contents_fit c.args.file.now
    (λ k d inside. omega (arith, c.type_inv.file k, get_or_default c.args.file.now k d 0 inside)))
