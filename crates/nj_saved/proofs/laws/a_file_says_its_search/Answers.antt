-- What is read is what the file says.
use Rattle.std.proofs.Common.{◌≡◌, ◌⊎◌, inl, inr, ℕ, List, ap, ap₂, ◌∙◌, sym}
use Rattle.std.specs.Prelude.{Ok}
use Rattle.nj_saved.specs.declared.saved.Saved.{Saved}
use Rattle.nj_saved.specs.Bytes.{file_bytes}
use Rattle.nj_saved.specs.Reading.{saved_of}
use Rattle.nj_saved.specs.Says.{IsFileOf}
use Rattle.nj_saved.proofs.Said.{said}
use Rattle.nj_saved.proofs.Written.{read_first, read_second}
use Rattle.nj_saved.proofs.laws.a_file_says_its_search.Goals as goal

pub returns-clause-said : goal.returns-clause-said
returns-clause-said c file cart script saved are is = said file cart script saved are is

-- in the one version or the other
by_version : (file : List ℕ) (cart script : ℕ) (saved : Saved) → IsFileOf file cart script saved →
    (file ≡ file_bytes 1 saved) ⊎ (file ≡ file_bytes 2 saved) → saved_of file saved.cart saved.script ≡ Ok saved
by_version file cart script saved says (inl one) =
    ap (λ bytes. saved_of bytes saved.cart saved.script) one ∙ read_first saved says.ranges says.fits
by_version file cart script saved says (inr two) =
    ap (λ bytes. saved_of bytes saved.cart saved.script) two ∙ read_second saved says.ranges says.fits

pub returns-clause-read : goal.returns-clause-read
returns-clause-read c file cart script saved says =
    ap₂ (saved_of file) (sym says.cart_is) (sym says.script_is) ∙ by_version file cart script saved says says.bytes
