-- Lemmas on the lines of a source.
use Rattle.std.proofs.Common.{ℕ, suc, ◌≡◌, ◌+◌, ◌<◌, Bool, ◌||◌, List, ◌∷◌, ◌++◌, length, drop, get_or, refl, sym, ap, ◌∙◌, Option, Some, None, drop-cons, add-one, append_assoc}
use Rattle.nj_asm_lines.specs.declared.syntax.Fault.{Fault}
use Rattle.nj_asm_lines.specs.declared.syntax.Line.{Line}
use Rattle.nj_asm.specs.Assembly.{Homes, size_of, is_said, fault_of, refused, refused_or, first_refused, bytes_of, bytes_from}

-- the lines from a place on
pub drop_is : (lines : List Line) (i : ℕ) (line : Line) → i < length lines → line ≡ get_or lines i line
    → drop i lines ≡ line ∷ drop (i + 1) lines
drop_is lines i line within is =
    drop-cons lines i line within ∙ ap (λ (l : Line). l ∷ drop (suc i) lines) (sym is)
    ∙ ap (λ (n : ℕ). line ∷ drop n lines) (sym (add-one i))

pub refused_at : (homes : Homes) (begun : Bool) (at i : ℕ) (lines : List Line) (line : Line) (fault : Fault) →
    i < length lines → line ≡ get_or lines i line → fault_of homes begun at i line ≡ Some fault →
    first_refused homes begun at i (drop i lines) ≡ Some (refused fault (i + 1))
refused_at homes begun at i lines line fault within is found =
    ap (first_refused homes begun at i) (drop_is lines i line within is)
    ∙ ap (λ (o : Option Fault). refused_or o (i + 1) (first_refused homes (begun || is_said line.statement)
    (at + size_of line.statement) (i + 1) (drop (i + 1) lines))) found

pub accepted_at : (homes : Homes) (begun : Bool) (at i : ℕ) (lines : List Line) (line : Line) →
    i < length lines → line ≡ get_or lines i line → fault_of homes begun at i line ≡ None →
    first_refused homes begun at i (drop i lines)
    ≡ first_refused homes (begun || is_said line.statement) (at + size_of line.statement) (i + 1) (drop (i + 1) lines)
accepted_at homes begun at i lines line within is found =
    ap (first_refused homes begun at i) (drop_is lines i line within is)
    ∙ ap (λ (o : Option Fault). refused_or o (i + 1) (first_refused homes (begun || is_said line.statement)
    (at + size_of line.statement) (i + 1) (drop (i + 1) lines))) found

pub bytes_at : (homes : Homes) (at i : ℕ) (lines : List Line) (line : Line) (bytes goal : List ℕ) →
    i < length lines → line ≡ get_or lines i line → goal ≡ bytes ++ bytes_from homes at (drop i lines) →
    goal ≡ (bytes ++ bytes_of homes at line.statement)
    ++ bytes_from homes (at + size_of line.statement) (drop (i + 1) lines)
bytes_at homes at i lines line bytes goal within is before =
    before
    ∙ ap (λ (ls : List Line). bytes ++ bytes_from homes at ls) (drop_is lines i line within is)
    ∙ sym (append_assoc bytes (bytes_of homes at line.statement)
    (bytes_from homes (at + size_of line.statement) (drop (i + 1) lines)))

pub not_some : (fault : Option Fault) → ((f : Fault) → fault ≡ Some f → ⊥) → fault ≡ None
not_some None other = refl
not_some (Some f) other = absurd (other f refl)
