-- Lemmas on labels.
use Rattle.std.proofs.Common.{ℕ, ◌≡◌, ◌<◌, ◌+◌, Bool, true, false, cond, List, length, drop, get_or, Option, Some, None, refl, sym, ap, ◌∙◌}
use Rattle.std.specs.Option.{option_or, is_some}
use Rattle.std.specs.Str.{bytes_eq}
use Rattle.std.proofs.lemmas.Slice.Eq.{bytes_eq-Decides}
use Rattle.nj_asm.specs.declared.labels.Home.{Home}
use Rattle.nj_asm_lines.specs.declared.syntax.Line.{Line}
use Rattle.nj_asm.specs.Assembly.{next_place, is_labelled, home_in}
use Rattle.nj_asm.proofs.LineLemmas.{drop_is}

pub none_is : (home : Option Home) → is_some home ≡ false → home ≡ None
none_is None absent = refl
none_is (Some home) absent = absurd cc

noted_by : (b : Bool) (before : Option Home) (home : Home) → (b ≡ true → before ≡ None)
    → cond b (Some home) before ≡ option_or before (cond b (Some home) None)
noted_by true None home h = refl
noted_by true (Some other) home h = let none : Some other ≡ None = h refl in absurd cc
noted_by false None home h = refl
noted_by false (Some other) home h = refl

-- a map with one label more
pub noted : (old : List ℕ → Option Home) (key name q : List ℕ) (label : Option (List ℕ)) (home : Home) →
    key ≡ name → label ≡ Some name → old name ≡ None →
    cond (bytes_eq key q) (Some home) (old q) ≡ option_or (old q) (cond (is_labelled q label) (Some home) None)
noted old key name q label home same is absent =
    rw (same, is) (noted_by (bytes_eq name q) (old q) home (λ e. ap old (sym ((bytes_eq-Decides name q).0 e)) ∙ absent))

-- what is found before the rest, a test and what stands behind it
or_by : (b : Bool) (before : Option Home) (home : Home) (rest : Option Home)
    → option_or before (cond b (Some home) rest) ≡ option_or (option_or before (cond b (Some home) None)) rest
or_by true None home rest = refl
or_by true (Some other) home rest = refl
or_by false None home rest = refl
or_by false (Some other) home rest = refl

-- the labels of one line more
pub home_step : (name : List ℕ) (place i : ℕ) (lines : List Line) (line : Line) (before after goal : Option Home) →
    i < length lines → line ≡ get_or lines i line → goal ≡ option_or before (home_in name place i (drop i lines)) →
    after ≡ option_or before (cond (is_labelled name line.label) (Some (record { line = i; place = place })) None) →
    goal ≡ option_or after (home_in name (next_place place line.statement) (i + 1) (drop (i + 1) lines))
home_step name place i lines line before after goal within is found noted =
    found
    ∙ ap (λ (ls : List Line). option_or before (home_in name place i ls)) (drop_is lines i line within is)
    ∙ or_by (is_labelled name line.label) before (record { line = i; place = place })
    (home_in name (next_place place line.statement) (i + 1) (drop (i + 1) lines))
    ∙ ap (λ (o : Option Home). option_or o (home_in name (next_place place line.statement) (i + 1) (drop (i + 1) lines)))
    (sym noted)
