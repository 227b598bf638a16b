-- The file is put as all files are.
use Rattle.std.proofs.Common.{◌≡◌, ◌≤◌, ◌⊎◌, ◌∙◌, ℕ, List, length, take, Option, Some, sym, ap, subst}
use Rattle.nj_bytes.specs.Fnv.{fnv_of}
use Rattle.nj_outside.specs.Told.{Files, put_file}
use Rattle.nj_tasks.specs.Causes.{IsPutCut, with_put}
use Rattle.nj_tasks.specs.declared.stops.Put.{Put}
use Rattle.nj_tasks.proofs.Statuses.{fault_more, ok_more}
use Rattle.nj_tasks.proofs.telling.put.Goals as goal

-- what a cut put leaves
cut_put : (file : Option Put) (put : Put) (name bytes : List ℕ) (failed : ℕ) (before after : Option Files) →
    file ≡ Some put → name ≡ put.name → bytes ≡ put.bytes → failed ≡ fnv_of name →
    (after ≡ before) ⊎ ((n : ℕ) × (n ≤ length bytes) × (after ≡ put_file before name (take n bytes))) →
    IsPutCut file failed before after
cut_put file put name bytes failed before after is is_name is_bytes named left = record {
  put = put;
  is_put = is;
  named = named ∙ ap fnv_of is_name;
  files = subst (λ n. Left n put.bytes) is_name (subst (λ b. Left name b) is_bytes left);
} where
  Left : List ℕ → List ℕ → Type 0
  Left n b = (after ≡ before) ⊎ ((k : ℕ) × (k ≤ length b) × (after ≡ put_file before n (take k b)))

-- what a whole put leaves
whole_put : (file : Option Put) (put : Put) (name bytes : List ℕ) (before after : Option Files) →
    file ≡ Some put → name ≡ put.name → bytes ≡ put.bytes → after ≡ put_file before name bytes →
    after ≡ with_put file before
whole_put file put name bytes before after is is_name is_bytes whole =
    whole ∙ (λ i. put_file before (is_name i) (is_bytes i)) ∙ ap (λ f. with_put f before) (sym is)

pub returns-in-Some-clause-saved : goal.returns-in-Some-clause-saved
returns-in-Some-clause-saved g c =
    ok_more c.put_all.result c.put_all.ensures.ok
    (whole_put _ _ _ _ _ _ c.in-Some.is c.as_str.ensures c.as_slice.ensures.value)

pub returns-in-Some-clause-cut : goal.returns-in-Some-clause-cut
returns-in-Some-clause-cut g c =
    fault_more c.put_all.result c.put_all.ensures.fault_name c.put_all.ensures.prefix
    (cut_put _ _ _ _ _ _ _ c.in-Some.is c.as_str.ensures c.as_slice.ensures.value)
