-- The work of each command, by the names that its files have.
use Rattle.std.proofs.Common.{◌≡◌, List, ℕ, Some, None, refl, sym, ap, ap₂, ◌∙◌}
use Rattle.nj_words.specs.declared.Command.{Command}
use Rattle.nj_words.specs.declared.Command.TheVariants.{Check, Resume, Search, Workload}
use Rattle.nj_words.specs.declared.SearchOptions.{SearchOptions}
use Rattle.nj_commands.specs.Commands.{NeedsSearch, names_without_search, work_without_search}
use Rattle.nj_tasks.specs.Formats.{cart_format, loaded, script_format}
use Rattle.nj_tasks.specs.Work.{Work, both, found_in}
use Rattle.nj_app.specs.Answer.{file_names, save_name, work_of}
use Rattle.nj_app.specs.Check.{check_finding, check_work}
use Rattle.nj_app.specs.Search.{search_files, search_finding, search_work}
use Rattle.nj_app.specs.declared.search.SearchInput.{SearchInput}

module _ (command : Command) where
  -- `search`
  pub search_is : (cart script start : List ℕ) (options asked : SearchOptions) (load : (SearchInput → Work) → Work) →
      command ≡ Search cart script start options → load ≡ search_files cart script start None → asked ≡ options →
      load (found_in (search_finding asked)) ≡ work_of command
  unfolding work_of search_work
  search_is cart script start options asked load is e o =
      ap₂ (λ l (x : SearchOptions). l (found_in (search_finding x))) e o ∙ ap work_of (sym is)

  -- `resume`
  pub resume_is : (cart script start saved : List ℕ) (options asked : SearchOptions)
      (load : (SearchInput → Work) → Work) →
      command ≡ Resume cart script start saved options → load ≡ search_files cart script start (Some saved) →
      asked ≡ options → load (found_in (search_finding asked)) ≡ work_of command
  unfolding work_of search_work
  resume_is cart script start saved options asked load is e o =
      ap₂ (λ l (x : SearchOptions). l (found_in (search_finding x))) e o ∙ ap work_of (sym is)

  -- `check`
  pub check_is : (cart script a b : List ℕ) → command ≡ Check cart script → a ≡ cart → b ≡ script →
      both (loaded cart_format a) (loaded script_format b) (found_in check_finding) ≡ work_of command
  unfolding work_of check_work
  check_is cart script a b is p q = ap₂ check_work p q ∙ ap work_of (sym is)

-- a command that needs no search is what it is without one
pub record IsWithoutSearch (command : Command) : Type 0 where
  pub needs : NeedsSearch command → ⊥
  pub work : work_without_search command ≡ work_of command
  pub names : names_without_search command ≡ file_names command
  pub saves : save_name command ≡ None

pub without_search : (command : Command) →
    ((cart script start : List ℕ) (options : SearchOptions) → command ≡ Search cart script start options → ⊥) →
    ((cart script start saved : List ℕ) (options : SearchOptions) →
    command ≡ Resume cart script start saved options → ⊥) →
    ((cart script : List ℕ) → command ≡ Check cart script → ⊥) →
    ((number : ℕ) → command ≡ Workload number → ⊥) → IsWithoutSearch command
unfolding work_of
without_search (Search cart script start options) search resume check workload =
    absurd (search cart script start options refl)
without_search (Resume cart script start saved options) search resume check workload =
    absurd (resume cart script start saved options refl)
without_search (Check cart script) search resume check workload = absurd (check cart script refl)
without_search (Workload number) search resume check workload = absurd (workload number refl)
without_search command search resume check workload =
    record { needs = λ h. h; work = refl; names = refl; saves = refl }
