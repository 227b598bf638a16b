-- The number of workers changes nothing of the answer.
use Rattle.std.proofs.Common.{◌≡◌, ℕ, Bool, true, false, cond, List, [], ◌∷◌, map, codes, Option, Some, None, option_and_then, option_map, refl, sym, ap, ◌∙◌, subst}
use Rattle.std.specs.Prelude.{if◌then◌else◌, IfSome}
use Rattle.std.specs.List.{All, find}
use Rattle.std.specs.Str.{bytes_eq}
use Rattle.std.proofs.lemmas.List.Elements.{All-cons, All-head, All-nil, All-tail}
use Rattle.std.proofs.lemmas.Slice.Eq.{bytes_eq-Decides}
use Rattle.nj_words.specs.Commands.{Row, asm_row, check_row, clean_row, command_of, name_at, play_row, reading, replay_row, resume_form, resume_of, resume_row, saving_as, search_form, search_numbers_of, search_of, search_options_of, search_row, table, trace_of, trace_row, watch_row, workload_row}
use Rattle.nj_words.specs.Grammar.{PiecesAreSaid}
use Rattle.nj_words.specs.Options.{name_or_none, number_or}
use Rattle.nj_words.specs.Words.{Form, Piece, Taken, Word, fits, name, names_in, option, pieces, taken, taken_from, value_in}
use Rattle.nj_words.specs.declared.Command.{Command}
use Rattle.nj_words.specs.declared.Command.TheVariants.{Resume, Search}
use Rattle.nj_words.specs.declared.SearchOptions.{SearchOptions}
use Rattle.nj_outside.specs.Told.{Files}
use Rattle.nj_app.specs.Answer.{answer, work_of}
use Rattle.nj_app.specs.Search.{search_finding, search_work}
use Rattle.nj_tasks.specs.Work.{given}
use Rattle.nj_app.specs.Workers.{AreOneBesideWorkers, beside_workers}
use Rattle.nj_app.proofs.Lines.{work_of_command}

-- ---- what is said beside the number of workers

either_names : (b : Bool) (label value : Word) (said beside : List Piece) → names_in beside ≡ names_in said →
    names_in (cond b beside (option label value ∷ beside)) ≡ names_in said
either_names true label value said beside e = e
either_names false label value said beside e = e

-- the names
names_beside : (said : List Piece) → names_in (beside_workers said) ≡ names_in said
names_beside [] = refl
names_beside (name word ∷ said) = ap (λ words. word ∷ words) (names_beside said)
names_beside (option label value ∷ said) =
    either_names (bytes_eq label (codes "workers")) label value said (beside_workers said) (names_beside said)

module _ (wanted : Word) (other : bytes_eq (codes "workers") wanted ≡ false) where
  either_value : (b : Bool) (label value : Word) (said beside : List Piece) → bytes_eq label (codes "workers") ≡ b →
      value_in beside wanted ≡ value_in said wanted →
      value_in (cond b beside (option label value ∷ beside)) wanted
      ≡ (if bytes_eq label wanted then Some value else value_in said wanted)
  either_value true label value said beside is e =
      let same : label ≡ codes "workers" = (bytes_eq-Decides label (codes "workers")).0 is in
      let not_it : bytes_eq label wanted ≡ false = ap (λ l. bytes_eq l wanted) same ∙ other in
      rw not_it e
  either_value false label value said beside is e = rw e refl

  -- the value of any other option
  value_beside : (said : List Piece) → value_in (beside_workers said) wanted ≡ value_in said wanted
  value_beside [] = refl
  value_beside (name word ∷ said) = value_beside said
  value_beside (option label value ∷ said) =
      either_value (bytes_eq label (codes "workers")) label value said (beside_workers said) refl (value_beside said)

  same_value : (said others : List Piece) → beside_workers said ≡ beside_workers others →
      value_in said wanted ≡ value_in others wanted
  same_value said others e = sym (value_beside said) ∙ ap (λ p. value_in p wanted) e ∙ value_beside others

same_names : (said others : List Piece) → beside_workers said ≡ beside_workers others → names_in said ≡ names_in others
same_names said others e = sym (names_beside said) ∙ ap names_in e ∙ names_beside others

-- ---- the command that is read

-- what a form takes
abbrev taken_as : Form → List Piece → Taken
taken_as form said = record { names = names_in said; values = map (value_in said) form.options }

-- two rows' commands are of one work
abbrev AreOneWork : Option Command → Option Command → Type 0
AreOneWork first second = (c d : Command) → first ≡ Some c → second ≡ Some d → work_of c ≡ work_of d

made_from : (row : Row) (said others : List Piece) →
    AreOneWork (row.made (taken_as row.form said)) (row.made (taken_as row.form others)) →
    AreOneWork (option_and_then row.made (taken_from row.form said))
    (option_and_then row.made (taken_from row.form others))
made_from row said others same = go (fits row.form said) (fits row.form others) where
  go : (b d : Bool) → AreOneWork
      (option_and_then row.made (if b then Some (taken_as row.form said) else None))
      (option_and_then row.made (if d then Some (taken_as row.form others) else None))
  go true true c d p q = same c d p q
  go true false c d p q = cc
  go false true c d p q = cc
  go false false c d p q = cc

-- one command has one work
one_command : (first second : Option Command) → first ≡ second → AreOneWork first second
one_command first second e c d p q = go c d (sym p ∙ e ∙ q) where
  go : (c d : Command) → Some c ≡ Some d → work_of c ≡ work_of d
  go c d h = cc

-- the options of a search, where each is there
abbrev options_of : Option ℕ → Option ℕ → Option ℕ → Option ℕ → Option (Option Word) → Option SearchOptions
options_of budget steps exponent workers save =
    option_and_then (λ options. option_map (saving_as options) save)
    (option_and_then (λ b. option_and_then (λ s. option_and_then (λ e. option_and_then (λ w.
    Some (record { budget = b; steps = s; exponent = e; workers = w; save = None })) workers) exponent) steps) budget)

-- a search with such options, or one that is gone on with
abbrev searching : (SearchOptions → Command) → Option SearchOptions → Option Command
searching command options = option_and_then (λ o. Some (command o)) options

-- the work does not look at the number of workers
abbrev IsBesideWorkers : (SearchOptions → Command) → Type 0
IsBesideWorkers command = (options : SearchOptions) (workers : ℕ) →
    work_of (command options) ≡ work_of (command (record options { workers = workers }))

search_beside : (cart script start : Word) → IsBesideWorkers (Search cart script start)
unfolding work_of search_work search_finding
search_beside cart script start options workers = refl

resume_beside : (cart script start saved : Word) → IsBesideWorkers (Resume cart script start saved)
unfolding work_of search_work search_finding
resume_beside cart script start saved options workers = refl

some_is : (x y : Command) → Some x ≡ Some y → x ≡ y
some_is x y h = cc

other_workers : (command : SearchOptions → Command) → IsBesideWorkers command →
    (budget steps exponent workers others : Option ℕ) (save : Option (Option Word)) → AreOneWork
    (searching command (options_of budget steps exponent workers save))
    (searching command (options_of budget steps exponent others save))
other_workers command beside (Some b) (Some s) (Some e) (Some w) (Some o) (Some given) c d p q =
    ap work_of (some_is c _ (sym p))
    ∙ beside (record { budget = b; steps = s; exponent = e; workers = w; save = given }) o
    ∙ ap work_of (sym (some_is d _ (sym q)))
other_workers command beside None steps exponent workers others save c d p q = cc
other_workers command beside (Some b) None exponent workers others save c d p q = cc
other_workers command beside (Some b) (Some s) None workers others save c d p q = cc
other_workers command beside (Some b) (Some s) (Some e) None others save c d p q = cc
other_workers command beside (Some b) (Some s) (Some e) (Some w) None save c d p q = cc
other_workers command beside (Some b) (Some s) (Some e) (Some w) (Some o) None c d p q = cc

-- ---- a row of the table

module _ (said others : List Piece) (same : beside_workers said ≡ beside_workers others) where
  -- the two of a row are of one work
  abbrev IsOneWork : Row → Type 0
  IsOneWork row =
      AreOneWork (row.made (taken_as row.form said)) (row.made (taken_as row.form others))

  -- a row without options takes the same
  plain_row : (row : Row) → row.form.options ≡ [] → IsOneWork row
  plain_row row none = one_command _ _ (ap row.made (taken_same (same_names said others same))) where
    no_values : (p : List Piece) → map (value_in p) row.form.options ≡ []
    no_values p = rw none refl

    taken_same : names_in said ≡ names_in others → taken_as row.form said ≡ taken_as row.form others
    taken_same e = λ i. record { names = e i; values = (no_values said ∙ sym (no_values others)) i }

  -- the names of one of them, as a command takes them
  abbrev with_names : List Word → Taken
  with_names words = record { names = words; values = [] }

  -- the options of one of them
  abbrev options_in : List Piece → Option SearchOptions
  options_in p = options_of (number_or 1 2147483648 67108864 (value_in p (codes "budget")))
      (number_or 1 16777215 1000 (value_in p (codes "steps"))) (number_or 10 25 20 (value_in p (codes "slots")))
      (number_or 1 64 1 (value_in p (codes "workers"))) (name_or_none (value_in p (codes "save")))

  -- two searches take the same options but one
  options_beside : (command : SearchOptions → Command) → IsBesideWorkers command →
      AreOneWork (searching command (options_in said)) (searching command (options_in others))
  options_beside command beside =
      subst (λ second. AreOneWork (searching command (options_in said)) second)
      (λ i. searching command (options_of
      (number_or 1 2147483648 67108864 (same_value (codes "budget") refl said others same i))
      (number_or 1 16777215 1000 (same_value (codes "steps") refl said others same i))
      (number_or 10 25 20 (same_value (codes "slots") refl said others same i))
      (number_or 1 64 1 (value_in others (codes "workers")))
      (name_or_none (same_value (codes "save") refl said others same i))))
      (other_workers command beside (number_or 1 2147483648 67108864 (value_in said (codes "budget")))
      (number_or 1 16777215 1000 (value_in said (codes "steps"))) (number_or 10 25 20 (value_in said (codes "slots")))
      (number_or 1 64 1 (value_in said (codes "workers"))) (number_or 1 64 1 (value_in others (codes "workers")))
      (name_or_none (value_in said (codes "save"))))

  -- a search takes the same names and the same options but one
  searching_row : IsOneWork search_row
  unfolding search_options_of search_numbers_of
  searching_row =
      subst (λ second. AreOneWork (search_of (taken_as search_form said)) second)
      (λ i. searching (Search (name_at (with_names (same_names said others same i)) 0)
      (name_at (with_names (same_names said others same i)) 1) (name_at (with_names (same_names said others same i)) 2))
      (options_in others))
      (options_beside (Search (name_at (taken_as search_form said) 0) (name_at (taken_as search_form said) 1)
      (name_at (taken_as search_form said) 2))
      (search_beside (name_at (taken_as search_form said) 0) (name_at (taken_as search_form said) 1)
      (name_at (taken_as search_form said) 2)))

  -- so does one that is gone on with
  resuming_row : IsOneWork resume_row
  unfolding search_options_of search_numbers_of
  resuming_row =
      subst (λ second. AreOneWork (resume_of (taken_as resume_form said)) second)
      (λ i. searching (Resume (name_at (with_names (same_names said others same i)) 0)
      (name_at (with_names (same_names said others same i)) 1) (name_at (with_names (same_names said others same i)) 2)
      (name_at (with_names (same_names said others same i)) 3))
      (options_in others))
      (options_beside (Resume (name_at (taken_as resume_form said) 0) (name_at (taken_as resume_form said) 1)
      (name_at (taken_as resume_form said) 2) (name_at (taken_as resume_form said) 3))
      (resume_beside (name_at (taken_as resume_form said) 0) (name_at (taken_as resume_form said) 1)
      (name_at (taken_as resume_form said) 2) (name_at (taken_as resume_form said) 3)))

  -- a trace takes the same names and the same frame
  tracing_row : IsOneWork trace_row
  tracing_row =
      one_command _ _ (taken_same (same_names said others same)
      (same_value (codes "frame") refl said others same)) where
        taken_same : names_in said ≡ names_in others → value_in said (codes "frame") ≡ value_in others (codes "frame") →
            trace_of (taken_as trace_row.form said) ≡ trace_of (taken_as trace_row.form others)
        taken_same names frame = λ i. trace_of (record { names = names i; values = frame i ∷ [] })

  each_row : All IsOneWork table
  each_row =
      All-cons IsOneWork play_row (search_row ∷ resume_row ∷ replay_row ∷ check_row ∷ workload_row ∷ asm_row ∷ clean_row
      ∷ trace_row ∷ watch_row ∷ []) (plain_row play_row refl)
      (All-cons IsOneWork search_row (resume_row ∷ replay_row ∷ check_row ∷ workload_row ∷ asm_row ∷ clean_row
      ∷ trace_row ∷ watch_row ∷ []) searching_row
      (All-cons IsOneWork resume_row (replay_row ∷ check_row ∷ workload_row ∷ asm_row ∷ clean_row ∷ trace_row
      ∷ watch_row ∷ []) resuming_row
      (All-cons IsOneWork replay_row (check_row ∷ workload_row ∷ asm_row ∷ clean_row ∷ trace_row ∷ watch_row ∷ [])
      (plain_row replay_row refl)
      (All-cons IsOneWork check_row (workload_row ∷ asm_row ∷ clean_row ∷ trace_row ∷ watch_row ∷ [])
      (plain_row check_row refl)
      (All-cons IsOneWork workload_row (asm_row ∷ clean_row ∷ trace_row ∷ watch_row ∷ []) (plain_row workload_row refl)
      (All-cons IsOneWork asm_row (clean_row ∷ trace_row ∷ watch_row ∷ []) (plain_row asm_row refl)
      (All-cons IsOneWork clean_row (trace_row ∷ watch_row ∷ []) (plain_row clean_row refl)
      (All-cons IsOneWork trace_row (watch_row ∷ []) tracing_row
      (All-cons IsOneWork watch_row [] (plain_row watch_row refl) (All-nil IsOneWork))))))))))

-- what holds of each row holds of the one that is found
found_row : (P : Row → Type 0) (test : Row → Bool) (rows : List Row) → All P rows → IfSome (find test rows) P
found_row P test [] all = tt
found_row P test (row ∷ rows) all = go (test row) (found_row P test rows (All-tail P row rows all)) where
  go : (b : Bool) → IfSome (find test rows) P → IfSome (if b then Some row else find test rows) P
  go true others = All-head P row rows all
  go false others = others

-- the commands of two command lines that say the same but for the number of workers
one_work : PiecesAreSaid → (words others : List Word) → (h : AreOneBesideWorkers words others)
    → work_of h.read ≡ work_of h.other_read
unfolding reading command_of taken
one_work law words others h =
    go (find (λ row. bytes_eq h.command row.word) table)
    (found_row (IsOneWork h.said h.other_said h.same) (λ row. bytes_eq h.command row.word) table
    (each_row h.said h.other_said h.same))
    (ap reading (sym h.is) ∙ h.reads) (ap reading (sym h.other_is) ∙ h.other_reads) where
      first_said : pieces None h.rest ≡ Some h.said
      first_said = (law h.rest h.said).1 h.says

      other_said : pieces None h.other_rest ≡ Some h.other_said
      other_said = (law h.other_rest h.other_said).1 h.other_says

      go : (row : Option Row) → IfSome row (IsOneWork h.said h.other_said h.same) →
          option_and_then (λ r. command_of r h.rest) row ≡ Some h.read →
          option_and_then (λ r. command_of r h.other_rest) row ≡ Some h.other_read
          → work_of h.read ≡ work_of h.other_read
      go None same p q = cc
      go (Some row) same p q =
          made_from row h.said h.other_said same h.read h.other_read
          (ap (λ said. option_and_then row.made (option_and_then (taken_from row.form) said)) (sym first_said) ∙ p)
          (ap (λ said. option_and_then row.made (option_and_then (taken_from row.form) said)) (sym other_said) ∙ q)

-- the answer is that of the work
pub one_answer : PiecesAreSaid → (words others : List Word) (files : Files) → AreOneBesideWorkers words others →
    answer words files ≡ answer others files
one_answer law words others files h =
    ap (given files) (work_of_command words h.read h.reads ∙ one_work law words others h
    ∙ sym (work_of_command others h.other_read h.other_reads))
