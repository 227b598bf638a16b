-- What the reader of a file says of the work that reads it.
use Rattle.std.proofs.Common.{◌≡◌, ◌<◌, ◌≤◌, ℕ, List, length, false, true, nat_lt, map, Contains, option_and_then, IsSomeAnd, Some, None, Result, Ok, Err, refl, sym, ap, subst, inl, inr, arith}
use Rattle.std.proofs.lemmas.Bool.Decides.{nat_tests}
use Rattle.nj_bytes.specs.Fnv.{fnv_of}
use Rattle.nj_outside.specs.Told.{Files}
use Rattle.nj_tasks.specs.Formats.{FileFormat, loaded, made, names_of, reading_of}
use Rattle.nj_texts.specs.Refusals.{too_long}
use Rattle.nj_tasks.specs.Stops.{Ends, IsRefusal, Leads, Loads, Reads}
use Rattle.nj_tasks.specs.Work.{Work, Reaches, given}
use Rattle.nj_tasks.specs.declared.stops.Stop.{Stop}
use Rattle.nj_tasks.specs.declared.stops.Stop.TheVariants as stops
use Rattle.nj_tasks.proofs.Serving.{ends_then, leads_then, ends_free, reads_load, refused_reads}

module _ {A : Type 0} (files : Files) (format : FileFormat A) (failed : ℕ) where
  -- bytes that are not too many are read as they say
  reading_within : (bytes : List ℕ) → length bytes ≤ format.bounds.limit → reading_of format bytes ≡ format.says bytes
  reading_within bytes within = let test : nat_lt format.bounds.limit (length bytes)
      ≡ false = grind (arith, nat_tests) in rw test refl

  -- too many bytes are refused for that
  reading_past : (bytes : List ℕ) → format.bounds.limit < length bytes →
      reading_of format bytes ≡ Err (too_long format.bounds.too_long format.bounds.limit)
  reading_past bytes past = let test : nat_lt format.bounds.limit (length bytes)
      ≡ true = grind (arith, nat_tests) in rw test refl

  pub made_loads : (bytes : List ℕ) (result : Result A Stop) → length bytes ≤ format.bounds.limit →
      Reads format.bounds.kind (format.says bytes) result → Loads files (made format bytes) failed result
  made_loads bytes result within reads =
      reads_load files format.bounds.kind (reading_of format bytes) failed result
      (rw (reading_within bytes within) reads)

  pub made_past : (bytes : List ℕ) (stop : Stop) → format.bounds.limit < length bytes →
      IsRefusal format.bounds.kind (too_long format.bounds.too_long format.bounds.limit) stop →
      Loads files (made format bytes) failed (Err stop)
  made_past bytes stop past refusal =
      reads_load files format.bounds.kind (reading_of format bytes) failed (Err stop)
      (refused_reads format.bounds.kind (reading_of format bytes) _ stop (reading_past bytes past) refusal)

  module _ (name : List ℕ) where
    -- a name that is no file's
    pub without_loads : (value : A) → Some value ≡ format.without name →
        Loads files (loaded format name) failed (Ok value)
    unfolding Loads
    without_loads value e = λ next. rw (← e) (record { same = refl; reaches = λ hash reached. reached })

    module _ (is_file : None ≡ format.without name) where
      -- a file that is there leads on as its bytes do
      read_leads : (bytes : List ℕ) (next : A → Work) → files name ≡ Some bytes →
          Leads files (loaded format name next) (made format bytes next)
      read_leads bytes next there = rw (← is_file) (record {
        same = ap (λ file. option_and_then (λ b. given files (made format b next)) file) there;
        reaches = λ hash reached. inr (subst (λ file. IsSomeAnd file (λ b. Reaches files (made format b next) hash))
            (sym there) reached);
      })

      pub file_loads : (bytes : List ℕ) (result : Result A Stop) → files name ≡ Some bytes →
          Loads files (made format bytes) failed result →
          Loads files (loaded format name) failed result
      unfolding Loads
      file_loads bytes (Ok value) there h = λ next. leads_then files _ _ _ (read_leads bytes next there) (h next)
      file_loads bytes (Err stop) there h = λ next. ends_then files _ _ failed stop (read_leads bytes next there)
          (h next)

      -- a failed read of it
      pub fault_loads : failed ≡ fnv_of name → Loads files (loaded format name) failed (Err stops.ReadFault)
      unfolding Loads Ends
      fault_loads e = λ next. rw (← is_file) (inl e)

      pub fault_named : failed ≡ fnv_of name → Contains (map fnv_of (names_of format name)) failed
      fault_named e = rw (← is_file) (0, omega arith, sym e)

    pub no_memory_loads : Loads files (loaded format name) failed (Err stops.NoMemory)
    unfolding Loads
    no_memory_loads = λ next. ends_free files (loaded format name next) failed stops.NoMemory refl
