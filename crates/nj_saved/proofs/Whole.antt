-- The reading of a file, test by test.
use Rattle.std.proofs.Common.{◌≡◌, ℕ, List, ◌++◌, sym, ap, ◌∙◌}
use Rattle.std.specs.Prelude.{None, Some, Ok, Err}
use Rattle.nj_saved.specs.declared.refusal.SavedRefused.{SavedRefused}
use Rattle.nj_saved.specs.Fields.{keys_end, contents_of}
use Rattle.nj_saved.specs.Reading.{first_refusal, accepted_unless, identity_tests, size_tests, generations_tests, tail_tests, tests_of, saved_of}
use Rattle.nj_saved.specs.Steps.{AreGenerationsTo}
use Rattle.nj_saved.proofs.Refusals.{first_stays, first_passes}

module _ (file : List ℕ) (cart script : ℕ) where
  refuses :
      (refused : SavedRefused) → first_refusal (tests_of file cart script) ≡ Some refused →
      saved_of file cart script ≡ Err refused
  unfolding saved_of
  refuses refused is = ap (λ refusal. accepted_unless refusal (contents_of file)) is

  pub identity_refused :
      (refused : SavedRefused) → first_refusal (identity_tests file cart script) ≡ Some refused →
      saved_of file cart script ≡ Err refused
  unfolding tests_of
  identity_refused refused is = refuses refused (first_stays (identity_tests file cart script) _ refused is)

  module _ (identity : first_refusal (identity_tests file cart script) ≡ None) where
    behind_identity :
        first_refusal (tests_of file cart script)
        ≡ first_refusal (size_tests file ++ (generations_tests file ++ tail_tests file (keys_end file)))
    unfolding tests_of
    behind_identity = first_passes (identity_tests file cart script) _ identity

    pub sizes_refused :
        (refused : SavedRefused) → first_refusal (size_tests file) ≡ Some refused →
        saved_of file cart script ≡ Err refused
    sizes_refused refused is = refuses refused (behind_identity ∙ first_stays (size_tests file) _ refused is)

    module _ (sizes : first_refusal (size_tests file) ≡ None) where
      pub generations_refused :
          (refused : SavedRefused) → first_refusal (generations_tests file) ≡ Some refused →
          saved_of file cart script ≡ Err refused
      generations_refused refused is =
          refuses refused
          (behind_identity
          ∙ (first_passes (size_tests file) _ sizes ∙ first_stays (generations_tests file) _ refused is))

      module _ (generations : List (List ℕ)) (end : ℕ) (read : AreGenerationsTo file generations end) where
        behind_generations : first_refusal (tests_of file cart script) ≡ first_refusal (tail_tests file end)
        behind_generations =
            behind_identity
            ∙ (first_passes (size_tests file) _ sizes
            ∙ (first_passes (generations_tests file) (tail_tests file (keys_end file)) read.accepted
            ∙ ap (λ n. first_refusal (tail_tests file n)) (sym read.ends)))

        pub tail_refused :
            (refused : SavedRefused) → first_refusal (tail_tests file end) ≡ Some refused →
            saved_of file cart script ≡ Err refused
        tail_refused refused is = refuses refused (behind_generations ∙ is)

        pub all_read : first_refusal (tail_tests file end) ≡ None → saved_of file cart script ≡ Ok (contents_of file)
        unfolding saved_of
        all_read is = ap (λ refusal. accepted_unless refusal (contents_of file)) (behind_generations ∙ is)
