-- The work of each command, by the names that its files have.
use Rattle.std.proofs.Common.{◌≡◌, List, ℕ, refl, sym, ap, ap₂, ◌∙◌}
use Rattle.nj_words.specs.declared.Command.{Command}
use Rattle.nj_words.specs.declared.Command.TheVariants.{Asm, Clean, Play, Replay, Trace, Watch}
use Rattle.nj_commands.specs.Asm.{asm_finding, asm_work}
use Rattle.nj_commands.specs.Clean.{clean_finding, clean_work}
use Rattle.nj_commands.specs.Commands.{NeedsSearch, work_without_search}
use Rattle.nj_commands.specs.Play.{play_finding, play_work}
use Rattle.nj_commands.specs.Replay.{replay_finding, replay_work}
use Rattle.nj_commands.specs.Trace.{trace_finding, trace_work}
use Rattle.nj_commands.specs.Watch.{watch_finding, watch_work}
use Rattle.nj_tasks.specs.Formats.{cart_format, loaded, movie_format, script_format, source_format}
use Rattle.nj_tasks.specs.Lines.{usage_line}
use Rattle.nj_tasks.specs.Work.{Done, both, found_in, refused}

module _ (command : Command) where
  -- `play`
  pub play_is : (cart movie a b : List ℕ) → command ≡ Play cart movie → a ≡ cart → b ≡ movie →
      both (loaded cart_format a) (loaded movie_format b) (found_in play_finding) ≡ work_without_search command
  unfolding work_without_search play_work
  play_is cart movie a b is p q = ap₂ play_work p q ∙ ap work_without_search (sym is)

  -- `replay`
  pub replay_is : (cart script start movie a b d e : List ℕ) → command ≡ Replay cart script start movie →
      a ≡ cart → b ≡ script → d ≡ start → e ≡ movie →
      both (both (loaded cart_format a) (loaded script_format b)) (both (loaded movie_format d) (loaded movie_format e))
      (found_in replay_finding) ≡ work_without_search command
  unfolding work_without_search replay_work
  replay_is cart script start movie a b d e is p q r t =
      ap₂ (λ x y. replay_work x y d e) p q ∙ ap₂ (λ x y. replay_work cart script x y) r t
      ∙ ap work_without_search (sym is)

  -- `asm`
  pub asm_is : (source a : List ℕ) → command ≡ Asm source → a ≡ source →
      loaded source_format a (found_in asm_finding) ≡ work_without_search command
  unfolding work_without_search asm_work
  asm_is source a is p = ap asm_work p ∙ ap work_without_search (sym is)

  -- `clean`
  pub clean_is : (cart script start movie a b d e : List ℕ) → command ≡ Clean cart script start movie →
      a ≡ cart → b ≡ script → d ≡ start → e ≡ movie →
      both (both (loaded cart_format a) (loaded script_format b)) (both (loaded movie_format d) (loaded movie_format e))
      (found_in clean_finding) ≡ work_without_search command
  unfolding work_without_search clean_work
  clean_is cart script start movie a b d e is p q r t =
      ap₂ (λ x y. clean_work x y d e) p q ∙ ap₂ (λ x y. clean_work cart script x y) r t
      ∙ ap work_without_search (sym is)

  -- `trace`
  pub trace_is : (cart movie a b : List ℕ) (frame n : ℕ) → command ≡ Trace cart movie frame → a ≡ cart → b ≡ movie →
      n ≡ frame →
      both (loaded cart_format a) (loaded movie_format b) (found_in (trace_finding n)) ≡ work_without_search command
  unfolding work_without_search trace_work
  trace_is cart movie a b frame n is p q r =
      ap₂ (λ x y. trace_work x y n) p q ∙ ap (λ x. trace_work cart movie x) r ∙ ap work_without_search (sym is)

  -- `watch`
  pub watch_is : (cart script movie a b d : List ℕ) → command ≡ Watch cart script movie → a ≡ cart → b ≡ script →
      d ≡ movie →
      both (both (loaded cart_format a) (loaded script_format b)) (loaded movie_format d) (found_in watch_finding)
      ≡ work_without_search command
  unfolding work_without_search watch_work
  watch_is cart script movie a b d is p q r =
      ap₂ (λ x y. watch_work x y d) p q ∙ ap (λ z. watch_work cart script z) r ∙ ap work_without_search (sym is)

-- a command that is none of these needs the search, and is refused here
pub record IsOther (command : Command) : Type 0 where
  pub needs : NeedsSearch command
  pub work : work_without_search command ≡ Done (refused 3 usage_line)

pub is_other : (command : Command) →
    ((cart movie : List ℕ) → command ≡ Play cart movie → ⊥) →
    ((cart script start movie : List ℕ) → command ≡ Replay cart script start movie → ⊥) →
    ((source : List ℕ) → command ≡ Asm source → ⊥) →
    ((cart script start movie : List ℕ) → command ≡ Clean cart script start movie → ⊥) →
    ((cart movie : List ℕ) (frame : ℕ) → command ≡ Trace cart movie frame → ⊥) →
    ((cart script movie : List ℕ) → command ≡ Watch cart script movie → ⊥) → IsOther command
unfolding work_without_search
is_other (Play cart movie) play replay asm clean trace watch = absurd (play cart movie refl)
is_other (Replay cart script start movie) play replay asm clean trace watch =
    absurd (replay cart script start movie refl)
is_other (Asm source) play replay asm clean trace watch = absurd (asm source refl)
is_other (Clean cart script start movie) play replay asm clean trace watch = absurd (clean cart script start movie refl)
is_other (Trace cart movie frame) play replay asm clean trace watch = absurd (trace cart movie frame refl)
is_other (Watch cart script movie) play replay asm clean trace watch = absurd (watch cart script movie refl)
is_other command play replay asm clean trace watch = record { needs = tt; work = refl }
