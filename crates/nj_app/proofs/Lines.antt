-- The work for a command line is that of its command, or the refusal of words without a reading.
use Rattle.std.proofs.Common.{◌≡◌, ◌⊎◌, inl, inr, ℕ, List, Some, None, Err, refl}
use Rattle.nj_outside.specs.Told.{Files}
use Rattle.nj_app.specs.Answer.{work_of, work_for}
use Rattle.nj_tasks.specs.Stops.{Serves, Ends}
use Rattle.nj_tasks.specs.Work.{Work}
use Rattle.nj_words.specs.Commands.{reading}
use Rattle.nj_words.specs.declared.Command.{Command}
use Rattle.nj_tasks.specs.declared.stops.Stop.TheVariants as stops

pub work_of_command : (line : List (List ℕ)) (command : Command) → reading line ≡ Some command →
    work_for line ≡ work_of command
unfolding work_for
work_of_command line command e = rw e refl

pub no_command : (files : Files) (line : List (List ℕ)) (failed : ℕ) → reading line ≡ None →
    Serves files (work_for line) failed (Err stops.Usage)
unfolding work_for Serves Ends
no_command files line failed e = rw e refl

pub no_memory : (files : Files) (work : Work) (failed : ℕ) → Serves files work failed (Err stops.NoMemory)
unfolding Serves Ends
no_memory files work failed = tt

-- one of two things leads to one of two others
pub either : {A B C D : Type 0} → (A → C) → (B → D) → A ⊎ B → C ⊎ D
either first second (inl a) = inl (first a)
either first second (inr b) = inr (second b)
