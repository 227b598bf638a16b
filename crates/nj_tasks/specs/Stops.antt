-- What stops a command before its text, and what a stop or a reply says of the command's work. Our own.
use Rattle.std.specs.Prelude.{◌≡◌, ◌⊎◌, ℕ, List, Some, Result, Ok, Err, MatchResult}
use Rattle.nj_outside.specs.Told.{Files}
use Rattle.nj_texts.specs.Kinds.{kind_status}
use Rattle.nj_texts.specs.Refusals.{refusal_line}
use Rattle.nj_texts.specs.declared.kinds.Kind.{Kind}
use Rattle.nj_tasks.specs.Lines.{usage_line, read_fault_line, no_memory_line}
use Rattle.nj_tasks.specs.Work.{Work, given, Reaches, refused, done}
use Rattle.nj_tasks.specs.declared.stops.Reply.{Reply}
use Rattle.nj_tasks.specs.declared.stops.Stop.{Stop}
use Rattle.nj_tasks.specs.declared.stops.Stop.TheVariants.{Usage, Refused, ReadFault, NoMemory}

-- the exit status of a stop
abbrev pub status_of : Stop → ℕ
status_of Usage = 3
status_of (Refused kind line) = kind_status kind
status_of ReadFault = 7
status_of NoMemory = 9

-- the line on `err` of a stop
abbrev pub line_of : Stop → List ℕ
line_of Usage = usage_line
line_of (Refused kind line) = line
line_of ReadFault = read_fault_line
line_of NoMemory = no_memory_line

-- the stop has the line of this refusal, or memory ran out
abbrev pub IsRefusal : Kind → List ℕ → Stop → Type 0
IsRefusal kind refusal stop = (stop ≡ NoMemory) ⊎ (stop ≡ Refused kind (refusal_line kind refusal))

-- the result is what was read: its value, or the stop of its refusal
abbrev pub Reads : {A : Type 0} → Kind → Result A (List ℕ) → Result A Stop → Type 0
Reads kind reading result =
    MatchResult result (λ value. reading ≡ Ok value)
    (λ stop. (stop ≡ NoMemory) ⊎ ((refusal : List ℕ) × (reading ≡ Err refusal)
    × (stop ≡ Refused kind (refusal_line kind refusal))))

-- the stop is the work's end over these files: a refusal is its answer, and at a failed read the work comes to a file
-- whose name has the hash of the last failed read
unfoldable pub Ends : Files → Work → ℕ → Stop → Type 0
Ends files work failed Usage = given files work ≡ Some (refused 3 usage_line)
Ends files work failed (Refused kind line) = given files work ≡ Some (refused (kind_status kind) line)
Ends files work failed ReadFault = Reaches files work failed
Ends files work failed NoMemory = Unit {0}

-- the reply is the work's answer over these files
unfoldable pub Replies : Files → Work → Reply → Type 0
Replies files work reply = (frames : ℕ) × (given files work ≡ Some (done reply.status reply.text reply.file frames))

-- the rest is what the whole goes on with over these files: the same answer, and each file that it comes to
pub record Leads (files : Files) (whole rest : Work) : Type 0 where
  pub same : given files whole ≡ given files rest
  pub reaches : (hash : ℕ) → Reaches files rest hash → Reaches files whole hash

-- what was loaded is what the work goes on with, and a stop is the work's end
unfoldable pub Loads : {A : Type 0} → Files → ((A → Work) → Work) → ℕ → Result A Stop → Type 0
Loads {A = A} files work failed (Ok value) = (next : A → Work) → Leads files (work next) (next value)
Loads {A = A} files work failed (Err stop) = (next : A → Work) → Ends files (work next) failed stop

-- the result is the work's answer or its end
unfoldable pub Serves : Files → Work → ℕ → Result Reply Stop → Type 0
Serves files work failed (Ok reply) = Replies files work reply
Serves files work failed (Err stop) = Ends files work failed stop
