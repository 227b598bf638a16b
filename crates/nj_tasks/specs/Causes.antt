-- Which statuses come, when, and what stands on `out` and `err` then. Our own.
use Rattle.std.specs.Prelude.{◌≡◌, ◌≢◌, ◌⊎◌, ℕ, ◌≤◌, ◌==◌, List, [], ◌∷◌, length, take, Option, Some, None, if◌then◌else◌}
use Rattle.nj_bytes.specs.Fnv.{fnv_of}
use Rattle.std.specs.Option.{option_map_or}
use Rattle.nj_outside.specs.Told.{Files, appended, put_file}
use Rattle.nj_tasks.specs.Lines.{usage_line, read_fault_line, write_fault_line, no_memory_line}
use Rattle.nj_tasks.specs.Work.{Answer}
use Rattle.nj_tasks.specs.declared.stops.Put.{Put}
use Rattle.nj_tasks.specs.declared.stops.Reply.{Reply}

-- a status that tells of no fault: not a failed read, a failed write or want of memory
pub record IsPlain (status : ℕ) : Type 0 where
  pub no_read_fault : status ≢ 7
  pub no_write_fault : status ≢ 8
  pub memory : status ≢ 9

-- the statuses that there are
abbrev pub statuses : List ℕ
statuses = 0 ∷ 1 ∷ 2 ∷ 3 ∷ 4 ∷ 5 ∷ 6 ∷ 7 ∷ 8 ∷ 9 ∷ 10 ∷ 11 ∷ 12 ∷ []

-- the statuses of a command that was carried out: it ended well, a movie that was replayed or to be cleaned
-- does not win, or a search was exhausted or came to its limit
abbrev pub IsCarriedOut : ℕ → Type 0
IsCarriedOut status = (status ≡ 0) ⊎ ((status ≡ 10) ⊎ ((status ≡ 1) ⊎ (status ≡ 2)))

-- there is an answer, the status is its status, and its text was appended to what `out` held
abbrev pub IsAnswered : Option Answer → ℕ → Option (List ℕ) → Option (List ℕ) → Type 0
IsAnswered answer status old new = (x : Answer) × (answer ≡ Some x) × (status ≡ x.status) × (new ≡ appended old x.text)

-- a plain status is the answer's
abbrev pub Settles : Option Answer → ℕ → Option (List ℕ) → Option (List ℕ) → Type 0
Settles answer status old new = IsPlain status → IsAnswered answer status old new

-- the answer refuses nothing, and a front part of its text was appended to what `out` held
pub record IsCutShort (answer : Option Answer) (old new : Option (List ℕ)) : Type 0 where
  pub whole : Answer
  pub is_whole : answer ≡ Some whole
  pub accepted : whole.line ≡ []
  pub count : ℕ
  pub within : count ≤ length whole.text
  pub written : new ≡ appended old (take count whole.text)

-- the answer refuses nothing and has a file to put, whose name the last failed put had: its whole text was appended to
-- what `out` held, and the file has a front part of its bytes, or is as before; every other file is as before
pub record IsUnsaved (answer : Option Answer) (failed : ℕ) (old new : Option (List ℕ))
    (before after : Option Files) : Type 0 where
  pub whole : Answer
  pub is_whole : answer ≡ Some whole
  pub accepted : whole.line ≡ []
  pub put : Put
  pub is_put : whole.file ≡ Some put
  pub named : failed ≡ fnv_of put.name
  pub written : new ≡ appended old whole.text
  pub files : (after ≡ before)
      ⊎ ((count : ℕ) × (count ≤ length put.bytes) × (after ≡ put_file before put.name (take count put.bytes)))

-- a front part of the text was written, and every file is as before
pub record IsTextCut (reply : Reply) (old new : Option (List ℕ)) (before after : Option Files) : Type 0 where
  pub count : ℕ
  pub within : count ≤ length reply.text
  pub written : new ≡ appended old (take count reply.text)
  pub files : after ≡ before

-- the file that was to be put has a front part of its bytes or what it had
pub record IsPutCut (file : Option Put) (failed : ℕ) (before after : Option Files) : Type 0 where
  pub put : Put
  pub is_put : file ≡ Some put
  pub named : failed ≡ fnv_of put.name
  pub files : (after ≡ before)
      ⊎ ((count : ℕ) × (count ≤ length put.bytes) × (after ≡ put_file before put.name (take count put.bytes)))

-- the files where this one was put, if there is one
abbrev pub with_put : Option Put → Option Files → Option Files
with_put None files = files
with_put (Some put) files = put_file files put.name put.bytes

-- the files where the answer's file was put, if it has one
abbrev pub put_by : Option Answer → Option Files → Option Files
put_by answer files = option_map_or (λ x. with_put x.file files) answer files

-- a reply has a file to put at the limit of a search alone, and under the name that it was given
abbrev pub IsSavedAs : Option (List ℕ) → Reply → Type 0
IsSavedAs name reply = (put : Put) → reply.file ≡ Some put → (reply.status ≡ 2) × (name ≡ Some put.name)

-- the line that a status has whatever the files hold, if it is such a status
abbrev pub fixed_line : ℕ → Option (List ℕ)
fixed_line status =
    if status == 0 then Some []
    else if status == 1 then Some []
    else if status == 2 then Some []
    else if status == 10 then Some []
    else if status == 3 then Some usage_line
    else if status == 7 then Some read_fault_line
    else if status == 8 then Some write_fault_line
    else if status == 9 then Some no_memory_line
    else None

-- the line on `err`: the status's own, else the answer's
abbrev pub line_for : Option Answer → ℕ → List ℕ
line_for answer status = option_map_or (λ line. line) (fixed_line status) (option_map_or (λ x. x.line) answer [])
