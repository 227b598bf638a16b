-- What a command does, as a term over the files that it comes to. Our own.
use Rattle.std.specs.Prelude.{◌≡◌, ◌⊎◌, ℕ, List, [], Option, Some, None, option_and_then, IsSomeAnd, Result, Ok, Err}
use Rattle.std.specs.Option.{option_map_or}
use Rattle.nj_bytes.specs.Fnv.{fnv_of}
use Rattle.nj_outside.specs.Told.{Files}
use Rattle.nj_texts.specs.Kinds.{kind_status}
use Rattle.nj_texts.specs.Refusals.{refusal_line}
use Rattle.nj_texts.specs.declared.kinds.Kind.{Kind}
use Rattle.nj_texts.specs.declared.kinds.Kind.TheVariants as kinds
use Rattle.nj_tasks.specs.declared.stops.Put.{Put}

-- an answer: the exit status, the bytes for `out`, the line for `err`, the file that is put, if there is one, and how
-- many frames are run for it at most
pub record Answer : Type 0 where
  pub status : ℕ
  pub text : List ℕ
  pub line : List ℕ
  pub file : Option Put
  pub frames : ℕ

-- the answer of a command that was refused: a line and no more
abbrev pub refused : ℕ → List ℕ → Answer
refused status line = record { status = status; text = []; line = line; file = None; frames = 0 }

-- the answer of a command that was carried out
abbrev pub done : ℕ → List ℕ → Option Put → ℕ → Answer
done status text file frames = record { status = status; text = text; line = []; file = file; frames = frames }

-- the work of a command: to answer, or to read a file and go on with its bytes
pub data Work : Type 0 where
  Done : Answer → Work
  Read : List ℕ → (List ℕ → Work) → Work

-- the answer of the work over these files, if every file that it comes to is there
abbrev pub given : Files → Work → Option Answer
given files (Done answer) = Some answer
given files (Read name next) = option_and_then (λ bytes. given files (next bytes)) (files name)

-- how many frames are run for an answer at most; none where there is no answer
abbrev pub frames_of : Option Answer → ℕ
frames_of a = option_map_or (λ x. x.frames) a 0

-- the work comes to a file whose name has this hash: every file before it was there and was accepted
abbrev pub Reaches : Files → Work → ℕ → Type 0
Reaches files (Done answer) hash = ⊥
Reaches files (Read name next) hash = (hash ≡ fnv_of name) ⊎ IsSomeAnd (files name)
    (λ bytes. Reaches files (next bytes) hash)

-- the work goes on with what was read, or ends with the refusal of this kind
abbrev pub accepted : {A : Type 0} → Kind → (A → Work) → Result A (List ℕ) → Work
accepted kind next (Ok value) = next value
accepted kind next (Err refusal) = Done (refused (kind_status kind) (refusal_line kind refusal))

-- a refusal is told by its text
abbrev pub refusal_told : {A E : Type 0} → (E → List ℕ) → Result A E → Result A (List ℕ)
refusal_told refusal (Ok value) = Ok value
refusal_told refusal (Err e) = Err (refusal e)

-- one thing is read after another
abbrev pub both : {A B : Type 0} → ((A → Work) → Work) → ((B → Work) → Work) → (A × B → Work) → Work
both first second next = first (λ a. second (λ b. next (a, b)))

-- the frames that are run for a reading: at most as many, and none where it is refused
abbrev pub frames_for : {A : Type 0} → Result A (List ℕ) → ℕ → ℕ
frames_for (Ok value) frames = frames
frames_for (Err refusal) frames = 0

-- what was read is told by what is made of it
abbrev pub value_told : {A B E : Type 0} → (A → B) → Result A E → Result B E
value_told told (Ok value) = Ok (told value)
value_told told (Err e) = Err e

-- what a command finds in what was read, and what is told of it: of what its refusals are, what it finds or the text of
-- its refusal; of what is found the exit status, the text and the file that is put; and how many frames are run at most
pub record Finding (V A : Type 0) : Type 0 where
  pub kind : Kind
  pub reading : V → Result A (List ℕ)
  pub status : A → ℕ
  pub text : A → List ℕ
  pub file : A → Option Put
  pub frames : V → ℕ

-- the answer of what was found
abbrev pub answered_by : {V A : Type 0} → Finding V A → V → A → Work
answered_by finding said found =
    Done (done (finding.status found) (finding.text found) (finding.file found) (finding.frames said))

-- the work of a command in what was read: its refusal, or the answer of what it finds
abbrev pub found_in : {V A : Type 0} → Finding V A → V → Work
found_in finding said = accepted finding.kind (answered_by finding said) (finding.reading said)

-- a text with status 0, or the refusal of this kind
abbrev pub text_or_refusal : {V : Type 0} → Kind → (V → Result (List ℕ) (List ℕ)) → (V → ℕ) → Finding V (List ℕ)
text_or_refusal kind reading frames = record {
  kind = kind;
  reading = reading;
  status = λ _. 0;
  text = λ text. text;
  file = λ _. None;
  frames = frames;
}

-- a text with status 0, which nothing refuses
abbrev pub text_alone : {V : Type 0} → (V → List ℕ) → (V → ℕ) → Finding V (List ℕ)
text_alone text frames = text_or_refusal kinds.Movie (λ said. Ok (text said)) frames
