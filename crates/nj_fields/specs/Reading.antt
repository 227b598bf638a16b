-- A reading: what a text says, or the first refusal.
use Rattle.std.specs.Prelude.{◌≡◌, ◌⊎◌, Option, Some, None, Result, Ok, Err, MatchResult}
use Rattle.nj_fields.specs.declared.refusal.ScriptRefused.{ScriptRefused}
use Rattle.nj_fields.specs.declared.refusal.ScriptRefused.TheVariants.{NoMemory}

-- a value, or the refusal in its place
abbrev pub Reading : Type 0 → Type 0
Reading A = Result A ScriptRefused

-- one reading and then another; the first refusal counts
abbrev pub then_read : {A B : Type 0} → Reading A → (A → Reading B) → Reading B
then_read (Ok a) next = next a
then_read (Err e) next = Err e

-- one reading where there is a value, and another where there is none
abbrev pub if_there : {A B : Type 0} → Option A → Reading B → (A → Reading B) → Reading B
if_there None absent present = absent
if_there (Some a) absent present = present a

-- a call for this reading answers e: want of memory, which is free to come, or the reading's refusal
abbrev pub Refuses : {A : Type 0} → Reading A → ScriptRefused → Type 0
Refuses reading e = (e ≡ NoMemory) ⊎ (reading ≡ Err e)

-- a call gives this reading, or want of memory
abbrev pub Gives : {A : Type 0} → Reading A → Result A ScriptRefused → Type 0
Gives reading r = MatchResult r (λ v. reading ≡ Ok v) (Refuses reading)

-- a call gives this reading, seen through a function, or want of memory
abbrev pub GivesAs : {V A : Type 0} → (V → A) → Reading A → Result V ScriptRefused → Type 0
GivesAs see reading r = MatchResult r (λ v. reading ≡ Ok (see v)) (Refuses reading)
