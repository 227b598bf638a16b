-- What a use of a name or an option with one value does to what the parser holds.
use Rattle.std.proofs.Common.{◌≡◌, ◌∙◌, ℕ, Bool, cond, true, false, refl, ap, List, [], ◌∷◌, ◌++◌, Option, Some, None, true≢false, append-nil}
use Rattle.std.specs.Option.{option_map_or}
use Rattle.std.specs.Str.{bytes_eq}
use Rattle.clap.specs.Walk.{Held, Row, Rule, Text, at_row, has_row, more_values, used, used_by_id, without}
use Rattle.clap.specs.Faults.{use_fault}
use Rattle.clap.specs.declared.builder.value_parser.Reading.TheVariants as reading
use Rattle.clap.specs.declared.parser.matches.ValueSource.TheVariants.{CommandLine}
use Rattle.nj_words.specs.Words.{Word}
use Rattle.nj_words.proofs.Rules.{use_rule}
use Rattle.nj_words.proofs.Outcome.{settled_outcome, unless}
use Rattle.nj_words.proofs.Lookups.{IsKnown}

-- the row of a use
abbrev pub use_row : Word → Word → Row
use_row id value = record {
  id = id;
  values = value ∷ [];
  count = None;
  source = Some CommandLine;
  reading = reading.AsWritten;
}

-- one more use, unless the id was used before
abbrev pub adds : Word → Word → List Row → Option (List Row)
adds id value rows = cond (has_row id rows) None (Some (rows ++ use_row id value ∷ []))

at_missing : (id : Text) (change : Row → List Row) (missing rows : List Row) → has_row id rows ≡ false
    → at_row id change missing rows ≡ rows ++ missing
at_missing id change missing [] e = refl
at_missing id change missing (row ∷ rows) e = go (bytes_eq row.id id) refl e (at_missing id change missing rows)
  where
    go : (b : Bool) → bytes_eq row.id id ≡ b → has_row id (row ∷ rows) ≡ false
        → (has_row id rows ≡ false → at_row id change missing rows ≡ rows ++ missing)
        → at_row id change missing (row ∷ rows) ≡ row ∷ rows ++ missing
    go true same none later = absurd (true≢false (rw same at none))
    go false other none later = rw other (ap (λ rs. row ∷ rs) (later (rw other at none)))

pub use_adds : (long : Option Word) (index : Option ℕ) (id value : Word) (rows : List Row)
    → unless (use_fault false (use_rule long index id) (value ∷ []) rows)
    (Some (used (use_rule long index id) (value ∷ []) rows)) ≡ adds id value rows
use_adds long index id value rows = go (has_row id rows) refl
  where
    go : (b : Bool) → has_row id rows ≡ b
        → unless (use_fault false (use_rule long index id) (value ∷ []) rows)
        (Some (used (use_rule long index id) (value ∷ []) rows)) ≡ adds id value rows
    go true e = rw e refl
    go false e =
        let gone : without id rows ≡ rows = at_missing id (λ _. []) [] rows e ∙ append-nil rows in
        rw (e, gone) (ap Some (at_missing id (more_values CommandLine (value ∷ [])) (use_row id value ∷ []) rows e))

abbrev pub holding : List Row → Option (Text × List Text) → Held
holding rows pending = record { rows = rows; pending = pending; skip = 0 }

pub settles_one : (rules : List Rule) (rows : List Row) (id value : Word) → IsKnown rules id
    → settled_outcome rules (holding rows (Some (id, value ∷ []))) ≡ adds id value rows
settles_one rules rows id value known =
    ap (λ (found : Option Rule). unless (option_map_or (λ a. use_fault false a (value ∷ []) rows) found [])
    (Some (used_by_id found (value ∷ []) rows))) known.2
    ∙ use_adds known.0 known.1 id value rows

pub settles_none : (rules : List Rule) (rows : List Row) (id : Word) → IsKnown rules id
    → settled_outcome rules (holding rows (Some (id, []))) ≡ None
settles_none rules rows id known =
    ap (λ (found : Option Rule). unless (option_map_or (λ a. use_fault false a [] rows) found [])
    (Some (used_by_id found [] rows))) known.2
