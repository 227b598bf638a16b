-- The pads of a script that is read are bytes, where a text shows bytes alone.
use Rattle.std.proofs.Common.{◌≡◌, ℕ, ◌<◌, ◌≤◌, refl, List, [], length, All, Option, Some, None, Ok, Err, IfOk, codes, ◌∷◌}
use Rattle.serde_json.specs.Data.{Data}
use Rattle.nj_pad.specs.Pad.{pad_of_text}
use Rattle.nj_rules.specs.declared.record.InputSet.{InputSet}
use Rattle.nj_fields.specs.declared.names.Named.{Named}
use Rattle.nj_fields.specs.declared.refusal.ScriptRefused.TheVariants.{UnknownName}
use Rattle.nj_fields.specs.Reading.{then_read, if_there}
use Rattle.nj_fields.specs.Fields.{opened, truth, text_in, natural_or, list}
use Rattle.nj_fields.specs.Lists.{each}
use Rattle.nj_fields.specs.Names.{pad_named}
use Rattle.nj_fields.specs.Conditions.{conditions_in}
use Rattle.nj_script.specs.Kinds.{pad_in, pads_in, set_in}
use Rattle.nj_script.specs.Script.{Record, bucket_in, head_in, items_in, json_of, properties_in, rules_in, script_in, script_of, sets_in}
use Rattle.nj_fields.proofs.Accepted.{ok_then, ok_after, ok_if_there, ok_weaker, ok_members, ok_list}

-- each pad is a byte
abbrev pub AreBytes : List ℕ → Type 0
AreBytes pads = All (λ pad. pad < 256) pads

-- so are the pads of the set
abbrev pub HasBytes : InputSet → Type 0
HasBytes set = AreBytes set.pads

-- so are those of the script's sets
abbrev pub NamesBytes : Record → Type 0
NamesBytes script = All HasBytes script.inputs.sets

module _ (byte : (text : List ℕ) (pad : ℕ) → pad_of_text text ≡ Some pad → pad < 256) where
  ok_shown : (o : Option ℕ) (name : List ℕ) → ((pad : ℕ) → o ≡ Some pad → pad < 256)
      → IfOk {T = ℕ} (if_there o (Err (UnknownName name)) (λ pad. Ok pad)) (λ pad. pad < 256)
  ok_shown None name h = tt
  ok_shown (Some pad) name h = h pad refl

  ok_pad_in : (d : Data) → IfOk (pad_in d) (λ pad. pad < 256)
  unfolding pad_in pad_named
  ok_pad_in d = ok_after (text_in (codes "pads") d) pad_named (λ pad. pad < 256)
      (λ name. ok_shown (pad_of_text name) name (byte name))

  ok_pads_in : (d : Data) → IfOk (pads_in d) AreBytes
  unfolding pads_in
  ok_pads_in d =
      ok_weaker (then_read (list (codes "pads") 256 d) (each (λ _. pad_in) []))
      (λ pads. AreBytes pads × (length pads ≤ 256)) AreBytes (λ pads both. both.0)
      (ok_members (λ _. pad_in) (λ pad. pad < 256) (list (codes "pads") 256 d) 256 (λ _. ok_pad_in)
      (ok_list (codes "pads") 256 d))

  ok_set_in : (properties : List Named) (d : Data) → IfOk (set_in properties d) HasBytes
  unfolding set_in
  ok_set_in properties d =
      ok_after (opened (codes "inputs") (codes "when" ∷ codes "pads" ∷ codes "stop" ∷ []) d) _ HasBytes (λ _.
      ok_after (conditions_in properties d) _ HasBytes (λ when.
      ok_then (pads_in d) _ AreBytes HasBytes (ok_pads_in d) (λ pads bytes.
      ok_after (truth (codes "stop") d) _ HasBytes (λ stop. bytes))))

  ok_sets_in : (properties : List Named) (d : Data) → IfOk (sets_in properties d) (All HasBytes)
  unfolding sets_in
  ok_sets_in properties d =
      ok_weaker (then_read (list (codes "inputs") 32 d) (each (λ _. set_in properties) []))
      (λ sets. All HasBytes sets × (length sets ≤ 32)) (All HasBytes) (λ sets both. both.0)
      (ok_members (λ _. set_in properties) HasBytes (list (codes "inputs") 32 d) 32 (λ _. ok_set_in properties)
      (ok_list (codes "inputs") 32 d))

  ok_script_in : (d : Data) → IfOk (script_in d) NamesBytes
  unfolding script_in
  ok_script_in d =
      ok_after (head_in d) _ NamesBytes (λ _.
      ok_after (properties_in d) _ NamesBytes (λ named.
      ok_after (items_in named d) _ NamesBytes (λ items.
      ok_after (natural_or (codes "hold") 1 60 1 d) _ NamesBytes (λ hold.
      ok_after (natural_or (codes "tolerance") 0 1048576 0 d) _ NamesBytes (λ tolerance.
      ok_then (sets_in named d) _ (All HasBytes) NamesBytes (ok_sets_in named d) (λ sets bytes.
      ok_after (rules_in named d) _ NamesBytes (λ rules.
      ok_after (bucket_in named d) _ NamesBytes (λ bucket.
      ok_after (natural_or (codes "quota") 1 1048576 1048576 d) _ NamesBytes (λ quota. bytes)))))))))

  -- what a text of bytes says names bytes alone
  pub ok_script_of : (bytes : List ℕ) → IfOk (script_of bytes) NamesBytes
  unfolding script_of
  ok_script_of bytes = ok_if_there (json_of bytes) (Err _) script_in NamesBytes tt ok_script_in
