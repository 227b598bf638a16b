-- What a call answers where its reading is refused.
use Rattle.std.proofs.Common.{◌≡◌, ◌⊎◌, inl, inr, sym, ◌∙◌, ap, Err}
use Rattle.nj_fields.specs.declared.refusal.ScriptRefused.{ScriptRefused}
use Rattle.nj_fields.specs.declared.refusal.ScriptRefused.TheVariants.{NoMemory}
use Rattle.nj_fields.specs.Reading.{Reading, Refuses}

-- a call answers the refusal, or want of memory
pub refused_with : {A : Type 0} (reading : Reading A) (refusal answer : ScriptRefused) → reading ≡ Err refusal
    → (answer ≡ NoMemory) ⊎ (answer ≡ refusal) → Refuses reading answer
refused_with reading refusal answer e (inl memory) = inl memory
refused_with reading refusal answer e (inr same) = inr (e ∙ ap Err (sym same))
