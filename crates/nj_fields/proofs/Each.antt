-- The members of a list, as a loop reads them one after the other.
use Rattle.std.proofs.Common.{◌≡◌, ◌∙◌, ◌<◌, ◌≤◌, ◌+◌, ℕ, List, [], ◌∷◌, ◌++◌, length, drop, get_or, Ok, ap, sym}
use Rattle.std.proofs.lemmas.List.{at_drop_all, at_drop_more}
use Rattle.serde_json.specs.declared.value.Value.{Value}
use Rattle.serde_json.specs.View.{items_view, view}
use Rattle.serde_json.specs.Data.{Data}
use Rattle.nj_fields.specs.Reading.{Reading, then_read}
use Rattle.nj_fields.specs.Lists.{each}

module _ {A : Type 0} (reading : List A → Data → Reading A) (items : List Value) (i : ℕ) (made : List A) where
  first_read : (value : Value) → i < length items → value ≡ get_or items i value
      → each reading made (items_view (drop i items))
      ≡ then_read (reading made (view value)) (λ a. each reading (made ++ a ∷ []) (items_view (drop (i + 1) items)))
  first_read value lt at =
      at_drop_more (λ vs. each reading made (items_view vs)) items i value lt
      ∙ ap (λ v. then_read (reading made (view v))
      (λ a. each reading (made ++ a ∷ []) (items_view (drop (i + 1) items)))) (sym at)

  -- the next member is read, and those behind it are left
  pub next_read : (value : Value) (before : List A) (a : A) (new : List A) (whole : Reading (List A)) → i < length items
      → value ≡ get_or items i value → before ≡ made → reading before (view value) ≡ Ok a → new ≡ made ++ a ∷ []
      → each reading made (items_view (drop i items)) ≡ whole
      → each reading new (items_view (drop (i + 1) items)) ≡ whole
  next_read value before a new whole lt at same ok pushed so_far =
      ap (λ xs. each reading xs (items_view (drop (i + 1) items))) pushed
      ∙ sym (first_read value lt at ∙ ap (λ r. then_read r
      (λ x. each reading (made ++ x ∷ []) (items_view (drop (i + 1) items))))
      (ap (λ xs. reading xs (view value)) (sym same) ∙ ok)) ∙ so_far

  -- no member is left
  pub all_read : (whole : Reading (List A)) → length items ≤ i → each reading made (items_view (drop i items)) ≡ whole
      → whole ≡ Ok made
  all_read whole past so_far = sym so_far ∙ at_drop_all (λ vs. each reading made (items_view vs)) items i past
