-- The members of a JSON object (RFC 8259), read one at a time. What is asked of them is this project's own.
use Rattle.std.specs.Prelude.{ℕ, ⊤, ◌||◌, Bool, false, List, [], ◌∷◌, find, not, ℤ, pos, unsigned_abs, int_lt, nat_lt, Option, Ok, Err, option_and_then, bytes_eq, if◌then◌else◌}
use Rattle.std.specs.List.{list_any}
use Rattle.serde_json.specs.Data.{Data, Items, no_items, Members, no_members, member}
use Rattle.serde_json.specs.Find.{get, as_number, as_i64, as_bool, as_str, as_array, as_object}
use Rattle.serde_json.specs.Events.{items_len}
use Rattle.nj_fields.specs.declared.refusal.ScriptRefused.TheVariants.{Missing, UnknownKey, WrongKind, OutOfRange, TooMany}
use Rattle.nj_fields.specs.Reading.{Reading, then_read, if_there}

-- the keys of an object, in byte order
abbrev pub member_keys : Members → List (List ℕ)
member_keys no_members = []
member_keys (member key value members) = key ∷ member_keys members

-- the first key that is none of the known ones; since the keys are in byte order it is the least
abbrev pub unknown_key : List (List ℕ) → Members → Option (List ℕ)
unknown_key known members = find (λ key. not (list_any (bytes_eq key) known)) (member_keys members)

-- the value is an object without unknown keys; it stands in the list of that key
unfoldable pub opened : List ℕ → List (List ℕ) → Data → Reading ⊤
opened list known value =
    if_there (as_object value) (Err (WrongKind list))
    (λ members. if_there (unknown_key known members) (Ok tt) (λ key. Err (UnknownKey key)))

-- the member's value, which has to be there
unfoldable pub required : List ℕ → Data → Reading Data
required key d = if_there (get key d) (Err (Missing key)) (λ value. Ok value)

-- a whole number of 64 signed bits, from low to high
unfoldable pub integer_in : List ℕ → ℤ → ℤ → Data → Reading ℤ
integer_in key low high value =
    if_there (option_and_then as_i64 (as_number value)) (Err (WrongKind key))
    (λ n. if int_lt n low || int_lt high n then Err (OutOfRange key n) else Ok n)

-- the same of a member, which has to be there
unfoldable pub integer : List ℕ → ℤ → ℤ → Data → Reading ℤ
integer key low high d = then_read (required key d) (integer_in key low high)

-- the same, where a member that is not there stands for a number
unfoldable pub integer_or : List ℕ → ℤ → ℤ → ℤ → Data → Reading ℤ
integer_or key low high default d = if_there (get key d) (Ok default) (integer_in key low high)

-- a number that is not negative, from low to high
unfoldable pub natural : List ℕ → ℕ → ℕ → Data → Reading ℕ
natural key low high d = then_read (integer key (pos low) (pos high) d) (λ n. Ok (unsigned_abs n))

-- the same, where a member that is not there stands for a number
unfoldable pub natural_or : List ℕ → ℕ → ℕ → ℕ → Data → Reading ℕ
natural_or key low high default d =
    then_read (integer_or key (pos low) (pos high) (pos default) d) (λ n. Ok (unsigned_abs n))

-- a truth value, false where it is not there
unfoldable pub truth : List ℕ → Data → Reading Bool
truth key d = if_there (get key d) (Ok false) (λ value. if_there (as_bool value) (Err (WrongKind key)) (λ b. Ok b))

-- a text; it is the member itself, or stands in the list of that key
unfoldable pub text_in : List ℕ → Data → Reading (List ℕ)
text_in key value = if_there (as_str value) (Err (WrongKind key)) (λ s. Ok s)

-- the text of a member, which has to be there
unfoldable pub text : List ℕ → Data → Reading (List ℕ)
text key d = then_read (required key d) (text_in key)

-- a list of at most so many members
unfoldable pub list_in : List ℕ → ℕ → Data → Reading Items
list_in key limit value =
    if_there (as_array value) (Err (WrongKind key))
    (λ items. if nat_lt limit (items_len items) then Err (TooMany key limit) else Ok items)

-- the list of a member, which has to be there
unfoldable pub list : List ℕ → ℕ → Data → Reading Items
list key limit d = then_read (required key d) (list_in key limit)

-- the same, empty where it is not there
unfoldable pub list_or_none : List ℕ → ℕ → Data → Reading Items
list_or_none key limit d = if_there (get key d) (Ok no_items) (list_in key limit)
