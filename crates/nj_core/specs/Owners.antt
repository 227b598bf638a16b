-- Claims of keys, and who owns a key: the least number that claims it. The form is our own.
use Rattle.std.specs.Prelude.{ℕ, min, Bool, false, not, ◌&&◌, ◌==◌, nat_lt, List, [], ◌∷◌, map, filter, Option, None, Some, is_none, if◌then◌else◌}
use Rattle.std.specs.List.{list_any}
use Rattle.nj_core.specs.declared.claim.Claim.{Claim}

-- whether an entry or a claim is of this key
abbrev pub of_key : ℕ → Claim → Bool
of_key key claim = claim.key == key

-- the owner of a key in a list of owners: the number of its entry, if it has one
abbrev pub owner : List Claim → ℕ → Option ℕ
owner [] key = None
owner (entry ∷ entries) key = if entry.key == key then Some entry.number else owner entries key

-- the lesser of an owner, if there is one, and a number
abbrev pub lesser : Option ℕ → ℕ → ℕ
lesser None number = number
lesser (Some other) number = min other number

-- the owners after a claim: its key's owner becomes the lesser of its owner, if any, and the claim's number
abbrev pub claimed : Claim → List Claim → List Claim
claimed claim [] = claim ∷ []
claimed claim (entry ∷ entries) =
    if entry.key == claim.key
    then record { key = entry.key; number = min entry.number claim.number } ∷ entries
    else entry ∷ claimed claim entries

-- the least of an opening owner, if there is one, and these numbers
abbrev pub least : Option ℕ → List ℕ → Option ℕ
least opening [] = opening
least opening (number ∷ numbers) = least (Some (lesser opening number)) numbers

-- the numbers of the claims of a key
abbrev pub numbers_of : ℕ → List Claim → List ℕ
numbers_of key claims = map (λ claim. claim.number) (filter (of_key key) claims)

-- whether there is an owner and it is this number
abbrev pub is_number : Option ℕ → ℕ → Bool
is_number None number = false
is_number (Some other) number = other == number

-- whether a claim's key is owned by the claim's number
abbrev pub is_owned : (ℕ → Option ℕ) → Claim → Bool
is_owned owners claim = is_number (owners claim.key) claim.number

-- whether a claim is the first of a new key: its key has no opening owner, and no claim of smaller number
abbrev pub is_first : (ℕ → Option ℕ) → List Claim → Claim → Bool
is_first opening claims claim =
    is_none (opening claim.key)
    && not (list_any (λ other. nat_lt other.number claim.number && (other.key == claim.key)) claims)

-- claims with one more, put before the first of greater number
abbrev pub put_by_number : Claim → List Claim → List Claim
put_by_number claim [] = claim ∷ []
put_by_number claim (other ∷ others) =
    if nat_lt claim.number other.number then claim ∷ other ∷ others else other ∷ put_by_number claim others

-- claims by rising number
abbrev pub by_number : List Claim → List Claim
by_number [] = []
by_number (claim ∷ claims) = put_by_number claim (by_number claims)
