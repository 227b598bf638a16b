-- The laws: who owns a key does not depend on the order of the claims, and every order of events ends as one thread.
use Rattle.std.specs.Prelude.{◌≡◌, ◌≢◌, ◌<◌, ◌≤◌, ◌⊎◌, ◌↔◌, ℕ, ◌==◌, List, [], filter, Option, None, Some, IfSome, All, AllPairs, Contains, if◌then◌else◌}
use Rattle.std.specs.List.Sorted.{IsPermutation}
use Rattle.nj_core.specs.declared.claim.Claim.{Claim}
use Rattle.nj_core.specs.declared.event.Event.{Event}
use Rattle.nj_core.specs.Owners.{owner, lesser, claimed, least, numbers_of, is_owned, is_first, by_number}
use Rattle.nj_core.specs.Machine.{Piece, State, Runs, opening, IsSpent, finished_pieces, claims_of}

-- no two claims have the same number
abbrev pub HaveDistinctNumbers : List Claim → Type 0
HaveDistinctNumbers claims = AllPairs (λ a b. a.number ≢ b.number) claims

-- each owner is below the number of each claim
abbrev pub AreBelow : (ℕ → Option ℕ) → List Claim → Type 0
AreBelow owners claims = (key : ℕ) → IfSome (owners key) (λ number. All (λ claim. number < claim.number) claims)

-- each key's owner is the least of its opening owner and its claims' numbers
abbrev pub AreLeast : (ℕ → Option ℕ) → List Claim → (ℕ → Option ℕ) → Type 0
AreLeast opening claims owners = (key : ℕ) → owners key ≡ least (opening key) (numbers_of key claims)

-- after a claim its key is owned by the lesser of the owner before, if any, and its number, and other keys as before
abbrev pub AClaimTakesTheLesser : Type 0
AClaimTakesTheLesser = (claim : Claim) (owners : List Claim) (key : ℕ)
    → owner (claimed claim owners) key
    ≡ (if claim.key == key then Some (lesser (owner owners key) claim.number) else owner owners key)

-- an owner is the opening owner or one of the numbers, and above none of them; there is none where there is nothing
abbrev pub IsLeast : Option ℕ → List ℕ → Option ℕ → Type 0
IsLeast opening numbers None = (opening ≡ None) × (numbers ≡ [])
IsLeast opening numbers (Some number) =
    ((opening ≡ Some number) ⊎ Contains numbers number)
    × IfSome opening (λ other. number ≤ other)
    × All (λ other. number ≤ other) numbers

-- the least is such an owner, and the only one
abbrev pub LeastIsTheLeast : Type 0
LeastIsTheLeast = (opening : Option ℕ) (numbers : List ℕ) (owner : Option ℕ)
    → IsLeast opening numbers owner ↔ (owner ≡ least opening numbers)

-- a list has these claims, its numbers do not fall, and it is the same list where their numbers rise
pub record AreRising (claims sorted : List Claim) : Type 0 where
  pub moved : IsPermutation claims sorted
  pub rising : AllPairs (λ a b. a.number ≤ b.number) sorted
  pub stays : AllPairs (λ a b. a.number < b.number) claims → sorted ≡ claims

-- so is the list of claims by rising number
abbrev pub ByNumberIsRising : Type 0
ByNumberIsRising = (claims : List Claim) → AreRising claims (by_number claims)

-- a claim's key is owned by its number exactly where it is the first of a new key
abbrev pub OwnedIsFirst : Type 0
OwnedIsFirst = (opening owners : ℕ → Option ℕ) (claims : List Claim)
    → AreBelow opening claims → AreLeast opening claims owners
    → All (λ claim. is_owned owners claim ≡ is_first opening claims claim) claims

-- the claims whose key is owned by their number are, by rising number, the first ones of new keys, in whatever order
-- the claims were made
abbrev pub OwnedClaimsAreFirst : Type 0
OwnedClaimsAreFirst = (opening owners : ℕ → Option ℕ) (dealt made : List Claim)
    → HaveDistinctNumbers dealt → AreBelow opening dealt → IsPermutation dealt made → AreLeast opening made owners
    → by_number (filter (is_owned owners) made) ≡ by_number (filter (is_first opening dealt) dealt)

-- how a run ends: the finished pieces are the dealt ones, each as often as it was dealt; each key's owner is the least
-- of its opening owner and its claims' numbers; and the claims whose key is owned by their number are, by rising
-- number, the dealt claims whose key has no opening owner and no claim of smaller number
pub record IsOneThread (owners : List Claim) (pieces : List Piece) (final : State) : Type 0 where
  pub each_once : IsPermutation pieces (finished_pieces final)
  pub least : AreLeast (owner owners) (claims_of pieces) (owner final.owners)
  pub first : by_number (filter (is_owned (owner final.owners)) (claims_of (finished_pieces final)))
      ≡ by_number (filter (is_first (owner owners) (claims_of pieces)) (claims_of pieces))

-- every order of events ends as one thread would
abbrev pub AnyOrderIsOneThread : Type 0
AnyOrderIsOneThread = (owners : List Claim) (pieces : List Piece) (workers : ℕ) (events : List Event) (final : State)
    → HaveDistinctNumbers (claims_of pieces) → AreBelow (owner owners) (claims_of pieces) → 1 ≤ workers
    → Runs (opening owners pieces workers) events final → IsSpent final → IsOneThread owners pieces final
