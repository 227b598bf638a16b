-- Where the pairs of a memory shelf have a file, and what a changed or a further pair does to the files.
use Rattle.std.proofs.Common.{◌≡◌, ℕ, ◌<◌, suc, zero, Bool, true, false, List, [], ◌∷◌, ◌++◌, length, get_or, set, take, Option, Some, None, refl, sym, ◌∙◌, ap, arith, if◌then◌else◌, string_bytes, bytes_eq}
use Rattle.std.proofs.Math.Path.{fun_ext}
use Rattle.std.proofs.lemmas.Slice.Eq.{bytes_eq-Decides}
use Rattle.std.specs.Prelude.{unwrap_or}
use Rattle.std.proofs.Math.Seq.{map-set_same}
use Rattle.std.proofs.lemmas.List.{take_all}
use Rattle.nj_outside.specs.Told.{with_file, bytes_at}
use Rattle.nj_memory.specs.Memory.{Pair, file_of, named, files_of, NoneBefore, IsFirst}

-- where no pair has the name there is no such file
pub none_found : (pairs : List Pair) (name : List ℕ) → NoneBefore pairs name (length pairs)
    → files_of (named pairs) name ≡ None
none_found [] name none = refl
none_found (pair ∷ rest) name none =
    ap (λ b. if b then Some pair.1.items else files_of (named rest) name) (none 0 pair (omega arith))
    ∙ none_found rest name (λ k absent lt. none (suc k) absent (omega arith))

-- the pair after as many others is the file
first_at : (pairs : List Pair) (name : List ℕ) (k : ℕ) (absent : Pair)
    → k < length pairs → bytes_eq (string_bytes (get_or pairs k absent).0) name ≡ true → NoneBefore pairs name k
    → files_of (named pairs) name ≡ Some (get_or pairs k absent).1.items
first_at [] name k absent within same before = absurd (omega arith)
first_at (pair ∷ rest) name zero absent within same before =
    ap (λ b. if b then Some pair.1.items else files_of (named rest) name) same
first_at (pair ∷ rest) name (suc k) absent within same before =
    ap (λ b. if b then Some pair.1.items else files_of (named rest) name) (before 0 absent (omega arith))
    ∙ first_at rest name k absent (omega arith) same (λ j d lt. before (suc j) d (omega arith))

-- the first pair of the name is the file
pub first_found : (pairs : List Pair) (name : List ℕ) (k : ℕ) (absent : Pair) → IsFirst pairs name k
    → files_of (named pairs) name ≡ Some (get_or pairs k absent).1.items
first_found pairs name k absent first = first_at pairs name k absent first.within (first.same absent) first.before

-- a pair of another name in front of files where one was put
passed : (front : Bool) (put : Bool) (mine new : List ℕ) (old : Option (List ℕ)) → (front ≡ true → put ≡ true → ⊥)
    → (if front then Some mine else (if put then Some new else old))
    ≡ (if put then Some new else (if front then Some mine else old))
passed true true mine new old clash = absurd (clash refl refl)
passed true false mine new old clash = refl
passed false put mine new old clash = refl

-- a name that differs from another is not the same third name
apart : (mine name other : List ℕ) → bytes_eq mine name ≡ false → bytes_eq mine other ≡ true
    → bytes_eq name other ≡ true → ⊥
apart mine name other differs same put =
    let here : mine ≡ other = (bytes_eq-Decides mine other).0 same in
    let there : name ≡ other = (bytes_eq-Decides name other).0 put in
    let clash : bytes_eq mine name ≡ true = (bytes_eq-Decides mine name).1 (here ∙ sym there) in cc

-- of two files of one name the first counts
twice : (put : Bool) (new mine : List ℕ) (old : Option (List ℕ))
    → (if put then Some new else old) ≡ (if put then Some new else (if put then Some mine else old))
twice true new mine old = refl
twice false new mine old = refl

-- new bytes in the pair after as many others put the file
put_at_first : (pairs : List Pair) (name : List ℕ) (k : ℕ) (absent new : Pair)
    → k < length pairs → bytes_eq (string_bytes (get_or pairs k absent).0) name ≡ true → NoneBefore pairs name k
    → string_bytes new.0 ≡ string_bytes (get_or pairs k absent).0
    → files_of (named (set pairs k new)) ≡ with_file (files_of (named pairs)) name new.1.items
unfolding with_file
put_at_first [] name k absent new within same before kept = absurd (omega arith)
put_at_first (pair ∷ rest) name zero absent new within same before kept =
    let is : string_bytes pair.0 ≡ name = (bytes_eq-Decides (string_bytes pair.0) name).0 same in
    fun_ext (λ other.
    ap (λ n. if bytes_eq n other then Some new.1.items else files_of (named rest) other) (kept ∙ is)
    ∙ twice (bytes_eq name other) new.1.items pair.1.items (files_of (named rest) other)
    ∙ ap (λ n. if bytes_eq name other then Some new.1.items
    else (if bytes_eq n other then Some pair.1.items else files_of (named rest) other)) (sym is))
put_at_first (pair ∷ rest) name (suc k) absent new within same before kept =
    fun_ext (λ other.
    ap (λ f. if bytes_eq (string_bytes pair.0) other then Some pair.1.items else f other)
    (put_at_first rest name k absent new (omega arith) same (λ j d lt. before (suc j) d (omega arith)) kept)
    ∙ passed (bytes_eq (string_bytes pair.0) other) (bytes_eq name other) pair.1.items new.1.items
    (files_of (named rest) other)
    (apart (string_bytes pair.0) name other (before 0 absent (omega arith))))

-- new bytes in the first pair of the name put the file
pub first_put : (pairs : List Pair) (name : List ℕ) (k : ℕ) (absent new : Pair) → IsFirst pairs name k
    → string_bytes new.0 ≡ string_bytes (get_or pairs k absent).0
    → files_of (named (set pairs k new)) ≡ with_file (files_of (named pairs)) name new.1.items
first_put pairs name k absent new first kept =
    put_at_first pairs name k absent new first.within (first.same absent) first.before kept

-- a pair of a new name at the end puts the file
pub last_put : (pairs : List Pair) (name : List ℕ) (new : Pair)
    → NoneBefore pairs name (length pairs) → string_bytes new.0 ≡ name
    → files_of (named (pairs ++ new ∷ [])) ≡ with_file (files_of (named pairs)) name new.1.items
unfolding with_file
last_put [] name new none is = fun_ext (λ other. ap (λ n. if bytes_eq n other then Some new.1.items else None) is)
last_put (pair ∷ rest) name new none is =
    fun_ext (λ other.
    ap (λ f. if bytes_eq (string_bytes pair.0) other then Some pair.1.items else f other)
    (last_put rest name new (λ k absent lt. none (suc k) absent (omega arith)) is)
    ∙ passed (bytes_eq (string_bytes pair.0) other) (bytes_eq name other) pair.1.items new.1.items
    (files_of (named rest) other)
    (apart (string_bytes pair.0) name other (none 0 pair (omega arith))))

-- the bytes of the file are those of the first pair of its name
pub bytes_found : (pairs : List Pair) (name : List ℕ) (k : ℕ) (old : Pair)
    → IsFirst pairs name k → old ≡ get_or pairs k old → bytes_at (files_of (named pairs)) name ≡ old.1.items
bytes_found pairs name k old first is =
    ap (λ o. unwrap_or o []) (first_found pairs name k old first) ∙ ap (λ (p : Pair). p.1.items) (sym is)

-- a piece put into the first pair of the name is put into the file
pub piece_put : (pairs : List Pair) (name : List ℕ) (k at : ℕ) (piece : List ℕ) (old new : Pair)
    → IsFirst pairs name k → old ≡ get_or pairs k old → string_bytes new.0 ≡ string_bytes old.0
    → new.1.items ≡ take at old.1.items ++ piece
    → files_of (named (set pairs k new)) ≡ with_file (files_of (named pairs)) name
    (take at (bytes_at (files_of (named pairs)) name) ++ piece)
piece_put pairs name k at piece old new first is kept put =
    first_put pairs name k old new first (kept ∙ ap (λ (p : Pair). string_bytes p.0) is)
    ∙ ap (with_file (files_of (named pairs)) name)
    (put ∙ ap (λ x. take at x ++ piece) (sym (bytes_found pairs name k old first is)))

-- a first pair with the same name and bytes leaves the files
pub piece_kept : (pairs : List Pair) (k : ℕ) (old new : Pair)
    → old ≡ get_or pairs k old → string_bytes new.0 ≡ string_bytes old.0 → new.1.items ≡ old.1.items
    → named (set pairs k new) ≡ named pairs
piece_kept pairs k old new is name bytes =
    map-set_same file_of pairs k new old (let same : file_of new ≡ file_of old =
    cc (name, bytes) in same ∙ ap file_of is)

-- a new pair at the end has a new file's bytes
pub new_put : (pairs : List Pair) (name : List ℕ) (at : ℕ) (piece : List ℕ) (new : Pair)
    → NoneBefore pairs name (length pairs) → string_bytes new.0 ≡ name → new.1.items ≡ piece
    → files_of (named (pairs ++ new ∷ [])) ≡ with_file (files_of (named pairs)) name
    (take at (bytes_at (files_of (named pairs)) name) ++ piece)
new_put pairs name at piece new none is put =
    let absent : bytes_at (files_of (named pairs)) name ≡ [] = ap (λ o. unwrap_or o []) (none_found pairs name none) in
    last_put pairs name new none is
    ∙ ap (with_file (files_of (named pairs)) name)
    (put ∙ ap (λ x. x ++ piece) (sym (take_all at [] (omega arith))) ∙ ap (λ x. take at x ++ piece) (sym absent))
