-- The line of what a cartridge and a script count. Our own.
use Rattle.std.specs.Prelude.{Bool, List, [], ◌∷◌, ◌++◌, ℕ, codes, if◌then◌else◌}
use Rattle.std.specs.Fmt.{decimal}
use Rattle.nj_texts.specs.declared.counts.Counts.{Counts}

-- the letter of a mirroring
abbrev pub mirror_letter : Bool → List ℕ
mirror_letter vertical = if vertical then codes "V" else codes "H"

-- the counts of the cartridge
unfoldable pub cart_counts : Counts → List ℕ
cart_counts counts =
    codes "# check prg=" ++
    (decimal counts.prg ++
    (codes " chr=" ++ (decimal counts.chr ++ (codes " mirror=" ++ mirror_letter counts.vertical))))

-- the counts of the script, and the cost of a state
unfoldable pub script_counts : Counts → List ℕ
script_counts counts =
    codes " properties=" ++
    (decimal counts.properties ++
    (codes " rules=" ++ (decimal counts.rules ++ (codes " inputs=" ++ (decimal counts.inputs
    ++ (codes " cost=" ++ (decimal counts.cost ++ 10 ∷ [])))))))

-- the line of these counts
unfoldable pub check_line : Counts → List ℕ
check_line counts = cart_counts counts ++ script_counts counts
