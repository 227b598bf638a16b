-- The script and the start that belong to the cartridge of a number. Their formats are our own.
use Rattle.std.specs.Prelude.{ℕ, List, ◌++◌, codes}
use Rattle.std.specs.Fmt.{decimal}
use Rattle.std.specs.List.{repeat}
use Rattle.nj_workload.specs.Generator.{byte_at}

-- the properties x at $10 and y at $11, of a byte each (ours)
abbrev pub properties_text : List ℕ
properties_text = codes "{\"version\":1,\"properties\":[{\"name\":\"x\",\"at\":16,\"kind\":\"u8\"},{\"name\":\"y\",\"at\":17,\"kind\":\"u8\"}],"

-- both are hashed, and there are six pads, of one button each (ours)
abbrev pub inputs_text : List ℕ
inputs_text = codes "\"hash\":[\"x\",\"y\"],\"inputs\":[{\"pads\":[\"...R....\",\"..L.....\",\".D......\",\"U.......\",\".......A\",\"......B.\"]}],"

-- the rule wins where x and y have the goal's values (ours)
abbrev pub goal_text : ℕ → ℕ → List ℕ
goal_text x y =
    codes "\"rules\":[{\"name\":\"goal\",\"when\":[{\"property\":\"x\",\"op\":\"==\",\"value\":"
    ++ (decimal x ++ (codes "},{\"property\":\"y\",\"op\":\"==\",\"value\":" ++ (decimal y ++ codes "}],\"win\":true}]}")))

-- the script with the goal's values: one line with no end of line (ours)
unfoldable pub script_with : ℕ → ℕ → List ℕ
script_with x y = properties_text ++ (inputs_text ++ goal_text x y)

-- the script of a number: the goal's values are the two bytes behind those of the tables
unfoldable pub script_text : ℕ → List ℕ
script_text number = script_with (byte_at number 512) (byte_at number 513)

-- the line of a movie in which nothing is pressed, with its end (ours)
abbrev pub blank_line : List ℕ
blank_line = codes "|..|........|\n"

-- the start: 200 frames in which nothing is pressed (ours)
unfoldable pub start_text : List ℕ
start_text = repeat 200 blank_line
