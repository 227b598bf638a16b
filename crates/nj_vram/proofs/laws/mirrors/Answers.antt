use Rattle.std.proofs.Common.{◌+◌, ◌*◌, ◌%◌, true, false, arith}
use Rattle.std.proofs.lemmas.Bool.Decides.{nat_tests}
use Rattle.nj_vram.specs.Home.{cell_of, table_of, colour_of}
use Rattle.nj_vram.proofs.Homes.{mirror_cells, mirror_colours, cells_apart, cell_of-same}
use Rattle.nj_vram.proofs.laws.mirrors.Goals as goal

pub returns-clause-vertical_left : goal.returns-clause-vertical_left
unfolding cell_of table_of
returns-clause-vertical_left c n below =
    mirror_cells true (0x2800 + n) (0x2000 + n) (omega arith) (omega arith) (omega arith)

pub returns-clause-vertical_right : goal.returns-clause-vertical_right
unfolding cell_of table_of
returns-clause-vertical_right c n below =
    mirror_cells true (0x2C00 + n) (0x2400 + n) (omega arith) (omega arith) (omega arith)

pub returns-clause-vertical_two : goal.returns-clause-vertical_two
unfolding cell_of table_of
returns-clause-vertical_two c n m n_below m_below =
    cells_apart true (0x2000 + n) (0x2400 + m) (omega arith) (omega arith) (λ same. omega arith)

pub returns-clause-horizontal_upper : goal.returns-clause-horizontal_upper
unfolding cell_of table_of
returns-clause-horizontal_upper c n below =
    mirror_cells false (0x2400 + n) (0x2000 + n) (omega arith) (omega arith) (omega arith)

pub returns-clause-horizontal_lower : goal.returns-clause-horizontal_lower
unfolding cell_of table_of
returns-clause-horizontal_lower c n below =
    mirror_cells false (0x2C00 + n) (0x2800 + n) (omega arith) (omega arith) (omega arith)

pub returns-clause-horizontal_two : goal.returns-clause-horizontal_two
unfolding cell_of table_of
returns-clause-horizontal_two c n m n_below m_below =
    cells_apart false (0x2000 + n) (0x2800 + m) (omega arith) (omega arith) (λ same. omega arith)

pub returns-clause-repeated : goal.returns-clause-repeated
returns-clause-repeated c v n below =
    mirror_cells v (0x3000 + n) (0x2000 + n) (omega arith) (omega arith) (cell_of-same v n)

pub returns-clause-colours : goal.returns-clause-colours
unfolding colour_of
returns-clause-colours c v n below =
    mirror_colours v (0x3F00 + n) (0x3F00 + n % 32) (omega arith) (omega arith) (grind (arith, nat_tests))

pub returns-clause-backdrops : goal.returns-clause-backdrops
unfolding colour_of
returns-clause-backdrops c v n below =
    mirror_colours v (0x3F10 + 4 * n) (0x3F00 + 4 * n) (omega arith) (omega arith) (grind (arith, nat_tests))
