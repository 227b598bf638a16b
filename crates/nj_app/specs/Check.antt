-- `check CART SCRIPT`: what a cartridge and a script count. Our own.
use Rattle.std.specs.Prelude.{ℕ, ◌/◌, List, length, if◌then◌else◌}
use Rattle.nj_ines.specs.Cartridge.{Cartridge}
use Rattle.nj_rules.specs.Pads.{named_pads}
use Rattle.nj_script.specs.Script.{Record}
use Rattle.nj_plan.specs.Plans.{cost_of}
use Rattle.nj_texts.specs.Counts.{check_line}
use Rattle.nj_texts.specs.declared.counts.Counts.{Counts}
use Rattle.nj_tasks.specs.Formats.{cart_format, loaded, script_format}
use Rattle.nj_tasks.specs.Work.{Finding, Work, both, found_in, text_alone}

-- the units of 8 KiB of pattern ROM; RAM has none
abbrev pub chr_units : Cartridge → ℕ
chr_units cart = if cart.chr_ram then 0 else length cart.chr / 8192

-- the counts of a cartridge and a script; program memory in units of 16 KiB
unfoldable pub counts_of : Cartridge → Record → Counts
counts_of cart script = record {
  prg = length cart.prg / 16384;
  chr = chr_units cart;
  vertical = cart.vertical;
  properties = length script.properties;
  rules = length script.rules.rules;
  inputs = length (named_pads script.inputs.sets);
  cost = cost_of cart;
}

-- the line of the counts
unfoldable pub check_finding : Finding (Cartridge × Record) (List ℕ)
check_finding = text_alone (λ said. check_line (counts_of said.0 said.1)) (λ _. 0)

-- the cartridge is read, then the script, and both are counted
unfoldable pub check_work : List ℕ → List ℕ → Work
check_work cart script = both (loaded cart_format cart) (loaded script_format script) (found_in check_finding)
