-- The machine at power-on.
use Rattle.std.proofs.Common.{◌≡◌, ◌⊎◌, inl, inr, ℕ, ◌<◌, false, List, length, replicate, None, refl, sym, ap, subst, ◌∙◌, arith, lit≤}
use Rattle.std.proofs.lemmas.List.{length-replicate}
use Rattle.nj_ines.specs.Cartridge.{Cartridge, IsCartridge, IsNrom as CartridgeNrom, IsUxrom as CartridgeUxrom, IsCnrom as CartridgeCnrom}
use Rattle.nj_vram.specs.Home.{blank}
use Rattle.nj_banked.specs.Banks.{Banks, bank_count, IsNrom, IsUxrom, IsCnrom, IsBanks}
use Rattle.nj_cpu.specs.declared.state.Cpu.{Cpu}
use Rattle.nj_cpu.specs.Unit.{powered_on}
use Rattle.nj_dots.specs.declared.screen.Screen.{Screen}
use Rattle.nj_dots.specs.Screen.{IsScreen, power_on as screen_at_power_on}
use Rattle.nj_dots.proofs.Kept.{power_on-fits}
use Rattle.nj_pad.specs.declared.Port.{Port}
use Rattle.nj_pad.specs.Port.{port_at_power_on}
use Rattle.nj_machine.specs.State.{cells_of, memory_of, reset_vector, power_on, rom_in, rom_of}
use Rattle.nj_machine.specs.Frame.{IsReady}

-- the parts of a machine that was just made
pub record Made (cart : Cartridge) (cpu : Cpu) (screen : Screen) (ram : List ℕ) (board : Banks) (one two : Port) : Type
    0 where
  pub registers : cpu ≡ powered_on (reset_vector board)
  pub picture : screen ≡ screen_at_power_on cart.vertical
  pub zeros : ram ≡ replicate 2048 0
  pub memory : board ≡ memory_of cart
  pub first : one ≡ port_at_power_on
  pub second : two ≡ port_at_power_on

-- they are the state at power-on
pub made_is : (cart : Cartridge) (cpu : Cpu) (screen : Screen) (ram : List ℕ) (board : Banks) (one two : Port)
    → Made cart cpu screen ram board one two →
    record { cpu = cpu; cells = cells_of screen ram board 0 None false one two } ≡ power_on cart
unfolding power_on
made_is cart cpu screen ram board one two m = rw (m.registers, m.picture, m.zeros, m.memory, m.first, m.second) refl

-- which is ready
pub made_ready : (cart : Cartridge) (cpu : Cpu) (screen : Screen) (ram : List ℕ) (board : Banks) (one two : Port)
    → Made cart cpu screen ram board one two → IsBanks board →
    IsReady (record { cpu = cpu; cells = cells_of screen ram board 0 None false one two })
unfolding screen_at_power_on
made_ready cart cpu screen ram board one two m sized =
    record {
      sized = record {
        screen = subst IsScreen (sym m.picture) (power_on-fits cart.vertical);
        ram = ap length m.zeros ∙ length-replicate {A = ℕ} 2048 0;
        board = sized;
      };
      clear = ap (λ s. s.ended) m.picture;
    }

-- the memories of a cartridge fit its board
pub of_nrom : (cart : Cartridge) → CartridgeNrom cart → IsNrom (memory_of cart)
of_nrom cart h = record { mapper = h.mapper; prg = h.prg; chr = h.chr }

pub of_uxrom : (cart : Cartridge) → CartridgeUxrom cart → IsUxrom (memory_of cart)
of_uxrom cart h = record { mapper = h.mapper; prg = h.prg; chr = h.chr }

pub of_cnrom : (cart : Cartridge) → CartridgeCnrom cart → IsCnrom (memory_of cart)
of_cnrom cart h = record { mapper = h.mapper; prg = h.prg; chr = h.chr; rom = h.rom }

-- bank 0 is one of the banks
nrom_bank : (m : Banks) → IsNrom m → 0 < bank_count m
unfolding bank_count
nrom_bank m h = rw h.mapper (lit≤ tt)

uxrom_bank : (m : Banks) → IsUxrom m → 0 < bank_count m
unfolding bank_count
uxrom_bank m h =
    rw h.mapper (elim h.prg [
      | inl e ↦ rw e (lit≤ tt)
      | inr (inl e) ↦ rw e (lit≤ tt)
      | inr (inr (inl e)) ↦ rw e (lit≤ tt)
      | inr (inr (inr e)) ↦ rw e (lit≤ tt)
    ])

cnrom_bank : (m : Banks) → IsCnrom m → 0 < bank_count m
unfolding bank_count
cnrom_bank m h =
    rw h.mapper (elim h.chr [
      | inl e ↦ rw e (lit≤ tt)
      | inr (inl e) ↦ rw e (lit≤ tt)
      | inr (inr e) ↦ rw e (lit≤ tt)
    ])

pub sized_by : (cart : Cartridge) → IsCartridge cart → IsBanks (memory_of cart)
sized_by cart h =
    elim h.board [
      | inl n ↦ record { board = inl (of_nrom cart n); bank = nrom_bank (memory_of cart) (of_nrom cart n) }
      | inr (inl u) ↦
          record { board = inr (inl (of_uxrom cart u)); bank = uxrom_bank (memory_of cart) (of_uxrom cart u) }
      | inr (inr c) ↦
          record { board = inr (inr (of_cnrom cart c)); bank = cnrom_bank (memory_of cart) (of_cnrom cart c) }
    ]

-- the state at power-on is ready
pub begun_ready : (cart : Cartridge) → IsCartridge cart → IsReady (power_on cart)
begun_ready cart h =
    let made : Made cart (powered_on (reset_vector (memory_of cart))) (screen_at_power_on cart.vertical)
    (replicate 2048 0) (memory_of cart) port_at_power_on port_at_power_on =
    record { registers = refl; picture = refl; zeros = refl; memory = refl; first = refl; second = refl } in
    subst IsReady (made_is cart _ _ _ _ _ _ made) (made_ready cart _ _ _ _ _ _ made (sized_by cart h))

pub begun_rom : (cart : Cartridge) → rom_of (power_on cart) ≡ rom_in (memory_of cart) cart.vertical
unfolding power_on rom_of screen_at_power_on blank
begun_rom cart = refl
