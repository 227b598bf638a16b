-- Lemmas on the reads of a port.
use Rattle.std.proofs.Common.{ℕ, zero, suc, ◌≡◌, ◌+◌, ◌/◌, ◌%◌, ◌^◌, true, false, ◌∷◌, ◌++◌, map, refl, ap, arith}
use Rattle.std.specs.Prelude.{replicate}
use Rattle.nj_pad.specs.declared.Button.TheVariants.{A}
use Rattle.nj_pad.specs.declared.Port.{Port}
use Rattle.nj_pad.specs.Pad.{pressed_bit, buttons_in_turn}
use Rattle.nj_pad.specs.Port.{port_after_write, port_after_read, bit_read, bits_read}

-- a port whose eight bits were read gives 1s
bits_read-after_eight : (n latch pad : ℕ) →
    bits_read n (record { strobe = false; latch = latch; count = 8 }) pad ≡ replicate n 1
unfolding bit_read port_after_read
bits_read-after_eight zero latch pad = refl
bits_read-after_eight (suc n) latch pad = ap (λ bits. 1 ∷ bits) (bits_read-after_eight n latch pad)

-- a pad that was latched is read button by button, and then 1s
pub bits_read-latched : (port : Port) (early pad later n : ℕ) →
    bits_read (8 + n) (port_after_write (port_after_write port 1 early) 0 pad) later
    ≡ map (pressed_bit pad) buttons_in_turn ++ replicate n 1
unfolding port_after_write bit_read port_after_read
bits_read-latched port early pad later n =
    let nine : 8 + n ≡ suc (suc (suc (suc (suc (suc (suc (suc n))))))) = omega arith in
    rw nine (ap (λ bits. map (pressed_bit pad) buttons_in_turn ++ bits) (bits_read-after_eight n pad later))

-- a port whose strobe is high gives button A of the pad at the read
bits_read-high : (n latch count pad : ℕ) →
    bits_read n (record { strobe = true; latch = latch; count = count }) pad ≡ replicate n (pressed_bit pad A)
unfolding bit_read port_after_read
bits_read-high zero latch count pad = refl
bits_read-high (suc n) latch count pad =
    let first : pad % 2 ≡ pad / 2 ^ 0 % 2 = omega arith in
    rw (first, bits_read-high n latch count pad)

-- a write of 1 makes every read give button A
pub bits_read-strobing : (port : Port) (early pad n : ℕ) →
    bits_read n (port_after_write port 1 early) pad ≡ replicate n (pressed_bit pad A)
unfolding port_after_write
bits_read-strobing port early pad n = bits_read-high n port.latch port.count pad
