-- How the cartridge's file is read.
use Rattle.std.proofs.Common.{◌≡◌, ℕ, ◌+◌, ◌-◌, List, ◌++◌, [], append-nil, length, length-append, take, drop, refl, arith, ap, ◌∙◌, true, false, sym}
use Rattle.std.specs.Prelude.{slice_index, slice_range, None, Ok}
use Rattle.std.specs.Int.{bit_at}
use Rattle.std.proofs.Math.Seq.{take-append_seam, drop-append_seam}
use Rattle.nj_ines.specs.Header.{is_named, is_nes_2, is_clean, mapper_of, prg_units_of, chr_units_of, timing_of}
use Rattle.nj_ines.specs.Reading.{is_board, has_prg, has_chr, refusals, first_refusal, accepted_unless, contents_of, cartridge_of}
use Rattle.nj_workload.specs.Game.{zeros, header, program_memory, file_with, tables_of, game_file}
use Rattle.nj_workload.proofs.Sizes.{file_length, program_length, tables_length, zeros_length}

-- what the header says, whatever follows it
mapper_is : (rest : List ℕ) → mapper_of (header ++ rest) ≡ 0
unfolding mapper_of is_nes_2 is_clean
mapper_is rest = refl

prg_is : (rest : List ℕ) → prg_units_of (header ++ rest) ≡ 1
unfolding prg_units_of is_nes_2
prg_is rest = refl

chr_is : (rest : List ℕ) → chr_units_of (header ++ rest) ≡ 1
unfolding chr_units_of is_nes_2
chr_is rest = refl

timing_is : (rest : List ℕ) → timing_of (header ++ rest) ≡ 0
unfolding timing_of is_nes_2
timing_is rest = refl

-- a file with such a header and length is not refused
none_refused : (file : List ℕ) → is_named file ≡ true → length file ≡ 24592 → bit_at (slice_index file 6) 2 ≡ 0 →
    bit_at (slice_index file 6) 3 ≡ 0 → mapper_of file ≡ 0 → prg_units_of file ≡ 1 → chr_units_of file ≡ 1 →
    timing_of file ≡ 0 → first_refusal (refusals file) ≡ None
unfolding refusals is_board has_prg has_chr
none_refused file named whole trainer four mapper prg chr timing =
    rw (named, whole, trainer, four, mapper, prg, chr, timing) refl

-- the first piece behind another
piece : (before xs after : List ℕ) (from to : ℕ) → length before ≡ from → from + length xs ≡ to →
    slice_range (before ++ (xs ++ after)) from to ≡ xs
piece before xs after from to start end =
    let width : to - from ≡ length xs = omega (arith, start, end) in
    ap (λ n. take n (drop from (before ++ (xs ++ after)))) width
    ∙ (ap (λ n. take (length xs) (drop n (before ++ (xs ++ after)))) (sym start)
    ∙ (ap (take (length xs)) (drop-append_seam before (xs ++ after)) ∙ take-append_seam xs after))

-- what a file holds, from its header and its pieces
contents_with : (file prg chr : List ℕ) → prg_units_of file ≡ 1 → chr_units_of file ≡ 1 → mapper_of file ≡ 0 →
    bit_at (slice_index file 6) 0 ≡ 0 → slice_range file 16 16400 ≡ prg → slice_range file 16400 24592 ≡ chr →
    contents_of file ≡ record { prg = prg; chr = chr; chr_ram = false; vertical = false; mapper = 0 }
unfolding contents_of
contents_with file prg chr prg_units chr_units mapper mirroring first second =
    rw (prg_units, chr_units, mapper, mirroring, first, second) refl

-- the memories of a file of two pieces behind the header
contents_are : (prg chr : List ℕ) → length prg ≡ 16384 → length chr ≡ 8192 →
    contents_of (header ++ (prg ++ chr))
    ≡ record { prg = prg; chr = chr; chr_ram = false; vertical = false; mapper = 0 }
contents_are prg chr prg_size chr_size =
    contents_with (header ++ (prg ++ chr)) prg chr (prg_is (prg ++ chr)) (chr_is (prg ++ chr))
    (mapper_is (prg ++ chr)) refl
    (piece header prg chr 16 16400 refl (ap (λ n. 16 + n) prg_size))
    (ap (λ last. slice_range (header ++ (prg ++ last)) 16400 24592) (sym (append-nil chr))
    ∙ piece (header ++ prg) chr [] 16400 24592
    (length-append header prg ∙ ap (λ n. 16 + n) prg_size)
    (ap (λ n. 16400 + n) chr_size))

-- the reading of a number's file
pub game_read : (number : ℕ) → cartridge_of (game_file number) ≡ Ok (record {
  prg = program_memory (tables_of number);
  chr = zeros 8192;
  chr_ram = false;
  vertical = false;
  mapper = 0;
})
unfolding cartridge_of file_with
game_read number =
    let rest : List ℕ = program_memory (tables_of number) ++ zeros 8192 in
    ap (λ r. accepted_unless r (contents_of (header ++ rest)))
    (none_refused (header ++ rest) refl (file_length number) refl refl (mapper_is rest) (prg_is rest) (chr_is rest)
    (timing_is rest))
    ∙ ap Ok (contents_are (program_memory (tables_of number)) (zeros 8192)
    (program_length (tables_of number) (tables_length number)) (zeros_length 8192))
