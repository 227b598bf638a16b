-- How long the parts of the cartridge's file are.
use Rattle.std.proofs.Common.{◌≡◌, ℕ, ◌+◌, List, ◌++◌, length, length-append, ap, ◌∙◌}
use Rattle.std.proofs.lemmas.List.{length-replicate}
use Rattle.nj_workload.specs.Game.{zeros, header, reset_code, frame_code, vectors, code_page, program_memory, file_with, tables_of, game_file}
use Rattle.nj_workload.specs.Generator.{bytes_from}
use Rattle.nj_workload.proofs.Bytes.{bytes_length}

-- zeros are as many as asked for
pub zeros_length : (count : ℕ) → length (zeros count) ≡ count
unfolding zeros
zeros_length count = length-replicate count 0

-- the code takes a page
pub code_length : length code_page ≡ 256
unfolding code_page
code_length =
    length-append reset_code (frame_code ++ zeros 183)
    ∙ ap (λ n. 9 + n) (length-append frame_code (zeros 183) ∙ ap (λ n. 64 + n) (zeros_length 183))

-- the tables take two
pub tables_length : (number : ℕ) → length (tables_of number) ≡ 512
unfolding tables_of
tables_length number =
    length-append (bytes_from number 0 256) (bytes_from number 256 256)
    ∙ (ap (λ n. n + length (bytes_from number 256 256)) (bytes_length number 0 256)
    ∙ ap (λ n. 256 + n) (bytes_length number 256 256))

-- program memory has one unit
pub program_length : (tables : List ℕ) → length tables ≡ 512 → length (program_memory tables) ≡ 16384
unfolding program_memory
program_length tables two =
    length-append code_page (tables ++ (zeros 15610 ++ vectors))
    ∙ (ap (λ n. n + length (tables ++ (zeros 15610 ++ vectors))) code_length
    ∙ ap (λ n. 256 + n)
    (length-append tables (zeros 15610 ++ vectors)
    ∙ (ap (λ n. n + length (zeros 15610 ++ vectors)) two
    ∙ ap (λ n. 512 + n)
    (length-append (zeros 15610) vectors ∙ ap (λ n. n + 6) (zeros_length 15610)))))

-- the file has 24,592 bytes
pub file_length : (number : ℕ) → length (game_file number) ≡ 24592
unfolding file_with
file_length number =
    length-append header (program_memory (tables_of number) ++ zeros 8192)
    ∙ ap (λ n. 16 + n)
    (length-append (program_memory (tables_of number)) (zeros 8192)
    ∙ (ap (λ n. n + length (zeros 8192)) (program_length (tables_of number) (tables_length number))
    ∙ ap (λ n. 16384 + n) (zeros_length 8192)))
