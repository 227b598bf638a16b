-- The lines after each frame of a movie.
use Rattle.std.proofs.Common.{◌≡◌, ℕ, zero, suc, ◌+◌, ◌-◌, ◌<◌, ◌≤◌, List, [], ◌∷◌, ◌++◌, length, take, get_or, refl, ap, ap₂, sym, ◌∙◌, arith, append_assoc, append-nil}
use Rattle.std.specs.List.{range_with_len, flat_map}
use Rattle.std.proofs.lemmas.List.Sums.{fold_more}
use Rattle.nj_ines.specs.Cartridge.{Cartridge}
use Rattle.nj_machine.specs.State.{State, power_on, ram_of}
use Rattle.nj_machine.specs.Frame.{frame, play}
use Rattle.nj_machine.specs.declared.FrameEnd.{FrameEnd}
use Rattle.nj_property.specs.declared.Property.{Property}
use Rattle.nj_trace.specs.Watch.{watch_line, watch_head, line_after, watch_text}

-- one more frame of a movie
pub played_on : (cart : Cartridge) (movie pads : List ℕ) (i item : ℕ) (m next : State) (end : FrameEnd) → pads ≡ movie →
    i < length pads → item ≡ get_or pads i item →
    m ≡ play cart (take i movie) → frame m item ≡ (next, end) → next ≡ play cart (take (i + 1) movie)
played_on cart movie pads i item m next end same within is so_far after =
    sym (ap (λ p. p.0) after)
    ∙ ap (λ s. (frame s item).0) so_far
    ∙ ap (λ xs. (frame (play cart (take i xs)) item).0) (sym same)
    ∙ ap (λ p. (frame (play cart (take i pads)) p).0) is
    ∙ sym (fold_more (λ s pad. (frame s pad).0) (power_on cart) pads i item within)
    ∙ ap (λ xs. play cart (take (i + 1) xs)) same

-- the line after it
pub line_after_is : (cart : Cartridge) (properties shown : List Property) (movie : List ℕ) (n : ℕ) (m : State)
    (ram : List ℕ) → shown ≡ properties → ram ≡ ram_of m →
    m ≡ play cart (take n movie) → watch_line shown n ram ≡ line_after cart properties movie n
line_after_is cart properties shown movie n m ram same is after =
    ap₂ (λ ps r. watch_line ps n r) same (is ∙ ap ram_of after)

-- a line more
pub lines_on : (f : ℕ → List ℕ) (text new whole line : List ℕ) (i n : ℕ) → i < n → new ≡ text ++ line →
    line ≡ f (i + 1) →
    text ++ flat_map f (range_with_len (i + 1) (n - i)) ≡ whole
    → new ++ flat_map f (range_with_len (i + 1 + 1) (n - (i + 1))) ≡ whole
lines_on f text new whole line i n within now is so_far =
    let one : n - i ≡ suc (n - (i + 1)) = omega (arith, within) in
    ap (λ x. x ++ flat_map f (range_with_len (i + 1 + 1) (n - (i + 1)))) (now ∙ ap (λ l. text ++ l) is)
    ∙ append_assoc text (f (i + 1)) (flat_map f (range_with_len (i + 1 + 1) (n - (i + 1))))
    ∙ ap (λ k. text ++ flat_map f (range_with_len (i + 1) k)) (sym one)
    ∙ so_far

-- no line is left
pub lines_end : (f : ℕ → List ℕ) (text whole : List ℕ) (i n : ℕ) → n ≤ i
    → text ++ flat_map f (range_with_len (i + 1) (n - i)) ≡ whole → text ≡ whole
lines_end f text whole i n past so_far =
    sym (ap (λ k. text ++ flat_map f (range_with_len (i + 1) k)) (let none : n - i ≡ 0 = omega (arith, past) in none)
    ∙ append-nil text) ∙ so_far

-- the first line and that before the first frame
pub first_lines : (cart : Cartridge) (properties : List Property) (movie head line text : List ℕ) →
    head ≡ watch_head (length movie) (length properties) →
    line ≡ line_after cart properties movie 0 → text ≡ head ++ line →
    text ++ flat_map (line_after cart properties movie) (range_with_len (0 + 1) (length movie - 0))
    ≡ watch_text cart properties movie
unfolding watch_text
first_lines cart properties movie head line text is_head is_line is =
    let f = line_after cart properties movie in
    ap (λ x. x ++ flat_map f (range_with_len (0 + 1) (length movie - 0))) (is ∙ ap₂ (λ x y. x ++ y) is_head is_line)
    ∙ append_assoc (watch_head (length movie) (length properties)) (f 0)
    (flat_map f (range_with_len (0 + 1) (length movie - 0)))
    ∙ ap (λ k. watch_head (length movie) (length properties) ++ (f 0 ++ flat_map f (range_with_len (0 + 1) k)))
    (let e : length movie - 0 ≡ length movie = omega arith in e)
    ∙ ap (λ k. watch_head (length movie) (length properties) ++ flat_map f (range_with_len 0 k))
    (let e : suc (length movie) ≡ length movie + 1 = omega arith in e)
