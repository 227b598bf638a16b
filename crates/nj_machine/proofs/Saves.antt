-- Writing the parts of an image one after another writes the image.
use Rattle.std.proofs.Common.{◌≡◌, ℕ, ◌+◌, ◌≤◌, Bool, true, false, List, [], ◌++◌, length, take, drop, replicate, refl, ap, sym, ◌∙◌, arith, append_assoc, append-nil, length-append, if◌then◌else◌}
use Rattle.std.proofs.lemmas.List.{take_at, drop_at, drop-drop, drop_all, length-drop, length-take, take-append-drop}
use Rattle.nj_dots.specs.declared.screen.Screen.{Screen}
use Rattle.nj_dots.specs.Image.{overwritten, with_picture, picture_bytes}
use Rattle.nj_banked.specs.Banks.{Banks}
use Rattle.nj_machine.specs.State.{State, Rom, rom_of}
use Rattle.nj_machine.specs.Frame.{IsReady}
use Rattle.nj_machine.specs.Image.{rest_bytes, pattern_ram, image_len, image_of}
use Rattle.nj_machine.proofs.Boards.{ram_whole}
use Rattle.nj_machine.proofs.ReadBack.{length-picture_bytes, length-rest}

-- a part of a list is replaced by one of its length
over_part : (n : ℕ) (a b c x : List ℕ) → length a ≡ n → length x ≡ length b
    → overwritten n x (a ++ (b ++ c)) ≡ a ++ (x ++ c)
over_part n a b c x at same =
    let front : take n (a ++ (b ++ c)) ≡ a = take_at a (b ++ c) n at in
    let back : drop (n + length x) (a ++ (b ++ c)) ≡ c =
    ap (λ l. drop (n + length x) l) (sym (append_assoc a b c))
    ∙ drop_at (a ++ b) c (n + length x) (length-append a b ∙ omega arith) in
    ap (λ l. l ++ (x ++ drop (n + length x) (a ++ (b ++ c)))) front ∙ ap (λ l. a ++ (x ++ l)) back

-- the parts of a list, of these lengths
record Split (i r p m c : List ℕ) : Type 0 where
  whole : i ≡ r ++ (p ++ (m ++ c))
  first : length r ≡ 2048
  second : length p ≡ 2400
  third : length m ≡ 32

split_of : (i : List ℕ) → 4480 ≤ length i
    → Split i (take 2048 i) (take 2400 (drop 2048 i)) (take 32 (drop 4448 i)) (drop 4480 i)
split_of i long =
    let two = sym (take-append-drop 2048 i) in
    let three : drop 2048 i ≡ take 2400 (drop 2048 i) ++ drop 4448 i =
    sym (take-append-drop 2400 (drop 2048 i)) ∙ ap (λ l. take 2400 (drop 2048 i) ++ l) (drop-drop 2400 2048 i) in
    let four : drop 4448 i ≡ take 32 (drop 4448 i) ++ drop 4480 i =
    sym (take-append-drop 32 (drop 4448 i)) ∙ ap (λ l. take 32 (drop 4448 i) ++ l) (drop-drop 32 4448 i) in
    record {
      whole = two ∙ ap (λ l. take 2048 i ++ l) (three ∙ ap (λ l. take 2400 (drop 2048 i) ++ l) four);
      first = length-take 2048 i ∙ omega arith;
      second = length-take 2400 (drop 2048 i) ∙ omega (arith, length-drop 2048 i);
      third = length-take 32 (drop 4448 i) ∙ omega (arith, length-drop 4448 i);
    }

-- the picture's part is replaced
picture_over : (s : Screen) (a p c : List ℕ) → length a ≡ 2048 → length p ≡ 2400
    → with_picture s (a ++ (p ++ c)) ≡ a ++ (picture_bytes s ++ c)
unfolding with_picture
picture_over s a p c at same =
    let front : take 2048 (a ++ (p ++ c)) ≡ a = take_at a (p ++ c) 2048 at in
    let back : drop 4448 (a ++ (p ++ c)) ≡ c =
    ap (λ l. drop 4448 l) (sym (append_assoc a p c)) ∙ drop_at (a ++ p) c 4448 (length-append a p ∙ omega arith) in
    ap (λ l. l ++ (picture_bytes s ++ drop 4448 (a ++ (p ++ c)))) front ∙ ap (λ l. a ++ (picture_bytes s ++ l)) back

-- working memory, the picture and the rest over any list
three_over : (s : State) (i i1 i2 i3 : List ℕ) (rest : List ℕ) → IsReady s → 4480 ≤ length i
    → rest ≡ rest_bytes s ++ replicate 6 0 →
    i1 ≡ overwritten 0 s.cells.ram i → i2 ≡ with_picture s.cells.screen i1 → i3 ≡ overwritten 4448 rest i2 →
    i3 ≡ s.cells.ram ++ (picture_bytes s.cells.screen ++ ((rest_bytes s ++ replicate 6 0) ++ drop 4480 i))
three_over s i i1 i2 i3 rest h long is_rest e1 e2 e3 =
    let parts = split_of i long in
    let r = take 2048 i in
    let p = take 2400 (drop 2048 i) in
    let m = take 32 (drop 4448 i) in
    let c = drop 4480 i in
    let ram = s.cells.ram in
    let pic = picture_bytes s.cells.screen in
    let new = rest_bytes s ++ replicate 6 0 in
    let one : i1 ≡ ram ++ (p ++ (m ++ c)) =
    e1 ∙ ap (overwritten 0 ram) parts.whole
    ∙ over_part 0 [] r (p ++ (m ++ c)) ram refl (h.sized.ram ∙ sym parts.first) in
    let two : i2 ≡ ram ++ (pic ++ (m ++ c)) =
    e2 ∙ ap (with_picture s.cells.screen) one ∙ picture_over s.cells.screen ram p (m ++ c) h.sized.ram parts.second in
    let both : length (ram ++ pic) ≡ 4448 =
    length-append ram pic ∙ omega (arith, h.sized.ram, length-picture_bytes s.cells.screen h.sized.screen) in
    e3 ∙ ap (λ l. overwritten 4448 l i2) is_rest ∙ ap (overwritten 4448 new) (two ∙ sym (append_assoc ram pic (m ++ c)))
    ∙ over_part 4448 (ram ++ pic) m c new both (length-rest s ∙ sym parts.third)
    ∙ append_assoc ram pic (new ++ c)

-- what is written where pattern memory is no RAM
pub rom_chain : (s : State) (i i1 i2 i3 rest : List ℕ) → IsReady s → length i ≡ image_len (rom_of s)
    → s.cells.board.chr_ram ≡ false → rest ≡ rest_bytes s ++ replicate 6 0 →
    i1 ≡ overwritten 0 s.cells.ram i → i2 ≡ with_picture s.cells.screen i1 → i3 ≡ overwritten 4448 rest i2
    → i3 ≡ image_of s
unfolding image_of image_len rom_of
rom_chain s i i1 i2 i3 rest h sized no_ram is_rest e1 e2 e3 =
    let known : length i ≡ 4480 = sized ∙ ap (λ b. if b then 12672 else 4480) no_ram in
    let none : drop 4480 i ≡ pattern_ram s.cells.board.chr_ram s.cells.board.chr =
    drop_all 4480 i (omega arith) ∙ ap (λ b. pattern_ram b s.cells.board.chr) (sym no_ram) in
    three_over s i i1 i2 i3 rest h (omega arith) is_rest e1 e2 e3
    ∙ ap (λ l. s.cells.ram ++ (picture_bytes s.cells.screen ++ ((rest_bytes s ++ replicate 6 0) ++ l))) none

-- and where it is
pub ram_chain : (s : State) (i i1 i2 i3 i4 rest : List ℕ) → IsReady s → length i ≡ image_len (rom_of s)
    → s.cells.board.chr_ram ≡ true → rest ≡ rest_bytes s ++ replicate 6 0 →
    i1 ≡ overwritten 0 s.cells.ram i → i2 ≡ with_picture s.cells.screen i1 → i3 ≡ overwritten 4448 rest i2
    → i4 ≡ overwritten 4480 s.cells.board.chr i3 → i4 ≡ image_of s
unfolding image_of image_len rom_of
ram_chain s i i1 i2 i3 i4 rest h sized is_ram is_rest e1 e2 e3 e4 =
    let known : length i ≡ 12672 = sized ∙ ap (λ b. if b then 12672 else 4480) is_ram in
    let ram = s.cells.ram in
    let pic = picture_bytes s.cells.screen in
    let new = rest_bytes s ++ replicate 6 0 in
    let chr = s.cells.board.chr in
    let c = drop 4480 i in
    let front = ram ++ (pic ++ new) in
    let three : i3 ≡ front ++ (c ++ []) =
    three_over s i i1 i2 i3 rest h (omega arith) is_rest e1 e2 e3
    ∙ ap (λ l. ram ++ l) (sym (append_assoc pic new c)) ∙ sym (append_assoc ram (pic ++ new) c)
    ∙ ap (λ l. front ++ l) (sym (append-nil c)) in
    let size : length front ≡ 4480 =
    length-append ram (pic ++ new)
    ∙ omega (
      arith,
      h.sized.ram,
      length-append pic new,
      length-picture_bytes s.cells.screen h.sized.screen,
      length-rest s,
    ) in
    let same : length chr ≡ length c =
    ram_whole s.cells.board h.sized.board is_ram ∙ omega (arith, length-drop 4480 i) in
    let whole : pattern_ram s.cells.board.chr_ram chr ≡ chr = ap (λ b. pattern_ram b chr) is_ram in
    e4 ∙ ap (overwritten 4480 chr) three ∙ over_part 4480 front c [] chr size same
    ∙ ap (λ l. front ++ l) (append-nil chr ∙ sym whole)
    ∙ append_assoc ram (pic ++ new) (pattern_ram s.cells.board.chr_ram chr)
    ∙ ap (λ l. ram ++ l) (append_assoc pic new (pattern_ram s.cells.board.chr_ram chr))

-- what is written by a machine with these parts is its image
pub save_chain : (s : State) (ram : List ℕ) (screen : Screen) (board : Banks) (i i1 i2 i3 i4 rest : List ℕ) → IsReady s
    →
    ram ≡ s.cells.ram → screen ≡ s.cells.screen → board ≡ s.cells.board → length i ≡ image_len (rom_of s)
    → rest ≡ rest_bytes s ++ replicate 6 0 →
    i1 ≡ overwritten 0 ram i → i2 ≡ with_picture screen i1 → i3 ≡ overwritten 4448 rest i2 →
    i4 ≡ (if board.chr_ram then overwritten 4480 board.chr i3 else i3) → i4 ≡ image_of s
save_chain s ram screen board i i1 i2 i3 i4 rest h is_ram is_screen is_board sized is_rest e1 e2 e3 e4 =
    by s.cells.board.chr_ram refl (e4 ∙ ap (λ b. if b.chr_ram then overwritten 4480 b.chr i3 else i3) is_board)
  where
    f1 : i1 ≡ overwritten 0 s.cells.ram i
    f1 = e1 ∙ ap (λ r. overwritten 0 r i) is_ram

    f2 : i2 ≡ with_picture s.cells.screen i1
    f2 = e2 ∙ ap (λ p. with_picture p i1) is_screen

    by : (b : Bool) → s.cells.board.chr_ram ≡ b → i4 ≡ (if b then overwritten 4480 s.cells.board.chr i3 else i3)
        → i4 ≡ image_of s
    by true e last = ram_chain s i i1 i2 i3 i4 rest h sized e is_rest f1 f2 e3 last
    by false e last = last ∙ rom_chain s i i1 i2 i3 rest h sized e is_rest f1 f2 e3

-- the length where pattern memory is RAM
pub with_ram : (rom : Rom) (n : ℕ) → n ≡ image_len rom → rom.chr_ram ≡ true → n ≡ 12672
unfolding image_len
with_ram rom n e is_ram = e ∙ ap (λ b. if b then 12672 else 4480) is_ram
