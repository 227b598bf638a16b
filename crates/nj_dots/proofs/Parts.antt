-- Parts of lists, over any lengths.
use Rattle.std.proofs.Common.{◌≡◌, ℕ, ◌+◌, ◌≤◌, List, ◌++◌, length, take, drop, ap, sym, ◌∙◌, arith, append_assoc, length-append, length-drop}
use Rattle.std.proofs.lemmas.List.{take_at, drop_at, drop-drop, drop-take, length-take}
use Rattle.std.proofs.Math.Seq.{take-add}
use Rattle.nj_dots.specs.Image.{overwritten}

-- the head's length, where the list is long enough
head_length : (a : ℕ) (xs : List ℕ) → a ≤ length xs → length (take a xs) ≡ a
head_length a xs long = length-take a xs ∙ omega arith

-- two parts written one after another are one part
pub overwritten-overwritten : (a : ℕ) (ys zs xs : List ℕ) (b : ℕ) → b ≡ a + length ys → a ≤ length xs
    → overwritten b zs (overwritten a ys xs) ≡ overwritten a (ys ++ zs) xs
overwritten-overwritten a ys zs xs b at long =
    let rest = drop (a + length ys) xs in
    let regrouped : overwritten a ys xs ≡ (take a xs ++ ys) ++ rest = sym (append_assoc (take a xs) ys rest) in
    let heads : length (take a xs ++ ys) ≡ b = length-append (take a xs) ys ∙ omega (arith, head_length a xs long) in
    let front : take b (overwritten a ys xs) ≡ take a xs ++ ys =
    ap (take b) regrouped ∙ take_at (take a xs ++ ys) rest b heads in
    let back : drop b (overwritten a ys xs) ≡ rest = ap (drop b) regrouped ∙ drop_at (take a xs ++ ys) rest b heads in
    let behind : drop (b + length zs) (overwritten a ys xs) ≡ drop (length zs) rest =
    sym (drop-drop (length zs) b (overwritten a ys xs)) ∙ ap (drop (length zs)) back in
    let far : drop (length zs) rest ≡ drop (a + length (ys ++ zs)) xs =
    drop-drop (length zs) (a + length ys) xs ∙ ap (λ n. drop n xs) (omega (arith, length-append ys zs)) in
    ap (λ l. l ++ (zs ++ drop (b + length zs) (overwritten a ys xs))) front
    ∙ ap (λ l. (take a xs ++ ys) ++ (zs ++ l)) (behind ∙ far)
    ∙ append_assoc (take a xs) ys (zs ++ drop (a + length (ys ++ zs)) xs)
    ∙ ap (λ l. take a xs ++ l) (sym (append_assoc ys zs (drop (a + length (ys ++ zs)) xs)))

-- a front that is known in two parts
pub record Fronts (n m : ℕ) (xs a rest : List ℕ) : Type 0 where
  pub front : take n xs ≡ a
  pub back : take m (drop n xs) ≡ rest

pub take-parts : (n m : ℕ) (xs a rest : List ℕ) → length a ≡ n → n ≤ length xs → take (n + m) xs ≡ a ++ rest
    → Fronts n m xs a rest
take-parts n m xs a rest size long known =
    let heads : length (take n xs) ≡ n = head_length n xs long in
    record {
      front =
          sym (take_at (take n xs) (take m (drop n xs)) n heads)
          ∙ ap (take n) (sym (take-add n m xs) ∙ known)
          ∙ take_at a rest n size;
      back = sym (drop-take n m xs) ∙ ap (drop n) known ∙ drop_at a rest n size;
    }

-- five parts written one after another
pub overwritten-five : (o n1 n2 n3 n4 e : ℕ) (a b c d z xs : List ℕ) → n1 ≡ o + length a → n2 ≡ n1 + length b
    → n3 ≡ n2 + length c → n4 ≡ n3 + length d → e ≡ n4 + length z → o ≤ length xs
    → overwritten n4 z (overwritten n3 d (overwritten n2 c (overwritten n1 b (overwritten o a xs))))
    ≡ take o xs ++ ((a ++ (b ++ (c ++ (d ++ z)))) ++ drop e xs)
overwritten-five o n1 n2 n3 n4 e a b c d z xs h1 h2 h3 h4 h5 long =
    let ab : overwritten n1 b (overwritten o a xs) ≡ overwritten o (a ++ b) xs =
    overwritten-overwritten o a b xs n1 h1 long in
    let at2 : n2 ≡ o + length (a ++ b) = omega (arith, length-append a b) in
    let abc : overwritten n2 c (overwritten o (a ++ b) xs) ≡ overwritten o ((a ++ b) ++ c) xs =
    overwritten-overwritten o (a ++ b) c xs n2 at2 long in
    let at3 : n3 ≡ o + length ((a ++ b) ++ c) = omega (arith, length-append a b, length-append (a ++ b) c) in
    let abcd : overwritten n3 d (overwritten o ((a ++ b) ++ c) xs) ≡ overwritten o (((a ++ b) ++ c) ++ d) xs =
    overwritten-overwritten o ((a ++ b) ++ c) d xs n3 at3 long in
    let at4 : n4 ≡ o + length (((a ++ b) ++ c) ++ d) =
    omega (arith, length-append a b, length-append (a ++ b) c, length-append ((a ++ b) ++ c) d) in
    let all : overwritten n4 z (overwritten o (((a ++ b) ++ c) ++ d) xs)
    ≡ overwritten o ((((a ++ b) ++ c) ++ d) ++ z) xs =
    overwritten-overwritten o (((a ++ b) ++ c) ++ d) z xs n4 at4 long in
    let ends : o + length ((((a ++ b) ++ c) ++ d) ++ z) ≡ e =
    omega (arith, length-append (((a ++ b) ++ c) ++ d) z, at4) in
    let one : (((a ++ b) ++ c) ++ d) ++ z ≡ a ++ (b ++ (c ++ (d ++ z))) = simp append_assoc in
    ap (overwritten n4 z) (ap (overwritten n3 d) (ap (overwritten n2 c) ab ∙ abc) ∙ abcd) ∙ all
    ∙ ap (λ n. take o xs ++ (((((a ++ b) ++ c) ++ d) ++ z) ++ drop n xs)) ends
    ∙ ap (λ l. take o xs ++ (l ++ drop e xs)) one

-- the parts of a list that is known from a place on
pub record Pieces (o n1 n2 n3 : ℕ) (la lb lc ld : ℕ) (a b c d xs : List ℕ) : Type 0 where
  pub first : take la (drop o xs) ≡ a
  pub second : take lb (drop n1 xs) ≡ b
  pub third : take lc (drop n2 xs) ≡ c
  pub fourth : take ld (drop n3 xs) ≡ d

-- a part further on
further : (n m o k : ℕ) (xs : List ℕ) → k ≡ o + n → take m (drop n (drop o xs)) ≡ take m (drop k xs)
further n m o k xs at = ap (take m) (drop-drop n o xs ∙ ap (λ i. drop i xs) (sym at))

pub take-pieces : (o n1 n2 n3 la lb lc ld lz : ℕ) (a b c d z xs : List ℕ) → length a ≡ la → length b ≡ lb
    → length c ≡ lc → length d ≡ ld → n1 ≡ o + la → n2 ≡ n1 + lb → n3 ≡ n2 + lc → n3 + ld + lz ≤ length xs
    → take (la + (lb + (lc + (ld + lz)))) (drop o xs) ≡ a ++ (b ++ (c ++ (d ++ z)))
    → Pieces o n1 n2 n3 la lb lc ld a b c d xs
take-pieces o n1 n2 n3 la lb lc ld lz a b c d z xs size_a size_b size_c size_d h1 h2 h3 long known =
    let one : Fronts la (lb + (lc + (ld + lz))) (drop o xs) a (b ++ (c ++ (d ++ z))) =
    take-parts la _ (drop o xs) a _ size_a (omega (arith, length-drop o xs)) known in
    let two : Fronts lb (lc + (ld + lz)) (drop n1 xs) b (c ++ (d ++ z)) =
    take-parts lb _ (drop n1 xs) b _ size_b (omega (arith, length-drop n1 xs)) (sym (further la _ o n1 xs h1)
    ∙ one.back) in
    let three : Fronts lc (ld + lz) (drop n2 xs) c (d ++ z) =
    take-parts lc _ (drop n2 xs) c _ size_c (omega (arith, length-drop n2 xs)) (sym (further lb _ n1 n2 xs h2)
    ∙ two.back) in
    let four : Fronts ld lz (drop n3 xs) d z =
    take-parts ld _ (drop n3 xs) d _ size_d (omega (arith, length-drop n3 xs)) (sym (further lc _ n2 n3 xs h3)
    ∙ three.back) in
    record { first = one.front; second = two.front; third = three.front; fourth = four.front }
