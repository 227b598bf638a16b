-- Flagged pages that are read from bytes: what they give, and where they stop.
use Rattle.std.proofs.Common.{◌≡◌, ℕ, zero, suc, ◌*◌, ◌==◌, ◌≤◌, Bool, true, false, not, cond, List, [], ◌∷◌, ◌++◌, length, take, drop, replicate, Some, None, Option, refl, sym, ap, ◌∙◌, arith, length-append, length-take, length-drop}
use Rattle.std.proofs.lemmas.List.{take-append-drop, drop_at}
use Rattle.std.proofs.lemmas.Bool.{le-ltb, ltb-false, ne_eqb}
use Rattle.std.proofs.Math.Seq.{take-append_seam}
use Rattle.std.proofs.lemmas.Slice.Eq.{bytes_eq-Decides}
use Rattle.std.specs.Prelude.{nat_lt}
use Rattle.std.specs.Str.{bytes_eq}
use Rattle.nj_image.specs.Pages.{first_pages, differences}
use Rattle.nj_image.specs.Packing.{flagged}
use Rattle.nj_image.specs.Filling.{merged, later, stop}

-- pages of 64 bytes each
abbrev pub AreWhole : List (List ℕ) → Type 0
AreWhole [] = Unit {0}
AreWhole (page ∷ pages) = (length page ≡ 64) × AreWhole pages

pub whole-pages : (n : ℕ) (memory : List ℕ) → 64 * n ≤ length memory → AreWhole (first_pages n memory)
whole-pages zero memory long = tt
whole-pages (suc n) memory long = (
  omega (arith, length-take {A = ℕ} 64 memory),
  whole-pages n (drop 64 memory) (omega (arith, length-drop {A = ℕ} 64 memory)),
)

pub count-pages : (n : ℕ) (memory : List ℕ) → length (first_pages n memory) ≡ n
count-pages zero memory = refl
count-pages (suc n) memory = ap suc (count-pages n (drop 64 memory))

-- a page in front
pub take-page : (page rest : List ℕ) → length page ≡ 64 → take 64 (page ++ rest) ≡ page
take-page page rest size = ap (λ k. take k (page ++ rest)) (sym size) ∙ take-append_seam page rest

pub drop-page : (page rest : List ℕ) → length page ≡ 64 → drop 64 (page ++ rest) ≡ rest
drop-page page rest size = drop_at page rest 64 size

front : (page rest : List ℕ) (n : ℕ) → length page ≡ 64 → first_pages (suc n) (page ++ rest) ≡ page ∷ first_pages n rest
front page rest n size =
    ap (λ p. p ∷ first_pages n (drop 64 (page ++ rest))) (take-page page rest size)
    ∙ ap (λ r. page ∷ first_pages n r) (drop-page page rest size)

same-page : (page : List ℕ) → bytes_eq page page ≡ true
same-page page = (bytes_eq-Decides page page).1 refl

-- a page that differs is passed over
pub stop-page : (flags : List Bool) (base : List ℕ) (bases : List (List ℕ)) (page rest : List ℕ) → length page ≡ 64
    → bytes_eq page base ≡ false →
    stop (true ∷ flags) (base ∷ bases) (page ++ rest) ≡ later 64 (stop flags bases rest)
stop-page flags base bases page rest size other =
    long-enough (page ++ rest) (omega (arith, length-append page rest, size))
    ∙ (ap (λ b. cond b (Some 63) (later 64 (stop flags bases (drop 64 (page ++ rest)))))
    (ap (λ p. bytes_eq p base) (take-page page rest size) ∙ other)
    ∙ ap (λ r. later 64 (stop flags bases r)) (drop-page page rest size))
  where
    long-enough : (bytes : List ℕ) → 64 ≤ length bytes →
        stop (true ∷ flags) (base ∷ bases) bytes
        ≡ cond (bytes_eq (take 64 bytes) base) (Some 63) (later 64 (stop flags bases (drop 64 bytes)))
    long-enough bytes long = ap (λ b. cond b (Some (length bytes)) (cond (bytes_eq (take 64 bytes) base) (Some 63)
        (later 64 (stop flags bases (drop 64 bytes))))) (le-ltb (length bytes) 64 long)

-- what it means that a flagged page does not stop the reading
pub record Passes (flags : List Bool) (base : List ℕ) (bases : List (List ℕ)) (bytes : List ℕ) : Type 0 where
  pub long : 64 ≤ length bytes
  pub other : bytes_eq (take 64 bytes) base ≡ false
  pub rest : stop flags bases (drop 64 bytes) ≡ None

pub later-none : (n : ℕ) (at : Option ℕ) → later n at ≡ None → at ≡ None
later-none n None is = refl
later-none n (Some at) is = cc

pub passes : (flags : List Bool) (base : List ℕ) (bases : List (List ℕ)) (bytes : List ℕ)
    → stop (true ∷ flags) (base ∷ bases) bytes ≡ None → Passes flags base bases bytes
passes flags base bases bytes is = go (nat_lt (length bytes) 64) refl (bytes_eq (take 64 bytes) base) refl is
  where
    go : (b : Bool) → nat_lt (length bytes) 64 ≡ b → (d : Bool) → bytes_eq (take 64 bytes) base ≡ d →
        cond b (Some (length bytes)) (cond d (Some 63) (later 64 (stop flags bases (drop 64 bytes)))) ≡ None
        → Passes flags base bases bytes
    go true e d f is = cc
    go false e true f is = cc
    go false e false f is = record {
      long = ltb-false (length bytes) 64 e;
      other = f;
      rest = later-none 64 (stop flags bases (drop 64 bytes)) is;
    }

-- nothing is left behind the last page
none-left : (bytes : List ℕ) → cond {A = Option ℕ} (length bytes == 0) None (Some 0) ≡ None → bytes ≡ []
none-left [] is = refl
none-left (byte ∷ bytes) is = go (suc (length bytes) == 0) (ne_eqb (suc (length bytes)) 0 (λ h. omega (arith, h))) is
  where
    go : (b : Bool) → b ≡ false → cond {A = Option ℕ} b None (Some 0) ≡ None → byte ∷ bytes ≡ []
    go true e is = cc
    go false e is = cc

-- what the pages that were read give
pub record Gives (flags : List Bool) (bases : List (List ℕ)) (bytes : List ℕ) : Type 0 where
  pub flags_are : differences (first_pages (length bases) (merged flags bases bytes)) bases ≡ flags
  pub bytes_are : flagged flags (first_pages (length bases) (merged flags bases bytes)) ≡ bytes
  pub size : length (merged flags bases bytes) ≡ 64 * length bases

pub gives : (flags : List Bool) (bases : List (List ℕ)) (bytes : List ℕ) → length flags ≡ length bases
    → AreWhole bases →
    stop flags bases bytes ≡ None → Gives flags bases bytes
gives [] [] bytes same whole is = record { flags_are = refl; bytes_are = sym (none-left bytes is); size = refl }
gives [] (base ∷ bases) bytes same whole is = absurd (omega (arith, same))
gives (flag ∷ flags) [] bytes same whole is = absurd (omega (arith, same))
gives (true ∷ flags) (base ∷ bases) bytes same whole is =
    let pass = passes flags base bases bytes is in
    let page : List ℕ = take 64 bytes in
    let size : length page ≡ 64 = omega (arith, length-take {A = ℕ} 64 bytes, pass.long) in
    let rest = gives flags bases (drop 64 bytes) (omega (arith, same)) whole.1 pass.rest in
    let pages = front page (merged flags bases (drop 64 bytes)) (length bases) size in
    record {
      flags_are = ap (λ p. differences p (base ∷ bases)) pages ∙ ap2 (ap not pass.other) rest.flags_are;
      bytes_are = ap (flagged (true ∷ flags)) pages ∙ (ap (λ r. page ++ r) rest.bytes_are ∙ take-append-drop 64 bytes);
      size = omega (arith, length-append page (merged flags bases (drop 64 bytes)), size, rest.size);
    }
  where
    ap2 : {a b : Bool} {xs ys : List Bool} → a ≡ b → xs ≡ ys → a ∷ xs ≡ b ∷ ys
    ap2 {a} {b} {xs} {ys} e f = ap (λ x. x ∷ xs) e ∙ ap (λ l. b ∷ l) f
gives (false ∷ flags) (base ∷ bases) bytes same whole is =
    let rest = gives flags bases bytes (omega (arith, same)) whole.1 is in
    let pages = front base (merged flags bases bytes) (length bases) whole.0 in
    record {
      flags_are = ap (λ p. differences p (base ∷ bases)) pages ∙ ap2 (ap not (same-page base)) rest.flags_are;
      bytes_are = ap (flagged (false ∷ flags)) pages ∙ rest.bytes_are;
      size = omega (arith, length-append base (merged flags bases bytes), whole.0, rest.size);
    }
  where
    ap2 : {a b : Bool} {xs ys : List Bool} → a ≡ b → xs ≡ ys → a ∷ xs ≡ b ∷ ys
    ap2 {a} {b} {xs} {ys} e f = ap (λ x. x ∷ xs) e ∙ ap (λ l. b ∷ l) f

-- the pages of an image that differ are read back
pub record Reads (bases : List (List ℕ)) (image : List ℕ) : Type 0 where
  pub none : stop (differences (first_pages (length bases) image) bases) bases
      (flagged (differences (first_pages (length bases) image) bases) (first_pages (length bases) image)) ≡ None
  pub image_is : merged (differences (first_pages (length bases) image) bases) bases
      (flagged (differences (first_pages (length bases) image) bases) (first_pages (length bases) image)) ≡ image

reads-more : (b : Bool) (page base rest_image : List ℕ) (bases : List (List ℕ)) (flags : List Bool) (rest : List ℕ)
    → bytes_eq page base ≡ b → length page ≡ 64 →
    stop flags bases rest ≡ None → merged flags bases rest ≡ rest_image →
    (stop (not b ∷ flags) (base ∷ bases) (cond (not b) (page ++ rest) rest) ≡ None)
    × (merged (not b ∷ flags) (base ∷ bases) (cond (not b) (page ++ rest) rest) ≡ page ++ rest_image)
reads-more true page base rest_image bases flags rest is size none image_is = (
  none,
  ap (λ p. p ++ merged flags bases rest) (sym ((bytes_eq-Decides page base).0 is))
      ∙ ap (λ r. page ++ r) image_is,
)
reads-more false page base rest_image bases flags rest is size none image_is = (
  stop-page flags base bases page rest size is ∙ ap (later 64) none,
  ap (λ p. p ++ merged flags bases (drop 64 (page ++ rest))) (take-page page rest size)
      ∙ (ap (λ r. page ++ merged flags bases r) (drop-page page rest size) ∙ ap (λ r. page ++ r) image_is),
)

pub reads : (bases : List (List ℕ)) (image : List ℕ) → length image ≡ 64 * length bases → AreWhole bases
    → Reads bases image
reads [] image size whole = record { none = refl; image_is = sym (empty image size) }
  where
    empty : (image : List ℕ) → length image ≡ 0 → image ≡ []
    empty [] size = refl
    empty (byte ∷ bytes) size = absurd (omega (arith, size))
reads (base ∷ bases) image size whole =
    let rest = reads bases (drop 64 image) (omega (arith, size, length-drop {A = ℕ} 64 image)) whole.1 in
    let more = reads-more (bytes_eq (take 64 image) base) (take 64 image) base (drop 64 image) bases
    (differences (first_pages (length bases) (drop 64 image)) bases)
    (flagged (differences (first_pages (length bases) (drop 64 image)) bases)
    (first_pages (length bases) (drop 64 image)))
    refl (omega (arith, size, length-take {A = ℕ} 64 image)) rest.none rest.image_is in
    record { none = more.0; image_is = more.1 ∙ take-append-drop 64 image }

-- with every page flagged the image is the bytes
pub merged-every : (bases : List (List ℕ)) (bytes : List ℕ) → stop (replicate (length bases) true) bases bytes ≡ None →
    merged (replicate (length bases) true) bases bytes ≡ bytes
merged-every [] bytes is = sym (none-left bytes is)
merged-every (base ∷ bases) bytes is =
    let pass = passes (replicate (length bases) true) base bases bytes is in
    ap (λ r. take 64 bytes ++ r) (merged-every bases (drop 64 bytes) pass.rest) ∙ take-append-drop 64 bytes
