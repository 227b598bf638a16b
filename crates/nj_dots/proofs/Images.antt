-- A picture and its bytes determine each other.
use Rattle.std.proofs.Common.{◌≡◌, ℕ, ◌+◌, ◌≤◌, false, List, ◌++◌, length, take, drop, replicate, refl, ap, sym, ◌∙◌, arith, length-append, length-drop}
use Rattle.std.proofs.Math.ListN.{length-replicate}
use Rattle.std.proofs.lemmas.List.{take_at, drop_at, drop-drop, length-take}
use Rattle.nj_dots.specs.declared.screen.Screen.{Screen}
use Rattle.nj_dots.specs.Screen.{IsScreen}
use Rattle.nj_dots.specs.Image.{register_bytes, picture_bytes, with_picture, picture_part, Holds}
use Rattle.nj_dots.proofs.Stored.{length-register_bytes, get_is}

-- there are 2,400 picture bytes
pub length-picture_bytes : (s : Screen) → IsScreen s → length (picture_bytes s) ≡ 2400
unfolding picture_bytes
length-picture_bytes s fits =
    let a : length (s.vram.cells ++ (s.oam ++ (s.vram.palette ++ (register_bytes s ++ replicate 38 0))))
    ≡ length s.vram.cells + length (s.oam ++ (s.vram.palette ++ (register_bytes s ++ replicate 38 0))) =
    length-append _ _ in
    let b : length (s.oam ++ (s.vram.palette ++ (register_bytes s ++ replicate 38 0)))
    ≡ length s.oam + length (s.vram.palette ++ (register_bytes s ++ replicate 38 0)) = length-append _ _ in
    let c : length (s.vram.palette ++ (register_bytes s ++ replicate 38 0))
    ≡ length s.vram.palette + length (register_bytes s ++ replicate 38 0) = length-append _ _ in
    let d : length (register_bytes s ++ replicate 38 0) ≡ length (register_bytes s) + length (replicate {A = ℕ} 38 0) =
    length-append _ _ in
    omega (
      arith,
      a,
      b,
      c,
      d,
      fits.vram.cells,
      fits.oam,
      fits.vram.palette,
      length-register_bytes s,
      length-replicate {A = ℕ} 38 0,
    )

-- a list behind which 2,400 bytes stand from byte 2,048 on has them as its picture's part
pub part-of : (head bytes tail : List ℕ) → length head ≡ 2048 → length bytes ≡ 2400
    → picture_part (head ++ (bytes ++ tail)) ≡ bytes
unfolding picture_part
part-of head bytes tail front size =
    ap (take 2400) (drop_at head (bytes ++ tail) 2048 front) ∙ take_at bytes tail 2400 size

-- the front of an image
front-length : (image : List ℕ) → 4448 ≤ length image → length (take 2048 image) ≡ 2048
front-length image long = length-take 2048 image ∙ omega (arith, long)

pub part-with_picture : (s : Screen) (image : List ℕ) → IsScreen s → 4448 ≤ length image
    → picture_part (with_picture s image) ≡ picture_bytes s
unfolding with_picture
part-with_picture s image fits long =
    part-of (take 2048 image) (picture_bytes s) (drop 4448 image) (front-length image long)
    (length-picture_bytes s fits)

pub take-with_picture : (s : Screen) (image : List ℕ) → 4448 ≤ length image
    → take 2048 (with_picture s image) ≡ take 2048 image
unfolding with_picture
take-with_picture s image long = take_at (take 2048 image) _ 2048 (front-length image long)

pub drop-with_picture : (s : Screen) (image : List ℕ) → IsScreen s → 4448 ≤ length image
    → drop 4448 (with_picture s image) ≡ drop 4448 image
unfolding with_picture
drop-with_picture s image fits long =
    sym (drop-drop 2400 2048 (take 2048 image ++ (picture_bytes s ++ drop 4448 image)))
    ∙ ap (drop 2400) (drop_at (take 2048 image) (picture_bytes s ++ drop 4448 image) 2048 (front-length image long))
    ∙ drop_at (picture_bytes s) (drop 4448 image) 2400 (length-picture_bytes s fits)

pub length-with_picture : (s : Screen) (image : List ℕ) → IsScreen s → 4448 ≤ length image
    → length (with_picture s image) ≡ length image
unfolding with_picture
length-with_picture s image fits long =
    let a : length (take 2048 image ++ (picture_bytes s ++ drop 4448 image))
    ≡ length (take 2048 image) + length (picture_bytes s ++ drop 4448 image) = length-append _ _ in
    let b : length (picture_bytes s ++ drop 4448 image) ≡ length (picture_bytes s) + length (drop 4448 image) =
    length-append _ _ in
    omega (arith, a, b, front-length image long, length-picture_bytes s fits, length-drop 4448 image, long)

-- an image that holds a picture gives it again, whatever picture of its mirroring reads it
same-stored : (s e : Screen) (image : List ℕ) → 4448 ≤ length image → Holds image s → Holds image e
    → s.vram.vertical ≡ e.vram.vertical → s ≡ e
same-stored s e image long holds_s holds_e mirroring =
    sym (get_is s e _ _ _ _ image holds_s mirroring long refl refl refl refl)
    ∙ get_is e e _ _ _ _ image holds_e refl long refl refl refl refl

-- equal bytes are of equal pictures
pub same-bytes : (s e : Screen) → IsScreen s → IsScreen e → s.ended ≡ false → e.ended ≡ false
    → s.vram.vertical ≡ e.vram.vertical → picture_bytes s ≡ picture_bytes e → s ≡ e
same-bytes s e fits_s fits_e unmarked_s unmarked_e mirroring same =
    let blank : List ℕ = replicate 4448 0 in
    let long : 4448 ≤ length blank = omega (arith, length-replicate {A = ℕ} 4448 0) in
    let part : picture_part (with_picture s blank) ≡ picture_bytes s = part-with_picture s blank fits_s long in
    let longer : 4448 ≤ length (with_picture s blank) = omega (arith, long, length-with_picture s blank fits_s long) in
    same-stored s e (with_picture s blank) longer
    (record { fits = fits_s; unmarked = unmarked_s; bytes = part })
    (record { fits = fits_e; unmarked = unmarked_e; bytes = part ∙ same })
    mirroring
