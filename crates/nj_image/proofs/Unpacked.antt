-- What `unpack` tells of bytes.
use Rattle.std.proofs.Common.{◌≡◌, ◌⊎◌, inl, inr, ℕ, zero, suc, ◌+◌, ◌-◌, ◌*◌, ◌/◌, ◌%◌, ◌^◌, ◌==◌, ◌≤◌, ◌<◌, Bool, true, false, List, [], ◌∷◌, ◌++◌, length, take, drop, get_or, replicate, Some, None, refl, sym, ap, subst, ◌∙◌, arith, length-append, length-take, length-drop, append_assoc}
use Rattle.std.proofs.lemmas.List.{take_all, take-append-drop, length-replicate}
use Rattle.std.proofs.lemmas.Nat.Bits.{bit_at-zero}
use Rattle.std.proofs.lemmas.Bool.{cases_lt}
use Rattle.std.proofs.lemmas.Simd.{mask_l-lt}
use Rattle.std.proofs.Math.Seq.{take-append_seam, drop-append_seam, take-add}
use Rattle.std.specs.Int.{bit_at}
use Rattle.std.specs.Simd.Lanes.{mask_l}
use Rattle.nj_image.specs.Pages.{IsImageSize, pages, page_count, mask_bytes, mask_size, flag_in, flags_in}
use Rattle.nj_image.specs.Packing.{AreBytes, all_of, packing, IsPacking, IsBeginning, IsDamagedAt}
use Rattle.nj_image.specs.Filling.{merged, stop}
use Rattle.nj_image.proofs.Flags.{count-bytes, byte-at, count-flags_in, flags-back}
use Rattle.nj_image.proofs.Sizes.{sized, whole}
use Rattle.nj_image.proofs.Every.{not-every}
use Rattle.nj_image.proofs.Octets.{byte-pages, merged-bytes, bytes-append, bytes-take, bytes-drop}
use Rattle.nj_image.proofs.Fill.{count-pages}
use Rattle.nj_image.proofs.Damage.{filled, stops}
use Rattle.nj_image.proofs.Bits.{mask-back}
use Rattle.nj_image.proofs.Forms.{base-whole, whole-packing, mask-packing, WholeForm, MaskForm, form-of}

-- an image that is packed, and that its numbers are bytes
packed-octets : (base image bytes : List ℕ) → (length image ≡ length base) × (packing image base ≡ bytes)
    → AreBytes image → IsPacking base bytes
unfolding IsPacking
packed-octets base image bytes p octets = (image, (p.0, (octets, p.1)))

-- the beginning of a beginning is one
begins-less : (base one two : List ℕ) → IsBeginning base (one ++ two) → IsBeginning base one
unfolding IsBeginning
begins-less base one two is = (two ++ is.0, subst (IsPacking base) (append_assoc one two is.0) is.1)

-- bytes that are no packing, with no longer beginning
damaged-at : (base bytes : List ℕ) (at : ℕ) → (IsPacking base bytes → ⊥) → at ≤ length bytes
    → IsBeginning base (take at bytes) →
    (at ≡ length bytes) ⊎ (IsBeginning base (take (at + 1) bytes) → ⊥) → IsDamagedAt base bytes at
damaged-at base bytes at never within begins ends =
    record { no_packing = never; within = within; begins = begins; longest = longest ends }
  where
    longest : (at ≡ length bytes) ⊎ (IsBeginning base (take (at + 1) bytes) → ⊥) → (n : ℕ) → n ≤ length bytes
        → IsBeginning base (take n bytes) → n ≤ at
    longest (inl all) n most is = omega (arith, all, most)
    longest (inr longer) n most is = go (nat_le_or n at)
      where
        nat_le_or : (n at : ℕ) → (n ≤ at) ⊎ (at + 1 ≤ n)
        nat_le_or n at = elim (cases_lt at n) [ inl above ↦ inr (omega (arith, above)) | inr below ↦ inl below ]

        go : (n ≤ at) ⊎ (at + 1 ≤ n) → n ≤ at
        go (inl less) = less
        go (inr more) =
            let split : at + 1 + (n - (at + 1)) ≡ n = omega (arith, more) in
            absurd (longer (begins-less base (take (at + 1) bytes) (take (n - (at + 1)) (drop (at + 1) bytes))
            (subst (λ l. IsBeginning base l) (ap (λ k. take k bytes) (sym split)
            ∙ take-add (at + 1) (n - (at + 1)) bytes) is)))

-- some packing begins with nothing
nothing-begins : (base : List ℕ) → AreBytes base → IsBeginning base []
unfolding IsBeginning IsPacking
nothing-begins base octets = (packing base base, (base, (refl, (octets, refl))))

-- a packing's first byte is 0 or 1
first-byte : (base : List ℕ) (byte : ℕ) (bytes : List ℕ) → IsImageSize base → IsPacking base (byte ∷ bytes) → byte ≤ 1
first-byte base byte bytes size is =
    elim (form-of base (byte ∷ bytes) size is) [
      | inl form ↦ zero-one byte 0 _ _ form.bytes_are (omega arith)
      | inr form ↦ zero-one byte 1 _ _ form.bytes_are (omega arith)
    ]
  where
    zero-one : (a b : ℕ) (xs ys : List ℕ) → ◌≡◌ {A = List ℕ} (a ∷ xs) (b ∷ ys) → b ≤ 1 → a ≤ 1
    zero-one a b xs ys e most = let same : a ≡ b = cc in omega (arith, same, most)

pub empty-damaged : (base bytes : List ℕ) → IsImageSize base → AreBytes base → length bytes ≡ 0
    → IsDamagedAt base bytes 0
empty-damaged base [] size octets none =
    damaged-at base [] 0 never (omega arith) (nothing-begins base octets) (inl refl)
  where
    never : IsPacking base [] → ⊥
    never is = elim (form-of base [] size is) [ inl form ↦ cc (form.bytes_are) | inr form ↦ cc (form.bytes_are) ]
empty-damaged base (byte ∷ bytes) size octets none = absurd (omega (arith, none))

pub first-damaged : (base bytes : List ℕ) → IsImageSize base → AreBytes base → 1 < get_or bytes 0 0
    → IsDamagedAt base bytes 0
unfolding IsBeginning
first-damaged base [] size octets above = absurd (omega (arith, above))
first-damaged base (byte ∷ bytes) size octets above =
    damaged-at base (byte ∷ bytes) 0 (λ is. absurd (omega (arith, above, first-byte base byte bytes size is)))
    (omega arith) (nothing-begins base octets)
    (inr (λ is. absurd (omega (arith, above, first-byte base byte is.0 size is.1))))

-- bytes behind a 0 are every page
whole-none : (base bytes : List ℕ) → IsImageSize base → IsPacking base (0 ∷ bytes)
    → stop (replicate (page_count base) true) (pages base) bytes ≡ None
whole-none base bytes size is =
    elim (form-of base (0 ∷ bytes) size is) [ inl form ↦ same form | inr form ↦ cc (form.bytes_are) ]
  where
    same : WholeForm base (0 ∷ bytes) → stop (replicate (page_count base) true) (pages base) bytes ≡ None
    same form = let rest : bytes ≡ form.rest = tail form.bytes_are in
        ap (stop (replicate (page_count base) true) (pages base)) rest ∙ form.none
      where
        tail : {a b : ℕ} {xs ys : List ℕ} → ◌≡◌ {A = List ℕ} (a ∷ xs) (b ∷ ys) → xs ≡ ys
        tail e = cc

pub whole-damaged : (base bytes : List ℕ) (at : ℕ) → IsImageSize base → AreBytes base → AreBytes bytes
    → stop (replicate (page_count base) true) (pages base) bytes ≡ Some at → IsDamagedAt base (0 ∷ bytes) (suc at)
unfolding IsBeginning IsPacking
whole-damaged base bytes at size octets fits is =
    let n = page_count base in
    let s = stops (replicate n true) (pages base) bytes at (length-replicate {A = Bool} n true
    ∙ sym (count-pages n base)) (base-whole base size) (byte-pages n base octets) is in
    damaged-at base (0 ∷ bytes) (suc at) (λ p. cc (whole-none base bytes size p, is)) (omega (arith, s.within)) (
      s.rest,
      packed-octets base _ _ (whole-packing base (take at bytes ++ s.rest) size s.begins)
          (merged-bytes (replicate n true) (pages base) (take at bytes ++ s.rest) (byte-pages n base octets)
          (bytes-append (take at bytes) s.rest (bytes-take at bytes fits) s.octets)),
    )
    (elim s.ends [
      | inl all ↦ inl (ap suc all)
      | inr never ↦ inr (λ p. let next : suc at + 1 ≡ suc (at + 1) = omega arith in
          never p.0 (whole-none base (take (at + 1) bytes ++ p.0) size
          (subst (λ k. IsPacking base (take k (0 ∷ bytes) ++ p.0)) next p.1)))
    ])

-- two lists in two parts, the first of which are of one length
pub same-parts : (a b c d : List ℕ) → length a ≡ length c → a ++ b ≡ c ++ d → (a ≡ c) × (b ≡ d)
same-parts a b c d size is = (
  sym (take-append_seam a b) ∙ (ap (take (length a)) is ∙ (ap (λ k. take k (c ++ d)) size ∙ take-append_seam c d)),
  sym (drop-append_seam a b) ∙ (ap (drop (length a)) is ∙ (ap (λ k. drop k (c ++ d)) size ∙ drop-append_seam c d)),
)

-- what a packing with a mask says of it
record IsMaskOf (base mask rest : List ℕ) : Type 0 where
  pub flags_some : all_of (flags_in (page_count base) mask) ≡ false
  pub none : stop (flags_in (page_count base) mask) (pages base) rest ≡ None
  pub last : (q : ℕ) → page_count base ≡ 8 * q + 6 → mask_size base ≡ q + 1 → get_or mask q 0 < 64

six-flags : (n q : ℕ) (flags : List Bool) → length flags ≡ n → n ≡ 8 * q + 6
    → get_or (mask_bytes (q + 1) flags) q 0 < 64
six-flags n q flags count is =
    let size : length (take 8 (drop (8 * q) flags)) ≡ 6 =
    omega (arith, count, is, length-take {A = Bool} 8 (drop (8 * q) flags), length-drop {A = Bool} (8 * q) flags) in
    subst (λ x. x < 64) (sym (byte-at (q + 1) q flags (omega arith)))
    (subst (λ k. mask_l (take 8 (drop (8 * q) flags)) < 2 ^ k) size (mask_l-lt (take 8 (drop (8 * q) flags))))

mask-of : (base mask rest : List ℕ) → IsImageSize base → length mask ≡ mask_size base
    → IsPacking base (1 ∷ (mask ++ rest)) → IsMaskOf base mask rest
mask-of base mask rest size long is =
    elim (form-of base (1 ∷ (mask ++ rest)) size is) [ inl form ↦ cc (form.bytes_are) | inr form ↦ go form ]
  where
    tail : {a b : ℕ} {xs ys : List ℕ} → ◌≡◌ {A = List ℕ} (a ∷ xs) (b ∷ ys) → xs ≡ ys
    tail e = cc

    go : MaskForm base (1 ∷ (mask ++ rest)) → IsMaskOf base mask rest
    go form =
        let m = mask_size base in
        let n = page_count base in
        let parts = same-parts mask rest (mask_bytes m form.flags) form.rest (long ∙ sym (count-bytes m form.flags))
        (tail form.bytes_are) in
        let flags : flags_in n mask ≡ form.flags = ap (flags_in n) parts.0
        ∙ flags-back n m form.flags form.count (whole base size).mask in
        record {
          flags_some = ap all_of flags ∙ form.some;
          none = ap (λ f. stop f (pages base) rest) flags ∙ (ap (stop form.flags (pages base)) parts.1 ∙ form.none);
          last = λ q count masks. subst (λ l. get_or l q 0 < 64)
              (sym (parts.0 ∙ ap (λ k. mask_bytes k form.flags) masks)) (six-flags n q form.flags form.count count);
        }

-- a mask that can be one
pub record CanMask (base mask : List ℕ) : Type 0 where
  pub size : length mask ≡ mask_size base
  pub back : mask_bytes (mask_size base) (flags_in (page_count base) mask) ≡ mask
  pub some : all_of (flags_in (page_count base) mask) ≡ false

pub can-mask : (base mask : List ℕ) → IsImageSize base → length mask ≡ mask_size base
    → ((j : ℕ) → get_or mask j 0 < 256) → get_or mask (mask_size base - 1) 0 < 64 →
    all_of (flags_in (page_count base) mask) ≡ false → CanMask base mask
can-mask base mask size long bytes last some =
    let s = sized base size in
    let q = s.1.0 in
    let n : page_count base ≡ 8 * q + 6 = s.1.1.count ∙ s.1.1.last in
    let place : mask_size base - 1 ≡ q = omega (arith, s.1.1.mask) in
    record {
      size = long;
      back = ap (λ k. mask_bytes k (flags_in (page_count base) mask)) s.1.1.mask
          ∙ mask-back (page_count base) q mask n (long
          ∙ s.1.1.mask) bytes (subst (λ k. get_or mask k 0 < 64) place last);
      some = some;
    }

-- bytes behind such a mask that are read to the end are a packing
masked : (base mask rest : List ℕ) → IsImageSize base → CanMask base mask
    → stop (flags_in (page_count base) mask) (pages base) rest ≡ None →
    (length (merged (flags_in (page_count base) mask) (pages base) rest) ≡ length base)
    × (packing (merged (flags_in (page_count base) mask) (pages base) rest) base ≡ 1 ∷ (mask ++ rest))
masked base mask rest size can none =
    let p = mask-packing (flags_in (page_count base) mask) base rest size (count-flags_in (page_count base) mask)
    can.some none in
    (p.0, p.1 ∙ ap (λ l. 1 ∷ (l ++ rest)) can.back)

-- fewer bytes than a mask are the beginning of one: zeros go on, and the last page is not flagged
zero-byte : (ys : List ℕ) (j : ℕ) (k : ℕ) → length ys ≤ j → get_or (ys ++ replicate k 0) j 0 ≡ 0
zero-byte [] j zero long = refl
zero-byte [] zero (suc k) long = refl
zero-byte [] (suc j) (suc k) long = zero-byte [] j k (omega arith)
zero-byte (y ∷ ys) zero k long = absurd (omega (arith, long))
zero-byte (y ∷ ys) (suc j) k long = zero-byte ys j k (omega (arith, long))

few-bytes : (ys : List ℕ) (k : ℕ) → ((j : ℕ) → get_or ys j 0 < 256) → (j : ℕ) → get_or (ys ++ replicate k 0) j 0 < 256
few-bytes [] k bytes j = subst (λ x. x < 256) (sym (zero-byte [] j k (omega arith))) (omega arith)
few-bytes (y ∷ ys) k bytes zero = bytes 0
few-bytes (y ∷ ys) k bytes (suc j) = few-bytes ys k (λ i. bytes (suc i)) j

zeros-can : (base ys : List ℕ) → IsImageSize base → length ys < mask_size base → ((j : ℕ) → get_or ys j 0 < 256)
    → CanMask base (ys ++ replicate (mask_size base - length ys) 0)
zeros-can base ys size few bytes =
    let m = mask_size base in
    let n = page_count base in
    let mask = ys ++ replicate (m - length ys) 0 in
    let s = sized base size in
    let q = s.1.0 in
    let long : length mask ≡ m = omega (
      arith,
      length-append ys (replicate (m - length ys) 0),
      length-replicate {A = ℕ} (m - length ys) 0,
      few,
    ) in
    let place : (n - 1) / 8 ≡ m - 1 = omega (arith, s.1.1.count, s.1.1.last, s.1.1.mask) in
    let zero_last : get_or mask (m - 1) 0 ≡ 0 = zero-byte ys (m - 1) (m - length ys) (omega (arith, few)) in
    let none : flag_in mask (n - 1) ≡ false = ap (λ k. bit_at (get_or mask k 0) ((n - 1) % 8) == 1) place
    ∙ (ap (λ x. bit_at x ((n - 1) % 8) == 1) zero_last ∙ ap (λ x. x == 1) (bit_at-zero ((n - 1) % 8))) in
    can-mask base mask size long (few-bytes ys (m - length ys) bytes)
    (subst (λ x. x < 64) (sym zero_last) (omega arith))
    (sym (not-every n (n - 1) mask (omega (arith, (whole base size).some)) none))

mask-begins : (base ys : List ℕ) → IsImageSize base → AreBytes base → length ys < mask_size base
    → ((j : ℕ) → get_or ys j 0 < 256) → IsBeginning base (1 ∷ ys)
unfolding IsBeginning IsPacking
mask-begins base ys size octets few bytes =
    let n = page_count base in
    let zeros = replicate (mask_size base - length ys) 0 in
    let mask = ys ++ zeros in
    let can = zeros-can base ys size few bytes in
    let f = filled (flags_in n mask) (pages base) (count-flags_in n mask
    ∙ sym (count-pages n base)) (base-whole base size) (byte-pages n base octets) in
    let p = masked base mask f.bytes size can f.none in (
      zeros ++ f.bytes,
      packed-octets base _ _ (p.0, p.1 ∙ ap (λ l. 1 ∷ l) (append_assoc ys zeros f.bytes))
          (merged-bytes (flags_in n mask) (pages base) f.bytes (byte-pages n base octets) f.octets),
    )

-- bytes that end within the mask
pub short-damaged : (base ys : List ℕ) → IsImageSize base → AreBytes base → length ys < mask_size base
    → ((j : ℕ) → get_or ys j 0 < 256) → IsDamagedAt base (1 ∷ ys) (length (1 ∷ ys))
short-damaged base ys size octets few bytes =
    damaged-at base (1 ∷ ys) (length (1 ∷ ys)) never (omega arith)
    (subst (IsBeginning base) (sym (take_all (length (1 ∷ ys)) (1 ∷ ys) (omega arith)))
    (mask-begins base ys size octets few bytes)) (inl refl)
  where
    never : IsPacking base (1 ∷ ys) → ⊥
    never is = elim (form-of base (1 ∷ ys) size is) [
      | inl form ↦ cc (form.bytes_are)
      | inr form ↦ absurd (omega (
        arith,
        ap length form.bytes_are,
        length-append
            (mask_bytes (mask_size base) form.flags) form.rest,
        count-bytes (mask_size base) form.flags,
        few,
      ))
    ]

-- a mask that flags pages that there are not, or every page
pub mask-damaged : (base ys : List ℕ) → IsImageSize base → AreBytes base → mask_size base ≤ length ys
    → ((j : ℕ) → get_or ys j 0 < 256) →
    (64 ≤ get_or (take (mask_size base) ys) (mask_size base - 1) 0)
    ⊎ (all_of (flags_in (page_count base) (take (mask_size base) ys)) ≡ true)
    → IsDamagedAt base (1 ∷ ys) (mask_size base)
unfolding IsBeginning
mask-damaged base ys size octets long bytes bad =
    let m = mask_size base in
    let s = sized base size in
    let q = s.1.0 in
    let mask = take m ys in
    let wide : length mask ≡ m = omega (arith, length-take {A = ℕ} m ys, long) in
    let part : take m (1 ∷ ys) ≡ 1 ∷ take q ys = ap (λ k. take k (1 ∷ ys)) (s.1.1.mask ∙ one-more q) in
    let next : take (m + 1) (1 ∷ ys) ≡ 1 ∷ mask = ap (λ k. take k (1 ∷ ys)) (one-more m) in
    damaged-at base (1 ∷ ys) m
    (λ is. never (mask-of base mask (drop m ys) size wide
    (subst (λ l. IsPacking base (1 ∷ l)) (sym (take-append-drop m ys)) is))) (omega (arith, long))
    (subst (IsBeginning base) (sym part) (mask-begins base (take q ys) size octets
    (omega (arith, length-take {A = ℕ} q ys, s.1.1.mask)) (taken q ys bytes)))
    (inr (λ is. never (mask-of base mask is.0 size wide (subst (λ l. IsPacking base (l ++ is.0)) next is.1))))
  where
    one-more : (k : ℕ) → k + 1 ≡ suc k
    one-more k = omega arith

    never : {rest : List ℕ} → IsMaskOf base (take (mask_size base) ys) rest → ⊥
    never of = elim bad [
      | inl high ↦
          let s = sized base size in
          let place : mask_size base - 1 ≡ s.1.0 = omega (arith, s.1.1.mask) in
          absurd (omega (
            arith,
            of.last s.1.0 (s.1.1.count ∙ s.1.1.last) s.1.1.mask,
            high,
            ap (λ k. get_or (take (mask_size base) ys) k 0) place,
          ))
      | inr all ↦ cc (all, of.flags_some)
    ]

    taken : (q : ℕ) (ys : List ℕ) → ((j : ℕ) → get_or ys j 0 < 256) → (j : ℕ) → get_or (take q ys) j 0 < 256
    taken zero ys bytes j = omega arith
    taken (suc q) [] bytes j = omega arith
    taken (suc q) (y ∷ ys) bytes zero = bytes 0
    taken (suc q) (y ∷ ys) bytes (suc j) = taken q ys (λ i. bytes (suc i)) j

-- pages behind a mask
pub pages-damaged : (base mask rest : List ℕ) (at : ℕ) → IsImageSize base → AreBytes base → AreBytes rest
    → CanMask base mask → stop (flags_in (page_count base) mask) (pages base) rest ≡ Some at →
    IsDamagedAt base (1 ∷ (mask ++ rest)) (suc (length mask + at))
unfolding IsBeginning IsPacking
pages-damaged base mask rest at size octets fits can is =
    let n = page_count base in
    let flags = flags_in n mask in
    let s = stops flags (pages base) rest at (count-flags_in n mask ∙ sym (count-pages n base)) (base-whole base size)
    (byte-pages n base octets) is in
    let p = masked base mask (take at rest ++ s.rest) size can s.begins in
    damaged-at base
    (1 ∷ (mask ++ rest)) (suc (length mask + at)) (λ q. cc ((mask-of base mask rest size can.size q).none, is))
    (omega (arith, s.within, length-append mask rest)) (
      s.rest,
      packed-octets base _ _ (
        p.0,
        p.1
            ∙ ap (λ l. 1 ∷ l) (sym (append_assoc mask (take at rest) s.rest) ∙ ap (λ l. l ++ s.rest) (sym (behind at))),
      )
          (merged-bytes flags (pages base) (take at rest ++ s.rest) (byte-pages n base octets)
          (bytes-append (take at rest) s.rest (bytes-take at rest fits) s.octets)),
    )
    (elim s.ends [
      | inl all ↦ inl (omega (arith, all, length-append mask rest))
      | inr never ↦ inr (λ q. let next : suc (length mask + at) + 1 ≡ suc (length mask + (at + 1)) = omega arith in
          never q.0 (mask-of base mask (take (at + 1) rest ++ q.0) size can.size
          (subst (IsPacking base) (ap (λ k. take k (1 ∷ (mask ++ rest)) ++ q.0) next ∙ (ap (λ l. 1 ∷ (l ++ q.0))
          (behind (at + 1)) ∙ ap (λ l. 1 ∷ l) (append_assoc mask (take (at + 1) rest) q.0))) q.1)).none)
    ])
  where
    behind : (k : ℕ) → take (length mask + k) (mask ++ rest) ≡ mask ++ take k rest
    behind k = take-add (length mask) k (mask ++ rest)
        ∙ (ap (λ l. l ++ take k (drop (length mask) (mask ++ rest))) (take-append_seam mask rest)
        ∙ ap (λ l. mask ++ take k l) (drop-append_seam mask rest))

-- the four ends of `unpack`, over all of the bytes: every page, read or damaged
pub whole-ok : (base bytes into : List ℕ) (flags : List Bool) → IsImageSize base → 0 < length bytes
    → get_or bytes 0 0 ≡ 0 → flags ≡ replicate (page_count base) true →
    (stop flags (pages base) (drop 1 bytes) ≡ None) × (into ≡ merged flags (pages base) (drop 1 bytes))
    → (length into ≡ length base) × (packing into base ≡ bytes)
whole-ok base [] into flags size some none all read = absurd (omega (arith, some))
whole-ok base (byte ∷ ys) into flags size some first all read =
    let none : stop (replicate (page_count base) true) (pages base) ys ≡ None =
    ap (λ f. stop f (pages base) ys) (sym all) ∙ read.0 in
    let image : into ≡ merged (replicate (page_count base) true) (pages base) ys = read.1
    ∙ ap (λ f. merged f (pages base) ys) all in
    let p = whole-packing base ys size none in
    (ap length image ∙ p.0, ap (λ i. packing i base) image ∙ (p.1 ∙ ap (λ b. b ∷ ys) (sym first)))

pub whole-bad : (base bytes : List ℕ) (flags : List Bool) (at : ℕ) → IsImageSize base → AreBytes base → AreBytes bytes
    → 0 < length bytes → get_or bytes 0 0 ≡ 0 → flags ≡ replicate (page_count base) true →
    (stop flags (pages base) (drop 1 bytes) ≡ Some (at - 1)) × (1 ≤ at) → IsDamagedAt base bytes at
whole-bad base [] flags at size octets fits some first all read = absurd (omega (arith, some))
whole-bad base (byte ∷ ys) flags at size octets fits some first all read =
    let back : suc (at - 1) ≡ at = omega (arith, read.1) in
    subst (λ k. IsDamagedAt base (byte ∷ ys) k) back
    (subst (λ b. IsDamagedAt base (b ∷ ys) (suc (at - 1))) (sym first)
    (whole-damaged base ys (at - 1) size octets fits.1 (ap (λ f. stop f (pages base) ys) (sym all) ∙ read.0)))

-- behind a mask
pub short-ends : (base bytes : List ℕ) → IsImageSize base → AreBytes base → 0 < length bytes → get_or bytes 0 0 ≡ 1
    → length bytes ≤ mask_size base → ((j : ℕ) → get_or bytes j 0 < 256) →
    IsDamagedAt base bytes (length bytes)
short-ends base [] size octets some one few fits = absurd (omega (arith, some))
short-ends base (byte ∷ ys) size octets some one few fits =
    subst (λ b. IsDamagedAt base (b ∷ ys) (length (b ∷ ys))) (sym one)
    (short-damaged base ys size octets (omega (arith, few)) (λ j. fits (suc j)))

pub mask-ends : (base bytes : List ℕ) → IsImageSize base → AreBytes base → get_or bytes 0 0 ≡ 1
    → mask_size base < length bytes → ((j : ℕ) → get_or bytes j 0 < 256) →
    (64 ≤ get_or (take (mask_size base) (drop 1 bytes)) (mask_size base - 1) 0)
    ⊎ (all_of (flags_in (page_count base) (take (mask_size base) (drop 1 bytes))) ≡ true) →
    IsDamagedAt base bytes (mask_size base)
mask-ends base [] size octets one long fits bad = absurd (omega (arith, long))
mask-ends base (byte ∷ ys) size octets one long fits bad =
    subst (λ b. IsDamagedAt base (b ∷ ys) (mask_size base)) (sym one)
    (mask-damaged base ys size octets (omega (arith, long)) (λ j. fits (suc j)) bad)

tail-fits : (k : ℕ) (ys : List ℕ) → ((j : ℕ) → get_or ys j 0 < 256) → (j : ℕ) → get_or (take k ys) j 0 < 256
tail-fits zero ys fits j = omega arith
tail-fits (suc k) [] fits j = omega arith
tail-fits (suc k) (y ∷ ys) fits zero = fits 0
tail-fits (suc k) (y ∷ ys) fits (suc j) = tail-fits k ys (λ i. fits (suc i)) j

-- such a mask of all of the bytes
pub bytes-can : (base bytes : List ℕ) → IsImageSize base → mask_size base < length bytes
    → ((j : ℕ) → get_or bytes j 0 < 256) →
    get_or (take (mask_size base) (drop 1 bytes)) (mask_size base - 1) 0 < 64
    → all_of (flags_in (page_count base) (take (mask_size base) (drop 1 bytes))) ≡ false →
    CanMask base (take (mask_size base) (drop 1 bytes))
bytes-can base [] size long fits last some = absurd (omega (arith, long))
bytes-can base (byte ∷ ys) size long fits last some =
    can-mask base (take (mask_size base) ys) size (omega (arith, length-take {A = ℕ} (mask_size base) ys, long))
    (tail-fits (mask_size base) ys (λ j. fits (suc j))) last some

drop-behind : (m byte : ℕ) (ys : List ℕ) → drop (1 + m) (byte ∷ ys) ≡ drop m ys
drop-behind m byte ys = let next : 1 + m ≡ suc m = omega arith in ap (λ k. drop k (byte ∷ ys)) next

pub pages-ok : (base bytes into : List ℕ) → IsImageSize base → get_or bytes 0 0 ≡ 1 → mask_size base < length bytes
    → CanMask base (take (mask_size base) (drop 1 bytes)) →
    (stop (flags_in (page_count base) (take (mask_size base) (drop 1 bytes))) (pages base)
    (drop (1 + mask_size base) bytes) ≡ None)
    × (into ≡ merged (flags_in (page_count base) (take (mask_size base) (drop 1 bytes))) (pages base)
    (drop (1 + mask_size base) bytes)) →
    (length into ≡ length base) × (packing into base ≡ bytes)
pages-ok base [] into size one long can read = absurd (omega (arith, long))
pages-ok base (byte ∷ ys) into size one long can read =
    let m = mask_size base in
    let flags = flags_in (page_count base) (take m ys) in
    let p = masked base (take m ys) (drop m ys) size can (ap (stop flags (pages base)) (sym (drop-behind m byte ys))
    ∙ read.0) in
    let image : into ≡ merged flags (pages base) (drop m ys) = read.1
    ∙ ap (merged flags (pages base)) (drop-behind m byte ys) in (
      ap length image ∙ p.0,
      ap (λ i. packing i base) image
          ∙ (p.1 ∙ (ap (λ l. 1 ∷ l) (take-append-drop m ys) ∙ ap (λ b. b ∷ ys) (sym one))),
    )

pub pages-bad : (base bytes : List ℕ) (at : ℕ) → IsImageSize base → AreBytes base → AreBytes bytes
    → get_or bytes 0 0 ≡ 1 → mask_size base < length bytes → CanMask base (take (mask_size base) (drop 1 bytes)) →
    (stop (flags_in (page_count base) (take (mask_size base) (drop 1 bytes))) (pages base)
    (drop (1 + mask_size base) bytes) ≡ Some (at - (1 + mask_size base))) × (1 + mask_size base ≤ at) →
    IsDamagedAt base bytes at
pages-bad base [] at size octets fits one long can read = absurd (omega (arith, long))
pages-bad base (byte ∷ ys) at size octets fits one long can read =
    let m = mask_size base in
    let flags = flags_in (page_count base) (take m ys) in
    let back : suc (length (take m ys) + (at - (1 + m))) ≡ at = omega (arith, read.1, can.size) in
    let damaged = pages-damaged base (take m ys) (drop m ys) (at - (1 + m)) size octets (bytes-drop m ys fits.1) can
    (ap (stop flags (pages base)) (sym (drop-behind m byte ys)) ∙ read.0) in
    subst (λ k. IsDamagedAt base (byte ∷ ys) k) back
    (subst (λ b. IsDamagedAt base (b ∷ ys) (suc (length (take m ys) + (at - (1 + m))))) (sym one)
    (subst (λ l. IsDamagedAt base (1 ∷ l) (suc (length (take m ys) + (at - (1 + m))))) (take-append-drop m ys) damaged))
