-- Where bytes cease to be those of a packing.
use Rattle.std.proofs.Common.{◌≡◌, ◌⊎◌, inl, inr, ℕ, zero, suc, ◌+◌, ◌==◌, ◌≤◌, ◌<◌, Bool, true, false, ◌&&◌, cond, List, [], ◌∷◌, ◌++◌, length, take, drop, Some, None, Option, refl, sym, ap, subst, ◌∙◌, arith, length-append, length-take, length-drop, append_assoc}
use Rattle.std.proofs.lemmas.List.{take_all}
use Rattle.std.proofs.lemmas.Bool.{le-ltb, ltb-true, ltb-false, ne_eqb, eqb-true, eqb-false}
use Rattle.std.proofs.Math.Seq.{take-add}
use Rattle.std.specs.Prelude.{nat_eq, nat_lt}
use Rattle.std.specs.Str.{bytes_eq}
use Rattle.nj_image.specs.Packing.{AreBytes}
use Rattle.nj_image.specs.Filling.{later, stop}
use Rattle.nj_image.proofs.Octets.{AreBytePages, bytes-append}
use Rattle.nj_image.proofs.Fill.{AreWhole, take-page, stop-page, later-none}

-- bytes that begin a page go on to one that differs from the base's
abbrev another : ℕ → ℕ
another byte = cond (nat_eq byte 0) 1 0

another-differs : (byte : ℕ) → nat_eq (another byte) byte ≡ false
another-differs byte = go (nat_eq byte 0) refl
  where
    go : (b : Bool) → nat_eq byte 0 ≡ b → nat_eq (cond b 1 0) byte ≡ false
    go true e = ne_eqb 1 byte (λ h. omega (arith, h, eqb-true byte 0 e))
    go false e = ne_eqb 0 byte (λ h. eqb-false byte 0 e (sym h))

record Differs (bytes base : List ℕ) : Type 0 where
  pub rest : List ℕ
  pub size : length (bytes ++ rest) ≡ length base
  pub other : bytes_eq (bytes ++ rest) base ≡ false
  pub octets : AreBytes rest

and-false : (b c : Bool) → c ≡ false → (b && c) ≡ false
and-false true c is = is
and-false false c is = refl

another-small : (byte : ℕ) → another byte < 256
another-small byte = go (nat_eq byte 0)
  where
    go : (b : Bool) → cond b 1 0 < 256
    go true = omega arith
    go false = omega arith

differs : (bytes base : List ℕ) → length bytes < length base → AreBytes base → Differs bytes base
differs bytes [] below octets = absurd (omega (arith, below))
differs [] (byte ∷ base) below octets =
    record {
      rest = another byte ∷ base;
      size = refl;
      other = ap (λ b. b && bytes_eq base base) (another-differs byte);
      octets = (another-small byte, octets.1);
    }
differs (first ∷ bytes) (byte ∷ base) below octets =
    let more = differs bytes base (omega (arith, below)) octets.1 in
    record {
      rest = more.rest;
      size = ap suc more.size;
      other = and-false (nat_eq first byte) (bytes_eq (bytes ++ more.rest) base) more.other;
      octets = more.octets;
    }

-- bytes that are read to the end
pub record Filled (flags : List Bool) (bases : List (List ℕ)) : Type 0 where
  pub bytes : List ℕ
  pub none : stop flags bases bytes ≡ None
  pub octets : AreBytes bytes

pub filled : (flags : List Bool) (bases : List (List ℕ)) → length flags ≡ length bases → AreWhole bases
    → AreBytePages bases → Filled flags bases
filled [] [] same whole octets = record { bytes = []; none = refl; octets = tt }
filled [] (base ∷ bases) same whole octets = absurd (omega (arith, same))
filled (flag ∷ flags) [] same whole octets = absurd (omega (arith, same))
filled (true ∷ flags) (base ∷ bases) same whole octets =
    let rest = filled flags bases (omega (arith, same)) whole.1 octets.1 in
    let page = differs [] base (omega (arith, whole.0)) octets.0 in
    record {
      bytes = page.rest ++ rest.bytes;
      none = stop-page flags base bases page.rest rest.bytes (page.size ∙ whole.0) page.other
          ∙ ap (later 64) rest.none;
      octets = bytes-append page.rest rest.bytes page.octets rest.octets;
    }
filled (false ∷ flags) (base ∷ bases) same whole octets =
    let rest = filled flags bases (omega (arith, same)) whole.1 octets.1 in
    record { bytes = rest.bytes; none = rest.none; octets = rest.octets }

-- where the reading stops: the bytes before go on to some that are read to the end, and with the next byte they do not
pub record Stops (flags : List Bool) (bases : List (List ℕ)) (bytes : List ℕ) (at : ℕ) : Type 0 where
  pub rest : List ℕ
  pub octets : AreBytes rest
  pub begins : stop flags bases (take at bytes ++ rest) ≡ None
  pub within : at ≤ length bytes
  pub ends : (at ≡ length bytes) ⊎ ((more : List ℕ) → stop flags bases (take (at + 1) bytes ++ more) ≡ None → ⊥)

some-last : (bytes : List ℕ) (at : ℕ) → cond {A = Option ℕ} (length bytes == 0) None (Some 0) ≡ Some at
    → Stops [] [] bytes at
some-last [] at is = cc
some-last (byte ∷ bytes) zero is =
    record {
      rest = [];
      octets = tt;
      begins = refl;
      within = omega arith;
      ends = inr (λ more none. more-left more none);
    }
  where
    more-left : (more : List ℕ) → stop [] [] (take (0 + 1) (byte ∷ bytes) ++ more) ≡ None → ⊥
    more-left more none = go (suc (length more) == 0) (ne_eqb (suc (length more)) 0 (λ h. omega (arith, h))) none
      where
        go : (b : Bool) → b ≡ false → cond {A = Option ℕ} b None (Some 0) ≡ None → ⊥
        go true e is = cc
        go false e is = cc
some-last (byte ∷ bytes) (suc at) is = go (suc (length bytes) == 0) is
  where
    go : (b : Bool) → cond {A = Option ℕ} b None (Some 0) ≡ Some (suc at) → Stops [] [] (byte ∷ bytes) (suc at)
    go true is = cc
    go false is = cc

later-at : (n at : ℕ) (o : Option ℕ) → later n o ≡ Some at → (a : ℕ) × ((o ≡ Some a) × (n + a ≡ at))
later-at n at None is = cc
later-at n at (Some a) is = (a, (refl, same is))
  where
    same : ◌≡◌ {A = Option ℕ} (Some (n + a)) (Some at) → n + a ≡ at
    same e = cc

-- within a page that is too short
short-stops : (flags : List Bool) (base : List ℕ) (bases : List (List ℕ)) (bytes : List ℕ) → length flags ≡ length bases
    → AreWhole bases → AreBytePages (base ∷ bases) → length base ≡ 64 →
    length bytes < 64 → Stops (true ∷ flags) (base ∷ bases) bytes (length bytes)
short-stops flags base bases bytes same whole octets wide short =
    let page = differs bytes base (omega (arith, wide)) octets.0 in
    let rest = filled flags bases same whole octets.1 in
    record {
      rest = page.rest ++ rest.bytes;
      octets = bytes-append page.rest rest.bytes page.octets rest.octets;
      begins =
          ap (λ l. stop (true ∷ flags) (base ∷ bases) (l ++ (page.rest ++ rest.bytes)))
          (take_all (length bytes) bytes (omega arith))
          ∙ (ap (stop (true ∷ flags) (base ∷ bases)) (sym (append_assoc bytes page.rest rest.bytes))
          ∙ (stop-page flags base bases (bytes ++ page.rest) rest.bytes (page.size ∙ wide) page.other
          ∙ ap (later 64) rest.none));
      within = omega arith;
      ends = inl refl;
    }

-- a page of 64 bytes that is the base's stops the reading
same-stops : (flags : List Bool) (base : List ℕ) (bases : List (List ℕ)) (page more : List ℕ) → length page ≡ 64
    → bytes_eq page base ≡ true →
    stop (true ∷ flags) (base ∷ bases) (page ++ more) ≡ Some 63
same-stops flags base bases page more wide same =
    ap (λ b. cond b (Some (length (page ++ more))) (cond (bytes_eq (take 64 (page ++ more)) base)
    (Some 63) (later 64 (stop flags bases (drop 64 (page ++ more))))))
    (le-ltb (length (page ++ more)) 64 (omega (arith, length-append page more, wide)))
    ∙ ap (λ b. cond b (Some 63) (later 64 (stop flags bases (drop 64 (page ++ more)))))
    (ap (λ p. bytes_eq p base) (take-page page more wide) ∙ same)

-- at the last byte of a page that is the base's
last-stops : (flags : List Bool) (base : List ℕ) (bases : List (List ℕ)) (bytes : List ℕ) → length flags ≡ length bases
    → AreWhole bases → AreBytePages (base ∷ bases) → length base ≡ 64 →
    64 ≤ length bytes → bytes_eq (take 64 bytes) base ≡ true → Stops (true ∷ flags) (base ∷ bases) bytes 63
last-stops flags base bases bytes same whole octets wide long equal =
    let page = differs (take 63 bytes) base (omega (arith, wide, length-take {A = ℕ} 63 bytes, long)) octets.0 in
    let rest = filled flags bases same whole octets.1 in
    record {
      rest = page.rest ++ rest.bytes;
      octets = bytes-append page.rest rest.bytes page.octets rest.octets;
      begins =
          ap (stop (true ∷ flags) (base ∷ bases)) (sym (append_assoc (take 63 bytes) page.rest rest.bytes))
          ∙ (stop-page flags base bases (take 63 bytes ++ page.rest) rest.bytes (page.size ∙ wide) page.other
          ∙ ap (later 64) rest.none);
      within = omega (arith, long);
      ends = inr (λ more none. cc (
        same-stops flags base bases (take 64 bytes) more
            (omega (arith, length-take {A = ℕ} 64 bytes, long)) equal,
        none,
      ));
    }

-- behind a page that differs
later-stops : (flags : List Bool) (base : List ℕ) (bases : List (List ℕ)) (bytes : List ℕ) (at : ℕ) → 64 ≤ length bytes
    → bytes_eq (take 64 bytes) base ≡ false →
    Stops flags bases (drop 64 bytes) at → Stops (true ∷ flags) (base ∷ bases) bytes (64 + at)
later-stops flags base bases bytes at long other is =
    let wide : length (take 64 bytes) ≡ 64 = omega (arith, length-take {A = ℕ} 64 bytes, long) in
    record {
      rest = is.rest;
      octets = is.octets;
      begins =
          ap (λ l. stop (true ∷ flags) (base ∷ bases) (l ++ is.rest)) (take-add 64 at bytes)
          ∙ (ap (stop (true ∷ flags) (base ∷ bases)) (append_assoc (take 64 bytes) (take at (drop 64 bytes)) is.rest)
          ∙ (stop-page flags base bases (take 64 bytes) (take at (drop 64 bytes) ++ is.rest) wide other
          ∙ ap (later 64) is.begins));
      within = omega (arith, is.within, length-drop {A = ℕ} 64 bytes, long);
      ends =
          elim is.ends [
            | inl e ↦ inl (omega (arith, e, length-drop {A = ℕ} 64 bytes, long))
            | inr never ↦ inr (λ more none. never more (later-none 64 _
                (sym (stop-page flags base bases (take 64 bytes) (take (at + 1) (drop 64 bytes) ++ more) wide other)
                ∙ (ap (stop (true ∷ flags) (base ∷ bases))
                (sym (append_assoc (take 64 bytes) (take (at + 1) (drop 64 bytes)) more)
                ∙ ap (λ l. l ++ more) (sym (take-add 64 (at + 1) bytes) ∙ ap (λ k. take k bytes) (plus at)))
                ∙ none))))
          ];
    }
  where
    plus : (at : ℕ) → 64 + (at + 1) ≡ 64 + at + 1
    plus at = omega arith

some-is : {a b : ℕ} → ◌≡◌ {A = Option ℕ} (Some a) (Some b) → a ≡ b
some-is e = cc

pub stops : (flags : List Bool) (bases : List (List ℕ)) (bytes : List ℕ) (at : ℕ) → length flags ≡ length bases
    → AreWhole bases → AreBytePages bases →
    stop flags bases bytes ≡ Some at → Stops flags bases bytes at
stops [] [] bytes at same whole octets is = some-last bytes at is
stops [] (base ∷ bases) bytes at same whole octets is = absurd (omega (arith, same))
stops (flag ∷ flags) [] bytes at same whole octets is = absurd (omega (arith, same))
stops (false ∷ flags) (base ∷ bases) bytes at same whole octets is =
    let rest = stops flags bases bytes at (omega (arith, same)) whole.1 octets.1 is in
    record { rest = rest.rest; octets = rest.octets; begins = rest.begins; within = rest.within; ends = rest.ends }
stops (true ∷ flags) (base ∷ bases) bytes at same whole octets is =
    by-page flags base bases bytes at (omega (arith, same)) whole octets (λ a. stops flags bases (drop 64 bytes) a
    (omega (arith, same)) whole.1 octets.1) (nat_lt (length bytes) 64) refl (bytes_eq (take 64 bytes) base) refl is
  where
    by-page : (flags : List Bool) (base : List ℕ) (bases : List (List ℕ)) (bytes : List ℕ) (at : ℕ)
        → length flags ≡ length bases → AreWhole (base ∷ bases) → AreBytePages (base ∷ bases) →
        ((a : ℕ) → stop flags bases (drop 64 bytes) ≡ Some a → Stops flags bases (drop 64 bytes) a) →
        (b : Bool) → nat_lt (length bytes) 64 ≡ b → (d : Bool) → bytes_eq (take 64 bytes) base ≡ d →
        cond b (Some (length bytes)) (cond d (Some 63) (later 64 (stop flags bases (drop 64 bytes)))) ≡ Some at
        → Stops (true ∷ flags) (base ∷ bases) bytes at
    by-page flags base bases bytes at same whole octets go true e d f is =
        subst (Stops (true ∷ flags) (base ∷ bases) bytes) (some-is is)
        (short-stops flags base bases bytes same whole.1 octets whole.0 (ltb-true (length bytes) 64 e))
    by-page flags base bases bytes at same whole octets go false e true f is =
        subst (Stops (true ∷ flags) (base ∷ bases) bytes) (some-is is)
        (last-stops flags base bases bytes same whole.1 octets whole.0 (ltb-false (length bytes) 64 e) f)
    by-page flags base bases bytes at same whole octets go false e false f is =
        let a = later-at 64 at (stop flags bases (drop 64 bytes)) is in
        subst (Stops (true ∷ flags) (base ∷ bases) bytes) a.1.1
        (later-stops flags base bases bytes a.0 (ltb-false (length bytes) 64 e) f (go a.0 a.1.0))
