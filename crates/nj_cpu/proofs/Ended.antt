-- The accesses that lead to a mode's address, and then the end at that address, are the accesses of the mode.
use Rattle.std.proofs.Common.{◌≡◌, ℕ, Bool, true, false, cond, Some, None, refl, sym, ap, ◌∙◌, subst}
use Rattle.nj_isa.specs.Bus.{Acts}
use Rattle.nj_isa.specs.Accesses.{At, end_on, by_mode}
use Rattle.nj_isa.specs.declared.operations.Op.{Op}
use Rattle.nj_isa.specs.declared.modes.Mode.{Mode}
use Rattle.nj_isa.specs.declared.modes.Mode.TheVariants.{Implied, Accumulator, Immediate, Zp, ZpX, ZpY, Abs, AbsX, AbsY, IndX, IndY, Indirect, Relative}
use Rattle.nj_isa.specs.declared.modes.Kind.{Kind}
use Rattle.nj_isa.specs.declared.modes.Kind.TheVariants.{Read, Write, Modify}
use Rattle.nj_cpu.specs.declared.state.Cpu.{Cpu}
use Rattle.nj_cpu.specs.Leading.{leading, ending, early, given}
use Rattle.nj_cpu.specs.Walk.{Rises, Walk, Watched, EndsAs, address_of, begun, walk}

-- a walk ends so, and gives this byte
pub record Gives {Held : Type 0} (kind : Kind) (w : Walk Held) (c : Cpu) (h : Held) (r : Watched) (n : ℕ) : Type 0 where
  pub ends : EndsAs w c h r
  pub byte : n ≡ given kind w.data_

-- two walks that differ in what they gathered alone
same : {Held : Type 0} (kind : Kind) (v w : Walk Held) (c : Cpu) (h : Held) (r : Watched) (byte : ℕ)
    → v.cpu ≡ w.cpu → v.held ≡ w.held → v.rises ≡ w.rises → given kind v.data_ ≡ given kind w.data_
    → Gives kind v c h r byte → Gives kind w c h r byte
same kind v w c h r byte cs hs rs ds g = record {
  ends = record {
    cpu = g.ends.cpu ∙ cs;
    held = g.ends.held ∙ hs;
    rises = g.ends.rises ∙ (λ i. record { edges = rs i; line = (cs i).line });
  };
  byte = g.byte ∙ ds;
}

-- the byte of an early read is the one, and the access after it is not made
kept : {Held : Type 0} (b : Bool) (u v : Walk Held) (c : Cpu) (h : Held) (r : Watched) (byte : ℕ)
    → cond b None (Some v.data_) ≡ Some byte → EndsAs v c h r → Gives Read (cond b u v) c h r byte
kept false u v c h r byte e ends = record { ends = ends; byte = cc }
kept true u v c h r byte e ends = cc

-- the access after an early read is made
carries : {Held : Type 0} (b : Bool) (n : ℕ) (u v : Walk Held) → cond b None (Some n) ≡ None → cond b u v ≡ u
carries true n u v e = refl
carries false n u v e = cc

-- where the byte is there before the end at an address, the mode has no more accesses
pub early-gives : {Held : Type 0} (acts : Acts Held) (op : Op) (mode : Mode) (kind : Kind) (cpu : Cpu) (held : Held)
    (rises : Rises) (c : Cpu) (h : Held) (r : Watched) (byte : ℕ) →
    early mode kind (walk acts op (leading mode kind) (begun cpu held rises)) ≡ Some byte →
    EndsAs (walk acts op (leading mode kind) (begun cpu held rises)) c h r →
    Gives kind (walk acts op (by_mode mode kind) (begun cpu held rises)) c h r byte
early-gives acts op Implied Read cpu held rises c h r byte e ends = record { ends = ends; byte = cc }
early-gives acts op Implied Write cpu held rises c h r byte e ends = record { ends = ends; byte = cc }
early-gives acts op Implied Modify cpu held rises c h r byte e ends = record { ends = ends; byte = cc }
early-gives acts op Accumulator Read cpu held rises c h r byte e ends = record { ends = ends; byte = cc }
early-gives acts op Accumulator Write cpu held rises c h r byte e ends = record { ends = ends; byte = cc }
early-gives acts op Accumulator Modify cpu held rises c h r byte e ends = record { ends = ends; byte = cc }
early-gives acts op Immediate Read cpu held rises c h r byte e ends = record { ends = ends; byte = cc }
early-gives acts op Immediate Write cpu held rises c h r byte e ends = record { ends = ends; byte = cc }
early-gives acts op Immediate Modify cpu held rises c h r byte e ends = record { ends = ends; byte = cc }
early-gives acts op Indirect Read cpu held rises c h r byte e ends = record { ends = ends; byte = cc }
early-gives acts op Indirect Write cpu held rises c h r byte e ends = record { ends = ends; byte = cc }
early-gives acts op Indirect Modify cpu held rises c h r byte e ends = record { ends = ends; byte = cc }
early-gives acts op Relative Read cpu held rises c h r byte e ends = record { ends = ends; byte = cc }
early-gives acts op Relative Write cpu held rises c h r byte e ends = record { ends = ends; byte = cc }
early-gives acts op Relative Modify cpu held rises c h r byte e ends = record { ends = ends; byte = cc }
early-gives acts op AbsX Read cpu held rises c h r byte e ends = kept _ _ _ c h r byte e ends
early-gives acts op AbsY Read cpu held rises c h r byte e ends = kept _ _ _ c h r byte e ends
early-gives acts op IndY Read cpu held rises c h r byte e ends = kept _ _ _ c h r byte e ends
early-gives acts op _ _ cpu held rises c h r byte e ends = cc

-- what the end at an address makes of what the accesses before it left
abbrev ended : {Held : Type 0} → Acts Held → Op → Mode → Kind → Walk Held → Walk Held
ended acts op mode kind v =
    walk acts op (end_on (At (address_of (ending mode) v)) kind) (begun v.cpu v.held v.rises)

read-gives : {Held : Type 0} (acts : Acts Held) (op : Op) (mode : Mode) (cpu : Cpu) (held : Held) (rises : Rises)
    (c : Cpu) (h : Held) (r : Watched) (byte : ℕ) →
    early mode Read (walk acts op (leading mode Read) (begun cpu held rises)) ≡ None →
    Gives Read (ended acts op mode Read (walk acts op (leading mode Read) (begun cpu held rises))) c h r byte →
    Gives Read (walk acts op (by_mode mode Read) (begun cpu held rises)) c h r byte
read-gives acts op Zp cpu held rises c h r byte e g = same Read _ _ c h r byte refl refl refl refl g
read-gives acts op ZpX cpu held rises c h r byte e g = same Read _ _ c h r byte refl refl refl refl g
read-gives acts op ZpY cpu held rises c h r byte e g = same Read _ _ c h r byte refl refl refl refl g
read-gives acts op Abs cpu held rises c h r byte e g = same Read _ _ c h r byte refl refl refl refl g
read-gives acts op IndX cpu held rises c h r byte e g = same Read _ _ c h r byte refl refl refl refl g
read-gives acts op AbsX cpu held rises c h r byte e g =
    let made = sym (carries _ _ _ _ e) in
    same Read _ _ c h r byte (ap (λ w. w.cpu) made) (ap (λ w. w.held) made) (ap (λ w. w.rises) made)
    (ap (λ w. w.data_) made) g
read-gives acts op AbsY cpu held rises c h r byte e g =
    let made = sym (carries _ _ _ _ e) in
    same Read _ _ c h r byte (ap (λ w. w.cpu) made) (ap (λ w. w.held) made) (ap (λ w. w.rises) made)
    (ap (λ w. w.data_) made) g
read-gives acts op IndY cpu held rises c h r byte e g =
    let made = sym (carries _ _ _ _ e) in
    same Read _ _ c h r byte (ap (λ w. w.cpu) made) (ap (λ w. w.held) made) (ap (λ w. w.rises) made)
    (ap (λ w. w.data_) made) g
read-gives acts op _ cpu held rises c h r byte e g = cc

write-gives : {Held : Type 0} (acts : Acts Held) (op : Op) (mode : Mode) (cpu : Cpu) (held : Held) (rises : Rises)
    (c : Cpu) (h : Held) (r : Watched) (byte : ℕ) →
    early mode Write (walk acts op (leading mode Write) (begun cpu held rises)) ≡ None →
    Gives Write (ended acts op mode Write (walk acts op (leading mode Write) (begun cpu held rises))) c h r byte →
    Gives Write (walk acts op (by_mode mode Write) (begun cpu held rises)) c h r byte
write-gives acts op Implied cpu held rises c h r byte e g = cc
write-gives acts op Accumulator cpu held rises c h r byte e g = cc
write-gives acts op Immediate cpu held rises c h r byte e g = cc
write-gives acts op Indirect cpu held rises c h r byte e g = cc
write-gives acts op Relative cpu held rises c h r byte e g = cc
write-gives acts op _ cpu held rises c h r byte e g = same Write _ _ c h r byte refl refl refl refl g

modify-gives : {Held : Type 0} (acts : Acts Held) (op : Op) (mode : Mode) (cpu : Cpu) (held : Held) (rises : Rises)
    (c : Cpu) (h : Held) (r : Watched) (byte : ℕ) →
    early mode Modify (walk acts op (leading mode Modify) (begun cpu held rises)) ≡ None →
    Gives Modify (ended acts op mode Modify (walk acts op (leading mode Modify) (begun cpu held rises))) c h r byte →
    Gives Modify (walk acts op (by_mode mode Modify) (begun cpu held rises)) c h r byte
modify-gives acts op Implied cpu held rises c h r byte e g = cc
modify-gives acts op Accumulator cpu held rises c h r byte e g = cc
modify-gives acts op Immediate cpu held rises c h r byte e g = cc
modify-gives acts op Indirect cpu held rises c h r byte e g = cc
modify-gives acts op Relative cpu held rises c h r byte e g = cc
modify-gives acts op _ cpu held rises c h r byte e g = same Modify _ _ c h r byte refl refl refl refl g

-- else the end at the address is the rest of the mode's accesses
pub late-gives : {Held : Type 0} (acts : Acts Held) (op : Op) (mode : Mode) (kind : Kind) (cpu : Cpu) (held : Held)
    (rises : Rises) (c : Cpu) (h : Held) (r : Watched) (byte : ℕ) →
    early mode kind (walk acts op (leading mode kind) (begun cpu held rises)) ≡ None →
    Gives kind (ended acts op mode kind (walk acts op (leading mode kind) (begun cpu held rises))) c h r byte →
    Gives kind (walk acts op (by_mode mode kind) (begun cpu held rises)) c h r byte
late-gives acts op mode Read cpu held rises c h r byte e g = read-gives acts op mode cpu held rises c h r byte e g
late-gives acts op mode Write cpu held rises c h r byte e g = write-gives acts op mode cpu held rises c h r byte e g
late-gives acts op mode Modify cpu held rises c h r byte e g = modify-gives acts op mode cpu held rises c h r byte e g

-- the end is at the address that is known, from where the accesses before it ended
pub from-lead : {Held : Type 0} (acts : Acts Held) (op : Op) (mode : Mode) (kind : Kind) (v : Walk Held)
    (at : ℕ) (c1 : Cpu) (h1 : Held) (r1 : Watched) (c : Cpu) (h : Held) (r : Watched) (byte : ℕ) →
    at ≡ address_of (ending mode) v → EndsAs v c1 h1 r1 →
    Gives kind (walk acts op (end_on (At at) kind) (begun c1 h1 r1.edges)) c h r byte →
    Gives kind (ended acts op mode kind v) c h r byte
from-lead acts op mode kind v at c1 h1 r1 c h r byte place ends g =
    subst (λ w. Gives kind w c h r byte)
    (λ i. walk acts op (end_on (At (place i)) kind) (begun (ends.cpu i) (ends.held i) (ends.rises i).edges)) g
