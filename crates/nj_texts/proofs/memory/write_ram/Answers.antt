-- One more byte moves its line from what is left to the text.
use Rattle.std.proofs.Common.{◌≡◌, ◌+◌, ◌<◌, ◌≤◌, ◌++◌, ℕ, List, [], length, drop, get_or, ap, sym, ◌∙◌, refl, append_assoc, add-one, drop-cons}
use Rattle.std.proofs.lemmas.List.{append-nil, drop_all}
use Rattle.nj_texts.specs.Memory.{ram_line, ram_lines}
use Rattle.nj_texts.proofs.memory.write_ram.Goals as goal

-- the lines of what is left begin with that of the next byte
next_line : (ram : List ℕ) (at : ℕ) → at < length ram →
    ram_lines at (drop at ram) ≡ ram_line (at, get_or ram at 0) ++ ram_lines (at + 1) (drop (at + 1) ram)
unfolding ram_lines
next_line ram at h = rw (drop-cons ram at 0, add-one) refl

no_line : (ram : List ℕ) (at : ℕ) → length ram ≤ at → ram_lines at (drop at ram) ≡ []
unfolding ram_lines
no_line ram at h = rw (drop_all at ram h) refl

-- the text with the next byte's line, and what is left then
line_moves : (text new whole ram : List ℕ) (at : ℕ) → at < length ram → new ≡ text ++ ram_line (at, get_or ram at 0) →
    text ++ ram_lines at (drop at ram) ≡ whole → new ++ ram_lines (at + 1) (drop (at + 1) ram) ≡ whole
line_moves text new whole ram at h line so_far =
    ap (λ t. t ++ ram_lines (at + 1) (drop (at + 1) ram)) line
    ∙ append_assoc text (ram_line (at, get_or ram at 0)) (ram_lines (at + 1) (drop (at + 1) ram))
    ∙ sym (ap (λ r. text ++ r) (next_line ram at h))
    ∙ so_far

-- at the end nothing is left
text_whole : (text whole ram : List ℕ) (at : ℕ) → length ram ≤ at → text ++ ram_lines at (drop at ram) ≡ whole →
    text ≡ whole
text_whole text whole ram at h so_far = sym (ap (λ r. text ++ r) (no_line ram at h) ∙ append-nil text) ∙ so_far

pub loop-at-preserved : goal.loop-at-preserved
loop-at-preserved c =
    line_moves c.loop-at.text c.write_byte.new.text _ c.args.ram.now c.loop-at.at c.loop-at-test.true
    c.in_ok-write_byte.ensures
    c.loop-at.invariant

pub returns : goal.returns
returns c = text_whole c.loop-at.text _ c.args.ram.now c.loop-at.at c.loop-at-test.false c.loop-at.invariant
