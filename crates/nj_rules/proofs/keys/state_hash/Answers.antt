use Rattle.std.proofs.Common.{◌≡◌, ℕ, ◌++◌, List, refl}
use Rattle.std.proofs.lemmas.Grind.{fold-append}
use Rattle.nj_bytes.specs.Fnv.{fnv_from, fnv_of, fnv_step}
use Rattle.nj_rules.specs.Key.{key_bytes}
use Rattle.nj_rules.proofs.keys.state_hash.Goals as goal

-- the hash of two pieces is that of the second going on from the first
fnv_of-append : (xs ys : List ℕ) → fnv_of (xs ++ ys) ≡ fnv_from (fnv_of xs) ys
unfolding fnv_of fnv_from
fnv_of-append xs ys = fold-append fnv_step 14695981039346656037 xs ys

pub returns : goal.returns
unfolding key_bytes
returns c =
    rw (fnv_of-append, c.fnv_on.ensures, c.memory_hash.ensures, c.to_le_bytes-bytes.ensures, c.rule_bits.ensures) refl
