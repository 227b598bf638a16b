-- From what a form takes to a command, and from a command to the reading.
use Rattle.std.proofs.Common.{◌≡◌, ◌∙◌, [], ◌∷◌, List, Some, None, String, ap, arith, codes, false, length, refl, string_bytes, subst, sym}
use Rattle.std.proofs.lemmas.Bool.{false_from_ne_true}
use Rattle.std.specs.Prelude.{option_and_then, Result, Err, IfOk, Ok}
use Rattle.std.specs.Result.{IsErrAnd}
use Rattle.std.specs.Borrow.{Bor}
use Rattle.std.specs.Str.{bytes_eq}
use Rattle.nj_words.specs.Words.{Taken, Word, taken}
use Rattle.nj_words.specs.Commands.{Row, asm_row, check_row, clean_row, command_of, play_row, reading, replay_row, resume_row, search_row, trace_row, watch_row, workload_row}
use Rattle.nj_words.specs.Parser.{form_of, words_of}
use Rattle.nj_words.specs.declared.Command.{Command}
use Rattle.nj_words.specs.declared.refused.WordsRefused.{WordsRefused}
use Rattle.nj_words.specs.declared.refused.WordsRefused.TheVariants.{NoMemory, Usage}
use Rattle.nj_words.proofs.Lookups.{same_word}

no_such : {X : Type 0} → Usage ≡ NoMemory → X
no_such same = absurd (cc)

-- want of memory is no usage
pub not_usage : {X : Type 0} (result : Result Command WordsRefused) → IsErrAnd result (λ e. e ≡ NoMemory)
    → result ≡ Err Usage → X
not_usage result want usage = no_such (subst (λ r. IsErrAnd r (λ e. e ≡ NoMemory)) usage want)

-- want of memory is no command
pub no_command : (result : Result Command WordsRefused) (holds : Command → Type 0)
    → IsErrAnd result (λ e. e ≡ NoMemory) → IfOk result holds
no_command (Ok command) holds want = absurd want
no_command (Err refused) holds want = tt

-- the form takes nothing from the words
pub none_made : (row : Row) (names options : List (Bor Word)) (words : List Word) → form_of names options ≡ row.form
    → taken (form_of names options) words ≡ None → command_of row words ≡ None
unfolding command_of
none_made row names options words same none =
    ap (option_and_then row.made) (ap (λ form. taken form words) (sym same) ∙ none)

-- the command is made of what the form takes
pub all_made : (row : Row) (names options : List (Bor Word)) (words : List Word) (given : Taken)
    → form_of names options ≡ row.form → taken (form_of names options) words ≡ Some given
    → command_of row words ≡ row.made given
unfolding command_of
all_made row names options words given same all =
    ap (option_and_then row.made) (ap (λ form. taken form words) (sym same) ∙ all)

other_word : (word other : Word) → (word ≡ other → ⊥) → bytes_eq word other ≡ false
other_word word other ne = false_from_ne_true _ (λ same. ne (same_word word other same))

-- the words of a list that has a first one
pub first_read : {Z : Type 0} (words : List (String Z)) (first : String Z) (rest : List (String Z)) (word bytes : Word)
    → words ≡ first ∷ rest → word ≡ string_bytes first → word ≡ bytes
    → reading (words_of words) ≡ reading (bytes ∷ words_of rest)
first_read words first rest word bytes split is spells =
    ap (λ ws. reading (words_of ws)) split ∙ ap (λ w. reading (w ∷ words_of rest)) (sym is ∙ spells)

pub nothing_read : {Z : Type 0} (words : List (String Z)) → length words ≡ 0 → reading (words_of words) ≡ None
unfolding reading
nothing_read [] none = refl
nothing_read (word ∷ words) none = absurd (omega arith)

pub play_read : (words : List Word) → reading (codes "play" ∷ words) ≡ command_of play_row words
unfolding reading
play_read words = refl

pub search_read : (words : List Word) → reading (codes "search" ∷ words) ≡ command_of search_row words
unfolding reading
search_read words = refl

pub resume_read : (words : List Word) → reading (codes "resume" ∷ words) ≡ command_of resume_row words
unfolding reading
resume_read words = refl

pub replay_read : (words : List Word) → reading (codes "replay" ∷ words) ≡ command_of replay_row words
unfolding reading
replay_read words = refl

pub check_read : (words : List Word) → reading (codes "check" ∷ words) ≡ command_of check_row words
unfolding reading
check_read words = refl

pub workload_read : (words : List Word) → reading (codes "workload" ∷ words) ≡ command_of workload_row words
unfolding reading
workload_read words = refl

pub asm_read : (words : List Word) → reading (codes "asm" ∷ words) ≡ command_of asm_row words
unfolding reading
asm_read words = refl

pub clean_read : (words : List Word) → reading (codes "clean" ∷ words) ≡ command_of clean_row words
unfolding reading
clean_read words = refl

pub trace_read : (words : List Word) → reading (codes "trace" ∷ words) ≡ command_of trace_row words
unfolding reading
trace_read words = refl

pub watch_read : (words : List Word) → reading (codes "watch" ∷ words) ≡ command_of watch_row words
unfolding reading
watch_read words = refl

-- no command has this word
pub other_read : (word : Word) (words : List Word) → (word ≡ codes "play" → ⊥) → (word ≡ codes "search" → ⊥)
    → (word ≡ codes "resume" → ⊥) → (word ≡ codes "replay" → ⊥) → (word ≡ codes "check" → ⊥)
    → (word ≡ codes "workload" → ⊥)
    → (word ≡ codes "asm" → ⊥) → (word ≡ codes "clean" → ⊥) → (word ≡ codes "trace" → ⊥) → (word ≡ codes "watch" → ⊥)
    → reading (word ∷ words) ≡ None
unfolding reading
other_read word words not_play not_search not_resume not_replay not_check not_workload not_asm not_clean not_trace
    not_watch =
    let play_differs = other_word word (codes "play") not_play in
    let search_differs = other_word word (codes "search") not_search in
    let resume_differs = other_word word (codes "resume") not_resume in
    let replay_differs = other_word word (codes "replay") not_replay in
    let check_differs = other_word word (codes "check") not_check in
    let workload_differs = other_word word (codes "workload") not_workload in
    let asm_differs = other_word word (codes "asm") not_asm in
    let clean_differs = other_word word (codes "clean") not_clean in
    let trace_differs = other_word word (codes "trace") not_trace in
    let watch_differs = other_word word (codes "watch") not_watch in
    rw (
      play_differs,
      search_differs,
      resume_differs,
      replay_differs,
      check_differs,
      workload_differs,
      asm_differs,
      clean_differs,
      trace_differs,
      watch_differs,
    ) refl
