-- How one thing that was read leads on to the next, and to a reply.
use Rattle.std.proofs.Common.{◌≡◌, ◌+◌, ◌≤◌, ◌++◌, ℕ, List, map, Contains, Option, Some, Result, Ok, Err, ◌⊎◌, inl, inr, refl, sym, ap, ◌∙◌, subst, arith}
use Rattle.std.proofs.lemmas.List.{map-append}
use Rattle.std.proofs.lemmas.List.Elements.{Contains-append_left, Contains-append_right}
use Rattle.nj_bytes.specs.Fnv.{fnv_of}
use Rattle.nj_outside.specs.Told.{Files}
use Rattle.nj_texts.specs.Refusals.{refusal_line}
use Rattle.nj_texts.specs.declared.kinds.Kind.{Kind}
use Rattle.nj_tasks.specs.Stops.{Ends, Leads, Loads, Reads, Replies, Serves}
use Rattle.nj_tasks.specs.Work.{Finding, Work, Done, accepted, answered_by, done, found_in, frames_for, frames_of, given, refusal_told, value_told}
use Rattle.nj_tasks.specs.declared.stops.Put.{Put}
use Rattle.nj_tasks.specs.declared.stops.Reply.{Reply}
use Rattle.nj_tasks.specs.declared.stops.Stop.{Stop}
use Rattle.nj_tasks.specs.declared.stops.Stop.TheVariants as stops

-- ---- one work and what is left of it

-- what ends the rest ends the whole
pub ends_then : (files : Files) (whole rest : Work) (failed : ℕ) (stop : Stop) → Leads files whole rest →
    Ends files rest failed stop →
    Ends files whole failed stop
unfolding Ends
ends_then files whole rest failed stops.Usage leads h = leads.same ∙ h
ends_then files whole rest failed (stops.Refused kind line) leads h = leads.same ∙ h
ends_then files whole rest failed stops.ReadFault leads h = leads.reaches failed h
ends_then files whole rest failed stops.NoMemory leads h = tt

-- one part after another
pub leads_then : (files : Files) (whole middle rest : Work) → Leads files whole middle → Leads files middle rest →
    Leads files whole rest
leads_then files whole middle rest first second = record {
  same = first.same ∙ second.same;
  reaches = λ hash h. first.reaches hash (second.reaches hash h);
}

-- want of memory ends any work
pub ends_free : (files : Files) (work : Work) (failed : ℕ) (stop : Stop) → stop ≡ stops.NoMemory →
    Ends files work failed stop
unfolding Ends
ends_free files work failed stop e = subst (λ s. Ends files work failed s) (sym e) tt

-- ---- what was loaded

module _ {A B : Type 0} (files : Files) (first : (A → Work) → Work) (second : A → (B → Work) → Work) where
  -- a stop of the first
  pub first_stops : (failed : ℕ) (stop : Stop) (result : Result B Stop) → result ≡ Err stop →
      Loads files first failed (Err stop) → Loads files (λ next. first (λ a. second a next)) failed result
  unfolding Loads
  first_stops failed stop result e h = rw e (λ next. h (λ a. second a next))

  -- behind what the first loaded the second loads its own
  pub then_loads : (before failed : ℕ) (a : A) (result : Result B Stop) → Loads files first before (Ok a) →
      Loads files (second a) failed result → Loads files (λ next. first (λ a. second a next)) failed result
  unfolding Loads
  then_loads before failed a (Ok value) h k = λ next. leads_then files _ _ _ (h (λ a. second a next)) (k next)
  then_loads before failed a (Err stop) h k = λ next. ends_then files _ _ failed stop (h (λ a. second a next)) (k next)

-- what is loaded goes on as a part of what is made of it
pub part_loads : {A B : Type 0} (files : Files) (load : (A → Work) → Work) (made : A → B) (failed : ℕ) (value : A) →
    Loads files load failed (Ok value) → Loads files (λ next. load (λ a. next (made a))) failed (Ok (made value))
unfolding Loads
part_loads files load made failed value h = λ next. h (λ a. next (made a))

-- and so does its stop
pub part_stops : {A B : Type 0} (files : Files) (load : (A → Work) → Work) (made : A → B) (failed : ℕ) (stop : Stop)
    (result : Result B Stop) → result ≡ Err stop → Loads files load failed (Err stop) →
    Loads files (λ next. load (λ a. next (made a))) failed result
unfolding Loads
part_stops files load made failed stop result e h = rw e (λ next. h (λ a. next (made a)))

-- nothing more is loaded
pub same_loads : {A : Type 0} (files : Files) (failed : ℕ) (value : A)
    → Loads files (λ next. next value) failed (Ok value)
unfolding Loads
same_loads files failed value = λ next. record { same = refl; reaches = λ hash reached. reached }

-- the hash of a name among those of two lists
pub among_first : (xs ys : List (List ℕ)) (hash : ℕ) → Contains (map fnv_of xs) hash →
    Contains (map fnv_of (xs ++ ys)) hash
among_first xs ys hash h =
    let Q : List ℕ → Type 0 = λ hashes. Contains hashes hash in
    subst Q (sym (map-append fnv_of xs ys)) (Contains-append_left (map fnv_of xs) (map fnv_of ys) hash h)

pub among_second : (xs ys : List (List ℕ)) (hash : ℕ) → Contains (map fnv_of ys) hash →
    Contains (map fnv_of (xs ++ ys)) hash
among_second xs ys hash h =
    let Q : List ℕ → Type 0 = λ hashes. Contains hashes hash in
    subst Q (sym (map-append fnv_of xs ys)) (Contains-append_right (map fnv_of xs) (map fnv_of ys) hash h)

-- a result has one stop
pub same_stop : {A : Type 0} (result : Result A Stop) (stop other : Stop) → result ≡ Err stop → result ≡ Err other →
    stop ≡ other
same_stop result stop other p q = cc

-- ---- what is served

module _ {A : Type 0} (files : Files) (work : (A → Work) → Work) (next : A → Work) where
  -- a stop of the loading is served
  pub serves_unloaded : (failed : ℕ) (stop : Stop) (result : Result Reply Stop) → result ≡ Err stop →
      Loads files work failed (Err stop) →
      Serves files (work next) failed result
  unfolding Loads Serves
  serves_unloaded failed stop result e loads = rw e (loads next)

  -- what was loaded is served as the rest is
  pub serves_loaded : (before failed : ℕ) (value : A) (result : Result Reply Stop) →
      Loads files work before (Ok value) →
      Serves files (next value) failed result → Serves files (work next) failed result
  unfolding Loads Serves Replies
  serves_loaded before failed value (Ok reply) loads h = (h.0, (loads next).same ∙ h.1)
  serves_loaded before failed value (Err stop) loads h = ends_then files _ _ failed stop (loads next) h

  -- the frames are those of the rest
  pub frames_loaded : (before : ℕ) (value : A) → Loads files work before (Ok value) →
      frames_of (given files (work next)) ≡ frames_of (given files (next value))
  unfolding Loads
  frames_loaded before value loads = ap frames_of (loads next).same

-- a reply with this text and file is the answer
pub serves_reply : (files : Files) (failed status frames : ℕ) (text : List ℕ) (file : Option Put) (reply : Reply) →
    reply.status ≡ status → reply.text ≡ text → reply.file ≡ file →
    Serves files (Done (done status text file frames)) failed (Ok reply)
unfolding Serves Replies
serves_reply files failed status frames text file reply is_status is_text is_file = (
  frames,
  λ i. Some (done (sym is_status i) (sym is_text i) (sym is_file i) frames),
)

-- want of memory ends any work
pub serves_no_memory : (files : Files) (work : Work) (failed : ℕ) (result : Result Reply Stop) (stop : Stop) →
    result ≡ Err stop →
    stop ≡ stops.NoMemory → Serves files work failed result
unfolding Serves Ends
serves_no_memory files work failed result stop e h = rw (e, h) tt

-- ---- what is read in memory, or computed

module _ {A : Type 0} (files : Files) (kind : Kind) (reading : Result A (List ℕ)) where
  pub reads_load : (failed : ℕ) (result : Result A Stop) → Reads kind reading result →
      Loads files (λ next. accepted kind next reading) failed result
  unfolding Loads Ends
  reads_load failed (Ok value) h = λ next. rw h (record { same = refl; reaches = λ hash reached. reached })
  reads_load failed (Err stop) (inl e) = λ next. rw e tt
  reads_load failed (Err stop) (inr h) = λ next. rw (h.1, h.2) refl

  module _ (rest : A → Work) where
    -- a stop of the reading is served
    pub reading_stops : (failed : ℕ) (stop : Stop) (result : Result Reply Stop) → result ≡ Err stop →
        Reads kind reading (Err stop) →
        Serves files (accepted kind rest reading) failed result
    reading_stops failed stop result e reads =
        serves_unloaded files (λ next. accepted kind next reading) rest failed stop result e
        (reads_load failed (Err stop) reads)

    -- what was read is served as the rest is
    pub reading_serves : (failed : ℕ) (value : A) (result : Result Reply Stop) → Reads kind reading (Ok value) →
        Serves files (rest value) failed result → Serves files (accepted kind rest reading) failed result
    reading_serves failed value result reads h =
        serves_loaded files (λ next. accepted kind next reading) rest failed failed value result
        (reads_load failed (Ok value) reads) h

-- the frames of what is found are those of its reading
frames_read : {V A : Type 0} (files : Files) (finding : Finding V A) (said : V) (r : Result A (List ℕ)) →
    frames_of (given files (accepted finding.kind (answered_by finding said) r))
    ≡ frames_for r (finding.frames said)
frames_read files finding said (Ok value) = refl
frames_read files finding said (Err refusal) = refl

-- so are those of what is found in what was loaded
pub frames_found : {V A : Type 0} (files : Files) (work : (V → Work) → Work) (finding : Finding V A) (before : ℕ)
    (said : V) → Loads files work before (Ok said) →
    frames_of (given files (work (found_in finding))) ≡ frames_for (finding.reading said) (finding.frames said)
frames_found files work finding before said loads =
    frames_loaded files work (found_in finding) before said loads
    ∙ frames_read files finding said (finding.reading said)

-- the reading is refused, and so is the result
pub refused_reads : {A : Type 0} (kind : Kind) (reading : Result A (List ℕ)) (text : List ℕ) (stop : Stop) →
    reading ≡ Err text →
    (stop ≡ stops.NoMemory) ⊎ (stop ≡ stops.Refused kind (refusal_line kind text)) → Reads kind reading (Err stop)
refused_reads kind reading text stop e (inl h) = inl h
refused_reads kind reading text stop e (inr h) = inr (text, e, h)

-- want of memory is a reading of anything
pub reads_no_memory : {A : Type 0} (kind : Kind) (reading : Result A (List ℕ)) (result : Result A Stop) (stop : Stop) →
    result ≡ Err stop → stop ≡ stops.NoMemory → Reads kind reading result
reads_no_memory kind reading result stop e h = rw (e, h) (inl refl)

-- ---- what is made of a reading

module _ {A B : Type 0} (kind : Kind) (told : A → B) where
  -- its stop is the reading's
  pub told_stops : (reading : Result A (List ℕ)) (result : Result B Stop) (stop : Stop) → result ≡ Err stop →
      Reads kind reading (Err stop) → Reads kind (value_told told reading) result
  told_stops reading result stop e (inl none) = rw (e, none) (inl refl)
  told_stops reading result stop e (inr h) = rw (e, h.1, h.2) (inr (h.0, refl, refl))

  -- its value is made of the reading's
  pub told_reads : (reading : Result A (List ℕ)) (value : A) (made : B) → Reads kind reading (Ok value) →
      made ≡ told value → Reads kind (value_told told reading) (Ok made)
  told_reads reading value made reads is = rw (reads, is) refl

  -- the frames are those of the reading
  pub told_frames : (reading : Result A (List ℕ)) (frames : ℕ) →
      frames_for (value_told told reading) frames ≡ frames_for reading frames
  told_frames (Ok value) frames = refl
  told_frames (Err refusal) frames = refl

-- what is computed runs its frames, and none where it is refused
pub frames_either : {A E : Type 0} (refusal : E → List ℕ) (r : Result A E) (frames new old : ℕ) →
    ((e : E) → r ≡ Err e → new ≡ old) → new ≤ old + frames → new ≤ old + frames_for (refusal_told refusal r) frames
frames_either refusal (Ok value) frames new old none some = some
frames_either refusal (Err e) frames new old none some = omega (arith, none e refl)
