-- What a reply and a stop say of the answer, of `out` and of `err`.
use Rattle.std.proofs.Common.{◌≡◌, ◌≢◌, ℕ, List, Option, Some, Result, Ok, Err, IfOk, OnOk, OnErr, IsErrOf, IsSomeAnd, ◌⊎◌, Contains, inl, inr, None, lit<, refl, sym, ap, ◌∙◌, subst}
use Rattle.nj_bytes.specs.Fnv.{fnv_of}
use Rattle.nj_outside.specs.Told.{Files, appended, appended-nothing}
use Rattle.nj_tasks.specs.Causes.{statuses, IsCarriedOut, IsPlain, IsAnswered, IsCutShort, IsPutCut, IsSavedAs, IsTextCut, IsUnsaved, line_for, put_by, with_put}
use Rattle.nj_tasks.specs.Lines.{usage_line}
use Rattle.nj_tasks.specs.Stops.{status_of, line_of, Ends, Serves, Replies}
use Rattle.nj_tasks.specs.Work.{Work, given, Reaches, refused, done}
use Rattle.nj_texts.specs.Kinds.{kind_status}
use Rattle.nj_texts.specs.declared.kinds.Kind.{Kind}
use Rattle.nj_texts.specs.declared.kinds.Kind.TheVariants as kinds
use Rattle.nj_tasks.specs.declared.stops.Put.{Put}
use Rattle.nj_tasks.specs.declared.stops.Reply.{Reply}
use Rattle.nj_tasks.specs.declared.stops.Stop.{Stop}
use Rattle.nj_tasks.specs.declared.stops.Stop.TheVariants as stops

-- no refusal has the status of a failed read
status_of_kind : (kind : Kind) → kind_status kind ≡ 7 → ⊥
status_of_kind kinds.Cartridge e = cc
status_of_kind kinds.Script e = cc
status_of_kind kinds.Plan e = cc
status_of_kind kinds.Movie e = cc
status_of_kind kinds.Saved e = cc
status_of_kind kinds.Source e = cc

module _ (files : Files) (work : Work) (failed : ℕ) where
  -- a reply whose text was written is answered
  pub reply_answers : (reply : Reply) (old new : Option (List ℕ)) → Serves files work failed (Ok reply) →
      new ≡ appended old reply.text → IsAnswered (given files work) reply.status old new
  unfolding Serves Replies
  reply_answers reply old new serves written =
      (done reply.status reply.text reply.file serves.0, serves.1, refl, written)

  -- one whose file was put puts the answer's
  pub reply_saves : (reply : Reply) (before after : Option Files) → Serves files work failed (Ok reply) →
      after ≡ with_put reply.file before → after ≡ put_by (given files work) before
  unfolding Serves Replies
  reply_saves reply before after serves put = put ∙ sym (ap (λ answer. put_by answer before) serves.1)

  -- one whose text was written in part is cut short
  pub reply_cut_short : (reply : Reply) (old new : Option (List ℕ)) (before after : Option Files) →
      Serves files work failed (Ok reply) → IsTextCut reply old new before after →
      IsCutShort (given files work) old new
  unfolding Serves Replies
  reply_cut_short reply old new before after serves cut = record {
    whole = done reply.status reply.text reply.file serves.0;
    is_whole = serves.1;
    accepted = refl;
    count = cut.count;
    within = cut.within;
    written = cut.written;
  }

  -- one whose file was not put whole is not saved
  pub reply_unsaved : (reply : Reply) (hash : ℕ) (old new : Option (List ℕ)) (before after : Option Files) →
      Serves files work failed (Ok reply) → new ≡ appended old reply.text → IsPutCut reply.file hash before after →
      IsUnsaved (given files work) hash old new before after
  unfolding Serves Replies
  reply_unsaved reply hash old new before after serves written cut = record {
    whole = done reply.status reply.text reply.file serves.0;
    is_whole = serves.1;
    accepted = refl;
    put = cut.put;
    is_put = cut.is_put;
    named = cut.named;
    written = written;
    files = cut.files;
  }

  -- either way
  pub reply_fails : {W F : Type 0} (reply : Reply) (hash : ℕ) (old new : Option (List ℕ))
      (before after : Option Files) →
      Serves files work failed (Ok reply) →
      (W × IsTextCut reply old new before after)
      ⊎ (F × (new ≡ appended old reply.text) × IsPutCut reply.file hash before after) →
      (W × (after ≡ before) × IsCutShort (given files work) old new)
      ⊎ (F × IsUnsaved (given files work) hash old new before after)
  reply_fails reply hash old new before after serves (inl cut) =
      inl (cut.0, cut.1.files, reply_cut_short reply old new before after serves cut.1)
  reply_fails reply hash old new before after serves (inr cut) =
      inr (cut.0, reply_unsaved reply hash old new before after serves cut.1 cut.2)

  -- a refusal is answered, and writes no text
  refusal_answers : (status : ℕ) (line : List ℕ) (old : Option (List ℕ)) →
      given files work ≡ Some (refused status line) →
      IsAnswered (given files work) status old old
  refusal_answers status line old h = (refused status line, h, refl, sym (appended-nothing old))

  -- a stop that is no failed read and no want of memory is answered
  stop_answers : (stop : Stop) (old : Option (List ℕ)) → Ends files work failed stop → stop ≢ stops.ReadFault →
      stop ≢ stops.NoMemory →
      IsAnswered (given files work) (status_of stop) old old
  unfolding Ends
  stop_answers stops.Usage old h reads memory = refusal_answers 3 usage_line old h
  stop_answers (stops.Refused kind line) old h reads memory = refusal_answers (kind_status kind) line old h
  stop_answers stops.ReadFault old h reads memory = absurd (reads refl)
  stop_answers stops.NoMemory old h reads memory = absurd (memory refl)

  -- a stop puts no file
  refusal_saves : (status : ℕ) (line : List ℕ) (before : Option Files) → given files work ≡ Some (refused status line) →
      before ≡ put_by (given files work) before
  refusal_saves status line before h = sym (ap (λ answer. put_by answer before) h)

  stop_puts : (stop : Stop) (before : Option Files) → Ends files work failed stop → stop ≢ stops.ReadFault →
      stop ≢ stops.NoMemory → before ≡ put_by (given files work) before
  unfolding Ends
  stop_puts stops.Usage before h reads memory = refusal_saves 3 usage_line before h
  stop_puts (stops.Refused kind line) before h reads memory = refusal_saves (kind_status kind) line before h
  stop_puts stops.ReadFault before h reads memory = absurd (reads refl)
  stop_puts stops.NoMemory before h reads memory = absurd (memory refl)

  pub stop_saves : (stop : Stop) (status : ℕ) (before : Option Files) → Serves files work failed (Err stop) →
      status ≡ status_of stop → IsPlain status → before ≡ put_by (given files work) before
  unfolding Serves
  stop_saves stop status before serves is_status plain =
      stop_puts stop before serves
      (λ e. plain.no_read_fault (is_status ∙ ap status_of e)) (λ e. plain.memory (is_status ∙ ap status_of e))

  pub stop_settles : (stop : Stop) (status : ℕ) (old : Option (List ℕ)) → Serves files work failed (Err stop) →
      status ≡ status_of stop →
      IsPlain status → IsAnswered (given files work) status old old
  unfolding Serves
  stop_settles stop status old serves is_status plain =
      rw is_status (stop_answers stop old serves
      (λ e. plain.no_read_fault (is_status ∙ ap status_of e)) (λ e. plain.memory (is_status ∙ ap status_of e)))

  pub stop_completes : (stop : Stop) (status : ℕ) (old : Option (List ℕ)) → Serves files work failed (Err stop) →
      status ≡ status_of stop →
      stop ≢ stops.ReadFault → status ≢ 9 → IsAnswered (given files work) status old old
  unfolding Serves
  stop_completes stop status old serves is_status reads memory =
      rw is_status (stop_answers stop old serves reads (λ e. memory (is_status ∙ ap status_of e)))

  -- status 7 comes with a read that the work comes to
  pub stop_reaches : (stop : Stop) (status : ℕ) → Serves files work failed (Err stop) → status ≡ status_of stop →
      status ≡ 7 →
      Reaches files work failed
  unfolding Serves Ends
  stop_reaches stops.Usage status serves is_status e = cc
  stop_reaches (stops.Refused kind line) status serves is_status e = absurd (status_of_kind kind (sym is_status ∙ e))
  stop_reaches stops.ReadFault status serves is_status e = serves
  stop_reaches stops.NoMemory status serves is_status e = cc

  -- the line of a stop is that of its status
  line_of_stop : (stop : Stop) → Ends files work failed stop →
      line_of stop ≡ line_for (given files work) (status_of stop)
  unfolding Ends
  line_of_stop stops.Usage h = refl
  line_of_stop (stops.Refused kinds.Cartridge line) h = rw h refl
  line_of_stop (stops.Refused kinds.Script line) h = rw h refl
  line_of_stop (stops.Refused kinds.Plan line) h = rw h refl
  line_of_stop (stops.Refused kinds.Movie line) h = rw h refl
  line_of_stop (stops.Refused kinds.Saved line) h = rw h refl
  line_of_stop (stops.Refused kinds.Source line) h = rw h refl
  line_of_stop stops.ReadFault h = refl
  line_of_stop stops.NoMemory h = refl

  pub stop_line : (stop : Stop) (status : ℕ) (line : List ℕ) → Serves files work failed (Err stop) →
      status ≡ status_of stop →
      line ≡ line_of stop → line ≡ line_for (given files work) status
  unfolding Serves
  stop_line stop status line serves is_status is_line = rw is_status (is_line ∙ line_of_stop stop serves)

-- the status of a stop is one of those that there are
pub stop_status : (stop : Stop) (status : ℕ) → status ≡ status_of stop → Contains statuses status
stop_status stops.Usage status e = (3, lit< tt, rw e refl)
stop_status (stops.Refused kinds.Cartridge line) status e = (4, lit< tt, rw e refl)
stop_status (stops.Refused kinds.Script line) status e = (5, lit< tt, rw e refl)
stop_status (stops.Refused kinds.Plan line) status e = (5, lit< tt, rw e refl)
stop_status (stops.Refused kinds.Movie line) status e = (6, lit< tt, rw e refl)
stop_status (stops.Refused kinds.Saved line) status e = (11, lit< tt, rw e refl)
stop_status (stops.Refused kinds.Source line) status e = (12, lit< tt, rw e refl)
stop_status stops.ReadFault status e = (7, lit< tt, rw e refl)
stop_status stops.NoMemory status e = (9, lit< tt, rw e refl)

-- the status of a command that was carried out is one of those that there are
pub carried_out_status : (status : ℕ) → IsCarriedOut status → Contains statuses status
carried_out_status status (inl e) = (0, lit< tt, rw e refl)
carried_out_status status (inr (inl e)) = (10, lit< tt, rw e refl)
carried_out_status status (inr (inr (inl e))) = (1, lit< tt, rw e refl)
carried_out_status status (inr (inr (inr e))) = (2, lit< tt, rw e refl)

pub carried_out_reply : (result : Result Reply Stop) (reply : Reply) → result ≡ Ok reply →
    IfOk result (λ said. IsCarriedOut said.status) → Contains statuses reply.status
carried_out_reply result reply is done =
    carried_out_status reply.status (subst (λ r. IfOk r (λ said. IsCarriedOut said.status)) is done)

-- what a call did where it did not fail
pub unless_failed : {A E : Type 0} {P Q : Type 0} (result : Result A E) → OnOk result P → OnErr result Q → ¬ Q → P
unless_failed (Ok value) ok err never = ok
unless_failed (Err e) ok err never = absurd (never err)

-- a status that is not 7 is that of no failed read
pub stop_no_fault : (stop : Stop) (status : ℕ) → status ≡ status_of stop → status ≢ 7 →
    IsErrOf {T = Reply} (Err stop) stops.ReadFault → ⊥
stop_no_fault stops.Usage status is_status other e = cc
stop_no_fault (stops.Refused kind line) status is_status other e = cc
stop_no_fault stops.ReadFault status is_status other e = other is_status
stop_no_fault stops.NoMemory status is_status other e = cc

-- a reply whose status is not that of a limit leaves the files
pub unsaved_files : (name : Option (List ℕ)) (reply : Reply) (before after : Option Files) → IsSavedAs name reply →
    reply.status ≢ 2 → after ≡ with_put reply.file before → after ≡ before
unsaved_files name reply before after saved other put = put ∙ by_file reply.file refl where
  by_file : (file : Option Put) → reply.file ≡ file → with_put file before ≡ before
  by_file None is = refl
  by_file (Some one) is = absurd (other (saved one is).0)

-- a put that was cut is of the name that is saved under
cut_put_named : (name : Option (List ℕ)) (reply : Reply) (hash : ℕ) (before after : Option Files) →
    IsSavedAs name reply → IsPutCut reply.file hash before after → IsSomeAnd name (λ n. hash ≡ fnv_of n)
cut_put_named name reply hash before after saved cut =
    subst (λ n. IsSomeAnd n (λ m. hash ≡ fnv_of m)) (sym (saved cut.put cut.is_put).1) cut.named

-- a write failed, or a put of the name that is saved under
pub failed_either : {W F P Q : Type 0} (name : Option (List ℕ)) (reply : Reply) (hash : ℕ)
    (before after : Option Files) →
    IsSavedAs name reply → (W × P) ⊎ (F × Q × IsPutCut reply.file hash before after) →
    W ⊎ (F × IsSomeAnd name (λ n. hash ≡ fnv_of n))
failed_either name reply hash before after saved (inl cut) = inl cut.0
failed_either name reply hash before after saved (inr cut) =
    inr (cut.0, cut_put_named name reply hash before after saved cut.2)

-- what was said of a call that ended well stays said
pub always_ok : {A E P : Type 0} (result : Result A E) → P → OnOk result P
always_ok (Ok value) p = p
always_ok (Err e) p = tt

-- what was said of a fault, as more
pub fault_more : {A E P Q R : Type 0} (result : Result A E) → OnErr result P → OnErr result Q → (P → Q → R)
    → OnErr result R
fault_more (Ok value) p q more = tt
fault_more (Err e) p q more = more p q

-- what was said of a call that ended well, as more
pub ok_more : {A E P Q : Type 0} (result : Result A E) → OnOk result P → (P → Q) → OnOk result Q
ok_more (Ok value) p more = more p
ok_more (Err e) p more = tt
