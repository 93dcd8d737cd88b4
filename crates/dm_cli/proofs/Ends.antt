-- How commands end.
use Rattle.std.proofs.Common.{◌≡◌, ◌≢◌, ◌⊎◌, ◌∙◌, inl, inr, ℕ, suc, Bool, true, ◌-◌, ◌<◌, ◌≤◌, List, [], ◌∷◌, Option, Some, None, Result, Ok, Err, OnOk, IfErr, ap, sym, subst, refl, arith, length, take, option_map}
use Rattle.std.specs.Prelude.{◌==◌, if◌then◌else◌}
use Rattle.std.specs.Io.BufRead.{take_through, drop_through}
use Rattle.std.specs.Io.Buffered.{reader_buffer, reader_capacity, reader_inner, reader_remaining}
use Rattle.std.specs.Io.KnownBytes.{prepend_known}
use Rattle.std.specs.Io.Take.{take_inner, take_limit, take_remaining}
use Rattle.std.specs.declared.io.buffered.BufReader.{BufReader}
use Rattle.std.specs.declared.io.traits.Take.{Take}
use Rattle.dm_asm.specs.declared.refusal.AssemblyRefusal.{AssemblyRefusal}
use Rattle.dm_asm.specs.declared.refusal.AssemblyRefusal.TheVariants as refusal
use Rattle.dm_asm.specs.Programs.{Refuses}
use Rattle.dm_debug.specs.Debugged.{Debugged}
use Rattle.dm_debug.specs.Sessions.{new_session}
use Rattle.dm_options.specs.declared.command_line.DebugOptions.{DebugOptions}
use Rattle.dm_services.specs.state.State.{State}
use Rattle.dm_cli.specs.declared.fault.Fault.{Fault}
use Rattle.dm_cli.specs.Assembling.{IsAsmFault, text_refused, text_no_memory}
use Rattle.dm_cli.specs.Debugging.{Converses, Debugs, IsConversation, conversed, no_buffer, ended, quits, answers, too_long, unread, no_memory, cut_off, unwritten, not_handed_on}
use Rattle.dm_cli.specs.Faults.{refusal_fault}
use Rattle.dm_cli.specs.inner.Debugging.{ConversesWith, through_buffer, without_buffer}
use Rattle.dm_cli.specs.inner.Statuses.{end_of}
use Rattle.dm_cli.specs.Starting.{IsStartedBy, typed_in}
use Rattle.dm_cli.specs.Stores.{IsRead}
use Rattle.dm_cli.proofs.Lines.{first_cut, first_cut_short}

-- a text has no bytes
pub asm_fault : (why : AssemblyRefusal) (known : Option (List ℕ)) (path text : List ℕ) → IsRead known text →
    (why ≡ refusal.Memory) ⊎ Refuses text why → IsAsmFault known path (refusal_fault why)
asm_fault why known path text read (inl is) = subst (λ w. IsAsmFault known path (refusal_fault w))
    (sym is) text_no_memory
asm_fault why known path text read (inr h) = text_refused text why read h

-- ---- commands that were cut

nothing : (n : ℕ) (xs : List ℕ) → [] ≡ take (suc n) xs → xs ≡ []
nothing n [] e = refl
nothing n (x ∷ xs) e = absurd (cc)

some : (n : ℕ) (ys xs : List ℕ) → ys ≢ [] → ys ≡ take (suc n) xs → xs ≢ []
some n ys [] h e = absurd (h e)
some n ys (x ∷ xs) h e = λ none. cc

-- a line that fits is the same line where more bytes follow
same : (n : ℕ) (ys xs : List ℕ) → ys ≡ take (suc n) xs → length (take_through 10 ys) ≤ n
    → (take_through 10 ys ≡ take_through 10 xs) × (drop_through 10 ys ≡ take (suc n - length (take_through 10 xs))
    (drop_through 10 xs))
same n ys xs e fits = rw e (first_cut (suc n) xs (rw e at (let h : length (take_through 10 ys) < suc n =
    omega (arith, fits) in h)))

-- what becomes of commands of n bytes and one more at most, becomes of all
pub uncut : (n : ℕ) (s : Debugged) (ys told : List ℕ) (t : Debugged) (end : Option Fault) (whole : Bool) →
    Converses n s ys told t end whole → (xs : List ℕ) → ys ≡ take (suc n) xs → Converses n s xs told t end whole
uncut _ _ _ _ _ _ _ (ended n s) xs e = subst (λ l. Converses n s l [] s None true) (sym (nothing n xs e)) (ended n s)
uncut _ _ _ _ _ _ _ (quits n s ys fits quit) xs e =
    let is = (same n ys xs e fits).0 in quits n s xs (rw is at fits) (rw is at quit)
uncut _ _ _ _ _ _ _ (answers n s t u ys told more end whole h fits other tells rest) xs e =
    let is = same n ys xs e fits in
    let left : suc n - length (take_through 10 xs) ≡ suc (n - length (take_through 10 ys)) =
    omega (arith, ap length is.0, fits) in
    let next = uncut _ _ _ _ _ _ _ rest (drop_through 10 xs) (is.1 ∙ ap (λ k. take k (drop_through 10 xs)) left) in
    answers n s t u xs told more end whole (some n ys xs h e) (rw is.0 at fits) (rw is.0 at other) (rw is.0 at tells)
    (rw is.0 at next)
uncut _ _ _ _ _ _ _ (too_long n s ys long) xs e =
    too_long n s xs (let h = first_cut_short (suc n) xs in let l : n < length (take_through 10 (take (suc n) xs)) =
    rw e at long in omega (arith, h, l))
uncut _ _ _ _ _ _ _ (unread n s ys fault is) xs e = unread n s xs fault is
uncut _ _ _ _ _ _ _ (no_memory n s ys) xs e = no_memory n s xs
uncut _ _ _ _ _ _ _ (cut_off n s t ys h fits other cut) xs e =
    let is = (same n ys xs e fits).0 in cut_off n s t xs (some n ys xs h e) (rw is at fits) (rw is at other)
    (rw is at cut)
uncut _ _ _ _ _ _ _ (unwritten n s t ys told k fault h fits other tells within is_fault) xs e =
    let is = (same n ys xs e fits).0 in unwritten n s t xs told k fault (some n ys xs h e) (rw is at fits)
    (rw is at other) (rw is at tells) within is_fault
uncut _ _ _ _ _ _ _ (not_handed_on n s t ys told fault h fits other tells is_fault) xs e =
    let is = (same n ys xs e fits).0 in not_handed_on n s t xs told fault (some n ys xs h e) (rw is at fits)
    (rw is at other) (rw is at tells) is_fault

pub whole_conversation : (n : ℕ) (known : Option (List ℕ)) (s t : Debugged) (a b : Option (List ℕ))
    (opened failures : ℕ) (end : Option Fault) → IsConversation n (option_map (take (suc n)) known) s t a b opened
    failures end
    → IsConversation n known s t a b opened failures end
whole_conversation n None s t a b opened failures end h = record {
  text = h.text;
  told = h.told;
  whole = h.whole;
  read = tt;
  converses = h.converses;
  written = h.written;
  failed = h.failed;
  none_failed = h.none_failed;
}
whole_conversation n (Some xs) s t a b opened failures end h = record {
  whole = h.whole;
  failed = h.failed;
  none_failed = h.none_failed;
  text = xs;
  told = h.told;
  read = refl;
  converses = uncut _ _ _ _ _ _ _ h.converses xs h.read;
  written = h.written;
}

pub session_end : {A : Type 0} (r : Result A Fault) (n : ℕ) (known : Option (List ℕ)) (s t : Debugged)
    (a b : Option (List ℕ)) (opened failures : ℕ) → OnOk r (IsConversation n known s t a b opened failures None)
    → IfErr r (λ e. IsConversation n known s t a b opened failures (Some e)) →
    IsConversation n known s t a b opened failures (end_of r)
session_end (Ok x) n known s t a b opened failures ok err = ok
session_end (Err e) n known s t a b opened failures ok err = err

-- a session with the machine of the options
pub debugs_with : (files : List ℕ → Option (List ℕ)) (typed : Option (List ℕ)) (o : DebugOptions) (m : State)
    (t : Debugged) (a b : Option (List ℕ)) (opened failures : ℕ) (end : Option Fault)
    → IsStartedBy files (typed_in files o) o.machine m → ConversesWith typed (new_session m) t a b opened failures end →
    Debugs files typed o a b opened failures end
debugs_with files typed o m t a b opened failures _ started (through_buffer end h) = conversed m t end started h
debugs_with files typed o m t a b opened failures _ started (without_buffer kept same) = no_buffer kept same

-- ---- the reader of a session

prepend-nil : (o : Option (List ℕ)) → prepend_known [] o ≡ o
prepend-nil None = refl
prepend-nil (Some xs) = refl

-- what a reader with an empty buffer has left, over another of which a first part is read
pub known_of_reader : {T A : Type 0} (rem : T → Option (List ℕ)) (r : BufReader (Take T) A) (t : Take T) (c : T)
    (n : ℕ) → reader_capacity r ≡ 8192 → reader_buffer r ≡ [] → reader_inner r ≡ t
    → take_limit t ≡ n → take_inner t ≡ c → reader_remaining (take_remaining rem) r ≡ option_map (take n) (rem c)
known_of_reader rem r t c n capacity empty inner limit kept =
    ap (λ k. if k == 0 then None else prepend_known (reader_buffer r) (take_remaining rem (reader_inner r))) capacity
    ∙ ap (λ b. prepend_known b (take_remaining rem (reader_inner r))) empty
    ∙ prepend-nil _
    ∙ ap (take_remaining rem) inner
    ∙ ap (λ k. option_map (take k) (rem (take_inner t))) limit
    ∙ ap (λ x. option_map (take n) (rem x)) kept

-- the same of a reader over another that is read to its end
pub known_of_plain_reader : {T A : Type 0} (rem : T → Option (List ℕ)) (r : BufReader T A) (c : T) →
    reader_capacity r ≡ 8192 → reader_buffer r ≡ [] → reader_inner r ≡ c
    → reader_remaining rem r ≡ rem c
known_of_plain_reader rem r c capacity empty inner =
    ap (λ k. if k == 0 then None else prepend_known (reader_buffer r) (rem (reader_inner r))) capacity
    ∙ ap (λ b. prepend_known b (rem (reader_inner r))) empty
    ∙ prepend-nil _
    ∙ ap rem inner
