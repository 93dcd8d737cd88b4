-- The lines of a reader that were answered so far, and what the next one adds.
use Rattle.std.proofs.Common.{◌≡◌, ◌≢◌, ◌∙◌, ℕ, ◌-◌, ◌<◌, ◌≤◌, Bool, true, false, List, [], ◌∷◌, ◌++◌, Option, Some, None, IfSome, OnSome, ◌⊎◌, inl, inr, ap, sym, refl, arith, append-nil, append_assoc, length, take}
use Rattle.std.proofs.KnownBytes.{Consumes-trans, Consumes-nil, Appends-trans, Appends-nil, Appends-kept}
use Rattle.std.specs.Io.{StopsAt, appended_bytes}
use Rattle.std.specs.Io.BufRead.{take_through, drop_through, ends_with_byte, strip_last, DropsThrough}
use Rattle.std.specs.Io.KnownBytes.{Appends, Consumes, IsAtEnd}
use Rattle.dm_debug.specs.Debugged.{Debugged}
use Rattle.dm_console.specs.writers.Out.{HasFailed}
use Rattle.dm_cli.specs.declared.fault.Fault.{Fault}
use Rattle.dm_cli.specs.declared.fault.Fault.TheVariants.{InputTooLong, OutOfMemory}
use Rattle.dm_cli.specs.Faults.{IsReadFault}
use Rattle.dm_cli.specs.Debugging.{Converses, IsConversation, IsQuit, Tells, ended, quits, answers, too_long, unread, no_memory, cut_off, unwritten, not_handed_on}
use Rattle.dm_cli.specs.inner.Debugging.{IsAnsweredBy, IsUnanswered, Reads, cut_short, partly, unflushed}
use Rattle.dm_cli.proofs.Lines.{first_ended, first_last, first_long, last_of_all}

-- what a reader has left, where that is known
abbrev pub left_of : Option (List ℕ) → List ℕ
left_of None = []
left_of (Some xs) = xs

pub left_is : (rest : Option (List ℕ)) → IfSome rest (λ xs. left_of rest ≡ xs)
left_is None = tt
left_is (Some xs) = refl

-- what stands behind a line that was read, where it is known what was there before
abbrev pub behind_of : Option (List ℕ) → Option (List ℕ) → List ℕ
behind_of None b = []
behind_of (Some xs) b = left_of b

-- ---- the line that was read is the first one of what is left

pub first_read : (a b : Option (List ℕ)) (line : List ℕ) → Reads a b line
    → (take_through 10 (line ++ behind_of a b) ≡ line) × (drop_through 10 (line ++ behind_of a b) ≡ behind_of a b)
first_read a b line reads = by (ends_with_byte 10 line) refl
  where
    none : (c d : Option (List ℕ)) → OnSome c (IsAtEnd d) → behind_of c d ≡ []
    none None d h = refl
    none (Some x) None h = refl
    none (Some x) (Some y) h = h

    by : (e : Bool) → ends_with_byte 10 line ≡ e
        → (take_through 10 (line ++ behind_of a b) ≡ line) × (drop_through 10 (line ++ behind_of a b) ≡ behind_of a b)
    by true e = first_ended line (behind_of a b) reads.stops e
    by false e = rw (none a b (reads.last e)) (first_last line reads.stops e)

whole_read : (a b : Option (List ℕ)) (line : List ℕ) → Consumes a b line → IfSome a (λ xs. line ++ behind_of a b ≡ xs)
whole_read None b line h = tt
whole_read (Some x) None line h = absurd h
whole_read (Some x) (Some y) line h = sym h

-- what `read_until` gave behind nothing is a line
pub line_read : (a b : Option (List ℕ)) (old new : List ℕ) → old ≡ [] → Consumes a b (appended_bytes old new) →
    StopsAt (appended_bytes old new) 10
    → IfSome a (λ xs. new ≡ old ++ take_through 10 xs) → DropsThrough a b 10 → Reads a b new
line_read a b old new none consumes stops bytes drops =
    let all : StopsAt new 10 = rw none at stops in
    record {
      consumes = rw none at consumes;
      stops = all;
      last = last_of_all a b new (rw none at bytes) drops all;
    }

not_empty : (line ys : List ℕ) → 0 < length line → line ++ ys ≢ []
not_empty [] ys some = absurd (omega (arith, some))
not_empty (x ∷ xs) ys some = λ e. cc

-- ---- so far

-- `consumed` was read and `told` was written: what becomes of the rest, becomes of all. Where nothing more is to come,
-- there is no rest
pub record Spoken (n : ℕ) (s : Debugged) (known before : Option (List ℕ)) (left : ℕ) (t : Debugged)
    (rest after : Option (List ℕ)) (more : Bool) : Type 0 where
  pub consumed : List ℕ
  pub told : List ℕ
  pub read : Consumes known rest consumed
  pub written : Appends before after told
  pub over : more ≡ false → OnSome known (IsAtEnd rest)
  pub goes_on : (ys further : List ℕ) (u : Debugged) (end : Option Fault) (whole : Bool) → (more ≡ false → ys ≡ []) →
      Converses left t ys further u end whole
      → Converses n s (consumed ++ ys) (told ++ further) u end whole

pub begun : (n : ℕ) (s : Debugged) (known before : Option (List ℕ)) → Spoken n s known before n s known before true
begun n s known before = record {
  consumed = [];
  told = [];
  read = Consumes-nil known;
  written = Appends-nil before;
  over = λ e. absurd (let u : true ≡ false = e in cc);
  goes_on = λ ys further u end whole none h. h;
}

-- what becomes of the rest, if it is all that is left
concludes : {n left : ℕ} {s t : Debugged} {known before rest after : Option (List ℕ)} {more : Bool} →
    Spoken n s known before left t rest after more
    → (ys further : List ℕ) (u : Debugged) (end : Option Fault) (whole : Bool) (final : Option (List ℕ))
    (opened failures : ℕ) → (more ≡ false → ys ≡ []) → IfSome rest (λ xs. ys ≡ xs)
    → Converses left t ys further u end whole → Appends after final further →
    (whole ≡ false → HasFailed opened failures) → (whole ≡ true → failures ≡ opened) →
    IsConversation n known s u before final opened failures end
concludes {known} {before} {rest} {after} spoken ys further u end is_whole final opened failures none is h appends
    failed none_failed = record {
      whole = is_whole;
      failed = failed;
      none_failed = none_failed;
      text = spoken.consumed ++ ys;
      told = spoken.told ++ further;
      read = whole known rest spoken.read is;
      converses = spoken.goes_on ys further u end is_whole none h;
      written = Appends-trans _ _ _ spoken.told further spoken.written appends;
    }
  where
    whole : (a b : Option (List ℕ)) → Consumes a b spoken.consumed → IfSome b (λ xs. ys ≡ xs) →
        IfSome a (λ xs. spoken.consumed ++ ys ≡ xs)
    whole None b h e = tt
    whole (Some x) None h e = absurd h
    whole (Some x) (Some y) h e = ap (λ l. spoken.consumed ++ l) e ∙ sym h

-- ---- one line more

-- a line with its answer, before what comes next
answers_first : (left : ℕ) (t u v : Debugged) (line ys text further : List ℕ) (end : Option Fault) (whole : Bool)
    → (take_through 10 (line ++ ys) ≡ line) × (drop_through 10 (line ++ ys) ≡ ys) → 0 < length line → length line ≤ left
    → ¬ IsQuit (strip_last 10 line) → Tells t (strip_last 10 line) u text →
    Converses (left - length line) u ys further v end whole
    → Converses left t (line ++ ys) (text ++ further) v end whole
answers_first left t u v line ys text further end whole first some fits other tells h =
    let is = first.0 in
    answers left t u v (line ++ ys) text further end whole (not_empty line ys some) (rw is fits)
    (rw is other) (rw is tells) (rw (is, first.1) h)

pub step : {n left : ℕ} {s t : Debugged} {known before rest after : Option (List ℕ)} →
    Spoken n s known before left t rest after true
    → (line : List ℕ) (u : Debugged) (rest' after' : Option (List ℕ)) → Reads rest rest' line → 0 < length line →
    length line ≤ left
    → ¬ IsQuit (strip_last 10 line) → IsAnsweredBy t (strip_last 10 line) u after after'
    → Spoken n s known before (left - length line) u rest' after' (ends_with_byte 10 line)
step {n} {left} {s} {t} {known} {before} {rest} spoken line u rest' after' reads some fits other answered = record {
  consumed = spoken.consumed ++ line;
  told = spoken.told ++ answered.text;
  read = Consumes-trans _ _ _ spoken.consumed line spoken.read reads.consumes;
  written = Appends-trans _ _ _ spoken.told answered.text spoken.written answered.written;
  over = λ e. known_end known rest rest' spoken.read (reads.last e);
  goes_on = λ ys further v end whole none h.
      let all : Converses n s (spoken.consumed ++ (line ++ ys)) (spoken.told
      ++ (answered.text ++ further)) v end whole =
      spoken.goes_on (line ++ ys) (answered.text ++ further) v end whole (λ e. absurd (let c : true ≡ false = e in cc))
      (answers_first left t u v line ys answered.text further end whole (first (ends_with_byte 10 line) refl ys none)
      some fits other answered.tells h) in
      rw (append_assoc, append_assoc) all;
}
  where
    known_end : (a b c : Option (List ℕ)) → Consumes a b spoken.consumed → OnSome b (IsAtEnd c) → OnSome a (IsAtEnd c)
    known_end None b c h e = tt
    known_end (Some x) None c h e = absurd h
    known_end (Some x) (Some y) c h e = e

    first : (e : Bool) → ends_with_byte 10 line ≡ e → (ys : List ℕ) → (ends_with_byte 10 line ≡ false → ys ≡ [])
        → (take_through 10 (line ++ ys) ≡ line) × (drop_through 10 (line ++ ys) ≡ ys)
    first true e ys none = first_ended line ys reads.stops e
    first false e ys none = rw (none e) (first_last line reads.stops e)

-- ---- how it ends

-- a line was read, of so many bytes, of which there are not too many
abbrev pub Counts : ℕ → Option (List ℕ) → List ℕ → Option (List ℕ) → ℕ → Type 0
Counts left rest line rest' count = (count ≤ left) × (count ≡ length line) × Reads rest rest' line

never : {P : Type 0} → true ≡ false → P
never e = absurd (let c : true ≡ false = e in cc)

going : {ys : List ℕ} → true ≡ false → ys ≡ []
going e = absurd (let c : true ≡ false = e in cc)

-- no whole answer is one that failed
cut : {P : Type 0} → false ≡ true → P
cut e = absurd (let c : false ≡ true = e in cc)

module _ {n left : ℕ} {s t : Debugged} {known before rest after : Option (List ℕ)} (opened failures : ℕ) where
  -- no line is left
  pub ends : failures ≡ opened → Spoken n s known before left t rest after false →
      IsConversation n known s t before after opened failures None
  ends same spoken = record {
    none_failed = λ e. same;
    text = spoken.consumed ++ [];
    told = spoken.told ++ [];
    read = all known rest spoken.read (spoken.over refl);
    whole = true;
    converses = spoken.goes_on [] [] t None true (λ e. refl) (ended left t);
    failed = λ e. absurd (let u : true ≡ false = e in cc);
    written = rw append-nil spoken.written;
  }
    where
      all : (a b : Option (List ℕ)) → Consumes a b spoken.consumed → OnSome a (IsAtEnd b) →
          IfSome a (λ xs. spoken.consumed ++ [] ≡ xs)
      all None b h e = tt
      all (Some x) None h e = absurd h
      all (Some x) (Some y) h e = ap (λ l. spoken.consumed ++ l) (sym e) ∙ sym h

  -- a line of no byte was read
  pub ends_at : failures ≡ opened → Spoken n s known before left t rest after true → (rest' : Option (List ℕ)) →
      Reads rest rest' [] → IsConversation n known s t before after opened failures None
  ends_at same spoken rest' reads =
      concludes spoken [] [] t None true after opened failures going (nothing rest rest' reads.consumes
      (reads.last refl)) (ended left t) (Appends-nil after) never (λ e. same)
    where
      nothing : (a b : Option (List ℕ)) → Consumes a b [] → OnSome a (IsAtEnd b) → IfSome a (λ xs. [] ≡ xs)
      nothing None b h e = tt
      nothing (Some x) None h e = absurd h
      nothing (Some x) (Some y) h e = sym (h ∙ e)

  -- the line ends the session
  pub quitted : failures ≡ opened → Spoken n s known before left t rest after true →
      (line : List ℕ) (rest' : Option (List ℕ)) → Reads rest rest' line → length line ≤ left
      → IsQuit (strip_last 10 line) → IsConversation n known s t before after opened failures None
  quitted same spoken line rest' reads fits quit =
      let first = first_read rest rest' line reads in
      concludes spoken (line ++ behind_of rest rest') [] t None true after opened failures going
      (whole_read rest rest' line reads.consumes)
      (quits left t (line ++ behind_of rest rest') (rw (first.0) fits) (rw (first.0) quit)) (Appends-nil after) never
      (λ e. same)

  -- standard input can't be read
  pub broken : failures ≡ opened → Spoken n s known before left t rest after true → (fault : Fault) →
      IsReadFault fault → IsConversation n known s t before after opened failures (Some fault)
  broken same spoken fault is =
      concludes spoken (left_of rest) [] t (Some fault) true after opened failures going (left_is rest)
      (unread left t (left_of rest) fault is) (Appends-nil after) never (λ e. same)

  -- memory for the line was refused
  pub lacking : failures ≡ opened → Spoken n s known before left t rest after true →
      IsConversation n known s t before after opened failures (Some OutOfMemory)
  lacking same spoken = concludes spoken (left_of rest) [] t (Some OutOfMemory) true after opened failures going
      (left_is rest) (no_memory left t (left_of rest)) (Appends-nil after) never (λ e. same)

  -- the line is too long
  pub exceeded : failures ≡ opened → Spoken n s known before left t rest after true →
      (line : List ℕ) (rest' : Option (List ℕ)) → Reads rest rest' line → left < length line
      → IsConversation n known s t before after opened failures (Some InputTooLong)
  exceeded same spoken line rest' reads long =
      let more = first_long line (behind_of rest rest') reads.stops in
      concludes spoken (line ++ behind_of rest rest') [] t (Some InputTooLong) true after opened failures going
      (whole_read rest rest' line reads.consumes)
      (too_long left t (line ++ behind_of rest rest') (omega (arith, long, more))) (Appends-nil after) never (λ e. same)

  -- the line was not answered
  pub unanswered : Spoken n s known before left t rest after true →
      (line : List ℕ) (u : Debugged) (rest' after' : Option (List ℕ)) (fault : Fault) → Reads rest rest' line
      → 0 < length line → length line ≤ left → ¬ IsQuit (strip_last 10 line) →
      IsUnanswered t (strip_last 10 line) u after after' opened failures fault
      → IsConversation n known s u before after' opened failures (Some fault)
  unanswered spoken line u rest' after' fault reads some fits other (cut_short cut kept same) =
      let first = first_read rest rest' line reads in
      concludes spoken (line ++ behind_of rest rest') [] u (Some OutOfMemory) true after' opened failures going
      (whole_read rest rest' line reads.consumes)
      (cut_off left t u (line ++ behind_of rest rest') (not_empty line _ some) (rw (first.0) fits) (rw (first.0) other)
      (rw (first.0) cut)) (Appends-kept _ _ _ [] (Appends-nil after) kept) never (λ e. same)
  unanswered spoken line u rest' after' fault reads some fits other (partly text f tells part failed is) =
      let first = first_read rest rest' line reads in
      concludes spoken (line ++ behind_of rest rest') (take part.0 text) u (Some fault) false after' opened failures
      going (whole_read rest rest' line reads.consumes)
      (unwritten left t u (line ++ behind_of rest rest') text part.0 fault (not_empty line _ some) (rw (first.0) fits)
      (rw (first.0) other) (rw (first.0) tells) part.1 is) part.2
      (λ e. failed) cut
  unanswered spoken line u rest' after' fault reads some fits other (unflushed text f tells all failed is) =
      let first = first_read rest rest' line reads in
      concludes spoken (line ++ behind_of rest rest') text u (Some fault) false after' opened failures going
      (whole_read rest rest' line reads.consumes)
      (not_handed_on left t u (line ++ behind_of rest rest') text fault (not_empty line _ some) (rw (first.0) fits)
      (rw (first.0) other) (rw (first.0) tells) is) all (λ e. failed) cut

  -- ---- as the loop has them

  pub at_nothing : failures ≡ opened → Spoken n s known before left t rest after true →
      (line : List ℕ) (rest' : Option (List ℕ)) (count : ℕ) → Counts left rest line rest' count → count ≡ 0
      → IsConversation n known s t before after opened failures None
  at_nothing same spoken [] rest' count read none = ends_at same spoken rest' read.2
  at_nothing same spoken (x ∷ xs) rest' count read none = absurd (let e = read.1 in omega (arith, e, none))

  pub at_quit : failures ≡ opened → Spoken n s known before left t rest after true →
      (line shown : List ℕ) (rest' : Option (List ℕ)) (count : ℕ) → Counts left rest line rest' count
      → shown ≡ strip_last 10 line → IsQuit shown → IsConversation n known s t before after opened failures None
  at_quit same spoken line shown rest' count read is quit =
      quitted same spoken line rest' read.2 (rw read.1 at read.0) (rw is at quit)

  pub at_fault : failures ≡ opened → Spoken n s known before left t rest after true →
      (line : List ℕ) (rest' : Option (List ℕ)) (fault : Fault)
      → IsReadFault fault ⊎ (fault ≡ OutOfMemory) ⊎ ((fault ≡ InputTooLong) × (left < length line) ×
      Reads rest rest' line)
      → IsConversation n known s t before after opened failures (Some fault)
  at_fault same spoken line rest' fault (inl why) = broken same spoken fault why
  at_fault same spoken line rest' fault (inr (inl is)) = rw is (lacking same spoken)
  at_fault same spoken line rest' fault (inr (inr long)) = rw (long.0) (exceeded same spoken line rest' long.2 long.1)

  pub at_unanswered : Spoken n s known before left t rest after true →
      (line shown : List ℕ) (u : Debugged) (rest' after' : Option (List ℕ)) (count : ℕ) (fault : Fault)
      → Counts left rest line rest' count → (0 < count) → shown ≡ strip_last 10 line → ¬ IsQuit shown →
      IsUnanswered t shown u after after' opened failures fault
      → IsConversation n known s u before after' opened failures (Some fault)
  at_unanswered spoken line shown u rest' after' count fault read some is other h =
      unanswered spoken line u rest' after' fault read.2 (rw read.1 at some) (rw read.1 at read.0) (rw is at other)
      (rw is at h)

  pub at_answered : Spoken n s known before left t rest after true →
      (line shown : List ℕ) (u : Debugged) (rest' after' : Option (List ℕ)) (count : ℕ)
      → Counts left rest line rest' count → (0 < count) → shown ≡ strip_last 10 line → ¬ IsQuit shown →
      IsAnsweredBy t shown u after after'
      → Spoken n s known before (left - count) u rest' after' (ends_with_byte 10 line)
  at_answered spoken line shown u rest' after' count read some is other h =
      rw read.1 (step spoken line u rest' after' read.2 (rw read.1 at some) (rw read.1 at read.0) (rw is at other)
      (rw is at h))
