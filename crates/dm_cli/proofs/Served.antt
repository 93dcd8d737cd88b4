-- The bytes of a stream that were taken so far, and what the next one adds.
use Rattle.std.proofs.Common.{◌≡◌, ◌≢◌, ◌∙◌, ℕ, suc, ◌+◌, ◌-◌, ◌≤◌, Bool, true, false, List, [], ◌∷◌, ◌++◌, Option, Some, None, IfSome, IfErr, OnErr, ◌⊎◌, inl, inr, Result, Ok, Err, ap, sym, subst, arith, append_assoc, take}
use Rattle.std.proofs.KnownBytes.{Consumes-trans, Consumes-nil, Appends-trans, Appends-nil, Appends-kept}
use Rattle.std.specs.Io.KnownBytes.{Appends, Consumes, IsAtEnd}
use Rattle.dm_gdb.specs.Connections.{Connected, Takes, new_connection}
use Rattle.dm_options.specs.declared.command_line.DebugOptions.{DebugOptions}
use Rattle.dm_console.specs.writers.Out.{AppendsPart, HasFailed}
use Rattle.dm_services.specs.state.State.{State}
use Rattle.dm_cli.specs.declared.fault.Fault.{Fault}
use Rattle.dm_cli.specs.declared.fault.Fault.TheVariants.{OutOfMemory}
use Rattle.dm_cli.specs.Faults.{IsReadFault, IsWriteFault}
use Rattle.dm_cli.specs.Reads.{TellsOfNoFile}
use Rattle.dm_cli.specs.Starting.{IsStartedBy, typed_in}
use Rattle.dm_cli.specs.Serving.{DebugsByGdb, IsServed, ServesStream, ended, over, exhausted, answers, unread, no_memory, unwritten, served, unbuffered}
use Rattle.dm_cli.specs.inner.Serving.{GivesByte, IsTakenBy, IsUntaken, ServesWith, lacking, partly, with_buffer, no_buffer_for}
use Rattle.dm_cli.proofs.Conversations.{left_of, left_is}
use Rattle.dm_cli.proofs.Unread.{line_tells, answer_tells}

never : {P : Type 0} → true ≡ false → P
never e = absurd (let u : true ≡ false = e in cc)

-- no whole answer is one that failed
cut : {P : Type 0} → false ≡ true → P
cut e = absurd (let u : false ≡ true = e in cc)

-- ---- so far

-- `consumed` was taken, in `count` bytes, and `told` was written: what becomes of the rest, becomes of all
pub record Heard (most : ℕ) (c : Connected) (known before : Option (List ℕ)) (count : ℕ) (d : Connected)
    (rest after : Option (List ℕ)) : Type 0 where
  pub consumed : List ℕ
  pub told : List ℕ
  pub read : Consumes known rest consumed
  pub written : Appends before after told
  pub goes_on : (m : ℕ) (ys further : List ℕ) (end : Option Fault) (whole : Bool) →
      ServesStream most m d ys further end whole
      → ServesStream most (count + m) c (consumed ++ ys) (told ++ further) end whole

pub begun : (most : ℕ) (c : Connected) (known before : Option (List ℕ)) → Heard most c known before 0 c known before
begun most c known before = record {
  consumed = [];
  told = [];
  read = Consumes-nil known;
  written = Appends-nil before;
  goes_on = λ m ys further end whole h. let e : m ≡ 0 + m = omega arith in
      subst (λ n. ServesStream most n c ys further end whole) e h;
}

module _ {most : ℕ} {c : Connected} {known before : Option (List ℕ)} {count : ℕ} {d : Connected}
    {rest after : Option (List ℕ)} where
  -- one byte more
  pub taken : Heard most c known before count d rest after → d.over ≡ false →
      (byte : ℕ) (e : Connected) (rest' after' : Option (List ℕ)) → GivesByte rest rest' (Some byte)
      → IsTakenBy most d byte e after after' → Heard most c known before (count + 1) e rest' after'
  taken heard goes byte e rest' after' reads is = record {
    consumed = heard.consumed ++ byte ∷ [];
    told = heard.told ++ is.sent;
    read = Consumes-trans _ _ _ heard.consumed (byte ∷ []) heard.read reads;
    written = Appends-trans _ _ _ heard.told is.sent heard.written is.written;
    goes_on = λ m ys further end whole h.
        let all : ServesStream most (count + suc m) c (heard.consumed ++ byte ∷ ys) (heard.told
        ++ (is.sent ++ further)) end whole =
        heard.goes_on (suc m) (byte ∷ ys) (is.sent ++ further) end whole (answers m d e byte ys is.sent further end
        whole goes is.takes h) in
        let number : count + suc m ≡ count + 1 + m = omega arith in
        rw (append_assoc, append_assoc) (subst (λ n. ServesStream most n c (heard.consumed ++ byte ∷ ys) (heard.told
        ++ (is.sent ++ further)) end whole) number all);
  }

  -- what becomes of the rest, if it is all that is left
  concludes : (n : ℕ) → count ≤ n → Heard most c known before count d rest after →
      (ys further : List ℕ) (end : Option Fault) (whole : Bool) (final : Option (List ℕ)) (opened failures : ℕ)
      → IfSome rest (λ xs. ys ≡ xs) → ServesStream most (n - count) d ys further end whole →
      Appends after final further → (whole ≡ false → HasFailed opened failures)
      → (whole ≡ true → failures ≡ opened) → IsServed most n known c before final opened failures end
  concludes n fits heard ys further end is_whole final opened failures is h appends failed none_failed = record {
    whole = is_whole;
    failed = failed;
    none_failed = none_failed;
    bytes = heard.consumed ++ ys;
    told = heard.told ++ further;
    read = all known rest heard.read is;
    serves = subst (λ k. ServesStream most k c (heard.consumed ++ ys) (heard.told ++ further) end is_whole)
        (let e : count + (n - count) ≡ n = omega (arith, fits) in
        e) (heard.goes_on (n - count) ys further end is_whole h);
    written = Appends-trans _ _ _ heard.told further heard.written appends;
  }
    where
      all : (a b : Option (List ℕ)) → Consumes a b heard.consumed → IfSome b (λ xs. ys ≡ xs) →
          IfSome a (λ xs. heard.consumed ++ ys ≡ xs)
      all None b h e = tt
      all (Some x) None h e = absurd h
      all (Some x) (Some y) h e = ap (λ l. heard.consumed ++ l) e ∙ sym h

  -- ---- how it ends

  module _ (n : ℕ) (fits : count ≤ n) (heard : Heard most c known before count d rest after) (opened failures : ℕ) where
    -- nothing is left
    pub at_end : failures ≡ opened → d.over ≡ false → (rest' : Option (List ℕ)) → GivesByte rest rest' None →
        IsServed most n known c before after opened failures None
    at_end same goes rest' none = concludes n fits heard [] [] None true after opened failures (nothing rest none)
        (ended (n - count) d goes) (Appends-nil after) never (λ e. same)
      where
        nothing : (a : Option (List ℕ)) → IsAtEnd a → IfSome a (λ xs. [] ≡ xs)
        nothing None h = tt
        nothing (Some x) h = sym h

    -- the conversation is over
    pub at_close : failures ≡ opened → d.over ≡ true → IsServed most n known c before after opened failures None
    at_close same is = concludes n fits heard (left_of rest) [] None true after opened failures (left_is rest)
        (over (n - count) d (left_of rest) is) (Appends-nil after) never (λ e. same)

    -- no more bytes are taken
    pub at_most : failures ≡ opened → n ≤ count → IsServed most n known c before after opened failures None
    at_most same all = concludes n fits heard (left_of rest) [] None true after opened failures (left_is rest)
        (subst (λ k. ServesStream most k d (left_of rest) [] None true) (let e : 0 ≡ n - count = omega (arith, all) in
        e) (exhausted d (left_of rest))) (Appends-nil after) never (λ e. same)

    -- the stream cannot be read
    pub at_fault : failures ≡ opened → d.over ≡ false → (fault : Fault) → IsReadFault fault ⊎ (fault ≡ OutOfMemory) →
        IsServed most n known c before after opened failures (Some fault)
    at_fault same goes fault (inl is) =
        concludes n fits heard (left_of rest) [] (Some fault) true after opened failures (left_is rest)
        (unread (n - count) d (left_of rest) fault goes is) (Appends-nil after) never (λ e. same)
    at_fault same goes fault (inr is) = subst (λ f. IsServed most n known c before after opened failures (Some f))
        (sym is)
        (concludes n fits heard (left_of rest) [] (Some OutOfMemory) true after opened failures (left_is rest)
        (no_memory (n - count) d (left_of rest) goes) (Appends-nil after) never (λ e. same))

    -- what is sent for a byte was not written
    pub at_byte : d.over ≡ false → (suc count ≤ n) → (byte : ℕ) (rest' after' : Option (List ℕ)) (fault : Fault) →
        GivesByte rest rest' (Some byte)
        → IsUntaken most d byte after after' opened failures fault →
        IsServed most n known c before after' opened failures (Some fault)
    at_byte goes more byte rest' after' fault reads (lacking kept same) =
        concludes n fits heard (left_of rest) [] (Some OutOfMemory) true after' opened failures (left_is rest)
        (no_memory (n - count) d (left_of rest) goes)
        (Appends-kept _ _ _ [] (Appends-nil after) kept) never (λ e. same)
    at_byte goes more byte rest' after' fault reads (partly sent e f takes some part failed is) =
        let next : suc (n - suc count) ≡ n - count = omega (arith, more) in
        concludes n fits heard (byte ∷ left_of rest') (take part.0 sent) (Some f) false after' opened failures
        (whole rest rest' reads)
        (subst (λ k. ServesStream most k d (byte ∷ left_of rest') (take part.0 sent) (Some f) false) next
        (unwritten (n - suc count) d e byte (left_of rest') sent part.0 f goes takes some part.1 is)) part.2
        (λ e. failed) cut
      where
        whole : (a b : Option (List ℕ)) → Consumes a b (byte ∷ []) → IfSome a (λ xs. byte ∷ left_of b ≡ xs)
        whole None b h = tt
        whole (Some x) None h = absurd h
        whole (Some x) (Some y) h = sym h

-- ---- one byte

-- what is sent for a byte was not written whole
pub not_written : {A : Type 0} (r : Result A Fault) (most : ℕ) (c d : Connected) (byte : ℕ) (bytes old sent : List ℕ)
    (a b : Option (List ℕ)) (opened failures : ℕ) → Takes most c byte sent d → old ≡ []
    → bytes ≡ old ++ sent → IfErr r (λ e. IsWriteFault e) → OnErr r (AppendsPart a b bytes) →
    OnErr r (HasFailed opened failures) → OnErr r (bytes ≢ []) → IfErr r (IsUntaken most c byte a b opened failures)
not_written (Ok x) most c d byte bytes old sent a b opened failures takes none is fault part failed some = tt
not_written (Err e) most c d byte bytes old sent a b opened failures takes none is fault part failed some =
    let same : bytes ≡ sent = is ∙ ap (λ l. l ++ sent) none in
    partly sent d e takes (subst (λ l. l ≢ []) same some) (subst (λ l. AppendsPart a b l) same part) failed fault

-- ---- the command

-- a conversation with the machine of the options
pub serves_with : (files : List ℕ → Option (List ℕ)) (typed : Option (List ℕ)) (o : DebugOptions) (m : State)
    (a b : Option (List ℕ)) (opened failures : ℕ) (end : Option Fault)
    → IsStartedBy files (typed_in files o) o.machine m →
    ServesWith o.machine.steps typed (new_connection m) a b opened failures end →
    DebugsByGdb files typed o a b opened failures end
serves_with files typed o m a b opened failures _ started (with_buffer end h) = served m end started h
serves_with files typed o m a b opened failures _ started (no_buffer_for kept same) = unbuffered kept same

-- the fault that ends a conversation tells of no file
pub serves_tells : (most n : ℕ) (c : Connected) (bytes told : List ℕ) (end : Option Fault) (whole : Bool) →
    ServesStream most n c bytes told end whole → TellsOfNoFile end
serves_tells _ _ _ _ _ _ _ (ended n c goes) = tt
serves_tells _ _ _ _ _ _ _ (over n c bytes is) = tt
serves_tells _ _ _ _ _ _ _ (exhausted c bytes) = tt
serves_tells _ _ _ _ _ _ _ (answers n c d byte bytes sent more end whole goes takes rest) =
    serves_tells _ _ _ _ _ _ _ rest
serves_tells _ _ _ _ _ _ _ (unread n c bytes f goes is) = line_tells f is
serves_tells _ _ _ _ _ _ _ (no_memory n c bytes goes) = tt
serves_tells _ _ _ _ _ _ _ (unwritten n c d byte bytes sent k f goes takes some le is) = answer_tells f is

pub conversation_tells : (most : ℕ) (typed : Option (List ℕ)) (c : Connected) (before after : Option (List ℕ))
    (opened failures : ℕ) (end : Option Fault)
    → ServesWith most typed c before after opened failures end → TellsOfNoFile end
conversation_tells most typed c b a o f _ (with_buffer end h) = serves_tells _ _ _ _ _ _ _ h.serves
conversation_tells most typed c b a o f _ (no_buffer_for kept same) = tt
