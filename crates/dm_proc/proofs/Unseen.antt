-- No call depends on what no program sees, or changes it.
use Rattle.std.proofs.Common.{◌≡◌, ℕ, zero, suc, ◌+◌, ◌-◌, ◌%◌, Bool, false, List, [], ◌∷◌, ◌++◌, length, min, inl, inr, refl, sym, ◌∙◌, ap, ap₂, subst, Result, Ok, Err}
use Rattle.dm_space.specs.Memory.{Memory, linear, peek, peek16, poke}
use Rattle.dm_space.specs.Unseen.{IsUnseen}
use Rattle.dm_arena.specs.declared.fit.Strategy.{Strategy}
use Rattle.dm_arena.specs.declared.refusal.ArenaRefusal.TheVariants as arena
use Rattle.dm_blocks.specs.Chain.{first_header}
use Rattle.dm_arena.specs.Pair.{Placed}
use Rattle.dm_arena.proofs.Unseen.{pair-unseen, pairing-unseen, releasing-unseen, resizing-unseen}
use Rattle.dm_load.specs.declared.format.FarPointer.{FarPointer}
use Rattle.dm_load.specs.Image.{relocated}
use Rattle.dm_cpu.specs.declared.cpu.Cpu.{Cpu}
use Rattle.dm_cpu.specs.Guest.{Guest, guest}
use Rattle.dm_cpu.proofs.Unseen.{interrupt_return-unseen}
use Rattle.dm_proc.specs.declared.parent.Ending.{Ending}
use Rattle.dm_proc.specs.declared.refusal.ExecRefusal.{ExecRefusal}
use Rattle.dm_proc.specs.declared.refusal.ExecRefusal.TheVariants.{Function, NotFound, BadFormat, Environment, Destroyed, Short}
use Rattle.dm_proc.specs.declared.refusal.ArenaDestroyed.{ArenaDestroyed}
use Rattle.dm_proc.specs.Writes.{Write, apply, upwards, block, bytes_from}
use Rattle.dm_proc.specs.Request.{IsNameAt, Names, NameRefused, pointer_at, tail_at, control_block, Passed, passed, environment_segment, load_segment, relocation_factor}
use Rattle.dm_proc.specs.Environment.{IsEnd, AreVariables, NoVariables}
use Rattle.dm_proc.specs.Room.{paragraphs, least, most}
use Rattle.dm_proc.specs.Start.{word_bytes, zeros, start_writes, prefix}
use Rattle.dm_proc.specs.Processes.{Processes, return_registers, PlanRefused, Starts, Asks, environment_of, ExecRefused, Executes, Loads, OverlayRefused, Overlays, vectors_back, Ends, Terminates, StaysResident}
use Rattle.dm_proc.specs.Laws.{IgnoresUnseen}

module _ (up : Bool) where
  module _ (f : Memory → Memory) (u : IsUnseen f) where
    -- reads
    at-unseen : (m : Memory) (s o : ℕ) → peek (f m) (linear (f m).a20 s o) ≡ peek m (linear m.a20 s o)
    at-unseen m s o = u.peek_same m (linear (f m).a20 s o) ∙ ap (λ a. peek m (linear a s o)) (u.a20 m)

    bytes_from-unseen : (m : Memory) (s o n : ℕ) → bytes_from (f m) s o n ≡ bytes_from m s o n
    bytes_from-unseen m s o zero = refl
    bytes_from-unseen m s o (suc n) = ap₂ (λ b bs. b ∷ bs) (at-unseen m s (o % 65536)) (bytes_from-unseen m s (suc o) n)

    word-unseen : (m : Memory) (s o : ℕ) → peek16 (f m) s o ≡ peek16 m s o
    word-unseen m s o = simp (u.a20, u.peek_same)

    name-unseen : (m : Memory) (s o : ℕ) (name : List ℕ) → IsNameAt m s o name → IsNameAt (f m) s o name
    name-unseen m s o name x = record {
      short = x.short;
      bytes = x.bytes ∙ sym (bytes_from-unseen m s o (length name));
      before = λ k l e. x.before k l (sym (at-unseen m s ((o + k) % 65536)) ∙ e);
      closed = at-unseen m s ((o + length name) % 65536) ∙ x.closed;
    }

    names-unseen : (c : Cpu) (m : Memory) (store : List (List ℕ × List ℕ)) (name file : List ℕ) →
        Names c m store name file → Names c (f m) store name file
    names-unseen c m store name file x = record { named = name-unseen m c.ds c.dx name x.named; found = x.found }

    name_refused-unseen : (c : Cpu) (m : Memory) (store : List (List ℕ × List ℕ)) (e : ExecRefusal) →
        NameRefused c m store e → NameRefused c (f m) store e
    name_refused-unseen c m store NotFound (inl none) =
        inl (λ k l e. none k l (sym (at-unseen m c.ds ((c.dx + k) % 65536)) ∙ e))
    name_refused-unseen c m store NotFound (inr x) = inr (x.0, name-unseen m c.ds c.dx x.0 x.1, x.2)
    name_refused-unseen c m store BadFormat x = (x.0, x.1, names-unseen c m store x.0 x.1 x.2, x.3)
    name_refused-unseen c m store Function x = x
    name_refused-unseen c m store Environment x = x
    name_refused-unseen c m store Destroyed x = x
    name_refused-unseen c m store Short x = x

    pointer-unseen : (c : Cpu) (m : Memory) (k : ℕ) → pointer_at c (f m) k ≡ pointer_at c m k
    pointer-unseen c m k =
        ap₂ (λ s o. let p : FarPointer = record { segment = s; offset = o } in
        p) (word-unseen m c.es ((c.bx + (k + 2)) % 65536)) (word-unseen m c.es ((c.bx + k) % 65536))

    tail-unseen : (m : Memory) (p : FarPointer) → tail_at (f m) p ≡ tail_at m p
    unfolding tail_at
    tail-unseen m p =
        bytes_from-unseen m p.segment ((p.offset + 1) % 65536) _
        ∙ ap (λ b. bytes_from m p.segment ((p.offset + 1) % 65536) (min b 126)) (at-unseen m p.segment p.offset)

    block-unseen : (m : Memory) (p : FarPointer) → control_block (f m) p ≡ control_block m p
    unfolding control_block
    block-unseen m p = bytes_from-unseen m p.segment p.offset 16

    passed-unseen : (c : Cpu) (m : Memory) → passed c (f m) ≡ passed c m
    passed-unseen c m = λ i. record {
      tail = (tail-unseen m (pointer_at c (f m) 2) ∙ ap (tail_at m) (pointer-unseen c m 2)) i;
      first = (block-unseen m (pointer_at c (f m) 6) ∙ ap (control_block m) (pointer-unseen c m 6)) i;
      second = (block-unseen m (pointer_at c (f m) 10) ∙ ap (control_block m) (pointer-unseen c m 10)) i;
    }

    segment-unseen : (m : Memory) (present : ℕ) (c : Cpu) → environment_segment (f m) present c
        ≡ environment_segment m present c
    segment-unseen m present c = simp (word-unseen)

    end-unseen : (m : Memory) (s k : ℕ) → IsEnd m s k → IsEnd (f m) s k
    end-unseen m s k x = (at-unseen m s k ∙ x.0, λ l. at-unseen m s (k - 1) ∙ x.1 l)

    no_end-unseen : (m : Memory) (s k : ℕ) → IsEnd (f m) s k → IsEnd m s k
    no_end-unseen m s k x = (sym (at-unseen m s k) ∙ x.0, λ l. sym (at-unseen m s (k - 1)) ∙ x.1 l)

    variables-unseen : (m : Memory) (s : ℕ) (v : List ℕ) → AreVariables m s v → AreVariables (f m) s v
    variables-unseen m s v (inl x) = inl x
    variables-unseen m s v (inr x) = inr (
      x.0,
      (
        x.1.0,
        record {
          ends = end-unseen m s x.1.0 x.1.1.ends;
          first = λ k l e. x.1.1.first k l (no_end-unseen m s k e);
          within = x.1.1.within;
        },
        x.1.2 ∙ sym (bytes_from-unseen m s 0 x.1.0),
      ),
    )

    no_variables-unseen : (m : Memory) (s : ℕ) → NoVariables m s → NoVariables (f m) s
    no_variables-unseen m s x = (x.0, λ k l e. x.1 k l (no_end-unseen m s k e))

    abbrev asks-unseen : (ps : Processes) (c : Cpu) (m : Memory) (store : List (List ℕ × List ℕ)) → Asks ps c m store →
        Asks ps c (f m) store
    asks-unseen ps c m store a = record {
      action = a.action;
      name = a.name;
      file = a.file;
      names = (names-unseen c m store a.name a.file a.names.0, a.names.1);
      variables = a.variables;
      old = (let P : ℕ → Type 0 = λ s. AreVariables (f m) s a.variables in
          subst P (sym (segment-unseen m ps.present c)) (variables-unseen m _ a.variables a.old));
    }

    return_registers-unseen : (c : Cpu) (m : Memory) → return_registers c (f m) ≡ return_registers c m
    unfolding return_registers
    return_registers-unseen c m =
        ap (λ (g : Guest). let r : Cpu = g.cpu in let s : Cpu = record r { flags = record r.flags { carry = false } } in
        s) (interrupt_return-unseen f u (guest c m))

    -- writes
    apply-unseen : (ws : List Write) (m : Memory) → apply ws (f m) ≡ f (apply ws m)
    apply-unseen [] m = refl
    apply-unseen (w ∷ ws) m = ap (apply ws) (u.poke_same m w.address w.byte) ∙ apply-unseen ws (poke m w.address w.byte)

    applied-unseen : (g : Bool → List Write) (m n : Memory) → n ≡ apply (g m.a20) m → f n ≡ apply (g (f m).a20) (f m)
    applied-unseen g m n e = ap f e ∙ sym (apply-unseen (g m.a20) m) ∙ ap (λ a. apply (g a) (f m)) (sym (u.a20 m))

    prefix-unseen : (m : Memory) (p : Placed) (parent : ℕ) (a : Passed) → prefix (f m) p parent a ≡ prefix m p parent a
    unfolding prefix
    prefix-unseen m p parent a =
        ap (λ vectors. (0xCD ∷ 0x20 ∷ []) ++ word_bytes ((p.program + p.size) % 65536) ++ zeros 6 ++ vectors
        ++ word_bytes parent ++ zeros 20 ++ word_bytes p.environment ++ zeros 34 ++ (0xCD ∷ 0x21 ∷ 0xCB ∷ [])
        ++ zeros 9 ++ a.first ++ a.second ++ zeros 4 ++ (length a.tail ∷ []) ++ a.tail ++ (0x0D ∷ [])
        ++ zeros (126 - length a.tail))
        (bytes_from-unseen m 0 0x88 12)

    starts-unseen : (m : Memory) (st : Strategy) (env file : List ℕ) (parent : ℕ) (a : Passed) (placed : Placed)
        (n : Memory) →
        Starts up m st env file parent a placed n → Starts up (f m) st env file parent a placed (f n)
    starts-unseen m st env file parent a placed n s = record {
      middle = f s.middle;
      plans = pairing-unseen up f u m s.middle st (paragraphs (length env)) (least file) (most file)
          (Ok placed) s.plans;
      memory = applied-unseen (λ b. start_writes b placed env (prefix m placed parent a) file) s.middle n s.memory
          ∙ ap (λ xs. apply (start_writes (f s.middle).a20 placed env xs file) (f s.middle))
          (sym (prefix-unseen m placed parent a));
    }

    plan_refused-unseen : (m : Memory) (st : Strategy) (k : ℕ) (file : List ℕ) (e : ExecRefusal) →
        PlanRefused up m st k file e → PlanRefused up (f m) st k file e
    plan_refused-unseen m st k file Destroyed x = pairing-unseen up f u m m st (paragraphs k) (least file) (most file)
        (Err arena.Destroyed) x
    plan_refused-unseen m st k file Short x =
        (x.0, pairing-unseen up f u m m st (paragraphs k) (least file) (most file) (Err (arena.Short x.0)) x.1)
    plan_refused-unseen m st k file Function x = x
    plan_refused-unseen m st k file NotFound x = x
    plan_refused-unseen m st k file BadFormat x = x
    plan_refused-unseen m st k file Environment x = x

    exec_refused-unseen : (ps : Processes) (c : Cpu) (m : Memory) (store : List (List ℕ × List ℕ)) (st : Strategy)
        (e : ExecRefusal) → ExecRefused up ps c m store st e → ExecRefused up ps c (f m) store st e
    exec_refused-unseen ps c m store st Function x = x
    exec_refused-unseen ps c m store st NotFound x = (x.0, name_refused-unseen c m store NotFound x.1)
    exec_refused-unseen ps c m store st BadFormat x = (x.0, name_refused-unseen c m store BadFormat x.1)
    exec_refused-unseen ps c m store st Environment x = (
      x.0,
      (x.1.0, x.1.1, (names-unseen c m store x.1.0 x.1.1 x.1.2.0, x.1.2.1)),
      (let P : ℕ → Type 0 = λ s. NoVariables (f m) s in subst P (sym (segment-unseen m ps.present c))
          (no_variables-unseen m _ x.2)),
    )
    exec_refused-unseen ps c m store st Destroyed x = (
      asks-unseen ps c m store x.0,
      plan_refused-unseen m st _ _ Destroyed x.1,
    )
    exec_refused-unseen ps c m store st Short x = (
      asks-unseen ps c m store x.0,
      elim x.1 [
        | inl s ↦ inl (plan_refused-unseen m st _ _ Short s)
        | inr s ↦ inr ((s.0.0, pair-unseen up f u m first_header st _ _ _ s.0.0 s.0.1), s.1)
      ],
    )

    pub exec-unseen : (ps : Processes) (c : Cpu) (m : Memory) (store : List (List ℕ × List ℕ)) (st : Strategy)
        (r : Result (Unit {0}) ExecRefusal) (qs : Processes) (d : Cpu) (n : Memory) →
        Executes up ps c m store st r qs d n → Executes up ps c (f m) store st r qs d (f n)
    exec-unseen ps c m store st (Ok x) qs d n e = record {
      asks = asks-unseen ps c m store e.asks;
      few = e.few;
      placed = e.placed;
      starts = (let P : Passed → Type 0 = λ a. Starts up (f m) st (environment_of e.asks) e.asks.file ps.present a
          e.placed (f n) in subst P (sym (passed-unseen c m)) (starts-unseen m st _ _ _ _ e.placed n e.starts));
      registers = e.registers;
      processes = e.processes ∙ ap (λ (z : Cpu). record ps {
        present = e.placed.program;
        parents = ps.parents ++ record { segment = ps.present; cpu = z } ∷ [];
      }) (sym (return_registers-unseen c m));
    }
    exec-unseen ps c m store st (Err e) qs d n x = (x.0, x.1, ap f x.2, exec_refused-unseen ps c m store st e x.3)

    pub load-unseen : (m : Memory) (st : Strategy) (file variables name : List ℕ) (a : Passed) (r : Result (Processes ×
        Cpu) ExecRefusal) (n : Memory) →
        Loads up m st file variables name a r n → Loads up (f m) st file variables name a r (f n)
    load-unseen m st file variables name a (Ok d) n x = record {
      placed = x.placed;
      starts = starts-unseen m st _ _ _ _ x.placed n x.starts;
      registers = x.registers;
      processes = x.processes;
    }
    load-unseen m st file variables name a (Err e) n x = (ap f x.0, plan_refused-unseen m st _ _ e x.1)

    overlay_refused-unseen : (c : Cpu) (m : Memory) (store : List (List ℕ × List ℕ)) (e : ExecRefusal) →
        OverlayRefused c m store e → OverlayRefused c (f m) store e
    overlay_refused-unseen c m store Function x = x
    overlay_refused-unseen c m store NotFound x = (x.0, name_refused-unseen c m store NotFound x.1)
    overlay_refused-unseen c m store BadFormat x = (x.0, name_refused-unseen c m store BadFormat x.1)
    overlay_refused-unseen c m store Environment x = x
    overlay_refused-unseen c m store Destroyed x = x
    overlay_refused-unseen c m store Short x = x

    pub overlay-unseen : (c : Cpu) (m : Memory) (store : List (List ℕ × List ℕ)) (r : Result (Unit {0}) ExecRefusal)
        (n : Memory) → Overlays c m store r n → Overlays c (f m) store r (f n)
    overlay-unseen c m store (Ok x) n l = record {
      action = l.action;
      name = l.name;
      file = l.file;
      names = (names-unseen c m store l.name l.file l.names.0, l.names.1);
      memory = applied-unseen (λ b. block b (load_segment c m) (relocated l.file (relocation_factor c m))) m n l.memory
          ∙ ap₂ (λ s k. apply (block (f m).a20 s (relocated l.file k)) (f m)) (sym (word-unseen m c.es c.bx))
          (sym (word-unseen m c.es ((c.bx + 2) % 65536)));
    }
    overlay-unseen c m store (Err e) n x = (ap f x.0, overlay_refused-unseen c m store e x.1)

    ends-unseen : (ps : Processes) (c : Cpu) (m : Memory) (word : ℕ) (e : Ending) (qs : Processes) (d : Cpu)
        (n : Memory) → Ends ps c m word e qs d n → Ends ps c (f m) word e qs d (f n)
    unfolding vectors_back
    ends-unseen ps c m word e qs d n x = record {
      memory = applied-unseen (λ b. upwards b 0 0x88 (bytes_from m ps.present 0x0A 12)) m n x.memory
          ∙ ap (λ xs. apply (upwards (f m).a20 0 0x88 xs) (f m)) (sym (bytes_from-unseen m ps.present 0x0A 12));
      goes_on = x.goes_on;
    }

    pub terminating-unseen : (ps : Processes) (c : Cpu) (m : Memory) (code : ℕ) (r : Result Ending ArenaDestroyed)
        (qs : Processes) (d : Cpu) (n : Memory) →
        Terminates up ps c m code r qs d n → Terminates up ps c (f m) code r qs d (f n)
    terminating-unseen ps c m code (Ok e) qs d n x = (
      f x.0,
      releasing-unseen up f u m x.0 ps.present (Ok tt) x.1,
      ends-unseen ps c x.0 code e qs d n x.2,
    )
    terminating-unseen ps c m code (Err e) qs d n x = (
      x.0,
      x.1,
      ap f x.2,
      releasing-unseen up f u m m ps.present (Err arena.Destroyed) x.3,
    )

    pub keeping-unseen : (ps : Processes) (c : Cpu) (m : Memory) (code k : ℕ) (r : Result Ending ArenaDestroyed)
        (qs : Processes) (d : Cpu) (n : Memory) →
        StaysResident up ps c m code k r qs d n → StaysResident up ps c (f m) code k r qs d (f n)
    keeping-unseen ps c m code k (Ok e) qs d n x = (
      x.0,
      f x.1,
      resizing-unseen up f u m x.1 ps.present k x.0 x.2,
      x.3,
      ends-unseen ps c x.1 (0x300 + code) e qs d n x.4,
    )
    keeping-unseen ps c m code k (Err e) qs d n x = (
      x.0,
      x.1,
      ap f x.2,
      resizing-unseen up f u m m ps.present k (Err arena.Destroyed) x.3,
    )

pub ignores_unseen : IgnoresUnseen
ignores_unseen f u = record {
  starting = λ upper. exec-unseen upper f u;
  load = λ upper. load-unseen upper f u;
  overlay = overlay-unseen false f u;
  terminating = λ upper. terminating-unseen upper f u;
  staying = λ upper. keeping-unseen upper f u;
}
