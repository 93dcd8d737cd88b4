-- Parts of a step keep the map of memory: all that they write are bytes
use Rattle.std.proofs.Common.{inl, inr, ◌≡◌, ℕ, suc, ◌%◌, List, [], ◌∷◌, Result, Ok, Err, Bool, true, false, sym, subst}
use Rattle.dm_space.specs.Memory.{Memory, poke, poke16, linear}
use Rattle.dm_space.specs.Buffers.{with_bytes}
use Rattle.dm_space.specs.Places.{IsShaped}
use Rattle.dm_space.proofs.Places.{shaped-same, shaped-then, poke-shaped}
use Rattle.dm_cpu.specs.declared.cpu.Cpu.{Cpu}
use Rattle.dm_cpu.specs.Guest.{guest}
use Rattle.dm_cpu.specs.Stack.{interrupt_return}
use Rattle.dm_arena.specs.declared.fit.Strategy.{Strategy}
use Rattle.dm_arena.specs.declared.refusal.ArenaRefusal.{ArenaRefusal}
use Rattle.dm_arena.specs.Allocation.{Allocates}
use Rattle.dm_arena.specs.Owned.{Frees, Resizes, Releases}
use Rattle.dm_arena.specs.Linking.{Links}
use Rattle.dm_arena.specs.Pair.{Placed, Pairs}
use Rattle.dm_proc.specs.declared.refusal.ExecRefusal.{ExecRefusal}
use Rattle.dm_proc.specs.declared.refusal.ArenaDestroyed.{ArenaDestroyed}
use Rattle.dm_proc.specs.declared.parent.Ending.{Ending}
use Rattle.dm_proc.specs.Writes.{Write, apply, upwards, bytes_from}
use Rattle.dm_proc.specs.Request.{Passed}
use Rattle.dm_proc.specs.Start.{start_writes, prefix}
use Rattle.dm_proc.specs.Processes.{Processes, Starts, Executes, Overlays, vectors_back, Ends, Terminates, StaysResident}

-- a memory that is the same
pub unchanged : (S T : Memory) → T ≡ S → IsShaped S T
unchanged S T e = subst (λ m. IsShaped S m) (sym e) (shaped-same S)

-- a memory that is another one of the map
another : (S m T : Memory) → T ≡ m → IsShaped S m → IsShaped S T
another S m T e h = subst (λ n. IsShaped S n) (sym e) h

pub byte-kept : (S m : Memory) (a v : ℕ) → IsShaped S m → IsShaped S (poke m a v)
byte-kept S m a v h = shaped-then S m (poke m a v) h (poke-shaped m a v)

pub word-kept : (S m : Memory) (s o v : ℕ) → IsShaped S m → IsShaped S (poke16 m s o v)
word-kept S m s o v h = byte-kept S _ _ _ (byte-kept S m _ _ h)

pub bytes-kept : (S m : Memory) (s o : ℕ) (bytes : List ℕ) → IsShaped S m → IsShaped S (with_bytes m s o bytes)
unfolding with_bytes
bytes-kept S m s o [] h = h
bytes-kept S m s o (b ∷ bytes) h = bytes-kept S (poke m (linear m.a20 s (o % 65536)) b) s (suc o) bytes
    (byte-kept S m _ b h)

writes-kept : (S m : Memory) (ws : List Write) → IsShaped S m → IsShaped S (apply ws m)
writes-kept S m [] h = h
writes-kept S m (w ∷ ws) h = writes-kept S (poke m w.address w.byte) ws (byte-kept S m w.address w.byte h)

-- back in the program
pub return-kept : (S : Memory) (c : Cpu) (m : Memory) → IsShaped S m → IsShaped S (interrupt_return (guest c m)).memory
unfolding interrupt_return
return-kept S c m h = h

-- ---- blocks

pub allocates-kept : (upper : Bool) (S : Memory) (strategy : Strategy) (n owner : ℕ) (r : Result ℕ ArenaRefusal)
    (T : Memory) → Allocates upper S strategy n owner r T → IsShaped S T
allocates-kept upper S strategy n owner (Ok segment) T a = a.2.differs.shape
allocates-kept upper S strategy n owner (Err e) T a = unchanged S T a.0

pub frees-kept : (upper : Bool) (S : Memory) (segment : ℕ) (r : Result (Unit {0}) ArenaRefusal) (T : Memory) →
    Frees upper S segment r T → IsShaped S T
frees-kept upper S segment (Ok u) T a = a.1.differs.shape
frees-kept upper S segment (Err e) T a = unchanged S T a.0

pub resizes-kept : (upper : Bool) (S : Memory) (segment n : ℕ) (r : Result (Unit {0}) ArenaRefusal) (T : Memory) →
    Resizes upper S segment n r T → IsShaped S T
resizes-kept upper S segment n (Ok u) T a = a.2.differs.shape
resizes-kept upper S segment n (Err e) T a = unchanged S T a.0

pub links-kept : (S : Memory) (on : Bool) (r : Result (Unit {0}) ArenaRefusal) (T : Memory) → Links S on r T →
    IsShaped S T
links-kept S true (Ok u) T (inl a) = unchanged S T a.same
links-kept S true (Ok u) T (inr a) = a.becomes.differs.shape
links-kept S false (Ok u) T (inl a) = unchanged S T a.same
links-kept S false (Ok u) T (inr a) = a.becomes.differs.shape
links-kept S true (Err e) T a = unchanged S T a.0
links-kept S false (Err e) T a = unchanged S T a.0

releases-kept : (upper : Bool) (S : Memory) (owner : ℕ) (r : Result (Unit {0}) ArenaRefusal) (T : Memory) →
    Releases upper S owner r T → IsShaped S T
releases-kept upper S owner (Ok u) T (inl a) = a.becomes.differs.shape
releases-kept upper S owner (Ok u) T (inr a) = a.differs.shape
releases-kept upper S owner (Err e) T a = unchanged S T a.0

pairs-kept : (upper : Bool) (S : Memory) (strategy : Strategy) (environment least most : ℕ)
    (r : Result Placed ArenaRefusal) (T : Memory) → Pairs upper S strategy environment least most r T → IsShaped S T
pairs-kept upper S strategy environment least most (Ok placed) T a = a.3.differs.shape
pairs-kept upper S strategy environment least most (Err e) T a = unchanged S T a.0

-- ---- programs

pub starts-kept : (upper : Bool) (S : Memory) (strategy : Strategy) (environment file : List ℕ) (parent : ℕ)
    (a : Passed) (placed : Placed) (T : Memory) →
    Starts upper S strategy environment file parent a placed T → IsShaped S T
starts-kept upper S strategy environment file parent a placed T s =
    another S _ T s.memory (writes-kept S s.middle (start_writes s.middle.a20 placed environment
    (prefix S placed parent a) file) (pairs-kept upper S strategy _ _ _ (Ok placed) s.middle s.plans))

pub executes-kept : (upper : Bool) (ps : Processes) (c : Cpu) (S : Memory) (store : List (List ℕ ×
    List ℕ)) (strategy : Strategy) (r : Result (Unit {0}) ExecRefusal) (qs : Processes) (d : Cpu) (T : Memory) →
    Executes upper ps c S store strategy r qs d T → IsShaped S T
executes-kept upper ps c S store strategy (Ok x) qs d T a = starts-kept upper S strategy _ _ _ _ a.placed T a.starts
executes-kept upper ps c S store strategy (Err e) qs d T a = unchanged S T a.2

pub overlays-kept : (c : Cpu) (S : Memory) (store : List (List ℕ × List ℕ)) (r : Result (Unit {0}) ExecRefusal)
    (T : Memory) → Overlays c S store r T → IsShaped S T
overlays-kept c S store (Ok x) T a = another S _ T a.memory (search (writes-kept, shaped-same))
overlays-kept c S store (Err e) T a = unchanged S T a.0

vectors-kept : (S m : Memory) (segment : ℕ) → IsShaped S m → IsShaped S (vectors_back m segment)
unfolding vectors_back
vectors-kept S m segment h = writes-kept S m (upwards m.a20 0 0x88 (bytes_from m segment 0x0A 12)) h

ends-kept : (S : Memory) (ps : Processes) (c : Cpu) (m : Memory) (word : ℕ) (ending : Ending) (qs : Processes) (d : Cpu)
    (T : Memory) →
    IsShaped S m → Ends ps c m word ending qs d T → IsShaped S T
ends-kept S ps c m word ending qs d T h a = another S _ T a.memory (vectors-kept S m ps.present h)

pub terminates-kept : (upper : Bool) (ps : Processes) (c : Cpu) (S : Memory) (code : ℕ)
    (r : Result Ending ArenaDestroyed) (qs : Processes) (d : Cpu) (T : Memory) →
    Terminates upper ps c S code r qs d T → IsShaped S T
terminates-kept upper ps c S code (Ok ending) qs d T a =
    ends-kept S ps c a.0 code ending qs d T (releases-kept upper S ps.present (Ok tt) a.0 a.1) a.2
terminates-kept upper ps c S code (Err e) qs d T a = unchanged S T a.2

pub keeps-kept : (upper : Bool) (ps : Processes) (c : Cpu) (S : Memory) (code paragraphs : ℕ)
    (r : Result Ending ArenaDestroyed) (qs : Processes) (d : Cpu) (T : Memory) →
    StaysResident upper ps c S code paragraphs r qs d T → IsShaped S T
keeps-kept upper ps c S code paragraphs (Ok ending) qs d T a =
    ends-kept S ps c a.1 _ ending qs d T (resizes-kept upper S ps.present paragraphs a.0 a.1 a.2) a.4
keeps-kept upper ps c S code paragraphs (Err e) qs d T a = unchanged S T a.2
