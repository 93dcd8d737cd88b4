-- The list of blocks after an end.
use Rattle.std.proofs.Common.{Bool, ◌≡◌, ℕ, ◌+◌, ◌*◌, List, ◌⊎◌, inl, inr, refl, sym, ◌∙◌, ap, subst, arith}
use Rattle.dm_space.specs.Memory.{Fits, Memory, peek}
use Rattle.dm_space.specs.Places.{IsShaped}
use Rattle.dm_blocks.specs.declared.header.Header.{Header}
use Rattle.dm_blocks.specs.Chain.{IsArena, IsChain, first_header}
use Rattle.dm_blocks.proofs.Chains.{Agrees, spells_above, spells_kept}
use Rattle.dm_blocks.proofs.Unique.{arena_unique, chain_unique}
use Rattle.dm_arena.specs.Owned.{ReleasesBoth, ReleasesOne, released}
use Rattle.dm_arena.specs.Pair.{Placed, Planned, with_pair}
use Rattle.dm_laws.specs.arena.Pairs.{OwnsNone}
use Rattle.dm_laws.proofs.arena.Conserved.{becomes_arena}
use Rattle.dm_laws.proofs.arena.Released.{back}
use Rattle.dm_proc.specs.Processes.{vectors_back}
use Rattle.dm_proc.specs.Writes.{Write, apply, bytes_from, upwards}
use Rattle.dm_laws.specs.processes.Lives.{ArenaIsBack}
use Rattle.dm_laws.proofs.processes.Written.{Between, fits-shaped, from-length, untouched, upwards-between}

-- the twelve writes of the vectors
abbrev pub vector_writes : Memory → ℕ → List Write
vector_writes g s = upwards g.a20 0 0x88 (bytes_from g s 0x0A 12)

pub vectors-applied : (g : Memory) (s : ℕ) → vectors_back g s ≡ apply (vector_writes g s) g
unfolding vectors_back
vectors-applied g s = refl

pub vectors-between : (g : Memory) (s : ℕ) → Between 0x88 0x94 (vector_writes g s)
vectors-between g s = upwards-between g.a20 0 0x88 0x88 0x94 (bytes_from g s 0x0A 12) (omega arith) (let e =
    from-length g s 0x0A 12 in omega arith) (omega arith)

-- what is spelled once the owner's blocks are freed, and the map
pub released-chain : (upper : Bool) (e g : Memory) (o : ℕ) (taken : List Header) → IsArena e first_header taken →
    ReleasesOne upper e o g ⊎ ReleasesBoth upper e o g → IsChain g first_header (released o taken)
released-chain upper e g o taken a (inl r) = let F : List Header → Type 0 =
    λ X. IsChain g first_header (released o X) in subst F (arena_unique e first_header r.list taken r.arena a)
    r.becomes.chain
released-chain upper e g o taken a (inr r) = let F : List Header → Type 0 =
    λ X. IsChain g first_header (released o X) in subst F (arena_unique e first_header r.first taken r.arena a)
    r.first_chain

pub released-shape : (upper : Bool) (e g : Memory) (o : ℕ) → ReleasesOne upper e o g ⊎ ReleasesBoth upper e o g →
    IsShaped e g
released-shape upper e g o (inl r) = r.becomes.differs.shape
released-shape upper e g o (inr r) = r.differs.shape

-- the vectors are below every header
pub vectors-chain : (g : Memory) (s : ℕ) (L : List Header) → Fits g → IsChain g first_header L →
    IsChain (vectors_back g s) first_header L
vectors-chain g s L f c =
    let v = vector_writes g s in
    let agrees : Agrees g (vectors_back g s) L = record {
      same = λ h k w small. ap (λ x. peek x (16 * h + k)) (vectors-applied g s)
          ∙ untouched 0x88 0x94 (16 * h + k) v g (vectors-between g s) (omega arith) (inr (let y =
          spells_above g first_header L c.1 h w in omega arith)) f;
    } in
    (c.0, spells_kept g (vectors_back g s) first_header L agrees c.1)

pub blocks_back : ArenaIsBack
blocks_back upper ps rs c r m f store strategy code l old taken new k a x none link =
    let plans = l.execs.starts.plans in
    let pair : Planned = plans.0 in
    let pairing = plans.1.pairing in
    let started : l.started.present ≡ pair.program = ap (λ z. z.present) l.execs.processes
    ∙ ap (λ (z : Placed). z.program) plans.2 in
    let here : l.ending.present ≡ pair.program = l.present ∙ started in
    let same : taken ≡ with_pair pairing = arena_unique l.execs.starts.middle first_header taken
    (with_pair pairing) k.at_first (becomes_arena m l.execs.starts.middle (with_pair pairing) plans.3) in
    let g : Memory = l.ends.0 in
    let rel = l.ends.1 in
    let fits : Fits g = fits-shaped l.last g (released-shape upper l.last g l.ending.present rel) k.fits in
    let chain : IsChain (vectors_back g l.ending.present) first_header (released l.ending.present taken) =
    vectors-chain g l.ending.present (released l.ending.present taken) fits
    (released-chain upper l.last g l.ending.present taken k.at_last rel) in
    let F : Memory → Type 0 = λ z. IsChain z first_header (released l.ending.present taken) in
    let N : ℕ → Type 0 = λ z. OwnsNone z old in
    let news : new ≡ released l.ending.present taken =
    chain_unique f first_header new (released l.ending.present taken) x.0 (subst F (sym l.ends.2.memory) chain) in
    back upper m strategy _ _ _ pair.program pair.size pairing old new
    (arena_unique m first_header old pairing.first.list a pairing.first.arena)
    (news ∙ ap (λ z. released z taken) here ∙ ap (released pair.program) same)
    (subst N started none) link
