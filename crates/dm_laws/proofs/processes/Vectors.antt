-- The vectors after an end.
use Rattle.std.proofs.Common.{Bool, ◌≡◌, ◌≢◌, ℕ, zero, suc, ◌+◌, ◌-◌, ◌*◌, ◌/◌, ◌%◌, ◌<◌, ◌≤◌, min, true, false, if◌then◌else◌, List, [], ◌∷◌, ◌++◌, length, get_or, ◌⊎◌, inl, inr, refl, sym, ◌∙◌, ap, subst, arith, length-append}
use Rattle.std.proofs.lemmas.List.{length-replicate}
use Rattle.dm_space.specs.Memory.{Fits, Memory, byte_at, linear, peek, place}
use Rattle.dm_space.proofs.Places.{linear-low, peek-place, place-shaped}
use Rattle.dm_blocks.specs.declared.header.Header.{Header}
use Rattle.dm_blocks.specs.Chain.{HasHeader, IsArena, first_header, link_header, next}
use Rattle.dm_blocks.proofs.Chains.{has_either, spells_above}
use Rattle.dm_blocks.proofs.Unique.{arena_unique}
use Rattle.dm_arena.specs.Blocks.{IsIn, cut_block, in_effect}
use Rattle.dm_arena.specs.Allocation.{with_cut}
use Rattle.dm_arena.specs.Owned.{ReleasesBoth, ReleasesOne, released}
use Rattle.dm_arena.specs.Pair.{Placed, Planned, with_pair}
use Rattle.dm_arena.proofs.Allocating.{fits_size}
use Rattle.dm_arena.proofs.Ends.{fills_of}
use Rattle.dm_laws.proofs.arena.Conserved.{becomes_arena}
use Rattle.dm_laws.proofs.arena.Cuts.{cut-is, cut-there, taken as block_taken}
use Rattle.dm_laws.proofs.arena.Kept.{fills-length, outside, within}
use Rattle.dm_laws.proofs.arena.Within.{in_left, in_right}
use Rattle.dm_load.specs.Image.{image, is_mz, minimum, relocated, relocations}
use Rattle.dm_load.proofs.Relocating.{length-relocated}
use Rattle.dm_cpu.specs.declared.cpu.Cpu.{Cpu}
use Rattle.dm_proc.specs.Request.{Passed, control_block, passed, pointer_at, tail_at}
use Rattle.dm_proc.specs.Room.{least}
use Rattle.dm_proc.specs.Start.{com_stack, prefix, start, start_writes, stack_writes, word_bytes, zero_word, zeros}
use Rattle.dm_proc.specs.Writes.{apply, block, bytes_from}
use Rattle.dm_laws.specs.processes.Lives.{VectorsAreBack}
use Rattle.dm_laws.proofs.processes.Written.{Between, apart, apply-append, fits-apply, fits-shaped, from-length, from-low, from-same, untouched, upwards-between, upwards-read}
use Rattle.dm_laws.proofs.processes.Blocks.{released-shape, vectors-applied}

length-zeros : (n : ℕ) → length (zeros n) ≡ n
unfolding zeros
length-zeros n = length-replicate n 0

get-after : (xs ys : List ℕ) (i : ℕ) → get_or (xs ++ ys) (length xs + i) 0 ≡ get_or ys i 0
get-after [] ys i = ap (λ z. get_or ys z 0) (let e : 0 + i ≡ i = omega arith in e)
get-after (x ∷ xs) ys i = ap (λ z. get_or (x ∷ (xs ++ ys)) z 0) (let e : suc (length xs) + i ≡ suc (length xs + i) =
    omega arith in e) ∙ get-after xs ys i

get-before : (xs ys : List ℕ) (i : ℕ) → i < length xs → get_or (xs ++ ys) i 0 ≡ get_or xs i 0
get-before [] ys i h = absurd (omega arith)
get-before (x ∷ xs) ys zero h = refl
get-before (x ∷ xs) ys (suc i) h = get-before xs ys i (omega arith)

-- the prefix: its length, and the vectors in it
tail-short : (m : Memory) (c : Cpu) → length (passed c m).tail ≤ 126
unfolding tail_at
tail-short m c = (let e = from-length m (pointer_at c m 2).segment (((pointer_at c m 2).offset + 1) % 65536)
    (min (peek m (linear m.a20 (pointer_at c m 2).segment (pointer_at c m 2).offset)) 126) in omega arith)

first-length : (m : Memory) (c : Cpu) → length (passed c m).first ≡ 16
unfolding control_block
first-length m c = from-length m (pointer_at c m 6).segment (pointer_at c m 6).offset 16

second-length : (m : Memory) (c : Cpu) → length (passed c m).second ≡ 16
unfolding control_block
second-length m c = from-length m (pointer_at c m 10).segment (pointer_at c m 10).offset 16

prefix-length : (m : Memory) (p : Placed) (parent : ℕ) (a : Passed) → length a.tail ≤ 126 → length a.first ≡ 16 →
    length a.second ≡ 16 → length (prefix m p parent a) ≡ 256
unfolding prefix
prefix-length m p parent a h f s = simp (length-append, length-zeros, from-length) (omega arith)

prefix-vectors : (m : Memory) (p : Placed) (parent : ℕ) (a : Passed) (i : ℕ) → i < 12 →
    get_or (prefix m p parent a) (10 + i) 0 ≡ get_or (bytes_from m 0 0x88 12) i 0
unfolding prefix zeros
prefix-vectors m p parent a i h =
    let B = bytes_from m 0 0x88 12 in
    let Y : List ℕ = word_bytes parent ++ zeros 20 ++ word_bytes p.environment ++ zeros 34 ++ (0xCD ∷ 0x21 ∷ 0xCB ∷ [])
    ++ zeros 9 ++ a.first ++ a.second ++ zeros 4 ++ (length a.tail ∷ []) ++ a.tail ++ (0x0D ∷ [])
    ++ zeros (126 - length a.tail) in
    let W = word_bytes ((p.program + p.size) % 65536) in
    let l = from-length m 0 0x88 12 in
    let z = length-zeros 6 in
    let e : 10 + i ≡ 2 + (2 + (length (zeros 6) + i)) = omega arith in
    ap (λ k. get_or (prefix m p parent a) k 0) e
    ∙ get-after (0xCD ∷ 0x20 ∷ []) (W ++ zeros 6 ++ B ++ Y) (2 + (length (zeros 6) + i))
    ∙ get-after W (zeros 6 ++ B ++ Y) (length (zeros 6) + i) ∙ get-after (zeros 6) (B ++ Y) i
    ∙ get-before B Y i (omega arith)

-- the program's block holds prefix, image and the first word of stack
least-holds : (file : List ℕ) (t : Bool) (k : ℕ) → is_mz file ≡ t →
    (if t then 0x10 + (length (image file) + 15) / 16 + minimum file else 0x10 + (length (image file) + 2 + 15) / 16)
    ≤ k → (256 + length (image file) ≤ 16 * k) × (t ≡ false → 0x10 < k)
least-holds file true k e h = (omega arith, λ z. absurd (let w : true ≡ false = z in cc))
least-holds file false k e h = (omega arith, λ z. omega arith)

least-is : (file : List ℕ) (k : ℕ) → least file ≤ k → (256 + length (image file) ≤ 16 * k) ×
    (is_mz file ≡ false → 0x10 < k)
unfolding least
least-is file k h = least-holds file (is_mz file) k refl h

stack-low : (a20 : Bool) (p o : ℕ) → 16 * p + o < 0xC0000 → linear a20 p o ≡ 16 * p + o
stack-low a20 p o h = (let y : p * 16 + o ≡ 16 * p + o = omega arith in linear-low a20 p o (omega arith) ∙ y)

stack-between : (a20 : Bool) (p : Placed) (file : List ℕ) (t : Bool) → (t ≡ false → 0x10 < p.size) →
    p.program + p.size ≤ 0xA000 → Between (16 * p.program + 256) (16 * (p.program + p.size)) (if t then [] else
    zero_word a20 p.program (com_stack p))
stack-between a20 p file true big low = tt
stack-between a20 p file false big low =
    let k = big refl in
    let s = com_stack p in
    let o : (s + 1) % 65536 ≡ s + 1 = omega arith in
    let one = stack-low a20 p.program s (omega arith) in
    let two : linear a20 p.program ((s + 1) % 65536) ≡ 16 * p.program + (s + 1) = ap (linear a20 p.program) o
    ∙ stack-low a20 p.program (s + 1) (omega arith) in
    (omega arith, omega arith, (omega arith, omega arith, tt))

-- what stands in the prefix after the start
module _ (a20 : Bool) (p : Placed) (environment bytes file : List ℕ) (mid : Memory) (fits : Fits mid)
    (holds : 256 + length (image file) ≤ 16 * p.size) (big : is_mz file ≡ false →
    0x10 < p.size) (low : p.program + p.size ≤ 0xA000) (whole : length bytes ≡ 256) where
  image-between : Between (16 * p.program + 256) (16 * (p.program + p.size)) (block a20 (start p)
      (relocated file (start p)))
  image-between =
      let at : start p ≡ p.program + 16 = omega arith in
      let n = length-relocated (relocations file) file (start p) in
      upwards-between a20 (start p) 0 (16 * p.program + 256) (16 * (p.program + p.size)) (relocated file (start p))
      (omega arith) (omega arith) (omega arith)

  pub prefix-read : (i : ℕ) → i < 256 → peek (apply (start_writes a20 p environment bytes file) mid)
      (16 * p.program + i) ≡ get_or bytes i 0
  unfolding start_writes
  prefix-read i h =
      let E = block a20 p.environment environment in
      let X = block a20 p.program bytes in
      let I = block a20 (start p) (relocated file (start p)) in
      let K = stack_writes a20 p file in
      let n : Memory = apply E mid in
      let o : Memory = apply X n in
      let fn = fits-apply E mid fits in
      let a : 16 * p.program + i ≡ 16 * p.program + 0 + i = omega arith in
      let q : Memory = apply I o in
      let fo = fits-apply X n fn in
      let k-between = stack-between a20 p file (is_mz file) big low in
      ap (λ x. peek x (16 * p.program + i)) (apply-append (E ++ X ++ I) K mid
      ∙ ap (apply K) (apply-append (E ++ X) I mid ∙ ap (apply I) (apply-append E X mid)))
      ∙ untouched (16 * p.program + 256) (16 * (p.program + p.size)) (16 * p.program + i) K q k-between (omega arith)
      (inl (omega arith)) (fits-apply I o fo)
      ∙ untouched (16 * p.program + 256) (16 * (p.program + p.size)) (16 * p.program + i) I o image-between
      (omega arith) (inl (omega arith)) fo
      ∙ ap (peek o) a ∙ upwards-read a20 p.program 0 i bytes n fn (omega arith) (omega arith)

-- freeing an owner's blocks writes headers alone
released-back : (o : ℕ) (L : List Header) (g : ℕ) → HasHeader (released o L) g → HasHeader L g
released-back o [] g w = absurd w
released-back o (b ∷ L) g (inl e) = inl e
released-back o (b ∷ L) g (inr w) = inr (released-back o L g w)

released-keeps : (upper : Bool) (e g : Memory) (o : ℕ) (taken : List Header) → IsArena e first_header taken →
    ReleasesOne upper e o g ⊎ ReleasesBoth upper e o g → (b : Header) → IsIn b taken → (a : ℕ) → a < 0x9FFF0 →
    16 * (b.segment + 1) ≤ a → a < 16 * next b → peek g a ≡ peek e a
released-keeps upper e g o taken t r b i a low from to = peek-place g a
    ∙ ap (byte_at g) (place-shaped e g (released-shape upper e g o r) a) ∙ kept r ∙ sym (peek-place e a)
  where
    first-apart : (h k : ℕ) → HasHeader taken h → k < 5 → place e a ≢ place e (16 * h + k)
    first-apart h k w small q =
        let r = fills_of e first_header taken t.0.1 in
        let ne : 16 * h + k ≢ a = λ z. elim (outside first_header r.0 taken r.1 b i h w) [
          | inl y ↦ omega arith
          | inr y ↦
              omega arith
        ] in
        apart e (16 * h + k) a (omega arith) ne (sym q)

    second-apart : (h k : ℕ) → link_header ≤ h → place e a ≢ place e (16 * h + k)
    second-apart h k y q = apart e (16 * h + k) a (omega arith) (omega arith) (sym q)

    kept : ReleasesOne upper e o g ⊎ ReleasesBoth upper e o g → byte_at g (place e a) ≡ byte_at e (place e a)
    kept (inl x) = x.becomes.differs.kept (place e a) (λ h k w small. first-apart h k (let F : List Header → Type 0 =
        λ X. HasHeader X h in subst F (arena_unique e first_header x.list taken x.arena t) (released-back o x.list h w))
        small)
    kept (inr x) = x.differs.kept (place e a) (λ h k w small. elim (has_either (released o x.first)
        (released o x.second) h w) [
          | inl u ↦ first-apart h k (let F : List Header → Type 0 = λ X. HasHeader X h in
              subst F (arena_unique e first_header x.first taken x.arena t) (released-back o x.first h u)) small
          | inr u ↦ second-apart h k (spells_above g link_header (released o x.second) x.second_chain.1 h u)
        ])

pub vectors_kept : VectorsAreBack
vectors_kept upper ps rs c r m f store strategy code l taken k fits_m low saved =
    let starts = l.execs.starts in
    let mid : Memory = starts.middle in
    let plans = starts.plans in
    let placed : Placed = l.execs.placed in
    let pair : Planned = plans.0 in
    let p = plans.1.pairing in
    let P : ℕ = placed.program in
    let file = l.execs.asks.file in
    let program : placed.program ≡ pair.program = ap (λ (z : Placed). z.program) plans.2 in
    let size : placed.size ≡ pair.size = ap (λ (z : Placed). z.size) plans.2 in
    let started : l.started.present ≡ P = ap (λ z. z.present) l.execs.processes in
    let here : l.ending.present ≡ P = l.present ∙ started in
    let block : Header = block_taken strategy.fit pair.size pair.program p.block in
    let cut = cut-is strategy.fit pair.size pair.program p.block (fits_size upper
    (in_effect upper (with_cut p.first pair.program) strategy) pair.size p.block p.fit.fit) in
    let is : taken ≡ with_pair p = arena_unique mid first_header taken (with_pair p) k.at_first
    (becomes_arena m mid (with_pair p) plans.3) in
    let F : List Header → Type 0 = λ X. IsIn block X in
    let there : IsIn block taken =
    subst F (sym is) (in_right p.before (cut_block strategy.fit pair.size pair.program p.block
    ++ p.after) block (in_left (cut_block strategy.fit pair.size pair.program p.block) p.after block
    (cut-there pair.size pair.program p.block block _ cut))) in
    let fills = fills_of l.last first_header taken k.at_last.0.1 in
    let inside = within first_header fills.0 taken fills.1 block there in
    let end = fills-length first_header fills.0 taken fills.1 in
    let owner = p.owner_is in
    let holds = least-is file pair.size p.enough in
    let enough : 256 + length (image file) ≤ 16 * placed.size = (let z = holds.0 in omega arith) in
    let big : is_mz file ≡ false → 0x10 < placed.size = λ z. (let y = holds.1 z in omega arith) in
    let below : placed.program + placed.size ≤ 0xA000 = omega arith in
    let at : block.segment + 1 ≡ P = omega arith in
    let g : Memory = l.ends.0 in
    let rel = l.ends.1 in
    let fits_g : Fits g = fits-shaped l.last g (released-shape upper l.last g l.ending.present rel) k.fits in
    let fits_mid : Fits mid = fits-shaped m mid plans.3.differs.shape fits_m in
    let bytes = prefix m placed ps.present (passed c m) in
    let bytes_length = prefix-length m placed ps.present (passed c m) (tail-short m c) (first-length m c)
    (second-length m c) in
    let G : ℕ → Type 0 = λ s. bytes_from l.last s 0x0A 12 ≡ bytes_from l.first s 0x0A 12 in
    let saved_here : bytes_from l.last P 0x0A 12 ≡ bytes_from l.first P 0x0A 12 = subst G started saved in
    from-same f m 0 0 0x88 0x88 12 (λ i h.
    let a : 16 * P + 10 + i ≡ 16 * P + (10 + i) = omega arith in
    let gl = from-length g l.ending.present 0x0A 12 in
    from-low f 0 0x88 12 i h (omega arith) (omega arith)
    ∙ ap (λ x. peek x (16 * 0 + 0x88 + i)) (l.ends.2.memory ∙ vectors-applied g l.ending.present)
    ∙ upwards-read g.a20 0 0x88 i (bytes_from g l.ending.present 0x0A 12) g fits_g (omega arith) (omega arith)
    ∙ ap (λ s. get_or (bytes_from g s 0x0A 12) i 0) here
    ∙ from-low g P 0x0A 12 i h (omega arith) (omega arith)
    ∙ released-keeps upper l.last g l.ending.present taken k.at_last rel block there (16 * P + 10 + i) (omega arith)
    (omega arith) (omega arith)
    ∙ sym (from-low l.last P 0x0A 12 i h (omega arith) (omega arith))
    ∙ ap (λ xs. get_or xs i 0) saved_here
    ∙ from-low l.first P 0x0A 12 i h (omega arith) (omega arith)
    ∙ ap (λ x. peek x (16 * P + 10 + i)) starts.memory
    ∙ ap (peek (apply (start_writes mid.a20 placed _ bytes file) mid)) a
    ∙ prefix-read mid.a20 placed _ bytes file mid fits_mid enough big below bytes_length (10 + i) (omega arith)
    ∙ prefix-vectors m placed ps.present (passed c m) i h)
