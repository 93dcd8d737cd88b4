-- PUSH and then POP.
use Rattle.std.proofs.Common.{◌≡◌, ◌≢◌, ℕ, ◌+◌, ◌*◌, ◌/◌, ◌%◌, List, length, Option, Some, None, refl, sym, ◌∙◌, ap, ap₂, subst, arith}
use Rattle.std.specs.Prelude.{IfSome, slice_index_or}
use Rattle.dm_pool.specs.Blocks.{IsLive}
use Rattle.dm_pool.specs.declared.extent.Extent.{Extent}
use Rattle.dm_space.specs.Memory.{Fits, IsPage, Memory, linear, peek, peek16, place, poke, poke16}
use Rattle.dm_space.specs.Places.{IsShaped, IsWritable}
use Rattle.dm_space.proofs.Laws.{poke-a20, poke-windows}
use Rattle.dm_space.proofs.Places.{place-windows, poke-poked, poke-shaped, poked-kept, poked-read}
use Rattle.dm_ins.specs.declared.operand.Operand.TheVariants.{SegmentRegister as InSegment, WordRegister as InWord}
use Rattle.dm_ins.specs.declared.operand.SegmentRegister.{SegmentRegister}
use Rattle.dm_ins.specs.declared.operand.SegmentRegister.TheVariants.{Es, Cs, Ss, Ds}
use Rattle.dm_ins.specs.declared.operand.WordRegister.{WordRegister}
use Rattle.dm_ins.specs.declared.operand.WordRegister.TheVariants.{Ax, Cx, Dx, Bx, Sp, Bp, Si, Di}
use Rattle.dm_cpu.specs.Cpu.{segment_of, with_segment, with_word, word_of}
use Rattle.dm_cpu.specs.Guest.{Guest, down, guest, up}
use Rattle.dm_cpu.specs.Operands.{value_of, with_operand}
use Rattle.dm_cpu.specs.Stack.{push}
use Rattle.dm_operations.specs.Stack.{popped_into, pushed_value, stack_effect}
use Rattle.dm_laws.proofs.instructions.Effects.{pushed_value-below}
use Rattle.dm_laws.specs.instructions.Stack.{PopTakesWhatWasPushed, PushThenPopKeepsRegisters}

-- what has the same map fits the machine, too
if-some : (o : Option ℕ) (P Q : ℕ → Type 0) → ((x : ℕ) → P x → Q x) → IfSome o P → IfSome o Q
if-some None P Q f h = h
if-some (Some x) P Q f h = f x h

fits-shaped : (m n : Memory) → IsShaped m n → Fits m → Fits n
fits-shaped m n s f = record {
  low_length = s.ram_size ∙ f.low_length;
  windows_are_four = ap length s.windows ∙ f.windows_are_four;
  pages_there = λ k. (let P : List (Option ℕ) → Type 0 = λ ws. IfSome (slice_index_or ws k None)
      (λ page. IsPage n page) in
      subst P (sym s.windows) (if-some (slice_index_or m.windows k None) (λ page. IsPage m page) (λ page. IsPage n page)
      (λ page h. (live page h.0, s.page_sizes page ∙ h.1)) (f.pages_there k)));
}
  where
    live : (page : ℕ) → IsLive m.blocks page → IsLive n.blocks page
    live page h = (
      h.0,
      (
        h.1.0,
        subst (λ (ps : List (Option Extent)). slice_index_or ps page None
            ≡ Some h.1.0) (sym s.places) h.1.1,
      ),
    )

-- a word that is written at two places is read there
word-back : (m : Memory) (s o v : ℕ) → Fits m → IsWritable (place m (linear m.a20 s o)) →
    IsWritable (place m (linear m.a20 s ((o + 1) % 65536))) → place m (linear m.a20 s ((o + 1) % 65536)) ≢ place m
    (linear m.a20 s o) → peek16 (poke16 m s o v) s o ≡ v
word-back m s o v f low high apart =
    let a = linear m.a20 s o in
    let b = linear m.a20 s ((o + 1) % 65536) in
    let n : Memory = poke m a (v % 256) in
    let k : Memory = poke n b (v / 256) in
    let on : k.a20 ≡ m.a20 = poke-a20 n b (v / 256) ∙ poke-a20 m a (v % 256) in
    let fits : Fits n = fits-shaped m n (poke-shaped m a (v % 256)) f in
    let same : (x : ℕ) → place n x ≡ place m x = λ x. place-windows m n x (poke-windows m a (v % 256)) in
    let first : peek n a ≡ v % 256 = poked-read m a (v % 256) n (poke-poked m a (v % 256) f) low in
    let second : peek k b ≡ v / 256 = poked-read n b (v / 256) k (poke-poked n b (v / 256) fits)
    (subst IsWritable (sym (same b)) high) in
    let kept : peek k a ≡ peek n a = poked-kept n b (v / 256) k a (poke-poked n b (v / 256) fits)
    (λ e. apart (sym (same b) ∙ sym e ∙ same a)) in
    ap (λ t. peek k (linear t s o) + 256 * peek k (linear t s ((o + 1) % 65536))) on
    ∙ ap₂ (λ x y. x + 256 * y) (kept ∙ first) second ∙ omega arith

pub taken : PopTakesWhatWasPushed
unfolding stack_effect popped_into push
taken g first second a b w room small =
    let v = pushed_value g first a in
    let up_again : up (down g.cpu.sp 2) 2 ≡ g.cpu.sp = (let x = w.registers.sp in omega arith) in
    let n : Memory = poke16 g.memory g.cpu.ss (down g.cpu.sp 2) v in
    ap₂ (λ sp x. with_operand (guest (record g.cpu { sp = sp }) n) second b x) up_again
    (word-back g.memory g.cpu.ss (down g.cpu.sp 2) v room.fits room.low room.high room.apart)

-- a register takes its own value
own-word : (g : Guest) (m : Memory) (first second : Option SegmentRegister) (r : WordRegister) → r ≢ Sp →
    (with_operand (guest g.cpu m) second (InWord r) (pushed_value g first (InWord r))).cpu ≡ g.cpu
unfolding with_operand with_word pushed_value value_of word_of
own-word g m first second Ax n = refl
own-word g m first second Cx n = refl
own-word g m first second Dx n = refl
own-word g m first second Bx n = refl
own-word g m first second Sp n = absurd (n refl)
own-word g m first second Bp n = refl
own-word g m first second Si n = refl
own-word g m first second Di n = refl

own-segment : (g : Guest) (m : Memory) (first second : Option SegmentRegister) (r : SegmentRegister) →
    (with_operand (guest g.cpu m) second (InSegment r) (pushed_value g first (InSegment r))).cpu ≡ g.cpu
unfolding with_operand with_segment pushed_value value_of segment_of
own-segment g m first second Es = refl
own-segment g m first second Cs = refl
own-segment g m first second Ss = refl
own-segment g m first second Ds = refl

pub kept : PushThenPopKeepsRegisters
kept g w room = record {
  word = λ r n first second. ap (λ x. x.cpu) (taken g first second (InWord r) (InWord r) w room
      (pushed_value-below g first (InWord r) w tt)) ∙ own-word g _ first second r n;
  segment = λ r first second. ap (λ x. x.cpu) (taken g first second (InSegment r) (InSegment r) w room
      (pushed_value-below g first (InSegment r) w tt)) ∙ own-segment g _ first second r;
}
