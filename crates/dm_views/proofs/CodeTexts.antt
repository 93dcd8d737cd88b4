-- The lines of instructions that stand in memory.
use Rattle.std.proofs.Common.{◌≡◌, ℕ, ◌+◌, ◌≤◌, List, [], ◌++◌, take, get_or, Some, None, refl, sym, ◌∙◌, ap, subst, append_assoc, append-nil}
use Rattle.dm_space.specs.Memory.{Memory}
use Rattle.dm_ins.specs.declared.ins.Ins.{Ins}
use Rattle.dm_ins.specs.Ins.{BeginsWith}
use Rattle.dm_decode.specs.Decoded.{Decodes}
use Rattle.dm_cpu.specs.Guest.{up}
use Rattle.dm_space.specs.EightBytes.{byte_after, sixteen_after}
use Rattle.dm_views.specs.Code.{instruction_line, byte_line, IsLine, listed, unlisted, AreLines, none, more, IsCode}

-- the bytes there begin with a spelling of the instruction
pub stands : (m : Memory) (s o : ℕ) (window : List ℕ) (i : Ins) (k : ℕ) → window ≡ sixteen_after m s o →
    Decodes window (Some (i, k)) → BeginsWith (sixteen_after m s o) i k
stands m s o window i k w d =
    let told = (subst (λ (x : List ℕ). Decodes x (Some (i, k))) w d i k).0 refl in
    record { short = told.0; spells = told.1 }

-- they begin with none
pub none_stands : (m : Memory) (s o : ℕ) (window : List ℕ) → window ≡ sixteen_after m s o → Decodes window None →
    (i : Ins) (k : ℕ) → BeginsWith (sixteen_after m s o) i k → ⊥
none_stands m s o window w d i k x =
    let e = (subst (λ (y : List ℕ). Decodes y None) w d i k).1 (x.short, x.spells) in cc

first_byte : (m : Memory) (s o : ℕ) (d : ℕ) → get_or (sixteen_after m s o) 0 d ≡ byte_after m s o 0
unfolding sixteen_after
first_byte m s o d = refl

pub line_listed : (m : Memory) (s o : ℕ) (window : List ℕ) (i : Ins) (k : ℕ) → window ≡ sixteen_after m s o →
    Decodes window (Some (i, k)) → IsLine m s o k (instruction_line s o (take k window) i (up o k))
line_listed m s o window i k w d = rw w (listed i k (stands m s o window i k w d))

pub line_unlisted : (m : Memory) (s o : ℕ) (window : List ℕ) (byte d : ℕ) → window ≡ sixteen_after m s o →
    byte ≡ get_or window 0 d → Decodes window None → IsLine m s o 1 (byte_line s o byte)
line_unlisted m s o window byte d w b n =
    let e : byte ≡ byte_after m s o 0 = b ∙ ap (λ (x : List ℕ). get_or x 0 d) w ∙ first_byte m s o d in
    rw e (unlisted (none_stands m s o window w n))

-- a line behind those before it
pub record HasLines (m : Memory) (s o : ℕ) (old : List ℕ) (n at : ℕ) (out : List ℕ) : Type 0 where
  pub text : List ℕ
  pub is : out ≡ old ++ text
  pub lines : AreLines m s o n at text

pub lines_none : (m : Memory) (s o : ℕ) (old : List ℕ) → HasLines m s o old 0 o old
lines_none m s o old = record { text = []; is = sym (append-nil old); lines = none }

pub lines_more : (m : Memory) (s o : ℕ) (old out new line : List ℕ) (n at k after : ℕ) → HasLines m s o old n at out →
    new ≡ out ++ line → IsLine m s at k line → after ≡ up at k → HasLines m s o old (n + 1) after new
lines_more m s o old out new line n at k after h e l a = rw a (record {
  text = h.text ++ line;
  is = e ∙ ap (λ (x : List ℕ). x ++ line) h.is ∙ append_assoc old h.text line;
  lines = more n at k h.text line h.lines l;
})

pub lines_all : (m : Memory) (s o : ℕ) (old out : List ℕ) (n at k : ℕ) → HasLines m s o old n at out → n ≡ k →
    (text : List ℕ) × (out ≡ old ++ text) × IsCode m s o k text
lines_all m s o old out n at k h e = (h.text, h.is, (at, subst (λ (i : ℕ). AreLines m s o i at h.text) e h.lines))

-- an instruction has at most sixteen bytes
pub short : (window : List ℕ) (i : Ins) (k : ℕ) → Decodes window (Some (i, k)) → k ≤ 16
short window i k d = ((d i k).0 refl).0
