-- Reading and writing operands of a well-formed guest.
use Rattle.std.proofs.Common.{ℕ, zero, suc, ◌+◌, ◌/◌, ◌%◌, ◌<◌, List, [], ◌∷◌, set, get_or, Option, arith}
use Rattle.dm_space.specs.declared.place.Place.{Place}
use Rattle.dm_space.specs.declared.place.Place.TheVariants.{Low, Page, Rom, Nothing}
use Rattle.dm_space.specs.Memory.{Memory, linear, peek, peek16, place, poke, poke16, with_byte as with_place}
use Rattle.dm_alu.specs.declared.width.Width.{Width}
use Rattle.dm_alu.specs.declared.width.Width.TheVariants.{Byte, Word}
use Rattle.dm_alu.specs.Width.{size}
use Rattle.dm_ins.specs.declared.operand.Width.TheVariants as memory
use Rattle.dm_ins.specs.declared.operand.Operand.{Operand}
use Rattle.dm_ins.specs.declared.operand.Operand.TheVariants as operand
use Rattle.dm_ins.specs.declared.operand.ByteRegister.{ByteRegister}
use Rattle.dm_ins.specs.declared.operand.ByteRegister.TheVariants.{Al, Cl, Dl, Bl, Ah, Ch, Dh, Bh}
use Rattle.dm_ins.specs.declared.operand.SegmentRegister.{SegmentRegister}
use Rattle.dm_ins.specs.declared.operand.SegmentRegister.TheVariants.{Es, Cs, Ss, Ds}
use Rattle.dm_ins.specs.declared.operand.WordRegister.{WordRegister}
use Rattle.dm_ins.specs.declared.operand.WordRegister.TheVariants.{Ax, Cx, Dx, Bx, Sp, Bp, Si, Di}
use Rattle.dm_cpu.specs.declared.cpu.Cpu.{Cpu}
use Rattle.dm_cpu.specs.Cpu.{byte_of, segment_of, with_byte, with_segment, with_word, word_of}
use Rattle.dm_cpu.specs.Guest.{Guest}
use Rattle.dm_cpu.specs.Operands.{address_of, far_segment_of, value_of, with_operand}
use Rattle.dm_cpu.specs.Values.{accumulator, read_in, value_in, with_accumulator, written_in}
use Rattle.dm_laws.specs.instructions.WellFormed.{HasBytes, HasWords, IsWellFormed}
use Rattle.dm_laws.proofs.instructions.Values.{mod-below}

-- the values that an operand itself has are values of its kind
abbrev pub AreValues : Operand → Type 0
AreValues operand.Nothing = Unit {0}
AreValues (operand.ByteRegister r) = Unit {0}
AreValues (operand.WordRegister r) = Unit {0}
AreValues (operand.SegmentRegister r) = Unit {0}
AreValues (operand.Memory w a) = Unit {0}
AreValues (operand.ByteValue n) = n < 256
AreValues (operand.WordValue n) = n < 65536
AreValues operand.One = Unit {0}
AreValues (operand.Target n) = n < 65536
AreValues (operand.FarTarget n s) = (n < 65536) × (s < 65536)

-- bytes of memory
set-below : (xs : List ℕ) (i v k : ℕ) → v < 256 → get_or xs k 0 < 256 → get_or (set xs i v) k 0 < 256
set-below [] i v k h l = l
set-below (x ∷ xs) zero v zero h l = h
set-below (x ∷ xs) zero v (suc k) h l = l
set-below (x ∷ xs) (suc i) v zero h l = l
set-below (x ∷ xs) (suc i) v (suc k) h l = set-below xs i v k h l

page_set-below : (pages : List (List ℕ)) (p i v q k : ℕ) → v < 256 →
    ((q k : ℕ) → get_or (get_or pages q []) k 0 < 256) →
    get_or (get_or (set pages p (set (get_or pages p []) i v)) q []) k 0 < 256
page_set-below [] p i v q k h l = l q k
page_set-below (xs ∷ pages) zero i v zero k h l = set-below xs i v k h (l 0 k)
page_set-below (xs ∷ pages) zero i v (suc q) k h l = l (suc q) k
page_set-below (xs ∷ pages) (suc p) i v zero k h l = l 0 k
page_set-below (xs ∷ pages) (suc p) i v (suc q) k h l = page_set-below pages p i v q k h (λ q k. l (suc q) k)

place-below : (m : Memory) (p : Place) (v : ℕ) → v < 256 → HasBytes m → HasBytes (with_place m p v)
place-below m (Low a) v h b (Low c) = set-below m.low a v c h (b (Low c))
place-below m (Low a) v h b (Page q k) = b (Page q k)
place-below m (Low a) v h b (Rom k) = b (Rom k)
place-below m (Low a) v h b Nothing = b Nothing
place-below m (Page p i) v h b (Low c) = b (Low c)
place-below m (Page p i) v h b (Page q k) = page_set-below m.blocks.contents p i v q k h (λ q k. b (Page q k))
place-below m (Page p i) v h b (Rom k) = b (Rom k)
place-below m (Page p i) v h b Nothing = b Nothing
place-below m (Rom i) v h b q = b q
place-below m Nothing v h b q = b q

pub poke-below : (m : Memory) (a v : ℕ) → v < 256 → HasBytes m → HasBytes (poke m a v)
unfolding poke
poke-below m a v h b = place-below m (place m a) v h b

pub poke16-below : (m : Memory) (s o v : ℕ) → v < 65536 → HasBytes m → HasBytes (poke16 m s o v)
poke16-below m s o v h b = poke-below _ _ (v / 256) (omega arith) (poke-below m _ (v % 256) (omega arith) b)

pub peek-below : (m : Memory) (a : ℕ) → HasBytes m → peek m a < 256
unfolding peek
peek-below m a b = b (place m a)

pub peek16-below : (m : Memory) (s o : ℕ) → HasBytes m → peek16 m s o < 65536
peek16-below m s o b =
    let x = peek-below m (linear m.a20 s o) b in
    let y = peek-below m (linear m.a20 s ((o + 1) % 65536)) b in
    omega arith

-- registers
pub word-below : (c : Cpu) (r : WordRegister) → HasWords c → word_of c r < 65536
unfolding word_of
word-below c Ax w = w.ax
word-below c Cx w = w.cx
word-below c Dx w = w.dx
word-below c Bx w = w.bx
word-below c Sp w = w.sp
word-below c Bp w = w.bp
word-below c Si w = w.si
word-below c Di w = w.di

pub byte-below : (c : Cpu) (r : ByteRegister) → HasWords c → byte_of c r < 256
unfolding byte_of
byte-below c Al w = omega arith
byte-below c Cl w = omega arith
byte-below c Dl w = omega arith
byte-below c Bl w = omega arith
byte-below c Ah w = (let x = w.ax in omega arith)
byte-below c Ch w = (let x = w.cx in omega arith)
byte-below c Dh w = (let x = w.dx in omega arith)
byte-below c Bh w = (let x = w.bx in omega arith)

pub segment-below : (c : Cpu) (r : SegmentRegister) → HasWords c → segment_of c r < 65536
unfolding segment_of
segment-below c Es w = w.es
segment-below c Cs w = w.cs
segment-below c Ss w = w.ss
segment-below c Ds w = w.ds

pub with_word-words : (c : Cpu) (r : WordRegister) (v : ℕ) → v < 65536 → HasWords c → HasWords (with_word c r v)
unfolding with_word
with_word-words c Ax v h w = omega arith
with_word-words c Cx v h w = omega arith
with_word-words c Dx v h w = omega arith
with_word-words c Bx v h w = omega arith
with_word-words c Sp v h w = omega arith
with_word-words c Bp v h w = omega arith
with_word-words c Si v h w = omega arith
with_word-words c Di v h w = omega arith

pub with_byte-words : (c : Cpu) (r : ByteRegister) (v : ℕ) → v < 256 → HasWords c → HasWords (with_byte c r v)
unfolding with_byte
with_byte-words c Al v h w = omega arith
with_byte-words c Cl v h w = omega arith
with_byte-words c Dl v h w = omega arith
with_byte-words c Bl v h w = omega arith
with_byte-words c Ah v h w = omega arith
with_byte-words c Ch v h w = omega arith
with_byte-words c Dh v h w = omega arith
with_byte-words c Bh v h w = omega arith

pub with_segment-words : (c : Cpu) (r : SegmentRegister) (v : ℕ) → v < 65536 → HasWords c →
    HasWords (with_segment c r v)
unfolding with_segment
with_segment-words c Es v h w = omega arith
with_segment-words c Cs v h w = omega arith
with_segment-words c Ss v h w = omega arith
with_segment-words c Ds v h w = omega arith

-- operands
byte-word : (n : ℕ) → n < 256 → n < 65536
byte-word n h = omega arith

pub value-below : (g : Guest) (override : Option SegmentRegister) (o : Operand) → IsWellFormed g → AreValues o →
    value_of g override o < 65536
unfolding value_of
value-below g override operand.Nothing f v = omega arith
value-below g override (operand.ByteRegister r) f v = (let x = byte-below g.cpu r f.registers in omega arith)
value-below g override (operand.WordRegister r) f v = word-below g.cpu r f.registers
value-below g override (operand.SegmentRegister r) f v = segment-below g.cpu r f.registers
value-below g override (operand.Memory memory.Byte a) f v = byte-word _ (peek-below g.memory _ f.memory)
value-below g override (operand.Memory memory.Word a) f v = peek16-below g.memory _ _ f.memory
value-below g override (operand.ByteValue n) f v = omega arith
value-below g override (operand.WordValue n) f v = v
value-below g override operand.One f v = omega arith
value-below g override (operand.Target n) f v = v
value-below g override (operand.FarTarget n s) f v = v.0

pub value_in-below : (w : Width) (g : Guest) (override : Option SegmentRegister) (o : Operand) →
    value_in w g override o < size w
unfolding value_in
value_in-below w g override o = mod-below w _

pub far_segment-below : (g : Guest) (override : Option SegmentRegister) (o : Operand) → IsWellFormed g → AreValues o →
    far_segment_of g override o < 65536
unfolding far_segment_of
far_segment-below g override operand.Nothing f v = omega arith
far_segment-below g override (operand.ByteRegister r) f v = omega arith
far_segment-below g override (operand.WordRegister r) f v = omega arith
far_segment-below g override (operand.SegmentRegister r) f v = omega arith
far_segment-below g override (operand.Memory w a) f v = peek16-below g.memory _ _ f.memory
far_segment-below g override (operand.ByteValue n) f v = omega arith
far_segment-below g override (operand.WordValue n) f v = omega arith
far_segment-below g override operand.One f v = omega arith
far_segment-below g override (operand.Target n) f v = omega arith
far_segment-below g override (operand.FarTarget n s) f v = v.1

pub address-below : (c : Cpu) (o : Operand) → address_of c o < 65536
unfolding address_of
address-below c operand.Nothing = omega arith
address-below c (operand.ByteRegister r) = omega arith
address-below c (operand.WordRegister r) = omega arith
address-below c (operand.SegmentRegister r) = omega arith
address-below c (operand.Memory w a) = omega arith
address-below c (operand.ByteValue n) = omega arith
address-below c (operand.WordValue n) = omega arith
address-below c operand.One = omega arith
address-below c (operand.Target n) = omega arith
address-below c (operand.FarTarget n s) = omega arith

pub stored : (g : Guest) (override : Option SegmentRegister) (o : Operand) (v : ℕ) → v < 65536 → IsWellFormed g →
    IsWellFormed (with_operand g override o v)
unfolding with_operand
stored g override operand.Nothing v h f = f
stored g override (operand.ByteRegister r) v h f =
    record { registers = with_byte-words g.cpu r (v % 256) (omega arith) f.registers; memory = f.memory }
stored g override (operand.WordRegister r) v h f = record {
  registers = with_word-words g.cpu r v h f.registers;
  memory = f.memory;
}
stored g override (operand.SegmentRegister r) v h f = record {
  registers = with_segment-words g.cpu r v h f.registers;
  memory = f.memory;
}
stored g override (operand.Memory memory.Byte a) v h f = record {
  registers = f.registers;
  memory = poke-below g.memory _ (v % 256) (omega arith) f.memory;
}
stored g override (operand.Memory memory.Word a) v h f = record {
  registers = f.registers;
  memory = poke16-below g.memory _ _ v h f.memory;
}
stored g override (operand.ByteValue n) v h f = f
stored g override (operand.WordValue n) v h f = f
stored g override operand.One v h f = f
stored g override (operand.Target n) v h f = f
stored g override (operand.FarTarget n s) v h f = f

-- values by width
pub accumulator-below : (w : Width) (c : Cpu) → HasWords c → accumulator w c < size w
unfolding accumulator
accumulator-below Byte c h = byte-below c Al h
accumulator-below Word c h = word-below c Ax h

pub read-below : (w : Width) (m : Memory) (s o : ℕ) → HasBytes m → read_in w m s o < size w
unfolding read_in
read-below Byte m s o b = peek-below m _ b
read-below Word m s o b = peek16-below m s o b

pub written-bytes : (w : Width) (m : Memory) (s o v : ℕ) → v < size w → HasBytes m → HasBytes (written_in w m s o v)
unfolding written_in
written-bytes Byte m s o v h b = poke-below m _ (v % 256) (omega arith) b
written-bytes Word m s o v h b = poke16-below m s o v h b

pub accumulated : (w : Width) (c : Cpu) (v : ℕ) → v < size w → HasWords c → HasWords (with_accumulator w c v)
unfolding with_accumulator
accumulated Byte c v h w = with_byte-words c Al (v % 256) (omega arith) w
accumulated Word c v h w = with_word-words c Ax v h w
