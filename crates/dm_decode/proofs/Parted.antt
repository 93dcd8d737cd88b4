-- In the text of an instruction names and numbers stand apart.
use Rattle.std.proofs.Common.{◌≡◌, ℕ, Bool, true, false, List, [], ◌∷◌, ◌++◌, Option, Some, None, refl, subst, append_assoc, append-nil}
use Rattle.std.specs.Prelude.{◌==◌, codes, if◌then◌else◌}
use Rattle.dm_ins.specs.declared.operand.Width.{Width}
use Rattle.dm_ins.specs.declared.operand.Width.TheVariants.{Byte, Word}
use Rattle.dm_ins.specs.declared.operand.WordRegister.{WordRegister}
use Rattle.dm_ins.specs.declared.operand.WordRegister.TheVariants.{Ax}
use Rattle.dm_ins.specs.declared.operand.ByteRegister.{ByteRegister}
use Rattle.dm_ins.specs.declared.operand.ByteRegister.TheVariants.{Al}
use Rattle.dm_ins.specs.declared.operand.SegmentRegister.{SegmentRegister}
use Rattle.dm_ins.specs.declared.operand.SegmentRegister.TheVariants.{Es}
use Rattle.dm_ins.specs.declared.operand.Base.{Base}
use Rattle.dm_ins.specs.declared.operand.Base.TheVariants.{Direct}
use Rattle.dm_ins.specs.declared.operand.Address.{Address}
use Rattle.dm_ins.specs.declared.operand.Operand.{Operand}
use Rattle.dm_ins.specs.declared.operand.Operand.TheVariants as operand
use Rattle.dm_ins.specs.declared.action.Mnemonic.{Mnemonic}
use Rattle.dm_ins.specs.declared.action.Mnemonic.TheVariants.{Call, CallFar, Jmp, JmpFar, JmpShort}
use Rattle.dm_ins.specs.declared.action.Action.{Action}
use Rattle.dm_ins.specs.declared.prefix.Repeat.{Repeat}
use Rattle.dm_ins.specs.declared.prefix.Repeat.TheVariants.{NotEqual, Equal}
use Rattle.dm_decode.specs.Names.{name_of, byte_name, word_name, segment_name}
use Rattle.dm_decode.specs.Pieces.{Piece, name, word, space_sign, plus, comma, left_bracket, right_bracket, parted}
use Rattle.dm_decode.specs.Texts.{displacement_pieces, address_pieces, gives_size, jump_pieces, size_pieces, memory_pieces, operand_pieces, behind, second_pieces, operands_pieces, mnemonic_pieces, is_nop, action_pieces, segment_pieces, lock_pieces, repeat_pieces, pieces, width_word}
use Rattle.dm_decode.specs.Laws.{TextsAreParted}

-- ---- parts that pieces can stand behind: a name or number may not, or may, end the part

word_first : (r : WordRegister) (qs : List Piece) → parted true qs ≡ true → parted false (name (word_name r)
    ∷ qs) ≡ true
word_first Ax qs h = h
word_first _ qs h = h

byte_first : (r : ByteRegister) (qs : List Piece) → parted true qs ≡ true → parted false (name (byte_name r)
    ∷ qs) ≡ true
byte_first Al qs h = h
byte_first _ qs h = h

segment_first : (r : SegmentRegister) (qs : List Piece) → parted true qs ≡ true → parted false (name (segment_name r)
    ∷ qs) ≡ true
segment_first Es qs h = h
segment_first _ qs h = h

displacement_first : (n : ℕ) (qs : List Piece) → parted true qs ≡ true → parted true (displacement_pieces n
    ++ qs) ≡ true
displacement_first n qs h = by (n == 0)
  where
    by : (z : Bool) → parted true ((if z then [] else plus ∷ word n ∷ []) ++ qs) ≡ true
    by true = h
    by false = h

address_first : (b : Base) (n : ℕ) (qs : List Piece) → parted true qs ≡ true →
    parted false (address_pieces (record { base = b; displacement = n }) ++ qs) ≡ true
address_first Direct n qs h = h
address_first _ n qs h = displacement_first n qs h

jump_first : (m : Mnemonic) (s qs : List Piece) → parted false (s ++ qs) ≡ true → parted false qs ≡ true →
    parted false (jump_pieces m s ++ qs) ≡ true
jump_first CallFar s qs h k = k
jump_first JmpFar s qs h k = k
jump_first Call s qs h k = k
jump_first Jmp s qs h k = k
jump_first _ s qs h k = h

width_first : (g : Bool) (w : Width) (qs : List Piece) → parted false qs ≡ true →
    parted false ((if g then [] else name (width_word w) ∷ space_sign ∷ []) ++ qs) ≡ true
width_first true w qs h = h
width_first false Byte qs h = h
width_first false Word qs h = h

size_first : (a : Action) (w : Width) (qs : List Piece) → parted false qs ≡ true →
    parted false (size_pieces a w ++ qs) ≡ true
size_first a w qs h = jump_first a.mnemonic _ qs (width_first (gives_size a) w qs h) h

memory_first : (a : Action) (w : Width) (m : Address) (qs : List Piece) → parted false qs ≡ true →
    parted false (memory_pieces a w m ++ qs) ≡ true
memory_first a w m qs h = simp append_assoc (size_first a w (left_bracket ∷ address_pieces m ++ right_bracket
    ∷ qs) (address_first m.base m.displacement (right_bracket ∷ qs) h))

operand_first : (a : Action) (next : ℕ) (o : Operand) (qs : List Piece) → parted true qs ≡ true →
    parted false qs ≡ true → parted false (operand_pieces a next o ++ qs) ≡ true
operand_first a next operand.Nothing qs h k = k
operand_first a next (operand.ByteRegister r) qs h k = byte_first r qs h
operand_first a next (operand.WordRegister r) qs h k = word_first r qs h
operand_first a next (operand.SegmentRegister r) qs h k = segment_first r qs h
operand_first a next (operand.Memory w m) qs h k = memory_first a w m qs k
operand_first a next (operand.ByteValue n) qs h k = h
operand_first a next (operand.WordValue n) qs h k = h
operand_first a next operand.One qs h k = h
operand_first a next (operand.Target d) qs h k = h
operand_first a next (operand.FarTarget o s) qs h k = h

-- ---- an instruction's text, from its end on

operand_last : (a : Action) (next : ℕ) (o : Operand) → parted false (operand_pieces a next o) ≡ true
operand_last a next o = subst (λ (ps : List Piece). parted false ps ≡ true) (append-nil (operand_pieces a next o))
    (operand_first a next o [] refl refl)

second_last : (a : Action) (next : ℕ) (o : Operand) (b : Bool) → parted b (behind comma o (operand_pieces a next o))
    ≡ true
second_last a next operand.Nothing true = refl
second_last a next operand.Nothing false = refl
second_last a next o true = operand_last a next o
second_last a next o false = operand_last a next o

operands_last : (a : Action) (next : ℕ) (o : Operand) → parted true (behind space_sign o (operand_pieces a next o
    ++ second_pieces a next)) ≡ true
operands_last a next operand.Nothing = refl
operands_last a next o = operand_first a next o (second_pieces a next) (second_last a next a.second true)
    (second_last a next a.second false)

mnemonic_first : (m : Mnemonic) (qs : List Piece) → parted true qs ≡ true → parted false (mnemonic_pieces m
    ++ qs) ≡ true
unfolding name_of
mnemonic_first CallFar qs h = h
mnemonic_first JmpFar qs h = h
mnemonic_first JmpShort qs h = h
mnemonic_first _ qs h = h

action_last : (a : Action) (next : ℕ) → parted false (action_pieces a next) ≡ true
unfolding action_pieces
action_last a next = by (is_nop a)
  where
    by : (n : Bool) → parted false (if n then name (codes "NOP") ∷ [] else mnemonic_pieces a.mnemonic
        ++ operands_pieces a next) ≡ true
    by true = refl
    by false = mnemonic_first a.mnemonic (operands_pieces a next) (operands_last a next a.first)

override_first : (s : Option SegmentRegister) (qs : List Piece) → parted false qs ≡ true →
    parted false (segment_pieces s ++ qs) ≡ true
override_first None qs h = h
override_first (Some r) qs h = segment_first r (space_sign ∷ qs) h

lock_first : (l : Bool) (qs : List Piece) → parted false qs ≡ true → parted false (lock_pieces l ++ qs) ≡ true
lock_first true qs h = h
lock_first false qs h = h

repeat_first : (r : Option Repeat) (qs : List Piece) → parted false qs ≡ true → parted false (repeat_pieces r
    ++ qs) ≡ true
repeat_first None qs h = h
repeat_first (Some NotEqual) qs h = h
repeat_first (Some Equal) qs h = h

pub texts_are_parted : TextsAreParted
unfolding pieces
texts_are_parted i next =
    let p = i.prefixes in
    let actions = action_pieces i.action next in
    simp append_assoc (override_first p.segment (lock_pieces p.lock ++ (repeat_pieces p.repeat ++ actions))
    (lock_first p.lock (repeat_pieces p.repeat ++ actions) (repeat_first p.repeat actions
    (action_last i.action next))))
