-- Each name of a text is its word again.
use Rattle.std.proofs.Common.{◌≡◌, List, [], ◌∷◌, Some, refl}
use Rattle.std.specs.Prelude.{codes}
use Rattle.dm_ins.specs.declared.operand.WordRegister.{WordRegister}
use Rattle.dm_ins.specs.declared.operand.WordRegister.TheVariants.{Ax}
use Rattle.dm_ins.specs.declared.operand.ByteRegister.{ByteRegister}
use Rattle.dm_ins.specs.declared.operand.ByteRegister.TheVariants.{Al}
use Rattle.dm_ins.specs.declared.operand.SegmentRegister.{SegmentRegister}
use Rattle.dm_ins.specs.declared.operand.SegmentRegister.TheVariants.{Es}
use Rattle.dm_ins.specs.declared.action.Mnemonic.{Mnemonic}
use Rattle.dm_ins.specs.declared.action.Mnemonic.TheVariants as op
use Rattle.dm_ins.specs.declared.prefix.Repeat.TheVariants.{NotEqual, Equal}
use Rattle.dm_decode.specs.declared.words.written.Size.{Size}
use Rattle.dm_decode.specs.declared.words.written.Size.TheVariants.{Absent, Byte, Word, Near}
use Rattle.dm_decode.specs.Names.{byte_name, word_name, segment_name, name_of}
use Rattle.dm_decode.specs.Texts.{mnemonic_pieces}
use Rattle.dm_decode.specs.words.Laws.{word_pieces}
use Rattle.dm_lines.specs.declared.token.Token.{Token}
use Rattle.dm_lines.specs.declared.token.Token.TheVariants as t
use Rattle.dm_lines.specs.Words.{reserved}
use Rattle.dm_lines.specs.Tokens.{closed, word_token}
use Rattle.dm_lines.specs.Laws.{all_tokens}

pub byte_again : (r : ByteRegister) → closed (byte_name r) ≡ Some (t.Byte r ∷ [])
unfolding word_token reserved name_of
byte_again Al = refl
byte_again _ = refl

pub word_again : (r : WordRegister) → closed (word_name r) ≡ Some (t.Word r ∷ [])
unfolding word_token reserved name_of
word_again Ax = refl
word_again _ = refl

pub segment_again : (r : SegmentRegister) → closed (segment_name r) ≡ Some (t.Segment r ∷ [])
unfolding word_token reserved name_of
segment_again Es = refl
segment_again _ = refl

pub nop_again : closed (codes "NOP") ≡ Some (t.Nop ∷ [])
unfolding word_token reserved name_of
nop_again = refl

pub lock_again : closed (codes "LOCK") ≡ Some (t.Lock ∷ [])
unfolding word_token reserved name_of
lock_again = refl

pub equal_again : closed (codes "REP") ≡ Some (t.Repeat Equal ∷ [])
unfolding word_token reserved name_of
equal_again = refl

pub not_equal_again : closed (codes "REPNE") ≡ Some (t.Repeat NotEqual ∷ [])
unfolding word_token reserved name_of
not_equal_again = refl

pub one_again : closed (codes "1") ≡ Some (t.Number 1 ∷ [])
unfolding word_token
one_again = refl

abbrev pub size_tokens : Size → List Token
size_tokens Absent = []
size_tokens s = t.Size s ∷ []

pub size_again : (s : Size) → all_tokens (word_pieces s) ≡ Some (size_tokens s)
unfolding word_token reserved name_of
size_again Absent = refl
size_again Byte = refl
size_again Word = refl
size_again Near = refl

abbrev pub mnemonic_tokens : Mnemonic → List Token
mnemonic_tokens op.CallFar = t.Mnemonic op.Call ∷ t.Far ∷ []
mnemonic_tokens op.JmpFar = t.Mnemonic op.Jmp ∷ t.Far ∷ []
mnemonic_tokens op.JmpShort = t.Mnemonic op.Jmp ∷ t.Short ∷ []
mnemonic_tokens m = t.Mnemonic m ∷ []

pub mnemonic_again : (m : Mnemonic) → all_tokens (mnemonic_pieces m) ≡ Some (mnemonic_tokens m)
unfolding word_token reserved name_of
mnemonic_again op.CallFar = refl
mnemonic_again op.JmpFar = refl
mnemonic_again op.JmpShort = refl
mnemonic_again _ = refl
