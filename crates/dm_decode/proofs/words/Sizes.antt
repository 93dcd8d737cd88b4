-- The word before memory is the one that the text of an instruction shows.
use Rattle.std.proofs.Common.{◌≡◌, Bool, true, false, [], ◌∷◌, refl, ◌∙◌, ap}
use Rattle.std.specs.Prelude.{if◌then◌else◌}
use Rattle.dm_ins.specs.declared.operand.Width.{Width}
use Rattle.dm_ins.specs.declared.operand.Width.TheVariants as width
use Rattle.dm_ins.specs.declared.action.Mnemonic.{Mnemonic}
use Rattle.dm_ins.specs.declared.action.Mnemonic.TheVariants as op
use Rattle.dm_decode.specs.Pieces.{name, space_sign}
use Rattle.dm_decode.specs.Texts as text
use Rattle.dm_decode.specs.declared.words.written.Size.{Size}
use Rattle.dm_decode.specs.declared.words.written.Size.TheVariants.{Absent}
use Rattle.dm_decode.specs.words.Words.{width_word, jump_word}
use Rattle.dm_decode.specs.words.Laws.{word_pieces, SizesAreShown}

jump_shown : (m : Mnemonic) (s : Size) → text.jump_pieces m (word_pieces s) ≡ word_pieces (jump_word m s)
jump_shown op.CallFar s = refl
jump_shown op.JmpFar s = refl
jump_shown op.Call s = refl
jump_shown op.Jmp s = refl
jump_shown _ s = refl

width_shown : (g : Bool) (v : Width) → (if g then [] else name (text.width_word v) ∷ space_sign ∷ [])
    ≡ word_pieces (if g then Absent else width_word v)
width_shown true v = refl
width_shown false width.Byte = refl
width_shown false width.Word = refl

pub sizes_are_shown : SizesAreShown
sizes_are_shown a v = ap (text.jump_pieces a.mnemonic) (width_shown (text.gives_size a) v) ∙ jump_shown a.mnemonic _
