-- Words have one length and one code.
use Rattle.std.proofs.Common.{◌≡◌, ℕ, List, length, sym, ap, ◌∙◌}
use Rattle.dm_ins.specs.declared.ins.Ins.{Ins}
use Rattle.dm_ins.specs.Preferred.{IsPreferred}
use Rattle.dm_ins.proofs.Preferred.{preferred_same}
use Rattle.dm_decode.specs.declared.words.written.Words.{Words}
use Rattle.dm_decode.specs.words.Words.{AreWords}
use Rattle.dm_decode.specs.words.Laws.{WordsAreOne}
use Rattle.dm_lines.specs.declared.statement.Instruction.{Instruction}
use Rattle.dm_asm.specs.Codes.{HasShape}

-- the instructions that words are have the same bytes
pub words_encode_once : WordsAreOne → (words : Words) (i j : Ins) (x y : List ℕ) → i.prefixes ≡ j.prefixes →
    AreWords words i.action → AreWords words j.action → IsPreferred i x → IsPreferred j y → x ≡ y
words_encode_once one words i j x y e p q en em =
    preferred_same i j x y e (one words i.action j.action en.spells.rest em.spells.rest p q en.spells.action
    em.spells.action) en em

pub shape_once : WordsAreOne → (i : Instruction) (n m : ℕ) → HasShape i n → HasShape i m → n ≡ m
shape_once one i n m s t =
    s.long ∙ ap length (words_encode_once one _ s.ins t.ins s.code t.code (s.prefixes
    ∙ sym t.prefixes) s.words t.words s.preferred t.preferred) ∙ sym t.long
