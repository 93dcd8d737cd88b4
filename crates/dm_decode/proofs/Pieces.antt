-- The bytes of pieces that stand one behind another.
use Rattle.std.proofs.Common.{◌≡◌, ℕ, List, [], ◌∷◌, ◌++◌, refl, sym, ap, ◌∙◌, append_assoc, append-nil}
use Rattle.dm_ins.specs.declared.action.Mnemonic.{Mnemonic}
use Rattle.dm_ins.specs.declared.action.Mnemonic.TheVariants.{CallFar, JmpFar, JmpShort}
use Rattle.dm_decode.specs.Names.{name_of}
use Rattle.dm_decode.specs.Pieces.{Piece, piece_bytes, text_bytes}
use Rattle.dm_decode.specs.Texts.{mnemonic_pieces}

pub bytes-append : (ps qs : List Piece) → text_bytes (ps ++ qs) ≡ text_bytes ps ++ text_bytes qs
bytes-append [] qs = refl
bytes-append (p ∷ ps) qs = ap (λ (z : List ℕ). piece_bytes p ++ z) (bytes-append ps qs)
    ∙ sym (append_assoc (piece_bytes p) (text_bytes ps) (text_bytes qs))

pub mnemonic_bytes : (m : Mnemonic) → text_bytes (mnemonic_pieces m) ≡ name_of m
unfolding name_of
mnemonic_bytes CallFar = refl
mnemonic_bytes JmpFar = refl
mnemonic_bytes JmpShort = refl
mnemonic_bytes _ = refl

-- the bytes of pieces, one part behind another
pub ruleset appended = (bytes-append, mnemonic_bytes, append_assoc, append-nil)
