-- A decoder's answer as a function of the bytes, for definitions of other crates that go on from it.
use Rattle.std.proofs.Common.{◌≡◌, ℕ, zero, suc, ◌-◌, ◌%◌, List, [], ◌∷◌, length, Option, Some, None, refl, sym, ap, ◌∙◌, arith}
use Rattle.dm_ins.specs.declared.prefix.Prefixes.{Prefixes}
use Rattle.dm_ins.specs.declared.action.Action.{Action}
use Rattle.dm_ins.specs.declared.ins.Ins.{Ins}
use Rattle.dm_decode.specs.inner.Reading.{prefixed_at}
use Rattle.dm_decode.specs.Decoded.{Decodes}
use Rattle.dm_decode.proofs.Found.{IsBytes, rest_bytes}
use Rattle.dm_decode.proofs.Exact.{exact_none, exact_some, read_spelled}

-- the numbers of a list as bytes
as_bytes : List ℕ → List ℕ
as_bytes [] = []
as_bytes (b ∷ bytes) = b % 256 ∷ as_bytes bytes

as_bytes_fit : (bytes : List ℕ) → IsBytes (as_bytes bytes)
unfolding as_bytes
as_bytes_fit [] i = omega arith
as_bytes_fit (b ∷ bytes) zero = omega arith
as_bytes_fit (b ∷ bytes) (suc i) = as_bytes_fit bytes i

as_bytes-same : (bytes : List ℕ) → IsBytes bytes → as_bytes bytes ≡ bytes
unfolding as_bytes
as_bytes-same [] h = refl
as_bytes-same (b ∷ bytes) h =
    let e : b % 256 ≡ b = omega (arith, h 0) in
    rw (e, as_bytes-same bytes (rest_bytes b bytes h)) refl

-- the instruction of what was read, and how many bytes were
instruction_of : (bytes : List ℕ) (read : Option ((Prefixes × Action) × List ℕ)) → prefixed_at (as_bytes bytes) ≡ read →
    Option (Ins × ℕ)
instruction_of bytes None e = None
instruction_of bytes (Some x) e =
    Some (
      record {
        prefixes = x.0.0;
        action = x.0.1;
        has_spelling = read_spelled (as_bytes bytes) x.0.0 x.0.1 x.1 (as_bytes_fit bytes) (sym e);
      },
      16 - length x.1,
    )

-- the one answer that decodes sixteen bytes
pub decoded : List ℕ → Option (Ins × ℕ)
decoded bytes = instruction_of bytes (prefixed_at (as_bytes bytes)) refl

by_read : (bytes : List ℕ) (read : Option ((Prefixes × Action) × List ℕ)) (e : prefixed_at (as_bytes bytes) ≡ read) →
    IsBytes bytes → length bytes ≡ 16 → Decodes bytes (instruction_of bytes read e)
unfolding instruction_of
by_read bytes None e h len = exact_none bytes (sym e ∙ ap prefixed_at (as_bytes-same bytes h))
by_read bytes (Some x) e h len = exact_some bytes _ x.1 h len (sym e ∙ ap prefixed_at (as_bytes-same bytes h))

pub decoded_decodes : (bytes : List ℕ) → IsBytes bytes → length bytes ≡ 16 → Decodes bytes (decoded bytes)
unfolding decoded
decoded_decodes bytes h len = by_read bytes (prefixed_at (as_bytes bytes)) refl h len

-- two answers that decode the same bytes are one
pub decodes_once : (bytes : List ℕ) (r s : Option (Ins × ℕ)) → Decodes bytes r → Decodes bytes s → r ≡ s
decodes_once bytes None None p q = refl
decodes_once bytes None (Some x) p q = (p x.0 x.1).1 ((q x.0 x.1).0 refl)
decodes_once bytes (Some x) s p q = sym ((q x.0 x.1).1 ((p x.0 x.1).0 refl))

pub decodes_is : (bytes : List ℕ) (answer : Option (Ins × ℕ)) → IsBytes bytes → length bytes ≡ 16 →
    Decodes bytes answer → answer ≡ decoded bytes
decodes_is bytes answer h len d = decodes_once bytes answer (decoded bytes) d (decoded_decodes bytes h len)
