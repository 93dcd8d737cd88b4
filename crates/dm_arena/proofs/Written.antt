-- Chains under the write of a header.
use Rattle.std.proofs.Common.{◌≡◌, ◌≢◌, ℕ, ◌+◌, ◌*◌, ◌<◌, List, sym, ◌∙◌, ap, arith}
use Rattle.dm_space.specs.Memory.{Memory, peek, byte_at}
use Rattle.dm_space.proofs.Places.{paragraph-apart, place-shaped, peek-place}
use Rattle.dm_blocks.specs.declared.header.Header.{Header}
use Rattle.dm_blocks.specs.Chain.{HasHeader, IsClear}
use Rattle.dm_arena.specs.inner.Walks.{IsHeaderWritten}
use Rattle.dm_blocks.proofs.Chains.{Agrees}

-- a header written at b leaves the bytes of each other header of a clear list
pub byte_kept : (S T : Memory) (b : Header) (m : ℕ) (M : List Header) → IsHeaderWritten S b m T → IsClear S M →
    HasHeader M b.segment → (g : ℕ) → HasHeader M g → g ≢ b.segment → (k : ℕ) → k < 5 →
    peek T (16 * g + k) ≡ peek S (16 * g + k)
byte_kept S T b m M x c wb g wg ne k small =
    peek-place T _ ∙ ap (byte_at T) (place-shaped S T x.shape _)
    ∙ x.kept _ (λ j sj e. ne (c.apart _ _ wg wb (paragraph-apart S g b.segment k j (omega arith) (omega arith)
    (c.writable g wg) e).0)) ∙ sym (peek-place S _)

pub agrees_written : (S T : Memory) (b : Header) (m : ℕ) (M L : List Header) → IsHeaderWritten S b m T → IsClear S M →
    HasHeader M b.segment → ((g : ℕ) → HasHeader L g → HasHeader M g) → ((g : ℕ) → HasHeader L g → g ≢ b.segment) →
    Agrees S T L
agrees_written S T b m M L x c wb in' ne = record { same = λ g k w. byte_kept S T b m M x c wb g (in' g w) (ne g w) k }
