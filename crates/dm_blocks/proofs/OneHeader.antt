-- A segment has one header.
use Rattle.std.proofs.Common.{◌≡◌, ℕ, ◌+◌, ◌*◌, sym, ◌∙◌, ap}
use Rattle.dm_space.specs.Memory.{Memory, peek}
use Rattle.dm_blocks.specs.declared.header.Header.{Header}
use Rattle.dm_blocks.specs.Chain.{word, IsHeader}

header-same : (b c : Header) → b.segment ≡ c.segment → b.owner ≡ c.owner → b.size ≡ c.size → b ≡ c
header-same b c e o s = λ i. record { segment = e i; owner = o i; size = s i }

-- the header at a segment is one
pub header-unique : (S : Memory) (b c : Header) (m n : ℕ) → IsHeader S b m → IsHeader S c n → b.segment ≡ c.segment →
    (b ≡ c) × (m ≡ n)
header-unique S b c m n x y e =
    let owner : b.owner ≡ c.owner = sym x.owned ∙ ap (λ h. word S (16 * h + 1)) e ∙ y.owned in
    let size : b.size ≡ c.size = sym x.sized ∙ ap (λ h. word S (16 * h + 3)) e ∙ y.sized in
    (header-same b c e owner size, sym x.signed ∙ ap (λ h. peek S (16 * h)) e ∙ y.signed)
