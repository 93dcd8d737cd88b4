-- What a decoder tells of the sixteen bytes at a place, told of all bytes.
use Rattle.std.proofs.Common.{◌≡◌, ℕ, ◌+◌, ◌<◌, ◌≤◌, List, length, map, take, Option, Some, None, refl, sym, ap, subst, arith, length-append}
use Rattle.dm_ins.specs.declared.ins.Ins.{Ins}
use Rattle.dm_ins.specs.Ins.{Spells}
use Rattle.dm_ins.specs.Spelling.{prefix_byte}
use Rattle.dm_decode.specs.Decoded.{Decodes}
use Rattle.dm_decode.specs.disassembly.Listing.{bytes_at, StandsInFile}

-- the sixteen bytes are those at the place, as far as there are any
abbrev pub IsWindow : List ℕ → ℕ → List ℕ → Type 0
IsWindow bytes at window = (k : ℕ) → k ≤ 16 → at + k ≤ length bytes → take k window ≡ bytes_at bytes at k

pub stands : (bytes window : List ℕ) (at : ℕ) (i : Ins) (k : ℕ) → IsWindow bytes at window →
    Decodes window (Some (i, k)) → at + k ≤ length bytes → StandsInFile bytes at i k
stands bytes window at i k w d h =
    let told = (d i k).0 refl in
    record { within = h; short = told.0; spells = subst (Spells i) (w k told.0 h) told.1 }

pub none_stands : (bytes window : List ℕ) (at : ℕ) → IsWindow bytes at window → Decodes window None →
    (i : Ins) (k : ℕ) → StandsInFile bytes at i k → ⊥
none_stands bytes window at w d i k s =
    let e = (d i k).1 (s.short, subst (Spells i) (sym (w k s.short s.within)) s.spells) in cc

abbrev second : Option (Ins × ℕ) → ℕ
second None = 0
second (Some x) = x.1

pub none_fits : (bytes window : List ℕ) (at : ℕ) (j : Ins) (m : ℕ) → IsWindow bytes at window →
    Decodes window (Some (j, m)) → length bytes < at + m → (i : Ins) (k : ℕ) → StandsInFile bytes at i k → ⊥
none_fits bytes window at j m w d h i k s =
    let e = (d i k).1 (s.short, subst (Spells i) (sym (w k s.short s.within)) s.spells) in
    let same = ap (λ (x : Option (Ins × ℕ)). second x) e in
    absurd (omega (arith, s.within, same))

-- an instruction has a byte at least
pub has_bytes : (i : Ins) (bytes : List ℕ) → Spells i bytes → 0 < length bytes
has_bytes i bytes s =
    let e : length bytes ≡ length (map prefix_byte s.prefixes) + length s.rest =
    rw s.parts (length-append (map prefix_byte s.prefixes) s.rest) in
    let f = ap length s.action.parts in
    omega (arith, e, f)
