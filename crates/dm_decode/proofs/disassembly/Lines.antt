-- What a line shows, from what is compared to find it.
use Rattle.std.proofs.Common.{◌≡◌, ◌≢◌, ℕ, ◌+◌, ◌<◌, ◌≤◌, ◌++◌, List, [], ◌∷◌, length, take, drop, ◌-◌, ap, refl, append_assoc, lit<, sym, subst, ◌∙◌, arith, length-drop, length-take-le}
use Rattle.std.specs.Prelude.{codes}
use Rattle.dm_ins.specs.declared.ins.Ins.{Ins}
use Rattle.dm_ins.specs.Preferred.{IsPreferred}
use Rattle.dm_ins.proofs.Preferred.{preferred_same}
use Rattle.dm_decode.specs.disassembly.Listing.{bytes_at, data_text, instruction_text, StandsInFile, IsListedLine, Lists, preferred, other, single, more}
use Rattle.dm_decode.proofs.disassembly.Standing.{has_bytes}

pub shows_preferred : (bytes own e : List ℕ) (at k : ℕ) (i : Ins) → StandsInFile bytes at i k →
    own ≡ bytes_at bytes at k → IsPreferred i e → e ≡ own → IsListedLine bytes at k (instruction_text i at k)
shows_preferred bytes own e at k i s is p same = preferred i k s (subst (IsPreferred i) (same ∙ is) p)

pub shows_other : (bytes own e : List ℕ) (at k : ℕ) (i : Ins) → StandsInFile bytes at i k → own ≡ bytes_at bytes at k →
    IsPreferred i e → e ≢ own → IsListedLine bytes at k (data_text own ++ codes " ; " ++ instruction_text i at k)
shows_other bytes own e at k i s is p differs =
    rw is (other i k s (λ q. differs (preferred_same i i e (bytes_at bytes at k) refl refl p q ∙ sym is)))

pub shows_single : (bytes own : List ℕ) (at : ℕ) → at < length bytes → own ≡ bytes_at bytes at 1 →
    ((i : Ins) (k : ℕ) → StandsInFile bytes at i k → ⊥) → IsListedLine bytes at 1 (data_text own)
shows_single bytes own at h is n = rw is (single h n)

-- the bytes that are sliced off
pub sliced : (bytes : List ℕ) (at k : ℕ) → take (at + k - at) (drop at bytes) ≡ bytes_at bytes at k
sliced bytes at k = ap (λ (n : ℕ). take n (drop at bytes)) (omega arith)

-- a line is of a byte at least, and of bytes that are there
pub record IsPart (bytes : List ℕ) (at k : ℕ) : Type 0 where
  pub some : 0 < k
  pub within : at + k ≤ length bytes

instruction_part : (bytes : List ℕ) (at k : ℕ) (i : Ins) → StandsInFile bytes at i k → IsPart bytes at k
instruction_part bytes at k i s =
    let rest : k ≤ length (drop at bytes) = omega (arith, s.within, length-drop at bytes) in
    record {
      some = omega (arith, has_bytes i (bytes_at bytes at k) s.spells, length-take-le k (drop at bytes) rest);
      within = s.within;
    }

pub shows_part : (bytes : List ℕ) (at k : ℕ) (line : List ℕ) → IsListedLine bytes at k line → IsPart bytes at k
shows_part bytes at k line (preferred i j s p) = instruction_part bytes at k i s
shows_part bytes at k line (other i j s p) = instruction_part bytes at k i s
shows_part bytes at k line (single h n) = record { some = lit< tt; within = omega (arith, h) }

-- a line behind those before it
pub lists_more : (bytes text line out : List ℕ) (at k : ℕ) → Lists bytes at text → IsListedLine bytes at k line →
    out ≡ text ++ line ++ 10 ∷ [] → Lists bytes (at + k) out
lists_more bytes text line out at k l s e = rw e (more at k text line l s)

-- three pieces put one after the other
pub three_put : (old one two new a b c : List ℕ) → one ≡ old ++ a → two ≡ one ++ b → new ≡ two ++ c → new ≡ old
    ++ (a ++ b ++ c)
three_put old one two new a b c p q r = rw (r, q, p) (ap (λ (xs : List ℕ). xs ++ c) (append_assoc old a b)
    ∙ append_assoc old (a ++ b) c)
