-- The bytes of the start, laid over others from the lowest address on
use Rattle.std.proofs.Common.{◌≡◌, ℕ, ◌+◌, ◌<◌, ◌≤◌, List, length, get_or, set, refl, ap, ◌∙◌, sym, arith, inl, inr, replicate}
use Rattle.std.proofs.lemmas.Grind.{common_steps}
use Rattle.std.proofs.lemmas.Bool.{cases_lt}
use Rattle.std.proofs.lemmas.Bool.Decides.{nat_tests}
use Rattle.std.proofs.lemmas.List.{length-set, length-replicate, get_or-replicate, get_or_past}
use Rattle.dm_pool.specs.Stored.{zeros_of}
use Rattle.dm_space.specs.Start.{start_byte, IsLaidOver, IsStartOfRam}

-- the bytes below n are those of the start, the others are as they were
pub record LaidBelow (low ram : List ℕ) (n : ℕ) : Type 0 where
  pub size : length ram ≡ length low
  pub done : (a : ℕ) → a < n → get_or ram a 0 ≡ start_byte a
  pub rest : (a : ℕ) → n ≤ a → get_or ram a 0 ≡ get_or low a 0

pub laid-none : (low : List ℕ) → LaidBelow low low 0
laid-none low = record { size = refl; done = λ a h. absurd (omega arith); rest = λ a h. refl }

pub laid-more : (low ram : List ℕ) (n v : ℕ) → n < length low → v ≡ start_byte n → LaidBelow low ram n →
    LaidBelow low (set ram n v) (n + 1)
laid-more low ram n v h e s =
    let size = s.size in
    record {
      size = length-set ram n v ∙ s.size;
      done = λ a k. elim (cases_lt a n) [
        | inl below ↦ let d = s.done a below in grind (arith, common_steps)
        | inr above ↦ let same : a ≡ n = omega arith in grind (arith, common_steps)
      ];
      rest = λ a k. let d = s.rest a (omega arith) in grind (arith, common_steps);
    }

pub laid-all : (low ram : List ℕ) (n : ℕ) → n ≡ 0x1005 → LaidBelow low ram n → IsLaidOver low ram
laid-all low ram n e s = record {
  size = s.size;
  laid = λ a h. s.done a (omega arith);
  rest = λ a h. s.rest a (omega arith);
}

zeros-get : (n a : ℕ) → get_or (zeros_of n) a 0 ≡ 0
unfolding zeros_of
zeros-get n a = elim (cases_lt a n) [
  | inl low ↦ get_or-replicate n a 0 0 low
  | inr high ↦ let size : length {A = ℕ} (replicate n 0) ≡ n = length-replicate n 0 in
      get_or_past (replicate n 0) a 0 (omega arith)
]

zeros-length : (n : ℕ) → length (zeros_of n) ≡ n
unfolding zeros_of
zeros-length n = length-replicate n 0

past-header : (a : ℕ) → 0x1005 ≤ a → start_byte a ≡ 0
unfolding start_byte
past-header a h = grind (arith, nat_tests)

-- laid over zeros they are the bytes of RAM at the start
pub laid-zeros : (n : ℕ) (low ram : List ℕ) → n ≡ 0x110000 → low ≡ zeros_of n → IsLaidOver low ram → IsStartOfRam ram
laid-zeros n low ram k e s = record {
  size = s.size ∙ ap length e ∙ zeros-length n ∙ k;
  bytes = λ a h. elim (cases_lt a 0x1005) [
    | inl below ↦ s.laid a below
    | inr above ↦ s.rest a above ∙ ap (λ (xs : List ℕ). get_or xs a 0) e ∙ zeros-get n a ∙ sym (past-header a above)
  ];
}
