-- Bytes that are written upwards from an address on, one at a time.
use Rattle.std.proofs.Common.{◌≡◌, ℕ, suc, ◌+◌, ◌%◌, ◌<◌, ◌≤◌, List, [], ◌∷◌, length, drop, refl, sym, ap, ◌∙◌, arith}
use Rattle.std.proofs.lemmas.List.{at_drop_all}
use Rattle.dm_space.specs.Memory.{Memory, linear, poke}
use Rattle.dm_space.specs.Buffers.{with_bytes}
use Rattle.dm_services.specs.state.State.{State}

-- each byte is written at the offset behind the one before, modulo 65,536
abbrev pub each : Memory → ℕ → ℕ → List ℕ → Memory
each m s o [] = m
each m s o (b ∷ bytes) = each (poke m (linear m.a20 s o) b) s ((o + 1) % 65536) bytes

-- where bytes begin counts modulo 65,536
wraps : (m : Memory) (s o p : ℕ) (xs : List ℕ) → o % 65536 ≡ p % 65536 → with_bytes m s o xs ≡ with_bytes m s p xs
unfolding with_bytes
wraps m s o p [] e = refl
wraps m s o p (x ∷ xs) e =
    ap (λ k. with_bytes (poke m (linear m.a20 s k) x) s (suc o) xs) e
    ∙ wraps (poke m (linear m.a20 s (p % 65536)) x) s (suc o) (suc p) xs (omega (arith, e))

each_is : (m : Memory) (s o : ℕ) (xs : List ℕ) → o < 65536 → each m s o xs ≡ with_bytes m s o xs
unfolding with_bytes
each_is m s o [] h = refl
each_is m s o (x ∷ xs) h =
    let same : o % 65536 ≡ o = omega (arith, h) in
    each_is (poke m (linear m.a20 s o) x) s ((o + 1) % 65536) xs (omega arith)
    ∙ wraps (poke m (linear m.a20 s o) x) s ((o + 1) % 65536) (suc o) xs (omega arith)
    ∙ ap (λ k. with_bytes (poke m (linear m.a20 s k) x) s (suc o) xs) (sym same)

-- all are written, and nothing else has changed
pub all_entered : (v w : State) (s o p i : ℕ) (xs : List ℕ) → length xs ≤ i → o < 65536 →
    w ≡ record v { memory = w.memory } → each w.memory s p (drop i xs) ≡ each v.memory s o xs →
    w ≡ record v { memory = with_bytes v.memory s o xs }
all_entered v w s o p i xs h low others left =
    others ∙ ap (λ (m : Memory). record v { memory = m }) (sym (at_drop_all (each w.memory s p) xs i h) ∙ left
    ∙ each_is v.memory s o xs low)
