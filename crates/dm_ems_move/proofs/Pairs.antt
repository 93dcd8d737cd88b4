-- Pairs of pages and windows, one after another.
use Rattle.std.proofs.Common.{◌≡◌, ℕ, zero, suc, ◌+◌, ◌*◌, Bool, List, refl, arith, add-one}
use Rattle.std.specs.Prelude.{Err}
use Rattle.dm_space.specs.Memory.{Memory}
use Rattle.dm_ems.specs.declared.status.Status.{Status}
use Rattle.dm_space.specs.moves.Buffers.{word_after}
use Rattle.dm_ems_move.specs.Steps.{and_then}
use Rattle.dm_ems_move.specs.Many.{paired, after_pairs}

pub after_more : (m : Memory) (blocks : List ℕ) (by : Bool) (s o n : ℕ) →
    after_pairs m blocks by s o (n + 1) ≡ and_then (after_pairs m blocks by s o n)
    (paired blocks by (word_after m s o (4 * n)) (word_after m s o (4 * n + 2)))
after_more m blocks by s o n = rw add-one refl

-- a bad pair stays bad, whatever stands behind it
pub after_bad : (m : Memory) (blocks : List ℕ) (by : Bool) (s o n k : ℕ) (e : Status) →
    after_pairs m blocks by s o n ≡ Err e → after_pairs m blocks by s o (n + k) ≡ Err e
after_bad m blocks by s o n zero e h = let q : n + zero ≡ n = omega arith in rw q h
after_bad m blocks by s o n (suc k) e h = let q : n + suc k ≡ suc (n + k) = omega arith in
    rw q (rw (after_bad m blocks by s o n k e h) refl)
