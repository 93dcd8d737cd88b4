-- Bytes that are sent, one at a time
use Rattle.std.proofs.Common.{◌≡◌, ℕ, suc, zero, ◌+◌, ◌-◌, ◌<◌, ◌≤◌, ◌%◌, List, [], ◌∷◌, ◌++◌, length, refl, sym, ◌∙◌, ap, arith, append_assoc, add-one}
use Rattle.std.proofs.lemmas.List.{append-nil, length-append}
use Rattle.dm_space.specs.Memory.{Memory, peek, linear}
use Rattle.dm_proc.specs.Writes.{bytes_from}
use Rattle.dm_console.specs.Streams.{Streams}

bytes_from-more : (m : Memory) (s o k : ℕ) → bytes_from m s o (suc k) ≡ bytes_from m s o k
    ++ peek m (linear m.a20 s ((o + k) % 65536)) ∷ []
bytes_from-more m s o zero = let e : o + 0 ≡ o = omega arith in rw e refl
bytes_from-more m s o (suc k) =
    let e : suc o + k ≡ o + suc k = omega arith in
    ap (λ (xs : List ℕ). peek m (linear m.a20 s (o % 65536)) ∷ xs) (bytes_from-more m s (suc o) k)
    ∙ ap (λ n. peek m (linear m.a20 s (o % 65536)) ∷ (bytes_from m s (suc o) k ++ peek m (linear m.a20 s (n % 65536))
    ∷ [])) e

pub length-bytes_from : (m : Memory) (s o k : ℕ) → length (bytes_from m s o k) ≡ k
length-bytes_from m s o zero = refl
length-bytes_from m s o (suc k) = ap suc (length-bytes_from m s (suc o) k)

pub ruleset lengths = (length-bytes_from, length-append)

-- the first k bytes have gone out
pub record IsSent (start : Streams) (m : Memory) (s o k : ℕ) (now : Streams) : Type 0 where
  pub output : now.output ≡ start.output ++ bytes_from m s o k
  pub room : now.room + k ≡ start.room
  pub input : now.input ≡ start.input
  pub more : now.more ≡ start.more

pub sent-none : (c : Streams) (m : Memory) (s o : ℕ) → IsSent c m s o 0 c
sent-none c m s o = record { output = sym (append-nil c.output); room = omega arith; input = refl; more = refl }

pub sent-more : (start now after : Streams) (m : Memory) (s o k b : ℕ) → IsSent start m s o k now → 0 < now.room →
    b ≡ peek m (linear m.a20 s ((o + k) % 65536)) →
    after ≡ record now { output = now.output ++ b ∷ []; room = now.room - 1 } → IsSent start m s o (k + 1) after
sent-more start now after m s o k b w h e f =
    rw f record {
      output = ap (λ (xs : List ℕ). xs ++ b ∷ []) w.output ∙ append_assoc start.output (bytes_from m s o k) (b ∷ [])
          ∙ ap (λ (xs : List ℕ). start.output ++ xs) (ap (λ v. bytes_from m s o k ++ v ∷ []) e
          ∙ rw add-one (sym (bytes_from-more m s o k)));
      room = let was = w.room in omega arith;
      input = w.input;
      more = w.more;
    }

pub sent-all : (start now : Streams) (m : Memory) (s o k : ℕ) → IsSent start m s o k now →
    now ≡ record start { output = start.output ++ bytes_from m s o k; room = start.room - k }
sent-all start now m s o k w =
    let was = w.room in
    let room : now.room ≡ start.room - k = omega arith in
    λ i. record { input = w.input i; more = w.more i; output = w.output i; room = room i }
