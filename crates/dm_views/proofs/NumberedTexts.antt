-- Texts of numbers, one after the other.
use Rattle.std.proofs.Common.{◌≡◌, ℕ, ◌+◌, ◌*◌, ◌/◌, ◌%◌, List, ◌++◌, refl, sym, ◌∙◌, ap, arith, add-one, append-nil, append_assoc}
use Rattle.std.proofs.Math.Nat.{add-mul-mod_self_left}
use Rattle.dm_views.specs.Digits.{in_turn}

pub numbered_none : (old : List ℕ) (f : ℕ → List ℕ) → old ≡ old ++ in_turn f 0
unfolding in_turn
numbered_none old f = sym (append-nil old)

numbered_next : (f : ℕ → List ℕ) (n : ℕ) → in_turn f (n + 1) ≡ in_turn f n ++ f n
unfolding in_turn
numbered_next f n = rw add-one refl

pub numbered_more : (old out new : List ℕ) (f : ℕ → List ℕ) (n : ℕ) → out ≡ old ++ in_turn f n → new ≡ out ++ f n →
    new ≡ old ++ in_turn f (n + 1)
numbered_more old out new f n e k =
    k ∙ ap (λ (x : List ℕ). x ++ f n) e ∙ append_assoc old (in_turn f n) (f n) ∙ ap (λ (x : List ℕ). old
    ++ x) (sym (numbered_next f n))

pub numbered_all : (old out : List ℕ) (f : ℕ → List ℕ) (n m : ℕ) → n ≡ m → out ≡ old ++ in_turn f n → out ≡ old
    ++ in_turn f m
numbered_all old out f n m e k = k ∙ ap (λ (i : ℕ). old ++ in_turn f i) e

-- an offset that has wrapped wraps no further
pub wrapped : (o x : ℕ) → (o + x % 65536) % 65536 ≡ (o + x) % 65536
wrapped o x =
    let e : o + x ≡ o + x % 65536 + 65536 * (x / 65536) = omega arith in
    sym (ap (λ (n : ℕ). n % 65536) e ∙ add-mul-mod_self_left (o + x % 65536) 65536 (x / 65536))
