-- The watched bytes of several watchpoints, one behind the other.
use Rattle.std.proofs.Common.{◌≡◌, ℕ, suc, zero, ◌+◌, ◌<◌, ◌≤◌, Bool, true, false, List, ◌∷◌, ◌++◌, length, take, drop, get_or, Some, refl, sym, ◌∙◌, ap, add-one, length-append, arith}
use Rattle.std.specs.List.{find}
use Rattle.std.proofs.Math.Seq.{drop-cons, take-append_seam, drop-append_seam}
use Rattle.dm_space.specs.Memory.{Memory}
use Rattle.dm_views.specs.Digits.{in_turn}
use Rattle.dm_requests.specs.declared.request.Point.{Point}
use Rattle.dm_target.specs.Memory.{one_byte}
use Rattle.dm_target.specs.Watching.{bytes_there, watched_bytes, is_changed}
use Rattle.dm_target.specs.inner.Looking.{all_bytes}
use Rattle.dm_target.proofs.Lists.{found_here, found_later}

length_of_bytes : (m : Memory) (a n : ℕ) → length (in_turn (one_byte m a) n) ≡ n
unfolding in_turn
length_of_bytes m a zero = refl
length_of_bytes m a (suc n) =
    let before = length_of_bytes m a n in
    let both = length-append (in_turn (one_byte m a) n) (one_byte m a n) in
    let last : length (one_byte m a n) ≡ 1 = refl in
    omega (arith, before, both, last)

next : (ws : List Point) (i : ℕ) (d : Point) → i < length ws → drop i ws ≡ get_or ws i d ∷ drop (i + 1) ws
next ws i d less = (let more : suc i ≡ i + 1 = sym (add-one i) in drop-cons ws i d less
    ∙ ap (λ n. get_or ws i d ∷ drop n ws) more)

-- the bytes of one watchpoint come first, and those of the others are behind
pub record Cut (m : Memory) (ws : List Point) (i : ℕ) (d : Point) (rest : List ℕ) (n : ℕ) : Type 0 where
  pub few : n ≤ length rest
  pub mine : take n rest ≡ watched_bytes m (get_or ws i d)
  pub others : drop n rest ≡ all_bytes m (drop (i + 1) ws)

pub cut_next : (m : Memory) (ws : List Point) (i : ℕ) (d : Point) (rest : List ℕ) (n : ℕ) → i < length ws →
    n ≡ bytes_there (get_or ws i d) → rest ≡ all_bytes m (drop i ws) → Cut m ws i d rest n
cut_next m ws i d rest n less count is =
    let w = get_or ws i d in
    let front = watched_bytes m w in
    let behind = all_bytes m (drop (i + 1) ws) in
    let whole : rest ≡ front ++ behind = is ∙ ap (all_bytes m) (next ws i d less) in
    let size : length front ≡ n = length_of_bytes m w.address (bytes_there w) ∙ sym count in
    let total : length rest ≡ length front + length behind = ap (λ (x : List ℕ). length x) whole
    ∙ length-append front behind in
    record {
      few = omega (arith, size, total);
      mine = ap (λ k. take k rest) (sym size) ∙ ap (λ (x : List ℕ). take (length front) x) whole
          ∙ take-append_seam front behind;
      others = ap (λ k. drop k rest) (sym size) ∙ ap (λ (x : List ℕ). drop (length front) x) whole
          ∙ drop-append_seam front behind;
    }

-- the first that is changed
pub changed_here : (m n : Memory) (ws : List Point) (i : ℕ) (d : Point) (r : Bool) → i < length ws →
    r ≡ is_changed m n (get_or ws i d) → r ≡ true
    → find (is_changed m n) (drop i ws) ≡ find (is_changed m n) ws → Some (get_or ws i d) ≡ find (is_changed m n) ws
changed_here m n ws i d r less is it same = sym (found_here (is_changed m n) ws i d less (sym is ∙ it)) ∙ same

pub changed_later : (m n : Memory) (ws : List Point) (i : ℕ) (d : Point) (r : Bool) → i < length ws →
    r ≡ is_changed m n (get_or ws i d) → r ≡ false
    → find (is_changed m n) (drop i ws) ≡ find (is_changed m n) ws → find (is_changed m n) (drop (i + 1) ws)
    ≡ find (is_changed m n) ws
changed_later m n ws i d r less is off same = found_later (is_changed m n) ws i d less (sym is ∙ off) ∙ same
