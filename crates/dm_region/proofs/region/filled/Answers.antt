use Rattle.std.proofs.Common.{◌≡◌, ◌+◌, ◌-◌, ℕ, List, Option, map, length, sym, ap, ◌∙◌, subst, arith}
use Rattle.dm_region.specs.inner.Lends.{spliced}
use Rattle.dm_region.specs.inner.Places.{or_zero, IsHoled}
use Rattle.dm_region.proofs.Holes.{ends_holed, ends_long, ends_bytes}
use Rattle.dm_region.proofs.region.filled.Goals as goal

pub invariant_of-result : goal.invariant_of-result
invariant_of-result c =
    let xs = c.args.front.now in let ys = c.args.back.now in let n = c.args.len in let m = n - length xs - length ys in
    let to = n - length ys in
    let whole : n ≡ length xs + m + length ys = omega (arith, c.requires.fits) in let at : to ≡ length xs + m =
    omega (arith, c.requires.fits) in
    let b = c.in_ok-base.ensures in
    let slots = c.put_bytes-2.ensures.slots ∙ ap (λ (l : List (Option ℕ)). spliced l to (length ys) ys)
    c.put_bytes.ensures.slots ∙ ap (λ (l : List (Option ℕ)). spliced (spliced l 0 (length xs) xs) to (length ys) ys)
    b.1 in
    record {
      holed = subst (λ (l : List (Option ℕ)). IsHoled l (length xs) to) (sym slots) (ends_holed xs ys n m to whole at);
      ordered = omega (arith, c.requires.fits);
      within = omega arith;
      length_is = ap length slots ∙ ends_long xs ys n m to whole at;
      fits = omega (arith, c.requires.most);
      cells_at = c.put_bytes-2.ensures.at ∙ c.put_bytes.ensures.at ∙ b.0;
      deed_at = b.2;
      deed_len = b.3;
      deed_alloc = b.4;
    }

pub returns : goal.returns
returns c =
    let xs = c.args.front.now in let ys = c.args.back.now in let n = c.args.len in let m = n - length xs - length ys in
    let to = n - length ys in
    let whole : n ≡ length xs + m + length ys = omega (arith, c.requires.fits) in let at : to ≡ length xs + m =
    omega (arith, c.requires.fits) in
    let b = c.in_ok-base.ensures in
    let slots = c.put_bytes-2.ensures.slots ∙ ap (λ (l : List (Option ℕ)). spliced l to (length ys) ys)
    c.put_bytes.ensures.slots ∙ ap (λ (l : List (Option ℕ)). spliced (spliced l 0 (length xs) xs) to (length ys) ys)
    b.1 in
    ap (λ (l : List ℕ). record { bytes = l; from = length xs; to = to }) (ap (map or_zero) slots
    ∙ ends_bytes xs ys n m to whole at)
