-- A list whose elements are changed one after the other.
use Rattle.std.proofs.Common.{◌≡◌, ℕ, ◌+◌, ◌<◌, List, [], ◌∷◌, ◌++◌, length, get_or, take, drop, map, sym, ◌∙◌, ap, append_assoc, arith, length-take}
use Rattle.std.specs.Prelude.{slice_set}
use Rattle.std.proofs.lemmas.List.{length-map, drop_more, take_more, map_push, get_or_at, set_at}
use Rattle.dm_findings.specs.declared.report.Listed.{Listed}

pub changed_at : (f : Listed → Listed) (xs ys : List Listed) (i : ℕ) (d new : Listed) → i < length xs →
    ys ≡ map f (take i xs) ++ drop i xs → new ≡ f (get_or ys i d) → slice_set ys i new ≡ map f (take (i + 1) xs)
    ++ drop (i + 1) xs
changed_at f xs ys i d new less before change =
    let front = map f (take i xs) in
    let x = get_or xs i d in
    let rest = drop (i + 1) xs in
    let whole : ys ≡ front ++ x ∷ rest = before ∙ ap (λ (l : List Listed). front ++ l) (drop_more xs i d less) in
    let len : length front ≡ i = omega (arith, length-map (take i xs) f, length-take i xs) in
    let same : get_or ys i d ≡ x = ap (λ (l : List Listed). get_or l i d) whole ∙ get_or_at front x rest d i len in
    let more : map f (take (i + 1) xs) ≡ front ++ f x ∷ [] = ap (map f) (take_more xs i d less)
    ∙ map_push f (take i xs) x in
    ap (λ (l : List Listed). slice_set l i new) whole ∙ set_at front x rest new i len
    ∙ ap (λ (y : Listed). front ++ y ∷ rest) (change ∙ ap f same)
    ∙ sym (append_assoc front (f x ∷ []) rest) ∙ ap (λ (l : List Listed). l ++ rest) (sym more)
