-- What is found of headers, one after the other.
use Rattle.std.proofs.Common.{◌≡◌, ℕ, ◌+◌, ◌<◌, ◌≤◌, List, [], ◌∷◌, ◌++◌, length, get_or, take, map, sym, ◌∙◌, ap, append-nil, append_assoc}
use Rattle.std.specs.List.{flat_map}
use Rattle.std.proofs.lemmas.List.{take_more, take_all, map_push}
use Rattle.std.proofs.lemmas.Grind.{flat_map-append}
use Rattle.dm_blocks.specs.declared.header.Header.{Header}
use Rattle.dm_findings.specs.declared.finding.Finding.{Finding}
use Rattle.dm_checker.specs.declared.arena_copy.HeaderCopy.{HeaderCopy}
use Rattle.dm_checker.specs.ArenaCopy.{header_of}

pub each_of_more : (f : Header → List Finding) (old out new : List Finding) (ws : List HeaderCopy) (i : ℕ)
    (d : HeaderCopy) →
    i < length ws → out ≡ old ++ flat_map f (map header_of (take i ws)) → new ≡ out ++ f (get_or ws i d).header →
    new ≡ old ++ flat_map f (map header_of (take (i + 1) ws))
each_of_more f old out new ws i d less before put =
    let front = take i ws in
    let w = get_or ws i d in
    let headers : map header_of (take (i + 1) ws) ≡ map header_of front ++ w.header ∷ [] =
    ap (λ (x : List HeaderCopy). map header_of x) (take_more ws i d less) ∙ map_push header_of front w in
    let found : flat_map f (map header_of (take (i + 1) ws)) ≡ flat_map f (map header_of front) ++ f w.header =
    ap (λ (x : List Header). flat_map f x) headers ∙ flat_map-append f (map header_of front) (w.header ∷ [])
    ∙ ap (λ (x : List Finding). flat_map f (map header_of front) ++ x) (append-nil (f w.header)) in
    put ∙ ap (λ (x : List Finding). x ++ f w.header) before ∙ append_assoc old (flat_map f (map header_of front))
    (f w.header) ∙ ap (λ (x : List Finding). old ++ x) (sym found)

pub each_of_all : (f : Header → List Finding) (old out : List Finding) (ws : List HeaderCopy) (n : ℕ) → length ws ≤ n →
    out ≡ old ++ flat_map f (map header_of (take n ws)) → out ≡ old ++ flat_map f (map header_of ws)
each_of_all f old out ws n all is = is ∙ ap (λ (x : List HeaderCopy). old ++ flat_map f (map header_of x))
    (take_all n ws all)
