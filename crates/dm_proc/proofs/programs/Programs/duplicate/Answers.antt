use Rattle.std.proofs.Common.{◌≡◌, ◌∙◌, ◌+◌, ◌<◌, ℕ, List, [], ◌∷◌, ◌++◌, sym, ap, refl, length, map, take, get_or}
use Rattle.std.proofs.lemmas.List.{take_more, map-append, take_all}
use Rattle.dm_proc.specs.declared.programs.Program.{Program}
use Rattle.dm_proc.proofs.programs.Programs.duplicate.Invariants.{seen}
use Rattle.dm_proc.proofs.programs.Programs.duplicate.Goals as goal

-- one program more of a list is copied
copied : (xs ys : List Program) (i : ℕ) (d e : Program) → i < length xs → d ≡ get_or xs i d →
    map seen ys ≡ map seen (take i xs)
    → e.name.items ≡ d.name.items → e.bytes.items ≡ d.bytes.items → map seen (ys ++ e ∷ []) ≡ map seen (take (i + 1) xs)
copied xs ys i d e within is before name bytes =
    let more = take_more xs i d within ∙ ap (λ p. take i xs ++ p ∷ []) (sym is) in
    map-append seen ys (e ∷ [])
    ∙ ap (λ l. l ++ seen e ∷ []) before
    ∙ ap (λ n. map seen (take i xs) ++ (n, e.bytes.items) ∷ []) name
    ∙ ap (λ b. map seen (take i xs) ++ (d.name.items, b) ∷ []) bytes
    ∙ sym (map-append seen (take i xs) (d ∷ []))
    ∙ sym (ap (map seen) more)

pub loop-program-preserved : goal.loop-program-preserved
loop-program-preserved c =
    let same = c.in_ok-duplicate.ensures in
    ap (map seen) c.in_ok-push.ensures.items
    ∙ copied c.deref-program-items.result.now c.loop-program.programs.items c.loop-program.program-index
    c.program-item.result c.in_ok-duplicate.field-0 c.loop-program-test.true c.program-item.is
    c.loop-program.invariant same.0 same.1

pub returns : goal.returns
returns c =
    c.loop-program.invariant
    ∙ ap (map seen) (take_all _ _ c.loop-program-test.false ∙ c.deref-program-items.ensures.value)
    ∙ c.self.view_is
