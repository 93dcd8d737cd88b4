use Rattle.std.proofs.Common.{◌≡◌, ◌∙◌, ◌+◌, ◌<◌, ℕ, List, true, false, Some, rules, sym, refl, length, map, drop, get_or}
use Rattle.std.proofs.lemmas.List.{drop_more}
use Rattle.std.specs.Str.{str_eq_ignore_ascii_case}
use Rattle.dm_proc.specs.Programs.{program_of}
use Rattle.dm_proc.specs.declared.programs.Program.{Program}
use Rattle.dm_proc.proofs.programs.Programs.find.Goals as goal

-- the look-up in what is left from i on, whose first program is d
found : (xs : List Program) (i : ℕ) (d : Program) (name : List ℕ) → i < length xs → d ≡ get_or xs i d
    → str_eq_ignore_ascii_case d.name.items name ≡ true
    → program_of (map (λ p. (p.name.items, p.bytes.items)) (drop i xs)) name ≡ Some d.bytes.items
found xs i d name within is same = rw (drop_more xs i d within, ← is, same) refl

passed : (xs : List Program) (i : ℕ) (d : Program) (name : List ℕ) → i < length xs → d ≡ get_or xs i d
    → str_eq_ignore_ascii_case d.name.items name ≡ false
    → program_of (map (λ p. (p.name.items, p.bytes.items)) (drop i xs)) name
    ≡ program_of (map (λ p. (p.name.items, p.bytes.items)) (drop (i + 1) xs)) name
passed xs i d name within is same = rw (drop_more xs i d within, ← is, same) refl

pub returns-then-same_name : goal.returns-then-same_name
returns-then-same_name c =
    let here = found c.deref-program-items.result.now c.loop-program.program-index c.program-item.result c.args.name.now
    c.loop-program-test.true c.program-item.is (search rules) in
    rw (c.as_slice-then-same_name.ensures.value, ← c.self.view_is, ← c.deref-program-items.ensures.value)
    (sym here ∙ c.loop-program.invariant)

pub loop-program-preserved : goal.loop-program-preserved
loop-program-preserved c =
    sym (passed c.deref-program-items.result.now c.loop-program.program-index c.program-item.result c.args.name.now
    c.loop-program-test.true c.program-item.is (search rules)) ∙ c.loop-program.invariant
