use Rattle.std.proofs.Common.{ℕ, ◌+◌, ◌-◌, ◌≤◌, length, drop, min, sym, ◌∙◌, ap, subst, arith, length-drop}
use Rattle.std.proofs.lemmas.List.{take_all}
use Rattle.dm_load.specs.Image.{target, image, relocations}
use Rattle.dm_load.proofs.Relocating.{drop-relocated, drop-min}
use Rattle.dm_load.proofs.image.Image.rest.Goals as goal

pub returns-clause-bytes : goal.returns-clause-bytes
returns-clause-bytes c = λ start.
    (let reach = subst (λ f. (k : ℕ) → target f k + 2 ≤ 0x110000) c.self.view_is c.targets_reach.ensures in
    let bytes = c.bytes-bytes.result.now in
    let n = c.min.result in
    take_all (length bytes - n) (drop n bytes) (omega (arith, length-drop n bytes))
    ∙ ap (λ k. drop k bytes) c.min.ensures
    ∙ ap (λ xs. drop (min (length xs) 0x110000) xs) c.bytes-bytes.ensures.value
    ∙ drop-min 0x110000 (image c.args.self.now)
    ∙ sym (drop-relocated 0x110000 (relocations c.args.self.now) c.args.self.now start reach))
