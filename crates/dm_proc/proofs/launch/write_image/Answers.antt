use Rattle.std.proofs.Common.{◌≡◌, ◌++◌, length, take, drop, min, ◌∙◌, ap, arith}
use Rattle.std.proofs.lemmas.List.{length-take, take-append-drop}
use Rattle.dm_space.specs.Memory.{Held}
use Rattle.dm_load.specs.Image.{relocated, relocations}
use Rattle.dm_load.proofs.Relocating.{length-relocated}
use Rattle.dm_proc.proofs.Writing.{two_parts}
use Rattle.dm_proc.proofs.launch.write_image.Goals as goal

pub returns : goal.returns
returns c =
    let m = c.args.space.now.memory in
    let file = c.args.image.now in
    let whole = relocated file c.args.start in
    let scratch = c.relocate-count.new.space.scratch in
    let part : take c.relocate-count.result scratch ≡ take 0x110000 whole = c.relocate-count.ensures.scratch in
    let count : length (take 0x110000 whole) ≡ c.relocate-count.result =
    length-take 0x110000 whole ∙ ap (λ n. min 0x110000 n) (length-relocated (relocations file) file c.args.start)
    ∙ omega arith in
    two_parts m c.relocate-count.new.space.memory c.write_scratch.new.space.memory c.write_from.new.space.memory
    c.args.segment c.relocate-count.result _ _ whole
    c.relocate-count.ensures.memory
    (ap (λ (h : Held). h.memory) c.write_scratch.ensures)
    (ap (λ (h : Held). h.memory) c.write_from.ensures)
    (ap length part ∙ count)
    (ap (λ xs. take c.relocate-count.result scratch ++ xs) (c.rest.ensures.bytes c.args.start)
    ∙ ap (λ xs. xs ++ drop 0x110000 whole) part ∙ take-append-drop 0x110000 whole)
