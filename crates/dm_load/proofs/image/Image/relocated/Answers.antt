use Rattle.std.proofs.Common.{◌≡◌, ℕ, ◌+◌, ◌%◌, ◌≤◌, List, length, take, ◌∙◌, ap, arith, subst}
use Rattle.dm_load.proofs.Relocating.{there, IsThere, length-part, first-part, one-more}
use Rattle.dm_load.specs.Image.{word, with_word, target, image, relocations, relocated_by}
use Rattle.dm_load.proofs.image.Image.relocated.Goals as goal

pub loop-index-init : goal.loop-index-init
loop-index-init c =
    c.copy_from_slice.ensures.after ∙ ap (take (length c.args.bytes.now)) c.bytes.ensures.value
    ∙ first-part (image c.args.self.now) (length c.args.bytes.now) c.requires

here : (c : goal.After-target-arg-1) → IsThere c.self.inside.file.now c.loop-index.index
here c =
    there c.self.inside.kind c.self.inside.file.now c.loop-index.index c.self.invariant.0 c.self.invariant.1
    (let is = ap relocations c.self.view_is in omega arith)

pub target-requires : goal.target-requires
target-requires c = record { header = (here c).header; there = (here c).listed }

inside : (c : goal.After-target) → target c.self.inside.file.now c.loop-index.index + 2 ≤ length (image c.args.self.now)
inside c =
    let at = there c.self.inside.kind c.self.inside.file.now c.loop-index.index c.self.invariant.0 c.self.invariant.1
    (let is = ap relocations c.self.view_is in omega arith) in
    subst (λ f. target c.self.inside.file.now c.loop-index.index + 2 ≤ length (image f)) c.self.view_is at.inside

pub add_to_word-requires : goal.add_to_word-requires
add_to_word-requires c =
    omega (
      arith,
      inside c,
      c.target.ensures.reach,
      c.target.ensures.value,
      length-part c.loop-index.index c.args.self.now c.args.start c.loop-index.bytes c.loop-index.invariant,
    )

added : (bytes after : List ℕ) (file self : List ℕ) (k start at : ℕ) → file ≡ self → at ≡ target file k →
    at + 2 ≤ 0x110000 →
    bytes ≡ take 0x110000 (relocated_by k self start) → after ≡ with_word bytes at ((word bytes at + start) % 65536) →
    after ≡ take 0x110000 (relocated_by (k + 1) self start)
added bytes after file self k start at f a h e w =
    let t : at ≡ target self k = a ∙ ap (λ g. target g k) f in
    let h2 : target self k + 2 ≤ 0x110000 = subst (λ i. i + 2 ≤ 0x110000) t h in
    w ∙ ap (λ i. with_word bytes i ((word bytes i + start) % 65536)) t ∙ one-more k self start 0x110000 bytes h2 e

pub loop-index-preserved : goal.loop-index-preserved
loop-index-preserved c =
    added c.loop-index.bytes c.add_to_word.new.bytes c.self.inside.file.now c.args.self.now c.loop-index.index
    c.args.start c.target.result
    c.self.view_is c.target.ensures.value c.target.ensures.reach c.loop-index.invariant c.add_to_word.ensures
