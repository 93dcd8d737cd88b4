use Rattle.std.proofs.Common.{◌≡◌, ◌/◌, ◌<◌, ◌≤◌, List, Option, None, length, get_or, sym, ◌∙◌, ap, ap₂, arith}
use Rattle.std.specs.Option.{option_or}
use Rattle.std.proofs.Math.ListN.{get_or-eq_default}
use Rattle.std.proofs.lemmas.List.{get_or_default}
use Rattle.dm_findings.specs.declared.finding.Origin.{Origin}
use Rattle.dm_origins.specs.inner.Chunks.{freed_by}
use Rattle.dm_origins.proofs.Chunked.{length-freed_by, at-freed_by}
use Rattle.dm_origins.proofs.chunks.Chunks.get.Goals as goal

pub returns-then-paragraph-len : goal.returns-then-paragraph-len
returns-then-paragraph-len c =
    let p = c.args.paragraph in
    let ms = c.self.inside.wholes.items in
    let ps = c.self.inside.each.items in
    let over : length (freed_by ms ps) ≤ p = omega (arith, length-freed_by ms ps) in
    sym (ap (λ (f : List (Option Origin)). get_or f p None) (sym c.self.view_is)
    ∙ get_or-eq_default (freed_by ms ps) None over)

pub returns : goal.returns
returns c =
    let p = c.args.paragraph in
    let ms = c.self.inside.wholes.items in
    let ps = c.self.inside.each.items in
    let inside : p < length ps = omega arith in
    let in_wholes : p / 256 < length ms = omega arith in
    let whole : c.index.result.now ≡ get_or ms (p / 256) None = c.index.ensures
    ∙ get_or_default ms (p / 256) c.index.result.now None in_wholes in
    let alone : c.index-2.result.now ≡ get_or ps p None = c.index-2.ensures
    ∙ get_or_default ps p c.index-2.result.now None inside in
    c.or.ensures ∙ ap₂ (λ (x y : Option Origin). option_or x y) whole alone ∙ sym (at-freed_by ms ps p inside)
    ∙ ap (λ (f : List (Option Origin)). get_or f p None) c.self.view_is
