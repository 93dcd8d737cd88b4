use Rattle.std.proofs.Common.{◌∙◌, sym, ap, not, Some}
use Rattle.std.specs.Prelude.{cond}
use Rattle.std.specs.BTreeMap as tree
use Rattle.std.specs.Ordering.{nat_cmp}
use Rattle.std.specs.Cmp.Lexicographic.{slice_cmp}
use Rattle.std.specs.Str.{bytes_eq}
use Rattle.std.proofs.lemmas.Map.Text.{is_eq-slice_cmp}
use Rattle.dm_asm.proofs.Found.{find_more, is_new, is_old}
use Rattle.dm_asm.proofs.labels.Labels.add.Goals as goal

pub returns-in-Ok-clause-added : goal.returns-in-Ok-clause-added
returns-in-Ok-clause-added c = λ t labels kept.
    let free = is_new c.in-Ok.old _ _ (c.is_none.ensures ∙ ap not t) c.in-Ok.ensures.old (kept c.args.name.now) in (
      free,
      λ name.
          c.in-Ok.ensures.updates.0 name.bytes
          ∙ ap (λ b. cond b (Some c.args.place) (tree.get (slice_cmp nat_cmp) c.args.self.now.places name.bytes))
          (is_eq-slice_cmp c.args.name.now.bytes name.bytes)
          ∙ ap (λ r. cond (bytes_eq c.args.name.now.bytes name.bytes) (Some c.args.place) r) (kept name)
          ∙ sym (find_more name c.args.name.now c.args.place labels free),
    )

pub returns-in-Ok-clause-had : goal.returns-in-Ok-clause-had
returns-in-Ok-clause-had c = λ t labels kept. is_old c.in-Ok.old _ _ (c.is_none.ensures
    ∙ ap not t) c.in-Ok.ensures.old (kept c.args.name.now)
