use Rattle.std.proofs.Common.{arith, sym, refl, ◌∙◌, ap, subst, ◌%◌, ◌/◌, ◌++◌, ◌∷◌, []}
use Rattle.std.proofs.lemmas.List.{append_assoc}
use Rattle.dm_asm.specs.Codes.{AreWordsOf}
use Rattle.dm_asm.proofs.Each.{words_none, words_more, take_all}
use Rattle.dm_asm.proofs.Placed.{if_none}
use Rattle.dm_asm.proofs.codes.words_code.Goals as goal

pub returns-in_err-word-clause-none : goal.returns-in_err-word-clause-none
returns-in_err-word-clause-none c = if_none c.from_residual.result _
    (λ list code kept a. words_none list c.args.values.now c.loop-value.value-index _ _ code (omega arith) refl
    (sym (c.in_err-word.ensures list kept)) a)

pub loop-value-preserved : goal.loop-value-preserved
loop-value-preserved c = record {
  long = omega (arith, c.loop-value.invariant.long, c.push.ensures.len, c.push-in-loop-value.ensures.len);
  are = λ list kept. words_more list c.args.values.now c.loop-value.value-index _ _ c.loop-value.code.items
      c.in_ok-word.word c.push-in-loop-value.new.self.items (omega arith) refl (sym (c.in_ok-word.ensures list kept))
      (c.push-in-loop-value.ensures.items ∙ ap (λ r. r ++ c.in_ok-word.word / 256 ∷ []) c.push.ensures.items
      ∙ append_assoc c.loop-value.code.items (c.in_ok-word.word % 256 ∷ []) (c.in_ok-word.word / 256
      ∷ [])) (c.loop-value.invariant.are list kept);
}

pub returns-clause-found : goal.returns-clause-found
returns-clause-found c = λ list kept. subst (λ vs. AreWordsOf list vs c.loop-value.code.items)
    (take_all c.args.values.now c.loop-value.value-index (omega arith)) (c.loop-value.invariant.are list kept)
