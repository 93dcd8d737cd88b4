use Rattle.dm_ins.proofs.Shortest.{best_spells, encode_least, encode_spells, none_best}
use Rattle.dm_ins.proofs.encoding.new_encoded.Goals as goal

pub invariant_of-result : goal.invariant_of-result
invariant_of-result c = record {
  has_spelling = ∣ (
    c.in-Some.bytes.items,
    best_spells c.args.action c.in-Some.bytes.items c.in-Some.ensures,
  ) ∣₁;
}

pub returns-in-Some-clause-bytes : goal.returns-in-Some-clause-bytes
returns-in-Some-clause-bytes c =
    rw c.whole.ensures
    (record {
      spells = encode_spells c.args.prefixes c.args.action c.in-Some.bytes.items c.in-Some.ensures;
      least = λ b s. encode_least c.args.prefixes c.args.action c.in-Some.bytes.items b c.in-Some.ensures s;
    })

pub returns-in-None-clause-none : goal.returns-in-None-clause-none
returns-in-None-clause-none c = λ bytes s. none_best c.args.action bytes c.in-None.ensures s
