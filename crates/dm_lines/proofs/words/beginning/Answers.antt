use Rattle.std.proofs.Common.{ℕ, ap, sym, refl, arith}
use Rattle.std.proofs.lemmas.Bool.{ne_eqb}
use Rattle.dm_decode.specs.Names.{name_of}
use Rattle.dm_lines.specs.inner.Words.{all_words, those}
use Rattle.dm_lines.specs.inner.Words.{begins}
use Rattle.dm_lines.proofs.Reserved.{none_begin}
use Rattle.dm_lines.proofs.words.beginning.Goals as goal

pub returns-in-65 : goal.returns-in-65
unfolding name_of
returns-in-65 c = ap (λ (b : ℕ). those (begins b) all_words) (sym c.in-65.is)

pub returns-in-66 : goal.returns-in-66
unfolding name_of
returns-in-66 c = ap (λ (b : ℕ). those (begins b) all_words) (sym c.in-66.is)

pub returns-in-67 : goal.returns-in-67
unfolding name_of
returns-in-67 c = ap (λ (b : ℕ). those (begins b) all_words) (sym c.in-67.is)

pub returns-in-68 : goal.returns-in-68
unfolding name_of
returns-in-68 c = ap (λ (b : ℕ). those (begins b) all_words) (sym c.in-68.is)

pub returns-in-69 : goal.returns-in-69
unfolding name_of
returns-in-69 c = ap (λ (b : ℕ). those (begins b) all_words) (sym c.in-69.is)

pub returns-in-70 : goal.returns-in-70
unfolding name_of
returns-in-70 c = ap (λ (b : ℕ). those (begins b) all_words) (sym c.in-70.is)

pub returns-in-72 : goal.returns-in-72
unfolding name_of
returns-in-72 c = ap (λ (b : ℕ). those (begins b) all_words) (sym c.in-72.is)

pub returns-in-73 : goal.returns-in-73
unfolding name_of
returns-in-73 c = ap (λ (b : ℕ). those (begins b) all_words) (sym c.in-73.is)

pub returns-in-74 : goal.returns-in-74
unfolding name_of
returns-in-74 c = ap (λ (b : ℕ). those (begins b) all_words) (sym c.in-74.is)

pub returns-in-76 : goal.returns-in-76
unfolding name_of
returns-in-76 c = ap (λ (b : ℕ). those (begins b) all_words) (sym c.in-76.is)

pub returns-in-77 : goal.returns-in-77
unfolding name_of
returns-in-77 c = ap (λ (b : ℕ). those (begins b) all_words) (sym c.in-77.is)

pub returns-in-78 : goal.returns-in-78
unfolding name_of
returns-in-78 c = ap (λ (b : ℕ). those (begins b) all_words) (sym c.in-78.is)

pub returns-in-79 : goal.returns-in-79
unfolding name_of
returns-in-79 c = ap (λ (b : ℕ). those (begins b) all_words) (sym c.in-79.is)

pub returns-in-80 : goal.returns-in-80
unfolding name_of
returns-in-80 c = ap (λ (b : ℕ). those (begins b) all_words) (sym c.in-80.is)

pub returns-in-82 : goal.returns-in-82
unfolding name_of
returns-in-82 c = ap (λ (b : ℕ). those (begins b) all_words) (sym c.in-82.is)

pub returns-in-83 : goal.returns-in-83
unfolding name_of
returns-in-83 c = ap (λ (b : ℕ). those (begins b) all_words) (sym c.in-83.is)

pub returns-in-84 : goal.returns-in-84
unfolding name_of
returns-in-84 c = ap (λ (b : ℕ). those (begins b) all_words) (sym c.in-84.is)

pub returns-in-87 : goal.returns-in-87
unfolding name_of
returns-in-87 c = ap (λ (b : ℕ). those (begins b) all_words) (sym c.in-87.is)

pub returns-in-88 : goal.returns-in-88
unfolding name_of
returns-in-88 c = ap (λ (b : ℕ). those (begins b) all_words) (sym c.in-88.is)

pub returns-in_default : goal.returns-in_default
returns-in_default c =
    sym (none_begin c.args.first (rw (
      ne_eqb c.args.first 65 (omega arith),
      ne_eqb c.args.first 66 (omega arith),
      ne_eqb c.args.first 67 (omega arith),
      ne_eqb c.args.first 68 (omega arith),
      ne_eqb c.args.first 69 (omega arith),
      ne_eqb c.args.first 70 (omega arith),
      ne_eqb c.args.first 72 (omega arith),
      ne_eqb c.args.first 73 (omega arith),
      ne_eqb c.args.first 74 (omega arith),
      ne_eqb c.args.first 76 (omega arith),
      ne_eqb c.args.first 77 (omega arith),
      ne_eqb c.args.first 78 (omega arith),
      ne_eqb c.args.first 79 (omega arith),
      ne_eqb c.args.first 80 (omega arith),
      ne_eqb c.args.first 82 (omega arith),
      ne_eqb c.args.first 83 (omega arith),
      ne_eqb c.args.first 84 (omega arith),
      ne_eqb c.args.first 87 (omega arith),
      ne_eqb c.args.first 88 (omega arith),
    ) refl))
