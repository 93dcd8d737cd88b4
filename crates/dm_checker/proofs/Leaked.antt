-- Lists of findings, one behind the other.
use Rattle.std.proofs.Common.{◌≡◌, List, ◌++◌, ◌∙◌, append_assoc}
use Rattle.dm_findings.specs.declared.finding.Finding.{Finding}

-- five lists of findings, one behind the other
pub five_more : (old a b c d e u v w x y : List Finding) → u ≡ old ++ a → v ≡ u ++ b → w ≡ v ++ c → x ≡ w ++ d → y ≡ x
    ++ e → y ≡ old ++ (a ++ b ++ c ++ d ++ e)
five_more old a b c d e u v w x y p q r s t =
    let one : y ≡ ((((old ++ a) ++ b) ++ c) ++ d) ++ e = cc in
    one ∙ simp append_assoc
