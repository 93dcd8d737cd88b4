-- Who goes on after an end.
use Rattle.std.proofs.Common.{◌≡◌, ℕ, List, [], ◌∷◌, ◌++◌, refl, sym, ◌∙◌, ap, ap₂}
use Rattle.dm_space.specs.Memory.{Memory}
use Rattle.dm_cpu.specs.declared.cpu.Cpu.{Cpu}
use Rattle.dm_proc.specs.declared.parent.Ending.{Ending}
use Rattle.dm_proc.specs.declared.parent.Ending.TheVariants.{Exited, Returned}
use Rattle.dm_proc.specs.declared.parent.Parent.{Parent}
use Rattle.dm_proc.specs.Processes.{GoesOn, Processes, return_registers}
use Rattle.dm_laws.specs.processes.Lives.{GoesOnAsParent, ParentGoesOn}

head-same : (p q : Parent) (P Q : List Parent) → p ∷ P ≡ q ∷ Q → p ≡ q
head-same p q P Q e = cc

tail-same : (p q : Parent) (P Q : List Parent) → p ∷ P ≡ q ∷ Q → P ≡ Q
tail-same p q P Q e = cc

not-nil : (P Q : List Parent) (p q : Parent) → p ∷ [] ≡ q ∷ (Q ++ P) → Q ++ P ≡ []
not-nil P Q p q e = sym (tail-same p q [] (Q ++ P) e)

ends-some : (P : List Parent) (p : Parent) → P ++ p ∷ [] ≡ [] → ⊥
ends-some [] p e = cc
ends-some (q ∷ P) p e = cc

-- the last of a list, and those before it
last-same : (P Q : List Parent) (p q : Parent) → P ++ p ∷ [] ≡ Q ++ q ∷ [] → (P ≡ Q) × (p ≡ q)
last-same [] [] p q e = (refl, head-same p q [] [] e)
last-same [] (y ∷ Q) p q e = absurd (ends-some Q q (sym (tail-same p y [] (Q ++ q ∷ []) e)))
last-same (x ∷ P) [] p q e = absurd (ends-some P p (tail-same x q (P ++ p ∷ []) [] e))
last-same (x ∷ P) (y ∷ Q) p q e =
    let r = last-same P Q p q (tail-same x y (P ++ p ∷ []) (Q ++ q ∷ []) e) in
    (ap₂ (λ z Z. z ∷ Z) (head-same x y (P ++ p ∷ []) (Q ++ q ∷ []) e) r.0, r.1)

went-on : (ps zs rs : Processes) (x r : Cpu) (c : Cpu) (m : Memory) (code : ℕ) (answer : Ending) →
    zs.parents ≡ ps.parents ++ record { segment = ps.present; cpu = return_registers c m } ∷ [] →
    GoesOn zs x code answer rs r → GoesOnAsParent ps c m code answer rs r
went-on ps zs rs x r c m code Returned e (p, is, left, back) =
    let s = last-same ps.parents rs.parents (record { segment = ps.present; cpu = return_registers c m }) p (sym e
    ∙ is) in
    record {
      returned = refl;
      processes = left ∙ ap₂ (λ (y : ℕ) (Y : List Parent). record { present = y; parents = Y; code = code })
          (ap (λ z. z.segment) (sym s.1)) (sym s.0);
      registers = back ∙ ap (λ z. z.cpu) (sym s.1);
    }
went-on ps zs rs x r c m code Exited e (none, left, back) =
    absurd (ends-some ps.parents (record { segment = ps.present; cpu = return_registers c m }) (sym e ∙ none))

pub goes_on : ParentGoesOn
goes_on upper ps rs c r m f store strategy code l =
    went-on ps l.ending rs l.last_registers r c m code l.answer (l.parents
    ∙ ap (λ z. z.parents) l.execs.processes) l.ends.2.goes_on
