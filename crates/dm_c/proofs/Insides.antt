-- The machine value of an `Inside`. Assumes `Logic`.
use Rattle.std.proofs.Common.{◌≡◌, ℕ, List, [], ◌∷◌, ◌++◌, refl, subst}
use seplogic.Ra.Ura.{Ura}
use mir.Val.{Val, vstruct, vcons, vnil, of_list}
use types.Logic.{Logic}
use types.Kit.{Item, Goal, Seq, Step, step, ‵, ◌$◌, drop, fsplit, fjoin, fpick, fpack, feq_i, feq_l}
use denote.RattleType.{Valss}
use denote.Builtin.{RawPtr}
use denote.RawPtr.{Ptr, ptr_val}
use denote.Steps.{nothing}
use denote.Struct.Struct.{within}
use denote.Struct.Owning.{shape}
use Rattle.std.specs.Prelude.{true, Option, Some, None, is_some}
use Rattle.dm_c.specs.inner.Held.{held}
use Rattle.dm_host.specs.Hosts.{Hosted}
use Rattle.dm_c.specs.contracts.inside.Inside as inside

abbrev pub single : Val → Val
single v = vstruct (vcons v vnil)

module _ {M : Type 1} {𝓤 : Ura M} {𝓛 : Logic 𝓤} {K : Type 0} {Γ : List (Item 𝓤)} {G : Goal 𝓤 𝓛.H} where
  pub inside_out : K → (d : inside.the_row.Denot) (vs : List Val)
      → (vs ≡ single (ptr_val d.at) ∷ [] → Seq K 𝓛 (‵ (held d.at d.value) ∷ Γ) G)
      → Seq K 𝓛 (‵ (inside.the_row.own_val d vs) ∷ Γ) G
  inside_out t d vs k =
      fsplit t $ fpick t (λ vss. fsplit t $ feq_l t (λ ev. fsplit t $ feq_l t (λ ep. drop t $
      k (subst (λ (ps : List Val). vs ≡ vstruct (of_list (ps ++ [])) ∷ []) ep ev))))

  pub inside_in : K → (p : Ptr) (x : Option Hosted)
      → Step K 𝓛 (‵ (inside.the_row.own_val (record { at = p; value = x }) (single (ptr_val p) ∷ []))
      ∷ Γ) G (‵ (held p x) ∷ Γ) G
  inside_in t p x = step (λ s. let v : Val = single (ptr_val p) in
      nothing t $ feq_i t (List Val) (ptr_val p ∷ []) (ptr_val p ∷ []) refl $ fjoin t $ feq_i t (List Val) (v ∷ []) (v
      ∷ []) refl $ fjoin t $
      fpack t (Valss (RawPtr ∷ [])) (within (shape inside.the_type) (p, tt) (v ∷ [])) (
        ptr_val p ∷ [],
        tt,
      ) $ fjoin t $ s)

-- what is there
pub of_some : {A : Type 0} (o : Option A) → is_some o ≡ true → (x : A) × (o ≡ Some x)
of_some (Some x) there = (x, refl)
of_some None there = absurd (Rattle.std.proofs.Common.true≢false (Rattle.std.proofs.Common.sym there))
