-- `into_loose` moves the pointer back, and what lies there goes with it.
use Rattle.std.proofs.Common.{◌≡◌, List, [], ◌∷◌, ◌++◌, refl, sym, subst}
use mir.Raw.{raw as bare}
use mir.Val.{Val, vptr}
use base.Logic.{SProp, ent, emp, never, id⊢, fst∗}
use base.Fml.{ftrue}
use prog.Wp.{WpFn}
use types.Logic.{sem}
use types.Kit.{‵, raw, ◌⊛◌, ◌$◌, ◌∵◌, !, qed, by, move, keep, split, fsplit3, fjoin, suffices, use0, rewrite}
use types.Run.{stop, fld, of_opd, no_more, and_then, returns, enter}
use types.ByLocal.{alloc_all, pass_all, free_all, look_at, get, get_in, sets}
use types.Part.{agg, sub, whole}
use contract.Monad.{fact, fact_i}
use contract.Running.{tables}
use denote.Exit.{yes}
use denote.Memory.{lone}
use denote.RattleType.{owns}
use denote.Signature.{types_at, plain}
use denote.RawPtr.{Ptr, block_ptr, null_ptr, ptr_val, in_a_block}
use denote.Steps.{nothing, heard}
use denote.Triple.Walked.{Stays, stay_dropped, walk_of, Goes-dropped}
use Rattle.std.specs.Prelude.{Option, Some, is_some, true}
use Rattle.core.proofs.alloc.Calls.{handle_tells}
use Rattle.std.specs.contracts.alloc.Global as heap
use Rattle.std.proofs.alloc.Global.TheLaws as heap_laws
use Rattle.std.specs.contracts.impls.GlobalAllocator.TheImpl.{ghosts}
use Rattle.std.proofs.raw_atomic.Walks.{proved_at, leaves}
use Rattle.std_alloc.specs.Box.Ownership.{box_owns}
use Rattle.dm_c.proofs.Looses.{al, both, loose_good, loose_in}
use Rattle.dm_c.proofs.Insides.{single, inside_out, of_some}
use Rattle.dm_c.specs.inner.Held.{held}
use Rattle.dm_host.specs.Hosts.{Hosted}
use Rattle.dm_host.specs.contracts.host.Host.{the_row}
use Rattle.dm_c.specs.contracts.inside.Inside as inside
use Rattle.dm_c.specs.contracts.inside.Inside.into_loose.{ended, clauses}
use Rattle.dm_c.specs.contracts.inside.Inside.into_loose.Key.{name as #self}
use Rattle.dm_c.proofs.inside.Inside.into_loose.Statement.{statement}
use Rattle.dm_c.proofs.inside.Inside.into_loose.Code as code

pub into_loose_spec : {M : Type 1} → statement M
into_loose_spec 𝓤 𝓛 𝓜 𝓡 wired =
    let H = 𝓛.H in let 𝓣 = tables 𝓤 H 𝓜 𝓡 𝓡.env in let Z = heap.the_row in let LZ = heap_laws.the_row_laws in let c =
    clauses 𝓛 𝓜.mem 𝓡.returns in let fn = code.function in
    let hs : Stays ended.signature.params ended.kept = (
      stay_dropped (plain (λ _. inside.the_row)) yes,
      (stay_dropped (plain (λ _. Z)) yes, tt),
    ) in
    proved_at 𝓛 ended hs c 𝓜 𝓡 (
      Goes-dropped 𝓛 0 (plain (λ _. inside.the_row)) yes (λ κs x f. refl),
      (Goes-dropped 𝓛 0 (plain (λ _. Z)) yes (λ κs x f. refl), tt),
    ) #self fn (code.unfolded 𝓤 H 𝓜 𝓡 wired) (λ z are.
    let κs = z.0.0 in let v = z.0.3.0 in let a = z.0.3.1.0 in let Post : Val → SProp 𝓤 =
    (walk_of 𝓛 ended hs c).post z in let Run : List Val → SProp 𝓤 = λ ws. WpFn 𝓤 H 𝓣.C 𝓣.Λ fn ws Post in
    qed 𝓛 ((‵ ftrue ⊛ ‵ (owns (types_at ended.signature.params κs) z.0.3 z.0.4)) ∷ raw (fact 𝓤 (is_some v.value ≡ true))
    ∷ []) ∵ move ! (1 ∷ []) $ heard ! (is_some v.value ≡ true) (λ there. let x = (of_some v.value there).0 in
    let is = (of_some v.value there).1 in split ! $ move ! (1 ∷ []) $ fsplit3 ! $
    inside_out ! v z.0.4.0 (λ ws. rewrite ! 0 (λ (o : Option Hosted). ‵ (held v.at o)) is refl $
    in_a_block ! v.at (λ p. box_owns (ghosts.dealloc_token a) the_row p x)
    (fst∗ 𝓤 (never 𝓤) (sem 𝓛 (ghosts.dealloc_token a (bare (lone (the_row).mir)) null_ptr))) (λ b o e.
    move ! (1 ∷ []) $ handle_tells (al the_row Z LZ ghosts) ! a z.0.4.1.0 (λ h ea fits. move ! (1 ∷ 0 ∷ []) $
    let w = single (vptr b o) in let told = subst (λ (p : Ptr). z.0.4.0 ≡ single (ptr_val p) ∷ []) e ws in let typed =
    loose_good the_row Z LZ ghosts b o h fits in
    suffices ! (Run (w ∷ h ∷ [])) (subst (λ (us : List Val). ent 𝓤 (Run (w ∷ h ∷ [])) (Run us)) (sym (λ i. told i
    ++ (ea i ++ []))) (id⊢ 𝓤 (Run (w ∷ h ∷ [])))) $
    enter ! 𝓣.C 𝓣.Λ fn (w ∷ h ∷ []) Post $ alloc_all ! (λ l. pass_all ! refl ((tt, (tt, tt)), (fits, tt)) $
    sets ! (of_opd ! (get_in ! (fld ! refl (stop !)) (sub ! 0 refl (whole !)))) refl (
      tt,
      tt,
    ) $ sets ! (of_opd ! (get ! refl)) refl (
      tt,
      tt,
    ) $ sets ! (agg ! (and_then ! (get ! refl) (and_then ! (get ! refl) (no_more !)))) refl typed $
    loose_in the_row Z LZ ghosts ! b o h a x $ use0 𝓛 (raw (fact 𝓤 (Some x ≡ v.value)))
    (fact_i 𝓤 (Some x ≡ v.value) (emp 𝓤) (sym is)) $ nothing ! $ nothing ! $ fjoin ! $ nothing ! $ fjoin ! $
    returns ! (look_at ! 0 refl) $ free_all ! refl $ keep ! (4 ∷ 0 ∷ 2 ∷ 1
    ∷ []) $ by ! (leaves 𝓛 ended hs c z (both (vptr b o) h) (record {
      at = block_ptr b o;
      alloc = a;
      value = x;
    }) _ (tt, (tt, tt)))))))))
