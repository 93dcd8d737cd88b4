-- The laws, from what each instruction does in two memories.
use Rattle.std.proofs.Common.{◌≡◌, ℕ, ◌%◌, List, Option, refl, sym, ◌∙◌, ap, subst, inl, inr}
use Rattle.std.specs.Prelude.{All}
use Rattle.dm_space.specs.Memory.{Memory}
use Rattle.dm_alu.specs.declared.products.Division.{Division}
use Rattle.dm_ins.specs.declared.ins.Ins.{Ins}
use Rattle.dm_ins.specs.declared.operand.Operand.{Operand}
use Rattle.dm_ins.specs.declared.prefix.Prefixes.{Prefixes}
use Rattle.dm_cpu.specs.declared.cpu.Cpu.{Cpu}
use Rattle.dm_cpu.specs.Guest.{Guest, guest, at_ip, up}
use Rattle.dm_cpu.specs.Operands.{value_of}
use Rattle.dm_exec.specs.Effect.{effect}
use Rattle.dm_touches.specs.declared.access.Access.{Access}
use Rattle.dm_touches.specs.declared.access.Access.TheVariants.{Exchange, Divide, Interrupt}
use Rattle.dm_touches.specs.declared.elements.FarAddress.{FarAddress}
use Rattle.dm_touches.specs.Elements.{bytes_of, two_elements}
use Rattle.dm_touches.specs.Access.{access_of}
use Rattle.dm_touches.specs.Touches.{element_of, operand_and_vector, reads_dividing, writes_dividing, reads_by, writes_by, reads, writes}
use Rattle.dm_laws.specs.footprints.Footprints.{seen, IsAmong, stored, DoesTheSame, EffectsDependOnReads, AgreementIsKept}
use Rattle.dm_laws.proofs.footprints.Memories.{seen_agrees, seen_stored}
use Rattle.dm_laws.proofs.footprints.Values.{Same, in_first, in_second, same_value}
use Rattle.dm_laws.proofs.footprints.Stores.{done_operand}
use Rattle.dm_laws.proofs.footprints.Targets.{has_target}
use Rattle.dm_laws.proofs.footprints.Control.{same_quotient}
use Rattle.dm_laws.proofs.footprints.Effects.{operation_effect_done}

-- ---- where an instruction reads and writes

module _ (c : Cpu) (m n : Memory) (p : Prefixes) where
  same_reads : (x : Access) (a b : Operand) → All (Same m n) (bytes_of (reads_by (guest c m) p x a b)) →
      reads_by (guest c n) p x a b ≡ reads_by (guest c m) p x a b
  unfolding reads_by
  same_reads (Divide sign) a b r = ap (λ (d : Option Division). reads_dividing (element_of c p.segment a) d)
      (same_quotient c m n p.segment sign a r)
  same_reads Interrupt a b r =
      let e = element_of c p.segment a in
      ap (λ (v : ℕ). operand_and_vector e (v % 256)) (same_value c m n p.segment a
      (in_first (Same m n) (operand_and_vector e (value_of (guest c m) p.segment a % 256)) r))
  same_reads _ a b r = refl

  same_writes : (x : Access) (a b : Operand) → All (Same m n) (bytes_of (reads_by (guest c m) p x a b)) →
      writes_by (guest c n) p x a b ≡ writes_by (guest c m) p x a b
  unfolding reads_by writes_by
  same_writes (Divide sign) a b r = ap (λ (d : Option Division). writes_dividing c d)
      (same_quotient c m n p.segment sign a r)
  same_writes Exchange a b r =
      let e = two_elements (element_of c p.segment a) (element_of c p.segment b) in
      let second = same_value c m n p.segment b (in_second (Same m n) e r) in
      let first = done_operand c m n p.segment a _ _ second in
      ap (λ (k : Cpu). two_elements (element_of c p.segment a) (element_of k p.segment b)) first.registers
  same_writes _ a b r = refl

-- ---- the laws

pub effects_depend : EffectsDependOnReads
unfolding effect reads writes
effects_depend g h i length a =
    let c : Cpu = (at_ip g (up g.cpu.ip length)).cpu in
    let m : Memory = g.memory in
    let n : Memory = h.memory in
    let x = access_of i.action.mnemonic in
    let d = operation_effect_done c m n i.prefixes g.cpu.ip i.action.mnemonic i.action.first i.action.second
    (record { word = a.word; map = a.map; target = has_target i; bytes = a.bytes }) in
    let F : Cpu → Type 0 = λ k. DoesTheSame g (guest k n) i length in
    subst F (sym a.registers) (record {
      same_reads = same_reads c m n i.prefixes x i.action.first i.action.second a.bytes;
      same_writes = same_writes c m n i.prefixes x i.action.first i.action.second a.bytes;
      registers = d.registers;
      stores = d.stores;
      addresses = d.addresses;
      in_g = d.in_m;
      in_h = d.in_n;
    })

after_stores : (g h : Guest) (i : Ins) (length : ℕ) (f : FarAddress) (d : DoesTheSame g h i length) →
    seen (stored h.memory d.stores) f ≡ seen (stored g.memory d.stores) f → seen (effect h i length).memory f
    ≡ seen (effect g i length).memory f
after_stores g h i length f d e = ap (λ (x : Memory). seen x f) d.in_h ∙ e ∙ sym (ap (λ (x : Memory). seen x f) d.in_g)

pub agreement_kept : AgreementIsKept
agreement_kept g h i length f a (inl e) =
    let d = effects_depend g h i length a in
    after_stores g h i length f d (seen_agrees d.stores g.memory h.memory f a.map e)
agreement_kept g h i length f a (inr k) =
    let d = effects_depend g h i length a in
    let F : List FarAddress → Type 0 = λ fs. IsAmong g.memory fs f in
    after_stores g h i length f d (seen_stored d.stores g.memory h.memory f a.map (subst F (sym d.addresses) k))
