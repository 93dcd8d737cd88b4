-- A run of instructions depends on its inputs.
use Rattle.std.proofs.Common.{◌≡◌, ℕ, ◌<◌, ◌≤◌, List, [], ◌∷◌, ◌++◌, map, take, refl, sym, ◌∙◌, ap, ap₂, subst, inl, inr}
use Rattle.std.specs.Prelude.{◌⊎◌, All, Contains}
use Rattle.std.specs.List.{range_with_len}
use Rattle.std.proofs.lemmas.List.{map-append}
use Rattle.std.proofs.lemmas.Simd.{map-map}
use Rattle.std.proofs.lemmas.List.Elements.{All-head, All-tail, All-weaker}
use Rattle.std.proofs.lemmas.List.FromFn.{take-map-range_with_len}
use Rattle.dm_space.specs.declared.place.Place.{Place}
use Rattle.dm_space.specs.Memory.{Memory}
use Rattle.dm_space.specs.EightBytes.{byte_after, sixteen_after}
use Rattle.dm_ins.specs.declared.ins.Ins.{Ins}
use Rattle.dm_ins.specs.Ins.{Spells, BeginsWith}
use Rattle.dm_cpu.specs.declared.cpu.Cpu.{Cpu}
use Rattle.dm_cpu.specs.Guest.{Guest, up}
use Rattle.dm_exec.specs.Effect.{effect}
use Rattle.dm_touches.specs.declared.elements.FarAddress.{FarAddress}
use Rattle.dm_touches.specs.declared.elements.Elements.{Elements}
use Rattle.dm_touches.specs.Elements.{far, byte_place, bytes_of}
use Rattle.dm_touches.specs.Touches.{reads, writes}
use Rattle.dm_laws.specs.footprints.Footprints.{seen, IsAmong, StoredByte, stored, HasMapOf, DoesTheSame}
use Rattle.dm_laws.specs.footprints.Runs.{own, LeadsWriting, RunsTheSame, RunsDependOnInputs}
use Rattle.dm_laws.proofs.footprints.Memories.{map_stored, place_same, seen_agrees, seen_among, seen_stored}
use Rattle.dm_laws.proofs.footprints.Values.{Same, front_of, back_of}
use Rattle.dm_laws.proofs.footprints.Stores.{stored_append}
use Rattle.dm_laws.proofs.footprints.Depending.{effects_depend}

-- ---- the bytes that an instruction is decoded from

own_bytes : (m : Memory) (c : Cpu) (length : ℕ) → length ≤ 16 → take length (sixteen_after m c.cs c.ip)
    ≡ map (seen m) (own c length)
unfolding sixteen_after
own_bytes m c length short =
    take-map-range_with_len (byte_after m c.cs c.ip) 0 16 length short
    ∙ sym (map-map (seen m) (λ (k : ℕ). far c.cs (up c.ip k)) (range_with_len 0 length))

same_bytes : (m n : Memory) (fs : List FarAddress) → All (Same m n) fs → map (seen n) fs ≡ map (seen m) fs
same_bytes m n [] a = refl
same_bytes m n (f ∷ fs) a = ap₂ (λ (x : ℕ) (xs : List ℕ). x ∷ xs) (All-head (Same m n) f fs a)
    (same_bytes m n fs (All-tail (Same m n) f fs a))

pub same_instruction : (m n : Memory) (c : Cpu) (i : Ins) (length : ℕ) → All (Same m n) (own c length) →
    BeginsWith (sixteen_after m c.cs c.ip) i length → BeginsWith (sixteen_after n c.cs c.ip) i length
same_instruction m n c i length a b = record {
  short = b.short;
  spells = subst (λ (bytes : List ℕ). Spells i bytes) (own_bytes m c length b.short
      ∙ sym (same_bytes m n (own c length) a) ∙ sym (own_bytes n c length b.short)) b.spells;
}

-- ---- what a run knows

-- an address is that of an input, or the run has written there
abbrev IsKnown : Memory → List FarAddress → List FarAddress → FarAddress → Type 0
IsKnown m inputs written f = IsAmong m inputs f ⊎ IsAmong m written f

-- addresses that share a place in one memory share one in another with the same map
still_among : (m n : Memory) (fs : List FarAddress) → HasMapOf m n → (f : FarAddress) → IsAmong m fs f → IsAmong n fs f
still_among m n fs h f c =
    let e : byte_place n ≡ byte_place m = λ i g. place_same m n h g i in
    subst (λ (place : FarAddress → Place). Contains (map place fs) (place f)) (sym e) c

still_known : (m n : Memory) (inputs written : List FarAddress) → HasMapOf m n → (f : FarAddress) →
    IsKnown m inputs written f → IsKnown n inputs written f
still_known m n inputs written h f (inl c) = inl (still_among m n inputs h f c)
still_known m n inputs written h f (inr c) = inr (still_among m n written h f c)

-- where two runs have got that have done the same
module _ (g h k : Guest) (inputs written : List FarAddress) (m : HasMapOf g.memory h.memory)
    (a : All (Same g.memory h.memory) inputs) (t : RunsTheSame g h k inputs written) where
  seen_now : (f : FarAddress) → seen (stored h.memory t.stores) f ≡ seen (stored g.memory t.stores) f →
      Same k.memory t.end.memory f
  seen_now f e = ap (λ (x : Memory). seen x f) t.in_h ∙ e ∙ sym (ap (λ (x : Memory). seen x f) t.in_g)

  known_same : (f : FarAddress) → IsKnown g.memory inputs written f → Same k.memory t.end.memory f
  known_same f (inl c) = seen_now f (seen_agrees t.stores g.memory h.memory f m
      (seen_among g.memory h.memory f m inputs a c))
  known_same f (inr c) =
      let F : List FarAddress → Type 0 = λ fs. IsAmong g.memory fs f in
      seen_now f (seen_stored t.stores g.memory h.memory f m (subst F (sym t.addresses) c))

  map_now : HasMapOf k.memory t.end.memory
  map_now =
      let F : Memory → Type 0 = λ x. HasMapOf x t.end.memory in
      let G : Memory → Type 0 = λ y. HasMapOf (stored g.memory t.stores) y in
      subst F (sym t.in_g) (subst G (sym t.in_h) (map_stored t.stores g.memory h.memory m))

  -- one instruction more
  further : (i : Ins) (length : ℕ) → BeginsWith (sixteen_after k.memory k.cpu.cs k.cpu.ip) i length → k.cpu.sp < 65536 →
      All (IsKnown g.memory inputs written) (own k.cpu length ++ bytes_of (reads k i length)) →
      RunsTheSame g h (effect k i length) inputs (written ++ bytes_of (writes k i length))
  further i length b small known =
      let l : Guest = t.end in
      let fetched = own k.cpu length in
      let read = bytes_of (reads k i length) in
      let all = All-weaker (IsKnown g.memory inputs written) (Same k.memory l.memory) known_same (fetched
      ++ read) known in
      let d : DoesTheSame k l i length = effects_depend k l i length (record {
        registers = t.registers;
        word = small;
        map = map_now;
        bytes = back_of (Same k.memory l.memory) fetched read all;
      }) in
      let begins : BeginsWith (sixteen_after l.memory k.cpu.cs k.cpu.ip) i length =
      same_instruction k.memory l.memory k.cpu i length (front_of (Same k.memory l.memory) fetched read all) b in
      let B : Cpu → Type 0 = λ c. BeginsWith (sixteen_after l.memory c.cs c.ip) i length in
      let W : Cpu → Type 0 = λ c. c.sp < 65536 in
      let K : List FarAddress → Type 0 = λ fs. All (IsKnown h.memory inputs written) fs in
      let R : Elements → Type 0 = λ e. LeadsWriting h inputs (written ++ bytes_of e) (effect l i length) in
      let there : K (fetched ++ read) = All-weaker (IsKnown g.memory inputs written) (IsKnown h.memory inputs written)
      (still_known g.memory h.memory inputs written m) (fetched ++ read) known in
      let same : fetched ++ read ≡ own l.cpu length ++ bytes_of (reads l i length) =
      sym (ap₂ (λ (c : Cpu) (e : Elements). own c length ++ bytes_of e) t.registers d.same_reads) in
      let address : StoredByte → FarAddress = λ s. s.address in
      record {
        end = effect l i length;
        run = subst R d.same_writes (LeadsWriting.one_more written l i length t.run (subst B (sym t.registers) begins)
            (subst W (sym t.registers) small) (subst K same there));
        registers = d.registers;
        stores = t.stores ++ d.stores;
        addresses = map-append address t.stores d.stores ∙ ap₂ (λ (x y : List FarAddress). x
            ++ y) t.addresses d.addresses;
        in_g = d.in_g ∙ ap (λ (x : Memory). stored x d.stores) t.in_g ∙ stored_append t.stores d.stores g.memory;
        in_h = d.in_h ∙ ap (λ (x : Memory). stored x d.stores) t.in_h ∙ stored_append t.stores d.stores h.memory;
      }

run_from : (g h : Guest) (inputs : List FarAddress) → h.cpu ≡ g.cpu → HasMapOf g.memory h.memory →
    All (Same g.memory h.memory) inputs → (written : List FarAddress) (k : Guest) → LeadsWriting g inputs written k →
    RunsTheSame g h k inputs written
run_from g h inputs e m a written k LeadsWriting.no_instruction = record {
  end = h;
  run = LeadsWriting.no_instruction;
  registers = e;
  stores = [];
  addresses = refl;
  in_g = refl;
  in_h = refl;
}
run_from g h inputs e m a written k (LeadsWriting.one_more before l i length run b small known) =
    further g h l inputs before m a (run_from g h inputs e m a before l run) i length b small known

pub runs_depend : RunsDependOnInputs
runs_depend g h k inputs written run e m a = run_from g h inputs e m a written k run
