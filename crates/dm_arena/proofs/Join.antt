-- The step of the pass that joins.
use Rattle.std.proofs.Common.{◌≡◌, ℕ, Bool, true, false, List, [], ◌∷◌, ◌++◌, inl, inr, refl, sym, ◌∙◌, ap, arith, append_assoc}
use Rattle.dm_space.specs.Memory.{Memory}
use Rattle.dm_space.proofs.Places.{place-shaped, shaped-then}
use Rattle.dm_blocks.specs.declared.header.Header.{Header}
use Rattle.dm_blocks.specs.declared.header.ListedHeader.{ListedHeader}
use Rattle.dm_blocks.specs.Chain.{IsHeader, signature, Spells, HasHeader, IsNonEmpty, next, IsClear, IsArena, signature_byte}
use Rattle.dm_blocks.specs.Reading.{is_nil}
use Rattle.dm_arena.specs.inner.Walks.{IsHeaderWritten, IsJoiningAll, IsJoinedFront, IsJoined}
use Rattle.dm_arena.specs.Blocks.{join}
use Rattle.dm_blocks.proofs.Chains.{Agrees, spells_kept, spells_replace, spells_above, spells_below, has_left, has_right, has_either, clear_within, clear_map, last-signature}
use Rattle.dm_arena.proofs.Written.{agrees_written}

append-nil : (P : List Header) → P ++ [] ≡ P
append-nil [] = refl
append-nil (p ∷ P) = ap (λ q. p ∷ q) (append-nil P)

pub nonempty_of : (last : Bool) (N : List Header) → last ≡ false → last ≡ is_nil N → IsNonEmpty N
nonempty_of last [] l e = absurd (let x : false ≡ true = sym l ∙ e in cc)
nonempty_of last (c ∷ N) l e = tt

module _ (up : Bool) where
  pub joining_all_step : (S : Memory) (start : ℕ) (L : List Header) (T : Memory) (h : ℕ) (done K : List Header)
      (U : Memory) (e : ListedHeader) → IsArena S start L → IsNonEmpty K → IsJoiningAll up S start L T h done K →
      e.header.segment ≡ h → IsHeaderWritten T e.header (signature_byte e.last) U → (N : List Header) →
      IsJoinedFront up T K e N → IsJoiningAll up S start L U (next e.header) (done ++ e.header ∷ []) N
  joining_all_step S start L T h done [] U e a n j there x N f = absurd n
  joining_all_step S start L T h done (c ∷ K) U e a n j there x N f =
      let b = e.header in
      let M = done ++ c ∷ K in
      let clear : IsClear T M = clear_map S T M (place-shaped S T j.differs.shape) (clear_within S L M j.within a.1) in
      let cb : c.segment ≡ b.segment = j.rest.0 ∙ sym there in
      let wb : HasHeader M b.segment = has_right done (c ∷ K) _ (inl cb) in
      let low : Agrees T U done = agrees_written T U b _ M done x clear wb (λ g w. has_left done (c
      ∷ K) g w) (λ g w e'. (let y = spells_below T start done c K j.spells g w in omega arith)) in
      let high : Agrees T U N = agrees_written T U b _ M N x clear wb (λ g w. has_right done (c ∷ K) g (f.within g w))
      (λ g w e'. (let y = spells_above T _ N f.rest g w in omega arith)) in
      let rest : Spells U (next b) N = spells_kept T U _ N high f.rest in
      let y : IsHeader U b (signature N) = rw (← last-signature e.last N f.last) (x.written (clear.writable _ wb)) in
      let bN : List Header = b ∷ N in
      let spelled : Spells U start (done ++ bN) = spells_replace T U start done c b K N j.spells low (sym cb) (
        refl,
        y,
        rest,
      ) in
      let assoc : (Z : List Header) → (done ++ b ∷ []) ++ Z ≡ done ++ b ∷ Z = λ Z. append_assoc done (b ∷ []) Z in
      record {
        rest = rest;
        spells = rw (assoc N) spelled;
        is = assoc (join up N) ∙ ap (λ Z. done ++ Z) (sym f.is) ∙ j.is;
        within = rw (assoc N) (λ g w. elim (has_either done bN g w) [
          | inl l ↦ j.within g (has_left done (c ∷ K) g l)
          | inr r ↦ elim r [
            | inl q ↦ j.within g (has_right done (c ∷ K) g (inl (cb ∙ q)))
            | inr q ↦ j.within g (has_right done (c ∷ K) g (f.within g q))
          ]
        ]);
        differs = record {
          shape = shaped-then S T U j.differs.shape x.shape;
          kept = λ p ne. x.kept p (λ k small q. ne b.segment k (has_right done (b ∷ []) _ (inl refl)) small (q
              ∙ place-shaped S T j.differs.shape _)) ∙ j.differs.kept p (λ g k w. ne g k (has_left done (b ∷ []) g w));
        };
      }

  pub joining_all_end : (S : Memory) (start : ℕ) (L : List Header) (T : Memory) (h : ℕ) (done N : List Header) →
      is_nil N ≡ true → IsJoiningAll up S start L T h done N → IsJoined up S start L T
  joining_all_end S start L T h done [] n j =
      let e : done ≡ join up L = sym (append-nil done) ∙ j.is in
      record {
        spells = rw (← j.is) j.spells;
        differs = rw (← e) j.differs;
      }
  joining_all_end S start L T h done (c ∷ N) n j = absurd (let x : false ≡ true = n in cc)

  pub joining_all_at : (S : Memory) (start : ℕ) (L : List Header) (T : Memory) (h k : ℕ) (done N : List Header) →
      k ≡ h → IsJoiningAll up S start L T h done N → IsJoiningAll up S start L T k done N
  joining_all_at S start L T h k done N e j = rw e j
