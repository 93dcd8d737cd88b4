-- One or two headers written in place of some blocks.
use Rattle.std.proofs.Common.{◌≡◌, ℕ, ◌<◌, ◌≤◌, Bool, List, [], ◌∷◌, ◌++◌, inl, inr, refl, sym, ◌∙◌, subst, arith}
use Rattle.dm_space.specs.Memory.{Memory}
use Rattle.dm_space.proofs.Places.{place-shaped, shaped-then}
use Rattle.dm_blocks.specs.declared.header.Header.{Header}
use Rattle.dm_blocks.specs.Chain.{IsHeader, signature, Spells, HasHeader, next, IsClear, signature_byte}
use Rattle.dm_arena.specs.inner.Walks.{IsHeaderWritten, Fills, IsReplaceable, IsReplaced}
use Rattle.dm_blocks.proofs.Chains.{Agrees, spells_kept, spells_replace, spells_above, spells_below, spells_end, header_kept, has_left, has_right, clear_map, last-signature}
use Rattle.dm_arena.proofs.Written.{agrees_written, byte_kept}

-- what comes after blocks that fill h to t is spelled from t on
after_fills : (S : Memory) (h t : ℕ) (B Q : List Header) → Fills h B t → Spells S h (B ++ Q) → Spells S t Q
after_fills S h t [] Q f s = let P : ℕ → Type 0 = λ x. Spells S x Q in subst P f s
after_fills S h t (b ∷ B) Q f s = after_fills S (next b) t B Q f.1 s.2

-- one header
pub replaced_one : (S T : Memory) (start : ℕ) (P B Q : List Header) (h t : ℕ) (c : Header) (last : Bool) →
    IsReplaceable S start P B Q (c ∷ []) last h t → IsHeaderWritten S c (signature_byte last) T →
    IsReplaced S start P Q (c ∷ []) T
replaced_one S T start P [] Q h t c last r x = absurd r.nonempty
replaced_one S T start P (b ∷ B) Q h t c last r x =
    let M = P ++ c ∷ Q in
    let cb : c.segment ≡ b.segment = r.new_fills.0 ∙ sym r.old_fills.0 in
    let s : Spells S start (P ++ b ∷ (B ++ Q)) = r.spells in
    let wc : HasHeader M c.segment = has_right P (c ∷ Q) _ (inl refl) in
    let tail : Spells S (next b) (B ++ Q) = (spells_end S start P b (B ++ Q) s).2 in
    let after : Spells S t Q = after_fills S (next b) t B Q r.old_fills.1 tail in
    let end : next c ≡ t = r.new_fills.1 in
    let low : Agrees S T P = agrees_written S T c _ M P x r.clear wc (λ g w. has_left P (c ∷ Q) g w) (λ g w e. (let y =
    spells_below S start P b (B ++ Q) s g w in omega arith)) in
    let high : Agrees S T Q = agrees_written S T c _ M Q x r.clear wc (λ g w. has_right P (c ∷ Q) g (inr w))
    (λ g w e. (let y = spells_above S t Q after g w in omega arith)) in
    let y : IsHeader T c (signature Q) = rw (← last-signature last Q r.end) (x.written (r.clear.writable _ wc)) in
    let rest : Spells T (next c) Q = (let F : ℕ → Type 0 = λ z. Spells T z Q in
    subst F (sym end) (spells_kept S T t Q high after)) in
    record {
      spells = spells_replace S T start P b c (B ++ Q) Q s low cb (refl, y, rest);
      differs = record { shape = x.shape; kept = λ p ne. x.kept p (λ k. ne c.segment k (inl refl)) };
    }

-- two headers, the upper one first
pub replaced_two : (S U T : Memory) (start : ℕ) (P B Q : List Header) (h t : ℕ) (c d : Header) (last : Bool) →
    IsReplaceable S start P B Q (c ∷ d ∷ []) last h t → IsHeaderWritten S d (signature_byte last) U →
    IsHeaderWritten U c 0x4D T → IsReplaced S start P Q (c ∷ d ∷ []) T
replaced_two S U T start P [] Q h t c d last r x z = absurd r.nonempty
replaced_two S U T start P (b ∷ B) Q h t c d last r x z =
    let M = P ++ c ∷ d ∷ Q in
    let cb : c.segment ≡ b.segment = r.new_fills.0 ∙ sym r.old_fills.0 in
    let s : Spells S start (P ++ b ∷ (B ++ Q)) = r.spells in
    let wc : HasHeader M c.segment = has_right P (c ∷ d ∷ Q) _ (inl refl) in
    let wd : HasHeader M d.segment = has_right P (c ∷ d ∷ Q) _ (inr (inl refl)) in
    let tail : Spells S (next b) (B ++ Q) = (spells_end S start P b (B ++ Q) s).2 in
    let after : Spells S t Q = after_fills S (next b) t B Q r.old_fills.1 tail in
    let dc : d.segment ≡ next c = r.new_fills.1.0 in
    let end : next d ≡ t = r.new_fills.1.1 in
    let clear' : IsClear U M = clear_map S U M (place-shaped S U x.shape) r.clear in
    let below : (g : ℕ) → HasHeader P g → g < c.segment = λ g w. (let y = spells_below S start P b (B ++ Q) s g w in
    omega arith) in
    let above : (g : ℕ) → HasHeader Q g → next d ≤ g = λ g w. (let y = spells_above S t Q after g w in omega arith) in
    let inP : (g : ℕ) → HasHeader P g → HasHeader M g = λ g w. has_left P (c ∷ d ∷ Q) g w in
    let inQ : (g : ℕ) → HasHeader Q g → HasHeader M g = λ g w. has_right P (c ∷ d ∷ Q) g (inr (inr w)) in
    let low1 : Agrees S U P = agrees_written S U d _ M P x r.clear wd inP (λ g w e. (let y = below g w in
    omega arith)) in
    let high1 : Agrees S U Q = agrees_written S U d _ M Q x r.clear wd inQ (λ g w e. (let y = above g w in
    omega arith)) in
    let low2 : Agrees U T P = agrees_written U T c _ M P z clear' wc inP (λ g w e. (let y = below g w in
    omega arith)) in
    let high2 : Agrees U T Q = agrees_written U T c _ M Q z clear' wc inQ (λ g w e. (let y = above g w in
    omega arith)) in
    let yd : IsHeader U d (signature Q) = rw (← last-signature last Q r.end) (x.written (r.clear.writable _ wd)) in
    let yd' : IsHeader T d (signature Q) = header_kept U T d _ (byte_kept U T c _ M z clear' wc d.segment wd
    (λ e. omega arith)) yd in
    let yc : IsHeader T c 0x4D = z.written (clear'.writable _ wc) in
    let rest : Spells T (next d) Q = (let F : ℕ → Type 0 = λ v. Spells T v Q in
    subst F (sym end) (spells_kept U T t Q high2 (spells_kept S U t Q high1 after))) in
    let both : Agrees S T P = record { same = λ g k w small. low2.same g k w small ∙ low1.same g k w small } in
    record {
      spells = spells_replace S T start P b c (B ++ Q) (d ∷ Q) s both cb (refl, yc, (dc, yd', rest));
      differs = record {
        shape = shaped-then S U T x.shape z.shape;
        kept = λ p ne. z.kept p (λ k small e. ne c.segment k (inl refl) small (e ∙ place-shaped S U x.shape _))
            ∙ x.kept p (λ k. ne d.segment k (inr (inl refl)));
      };
    }
