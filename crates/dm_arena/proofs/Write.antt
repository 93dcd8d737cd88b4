-- Five bytes written at a paragraph.
use Rattle.std.proofs.Common.{◌≡◌, ◌≢◌, ℕ, suc, zero, ◌+◌, ◌*◌, ◌<◌, ◌≤◌, refl, sym, ◌∙◌, ap₂, subst, arith}
use Rattle.dm_space.specs.declared.place.Place.{Place}
use Rattle.dm_space.specs.Memory.{Memory, place, peek, byte_at}
use Rattle.dm_space.specs.Places.{IsWritable, IsShaped}
use Rattle.dm_space.specs.inner.Places.{IsPoked}
use Rattle.dm_space.proofs.Places.{paragraph-writable, paragraph-apart, place-shaped, shaped-then, poked-read, poked-kept}
use Rattle.dm_blocks.specs.Chain.{IsHeader}
use Rattle.dm_blocks.proofs.Unique.{each_of_five}

poked-same : (S : Memory) (a v : ℕ) (T : Memory) → IsPoked S a v T → IsWritable (place S a) → peek T a ≡ v
poked-same S a v T p w = poked-read S a v T p w

poked-other : (S : Memory) (a v : ℕ) (T : Memory) (c : ℕ) → IsPoked S a v T → place S c ≢ place S a →
    peek T c ≡ peek S c
poked-other S a v T c p ne = poked-kept S a v T c p ne

module _ (S0 S1 S2 S3 S4 S5 : Memory) (h v0 v1 v2 v3 v4 : ℕ) (p0 : IsPoked S0 (16 * h + 0) v0 S1)
    (p1 : IsPoked S1 (16 * h + 1) v1 S2) (p2 : IsPoked S2 (16 * h + 2) v2 S3) (p3 : IsPoked S3 (16 * h + 3) v3 S4)
    (p4 : IsPoked S4 (16 * h + 4) v4 S5) where
  m1 : (a : ℕ) → place S1 a ≡ place S0 a
  m1 a = place-shaped S0 S1 p0.shape a

  m2 : (a : ℕ) → place S2 a ≡ place S0 a
  m2 a = place-shaped S1 S2 p1.shape a ∙ m1 a

  m3 : (a : ℕ) → place S3 a ≡ place S0 a
  m3 a = place-shaped S2 S3 p2.shape a ∙ m2 a

  m4 : (a : ℕ) → place S4 a ≡ place S0 a
  m4 a = place-shaped S3 S4 p3.shape a ∙ m3 a

  pub shape5 : IsShaped S0 S5
  shape5 = shaped-then S0 S1 S5 p0.shape (shaped-then S1 S2 S5 p1.shape (shaped-then S2 S3 S5 p2.shape
      (shaped-then S3 S4 S5 p3.shape p4.shape)))

  pub kept5 : (q : Place) → ((k : ℕ) → k < 5 → q ≢ place S0 (16 * h + k)) → byte_at S5 q ≡ byte_at S0 q
  kept5 q ne =
      p4.kept q (λ e. ne 4 (omega arith) (e ∙ m4 _)) ∙ p3.kept q (λ e. ne 3 (omega arith) (e ∙ m3 _))
      ∙ p2.kept q (λ e. ne 2 (omega arith) (e ∙ m2 _)) ∙ p1.kept q (λ e. ne 1 (omega arith) (e ∙ m1 _))
      ∙ p0.kept q (ne 0 (omega arith))

  module _ (w : IsWritable (place S0 (16 * h))) where
    wk : (k : ℕ) → k < 16 → IsWritable (place S0 (16 * h + k))
    wk k small = paragraph-writable S0 h k small w

    -- the byte at j after a write at i
    other : (T U : Memory) (i j v : ℕ) → ((a : ℕ) → place T a ≡ place S0 a) → IsPoked T (16 * h + i) v U → i < 5 →
        j < 5 → j ≢ i → peek U (16 * h + j) ≡ peek T (16 * h + j)
    other T U i j v m p si sj ne = poked-other T _ v U _ p (λ e. ne (paragraph-apart S0 h h j i (omega arith)
        (omega arith) w (sym (m _) ∙ e ∙ m _)).1)

    same : (T U : Memory) (i v : ℕ) → ((a : ℕ) → place T a ≡ place S0 a) → IsPoked T (16 * h + i) v U → i < 5 →
        peek U (16 * h + i) ≡ v
    same T U i v m p si = poked-same T _ v U p (subst IsWritable (sym (m _)) (wk i (omega arith)))

    b0 : peek S5 (16 * h + 0) ≡ v0
    b0 = other S4 S5 4 0 v4 m4 p4 (omega arith) (omega arith) (omega arith)
        ∙ other S3 S4 3 0 v3 m3 p3 (omega arith) (omega arith) (omega arith)
        ∙ other S2 S3 2 0 v2 m2 p2 (omega arith) (omega arith) (omega arith)
        ∙ other S1 S2 1 0 v1 m1 p1 (omega arith) (omega arith) (omega arith)
        ∙ same S0 S1 0 v0 (λ a. refl) p0 (omega arith)

    b1 : peek S5 (16 * h + 1) ≡ v1
    b1 = other S4 S5 4 1 v4 m4 p4 (omega arith) (omega arith) (omega arith)
        ∙ other S3 S4 3 1 v3 m3 p3 (omega arith) (omega arith) (omega arith)
        ∙ other S2 S3 2 1 v2 m2 p2 (omega arith) (omega arith) (omega arith) ∙ same S1 S2 1 v1 m1 p1 (omega arith)

    b2 : peek S5 (16 * h + 2) ≡ v2
    b2 = other S4 S5 4 2 v4 m4 p4 (omega arith) (omega arith) (omega arith)
        ∙ other S3 S4 3 2 v3 m3 p3 (omega arith) (omega arith) (omega arith) ∙ same S2 S3 2 v2 m2 p2 (omega arith)

    b3 : peek S5 (16 * h + 3) ≡ v3
    b3 = other S4 S5 4 3 v4 m4 p4 (omega arith) (omega arith) (omega arith) ∙ same S3 S4 3 v3 m3 p3 (omega arith)

    b4 : peek S5 (16 * h + 4) ≡ v4
    b4 = same S4 S5 4 v4 m4 p4 (omega arith)

    under : {a v : ℕ} → a ≡ v → v < 256 → a < 256
    under e l = omega arith

    at : (a b v : ℕ) → a ≡ b → peek S5 a ≡ v → peek S5 b ≡ v
    at a b v e f = let P : ℕ → Type 0 = λ x. peek S5 x ≡ v in subst P e f

    pub header_written : (o s m : ℕ) → h + 1 + s ≤ 0xFFFF → v0 < 256 → v1 < 256 → v2 < 256 → v3 < 256 → v4 < 256 →
        v0 ≡ m → v1 + 256 * v2 ≡ o → v3 + 256 * v4 ≡ s → IsHeader S5 (record { segment = h; owner = o; size = s }) m
    header_written o s m fits l0 l1 l2 l3 l4 e0 eo es = record {
      fits = fits;
      bytes = each_of_five (λ k. peek S5 (16 * h + k) < 256) (under b0 l0) (under b1 l1) (under b2 l2) (under b3 l3)
          (under b4 l4);
      signed = at _ _ v0 (omega arith) b0 ∙ e0;
      owned = ap₂ (λ x y. x + 256 * y) b1 (at (16 * h + 2) (16 * h + 1 + 1) v2 (omega arith) b2) ∙ eo;
      sized = ap₂ (λ x y. x + 256 * y) b3 (at (16 * h + 4) (16 * h + 3 + 1) v4 (omega arith) b4) ∙ es;
    }
