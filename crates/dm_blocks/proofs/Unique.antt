-- At most one list has a chain, and a list leaves one memory.
use Rattle.std.proofs.Common.{◌≡◌, ◌≢◌, Bool, false, true, ℕ, suc, zero, ◌+◌, ◌*◌, ◌<◌, ◌≤◌, List, [], ◌∷◌, length, ◌⊎◌, inl, inr, refl, sym, ◌∙◌, ap, ap₂, subst, arith}
use Rattle.dm_space.specs.declared.place.Place.{Place}
use Rattle.dm_space.specs.Memory.{Memory, place, peek, byte_at}
use Rattle.dm_space.proofs.Places.{place-decide, place-shaped, peek-place, memory-same}
use Rattle.dm_blocks.specs.declared.header.Header.{Header}
use Rattle.dm_blocks.specs.Chain.{word, Spells, HasHeader, IsChain, IsHeader, IsArena, Becomes, DiffersInHeaders, next}
use Rattle.dm_blocks.specs.Listing.{Path, Leads, start_of}
use Rattle.dm_blocks.proofs.OneHeader.{header-unique}

spells_unique : (S : Memory) (h : ℕ) (b : Header) (L : List Header) (c : Header) (M : List Header) →
    Spells S h (b ∷ L) → Spells S h (c ∷ M) → b ∷ L ≡ c ∷ M
spells_unique S h b [] c [] s t = ap (λ z. z ∷ []) (header-unique S b c _ _ s.1 t.1 (s.0 ∙ sym t.0)).0
spells_unique S h b [] c (d ∷ M) s t = let u = header-unique S b c _ _ s.1 t.1 (s.0 ∙ sym t.0) in let v =
    u.1 in absurd (omega arith)
spells_unique S h b (d ∷ L) c [] s t = let u = header-unique S b c _ _ s.1 t.1 (s.0 ∙ sym t.0) in let v =
    u.1 in absurd (omega arith)
spells_unique S h b (d ∷ L) c (e ∷ M) s t =
    let u = header-unique S b c _ _ s.1 t.1 (s.0 ∙ sym t.0) in
    let F : ℕ → Type 0 = λ x. Spells S x (e ∷ M) in
    ap₂ (λ x y. x ∷ y) u.0 (spells_unique S (next b) d L e M s.2 (subst F (sym (ap next u.0)) t.2))

pub chain_unique : (S : Memory) (start : ℕ) (L M : List Header) → IsChain S start L → IsChain S start M → L ≡ M
chain_unique S start [] M s t = absurd s.0
chain_unique S start (b ∷ L) [] s t = absurd t.0
chain_unique S start (b ∷ L) (c ∷ M) s t = spells_unique S start b L c M s.1 t.1

pub arena_unique : (S : Memory) (start : ℕ) (L M : List Header) → IsArena S start L → IsArena S start M → L ≡ M
arena_unique S start L M a b = chain_unique S start L M a.0 b.0

spells_short : (S : Memory) (h : ℕ) (L : List Header) → h ≤ 0xFFFF → Spells S h L → length L + h ≤ 0xFFFF
spells_short S h [] low s = omega arith
spells_short S h (b ∷ L) low s = (let x = s.0 in let f = s.1.fits in let r = spells_short S (next b) L f s.2 in
    omega arith)

pub chain_short : (S : Memory) (L : List Header) → IsChain S 0x100 L → length L ≤ 0xFF00
chain_short S L c = (let r = spells_short S 0x100 L (omega arith) c.1 in omega arith)

path_short : (S : Memory) (h : ℕ) (P : List Header) (t : ℕ) → h ≤ 0xFFFF → Path S h P t → length P + h ≤ 0xFFFF
path_short S h [] t low p = omega arith
path_short S h (b ∷ P) t low p = (let x = p.0 in let f = p.1.fits in let r = path_short S (next b) P t f p.2 in
    omega arith)

pub walk_short : (S : Memory) (second : Bool) (F P : List Header) (t : ℕ) → Leads S F (start_of second) P t →
    length P < 0xFF00
walk_short S false F P t w = (let r = path_short S 0x100 P t (omega arith) w.path in omega arith)
walk_short S true F P t w = (let r = path_short S 0x9FFF P t (omega arith) w.path in omega arith)

pub each_of_five : (P : ℕ → Type 0) → P 0 → P 1 → P 2 → P 3 → P 4 → (k : ℕ) → k < 5 → P k
each_of_five P a b c d e zero h = a
each_of_five P a b c d e (suc zero) h = b
each_of_five P a b c d e (suc (suc zero)) h = c
each_of_five P a b c d e (suc (suc (suc zero))) h = d
each_of_five P a b c d e (suc (suc (suc (suc zero)))) h = e
each_of_five P a b c d e (suc (suc (suc (suc (suc k))))) h = absurd (omega arith)

-- bytes 0 to 4 of a header are those that it spells
low_byte : (x y u v : ℕ) → x < 256 → u < 256 → x + 256 * y ≡ u + 256 * v → x ≡ u
low_byte x y u v a b e = omega arith

high_byte : (x y u v : ℕ) → x < 256 → u < 256 → x + 256 * y ≡ u + 256 * v → y ≡ v
high_byte x y u v a b e = omega arith

header_bytes : (T U : Memory) (b : Header) (m : ℕ) → IsHeader T b m → IsHeader U b m → (k : ℕ) → k < 5 →
    peek T (16 * b.segment + k) ≡ peek U (16 * b.segment + k)
header_bytes T U b m x y =
    let a = 16 * b.segment in
    let z : a + 0 ≡ a = omega arith in
    let two : a + 2 ≡ a + 1 + 1 = omega arith in
    let four : a + 4 ≡ a + 3 + 1 = omega arith in
    let o : word T (a + 1) ≡ word U (a + 1) = x.owned ∙ sym y.owned in
    let s : word T (a + 3) ≡ word U (a + 3) = x.sized ∙ sym y.sized in
    let t1 : peek T (a + 1) < 256 = x.bytes 1 (omega arith) in
    let u1 : peek U (a + 1) < 256 = y.bytes 1 (omega arith) in
    let t3 : peek T (a + 3) < 256 = x.bytes 3 (omega arith) in
    let u3 : peek U (a + 3) < 256 = y.bytes 3 (omega arith) in
    each_of_five (λ k. peek T (a + k) ≡ peek U (a + k))
    (ap (peek T) z ∙ x.signed ∙ sym y.signed ∙ ap (peek U) (sym z))
    (low_byte _ _ _ _ t1 u1 o)
    (ap (peek T) two ∙ high_byte _ _ _ _ t1 u1 o ∙ ap (peek U) (sym two))
    (low_byte _ _ _ _ t3 u3 s)
    (ap (peek T) four ∙ high_byte _ _ _ _ t3 u3 s ∙ ap (peek U) (sym four))

pub spelled_bytes : (T U : Memory) (h : ℕ) (L : List Header) → Spells T h L → Spells U h L → (g k : ℕ) → HasHeader L g →
    k < 5 → peek T (16 * g + k) ≡ peek U (16 * g + k)
spelled_bytes T U h [] s t g k w small = absurd w
spelled_bytes T U h (b ∷ L) s t g k (inl e) small = (let F : ℕ → Type 0 = λ x. peek T (16 * x + k)
    ≡ peek U (16 * x + k) in subst F e (header_bytes T U b _ s.1 t.1 k small))
spelled_bytes T U h (b ∷ L) s t g k (inr w) small = spelled_bytes T U (next b) L s.2 t.2 g k w small

-- a place is one of bytes 0 to 4 of a header, or it is not

of_header : (S : Memory) (h : ℕ) (p : Place) → ((k : ℕ) × (k < 5) × (p ≡ place S (16 * h + k))) ⊎
    ((k : ℕ) → k < 5 → p ≢ place S (16 * h + k))
of_header S h p = elim (place-decide p (place S (16 * h + 0))) [
  | inl e ↦ inl (0, omega arith, e)
  | inr n0 ↦ elim (place-decide p (place S (16 * h + 1))) [
    | inl e ↦ inl (1, omega arith, e)
    | inr n1 ↦ elim (place-decide p (place S (16 * h + 2))) [
      | inl e ↦ inl (2, omega arith, e)
      | inr n2 ↦ elim (place-decide p (place S (16 * h + 3))) [
        | inl e ↦ inl (3, omega arith, e)
        | inr n3 ↦ elim (place-decide p (place S (16 * h + 4))) [
          | inl e ↦ inl (4, omega arith, e)
          | inr n4 ↦ inr (each_of_five (λ k. p ≢ place S (16 * h + k)) n0 n1 n2 n3 n4)
        ]
      ]
    ]
  ]
]

of_headers : (S : Memory) (L : List Header) (p : Place) → ((h k : ℕ) × HasHeader L h × (k < 5) ×
    (p ≡ place S (16 * h + k))) ⊎ ((h k : ℕ) → HasHeader L h → k < 5 → p ≢ place S (16 * h + k))
of_headers S [] p = inr (λ h k w. absurd w)
of_headers S (b ∷ L) p = elim (of_header S b.segment p) [
  | inl x ↦ inl (b.segment, x.0, inl refl, x.1, x.2)
  | inr n ↦ elim (of_headers S L p) [
    | inl x ↦ inl (x.0, x.1, inr x.2, x.3, x.4)
    | inr m ↦ inr (λ h k w small e. elim w [
      | inl q ↦ n k small (e ∙ ap (λ z. place S (16 * z + k)) (sym q))
      | inr r ↦
          m h k r small e
    ])
  ]
]

-- what memory becomes is determined
pub differs_unique : (S : Memory) (L : List Header) (T U : Memory) → DiffersInHeaders S L T → DiffersInHeaders S L U →
    ((g k : ℕ) → HasHeader L g → k < 5 → peek T (16 * g + k) ≡ peek U (16 * g + k)) → T ≡ U
differs_unique S L T U x y same = memory-same S T U x.shape y.shape (λ p. elim (of_headers S L p) [
  | inr n ↦ x.kept p n ∙ sym (y.kept p n)
  | inl f ↦ (let a = 16 * f.0 + f.1 in
      let pt : p ≡ place T a = f.4 ∙ sym (place-shaped S T x.shape a) in
      let pu : p ≡ place U a = f.4 ∙ sym (place-shaped S U y.shape a) in
      ap (byte_at T) pt ∙ sym (peek-place T a) ∙ same f.0 f.1 f.2 f.3 ∙ peek-place U a ∙ ap (byte_at U) (sym pu))
])

pub becomes_unique : (S : Memory) (start : ℕ) (L : List Header) (T U : Memory) → Becomes S start L T →
    Becomes S start L U → T ≡ U
becomes_unique S start L T U x y = differs_unique S L T U x.differs y.differs
    (spelled_bytes T U start L x.chain.1 y.chain.1)
