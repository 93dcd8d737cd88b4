-- The records of a list's headers, as they are appended one by one.
use Rattle.std.proofs.Common.{◌≡◌, ℕ, ◌+◌, ◌-◌, ◌<◌, ◌≤◌, Bool, true, false, List, [], ◌∷◌, ◌++◌, Option, Some, None, refl, sym, ◌∙◌, ap, subst, arith, append-nil, append_assoc, rules}
use Rattle.std.specs.Prelude.{if◌then◌else◌}
use Rattle.dm_space.specs.Memory.{Memory}
use Rattle.dm_blocks.specs.declared.header.Header.{Header}
use Rattle.dm_blocks.specs.declared.header.ListedHeader.{ListedHeader}
use Rattle.dm_blocks.specs.declared.listing.Met.{Met}
use Rattle.dm_blocks.specs.declared.listing.Met.TheVariants as met
use Rattle.dm_blocks.specs.Chain.{first_header, next, signature_byte, signature, IsHeader, IsClear, IsArenaBehind}
use Rattle.dm_blocks.specs.Listing.{Walking, Path, Leads, Follows, Closes, IsBehind, IsMet, IsMetFrom, MeetsNext, start_of}
use Rattle.dm_blocks.proofs.Unique.{arena_unique}
use Rattle.dm_views.specs.declared.inventory.arena.ArenaBlock.{ArenaBlock}
use Rattle.dm_views.specs.declared.inventory.arena.Walked.TheVariants.{Over, Broken}
use Rattle.dm_views.specs.inventory.Arena.{block_record, list_records, front_records, IsWhole, IsCutShort}
use Rattle.dm_views.specs.inventory.inner.Telling.{TellsList}

-- ---- records of more headers

front_more : (k : ℕ) (P : List Header) (b : Header) → front_records k (P ++ b ∷ []) ≡ front_records k P
    ++ block_record k 0x4D b ∷ []
front_more k [] b = refl
front_more k (c ∷ P) b = ap (λ (x : List ArenaBlock). block_record k 0x4D c ∷ x) (front_more k P b)

signed_front : (P : List Header) (b : Header) → signature (P ++ b ∷ []) ≡ 0x4D
signed_front [] b = refl
signed_front (c ∷ P) b = refl

list_last : (k : ℕ) (P : List Header) (b : Header) → list_records k (P ++ b ∷ []) ≡ front_records k P
    ++ block_record k 0x5A b ∷ []
list_last k [] b = refl
list_last k (c ∷ P) b =
    ap (λ (s : ℕ). block_record k s c ∷ list_records k (P ++ b ∷ [])) (signed_front P b)
    ∙ ap (λ (x : List ArenaBlock). block_record k 0x4D c ∷ x) (list_last k P b)

-- ---- the headers before a list

pub behind_once : (m : Memory) (second : Bool) (F G : List Header) → IsBehind m second F → IsBehind m second G → F ≡ G
behind_once m false F G a b = a ∙ sym b
behind_once m true F G a b = arena_unique m first_header F G a b

behind_clear : (m : Memory) (second : Bool) (F : List Header) → IsBehind m second F → IsClear m F
behind_clear m false F is = (let G : List Header → Type 0 = λ X. IsClear m X in subst G (sym is) (search rules))
behind_clear m true F a = a.1

-- ---- what was told

-- behind the headers F, the headers of a list told so far, and where the next one has to stand
pub data HasTold (m : Memory) (F : List Header) (start list : ℕ) (at : Option ℕ) (records : List ArenaBlock) : Type 0
  where
    on_way : (P : List Header) (t : ℕ) → at ≡ Some t → records ≡ front_records list P → Leads m F start P t →
        HasTold m F start list at records
    over : (L : List Header) → at ≡ None → records ≡ list_records list L → IsArenaBehind m F start L →
        HasTold m F start list at records

told_none : (m : Memory) (second : Bool) (F : List Header) (list : ℕ) (at : Option ℕ) → IsBehind m second F →
    at ≡ Some (start_of second) → HasTold m F (start_of second) list at []
told_none m second F list at b e =
    let G : List Header → Type 0 = λ X. IsClear m X in
    on_way [] (start_of second) e refl (record {
      path = refl;
      clear = subst G (sym (append-nil F)) (behind_clear m second F b);
      apart = λ g w v. v;
    })

path_more : (S : Memory) (h : ℕ) (P : List Header) (t : ℕ) (b : Header) → Path S h P t → b.segment ≡ t →
    IsHeader S b 0x4D → Path S h (P ++ b ∷ []) (next b)
path_more S h [] t b p at x = (at ∙ sym p, x, refl)
path_more S h (q ∷ P) t b p at x = (p.0, p.1, path_more S (next q) P t b p.2 at x)

-- a header that others follow, or the last one
leads_more : (m : Memory) (F : List Header) (start : ℕ) (P : List Header) (t : ℕ) (e : ListedHeader) →
    Leads m F start P t → Follows m F P t e → e.last ≡ false → Leads m F start (P ++ e.header ∷ []) (next e.header)
leads_more m F start P t e l f more = record {
  path = path_more m start P t e.header l.path f.at (subst (λ (s : ℕ). IsHeader m e.header s)
      (ap signature_byte more) f.header);
  clear = f.clear;
  apart = f.apart;
}

-- the record of an entry
abbrev pub entry_record : ℕ → ListedHeader → ArenaBlock
entry_record list e = block_record list (signature_byte e.last) e.header

told_by : (m : Memory) (F : List Header) (start list : ℕ) (P : List Header) (t : ℕ) (e : ListedHeader) (r : Bool)
    (at : Option ℕ) (records : List ArenaBlock) → e.last ≡ r → Leads m F start P t → Follows m F P t e →
    Closes m F start P e → at ≡ (if e.last then None else Some (next e.header)) → records ≡ front_records list P
    ++ entry_record list e ∷ [] → HasTold m F start list at records
told_by m F start list P t e true at records is l f c next-is same =
    over (P ++ e.header ∷ []) (next-is ∙ ap (λ (b : Bool). if b then None else Some (next e.header)) is)
    (same ∙ ap (λ (b : Bool). front_records list P ++ block_record list (signature_byte b) e.header ∷ []) is
    ∙ sym (list_last list P e.header)) (c is)
told_by m F start list P t e false at records is l f c next-is same =
    on_way (P ++ e.header ∷ []) (next e.header) (next-is ∙ ap (λ (b : Bool). if b then None else
    Some (next e.header)) is)
    (same ∙ ap (λ (b : Bool). front_records list P ++ block_record list (signature_byte b) e.header ∷ []) is
    ∙ sym (front_more list P e.header)) (leads_more m F start P t e l f is)

at_segment : (m : Memory) (F : List Header) (start : ℕ) (at after : Option ℕ) (s : Met) (t : ℕ) → at ≡ Some t →
    IsMet m F start at s after → IsMetFrom m F start t s after
at_segment m F start at after s t e h = subst (λ (o : Option ℕ). IsMet m F start o s after) e h

at_end : (m : Memory) (F : List Header) (start : ℕ) (at after : Option ℕ) (s : Met) → at ≡ None →
    IsMet m F start at s after → IsMet m F start None s after
at_end m F start at after s e h = subst (λ (o : Option ℕ). IsMet m F start o s after) e h

one_told : (m : Memory) (F : List Header) (start list : ℕ) (at after : Option ℕ) (e : ListedHeader)
    (records new : List ArenaBlock) → HasTold m F start list at records → IsMet m F start at (met.Told e) after →
    new ≡ records ++ entry_record list e ∷ [] → HasTold m F start list after new
one_told m F start list at after e records new (on_way P t is same l) h k =
    let s = at_segment m F start at after (met.Told e) t is h in
    let f = s.1 P l in
    told_by m F start list P t e e.last after new refl l f.0 f.1 s.0 (k ∙ ap (λ (x : List ArenaBlock). x
    ++ entry_record list e ∷ []) same)
one_told m F start list at after e records new (over L is same a) h k =
    absurd (at_end m F start at after (met.Told e) is h)

-- how far the walk can still go
abbrev pub ahead : Option ℕ → ℕ
ahead None = 0
ahead (Some t) = 65536 - t

ahead_by : (t : ℕ) (e : ListedHeader) (r : Bool) (after : Option ℕ) → e.last ≡ r →
    after ≡ (if e.last then None else Some (next e.header)) → e.header.segment ≡ t →
    e.header.segment + 1 + e.header.size ≤ 0xFFFF → ahead after < 65536 - t
ahead_by t e true after is next-is at fits =
    let none : ahead after ≡ 0 = ap ahead (next-is ∙ ap (λ (b : Bool). if b then None else Some (next e.header)) is) in
    omega arith
ahead_by t e false after is next-is at fits =
    let some : ahead after ≡ 65536 - (e.header.segment + 1 + e.header.size) =
    ap ahead (next-is ∙ ap (λ (b : Bool). if b then None else Some (next e.header)) is) in
    omega arith

told_nearer : (m : Memory) (F : List Header) (start list : ℕ) (at after : Option ℕ) (e : ListedHeader)
    (records : List ArenaBlock) → HasTold m F start list at records → IsMet m F start at (met.Told e) after →
    ahead after < ahead at
told_nearer m F start list at after e records (on_way P t is same l) h =
    let s = at_segment m F start at after (met.Told e) t is h in
    let f = s.1 P l in
    let there : ahead at ≡ 65536 - t = ap ahead is in
    rw there (ahead_by t e e.last after refl s.0 f.0.at f.0.header.fits)
told_nearer m F start list at after e records (over L is same a) h =
    absurd (at_end m F start at after (met.Told e) is h)

-- ---- the end

told_all : (m : Memory) (F : List Header) (start list : ℕ) (at after : Option ℕ) (records : List ArenaBlock) →
    HasTold m F start list at records → IsMet m F start at met.End after → (L : List Header) ×
    IsWhole m F start list L records
told_all m F start list at after records (on_way P t is same l) h =
    absurd (at_segment m F start at after met.End t is h)
told_all m F start list at after records (over L is same a) h = (L, record { spelled = a; is = same })

ended_at : (m : Memory) (F : List Header) (start list : ℕ) (at after : Option ℕ) (records : List ArenaBlock) →
    HasTold m F start list at records → IsMet m F start at met.End after → after ≡ None
ended_at m F start list at after records (on_way P t is same l) h =
    absurd (at_segment m F start at after met.End t is h)
ended_at m F start list at after records (over L is same a) h = at_end m F start at after met.End is h

told_destroyed : (m : Memory) (F : List Header) (start list : ℕ) (at after : Option ℕ) (segment : ℕ)
    (records : List ArenaBlock) → HasTold m F start list at records → IsMet m F start at (met.Destroyed segment) after →
    IsCutShort m F start list segment records
told_destroyed m F start list at after segment records (on_way P t is same l) h =
    let s = at_segment m F start at after (met.Destroyed segment) t is h in
    let G : ℕ → Type 0 = λ n. IsCutShort m F start list n records in
    subst G (sym s.0) (record { headers = P; leads = l; none = s.3 P l; is = same })
told_destroyed m F start list at after segment records (over L is same a) h =
    absurd (at_end m F start at after (met.Destroyed segment) is h)

-- ---- the walk

-- what a walk over the list of another has put behind what stood there
pub record Telling (w : Walking) (list : ℕ) (old : List ArenaBlock) (v : Walking) (out : List ArenaBlock) : Type 0 where
  pub memory : v.memory ≡ w.memory
  pub second : v.second ≡ w.second
  pub records : List ArenaBlock
  pub is : out ≡ old ++ records
  pub told : (F : List Header) → IsBehind w.memory w.second F → HasTold w.memory F (start_of w.second) list v.at records

pub telling_none : (w : Walking) (list : ℕ) (old : List ArenaBlock) → w.at ≡ Some (start_of w.second) →
    Telling w list old w old
telling_none w list old e = record {
  memory = refl;
  second = refl;
  records = [];
  is = sym (append-nil old);
  told = λ F b. told_none w.memory w.second F list w.at b e;
}

-- the headers behind which a step walks
front_of : (w : Walking) (list : ℕ) (old out : List ArenaBlock) (v : Walking) (s : Met) (after : Option ℕ) →
    Telling w list old v out → MeetsNext v s after → (F : List Header) × IsBehind w.memory w.second F ×
    IsMet w.memory F (start_of w.second) v.at s after
front_of w list old out v s after h k =
    let begins : IsBehind w.memory w.second k.front = subst (λ (m : Memory). IsBehind m w.second k.front) h.memory
    (subst (λ (b : Bool). IsBehind v.memory b k.front) h.second k.behind) in
    let steps : IsMet v.memory k.front (start_of w.second) v.at s after =
    subst (λ (b : Bool). IsMet v.memory k.front (start_of b) v.at s after) h.second k.meets in
    (k.front, begins, subst (λ (m : Memory). IsMet m k.front (start_of w.second) v.at s after) h.memory steps)

-- it is a step behind all such headers
step_of : (w : Walking) (list : ℕ) (old out : List ArenaBlock) (v : Walking) (s : Met) (after : Option ℕ) →
    Telling w list old v out → MeetsNext v s after → (F : List Header) → IsBehind w.memory w.second F →
    IsMet w.memory F (start_of w.second) v.at s after
step_of w list old out v s after h k F b =
    let f = front_of w list old out v s after h k in
    subst (λ (X : List Header). IsMet w.memory X (start_of w.second) v.at s after)
    (behind_once w.memory w.second f.0 F f.1 b) f.2

pub telling_more : (w : Walking) (list : ℕ) (old out new : List ArenaBlock) (v u : Walking) (e : ListedHeader) →
    Telling w list old v out → u.memory ≡ v.memory → u.second ≡ v.second → MeetsNext v (met.Told e) u.at → new ≡ out
    ++ entry_record list e ∷ [] → Telling w list old u new
telling_more w list old out new v u e h same begins s k = record {
  memory = same ∙ h.memory;
  second = begins ∙ h.second;
  records = h.records ++ entry_record list e ∷ [];
  is = k ∙ ap (λ (x : List ArenaBlock). x ++ entry_record list e ∷ []) h.is
      ∙ append_assoc old h.records (entry_record list e ∷ []);
  told = λ F b. one_told w.memory F (start_of w.second) list v.at u.at e h.records (h.records ++ entry_record list e
      ∷ []) (h.told F b) (step_of w list old out v (met.Told e) u.at h s F b) refl;
}

pub telling_nearer : (w : Walking) (list : ℕ) (old out : List ArenaBlock) (v u : Walking) (e : ListedHeader) →
    Telling w list old v out → MeetsNext v (met.Told e) u.at → ahead u.at < ahead v.at
telling_nearer w list old out v u e h s =
    let f = front_of w list old out v (met.Told e) u.at h s in
    told_nearer w.memory f.0 (start_of w.second) list v.at u.at e h.records (h.told f.0 f.1) f.2

pub telling_all : (w : Walking) (list : ℕ) (old out : List ArenaBlock) (v u : Walking) → Telling w list old v out →
    u.memory ≡ v.memory → u.second ≡ v.second → MeetsNext v met.End u.at → TellsList w list (Over u) old out
telling_all w list old out v u h same begins s =
    let f = front_of w list old out v met.End u.at h s in (
      h.records,
      h.is,
      λ F b. (
        same ∙ h.memory,
        begins ∙ h.second,
        ended_at w.memory f.0 (start_of w.second) list v.at u.at h.records (h.told f.0 f.1) f.2,
        told_all w.memory F (start_of w.second) list v.at u.at h.records (h.told F b)
            (step_of w list old out v met.End u.at h s F b),
      ),
    )

pub telling_destroyed : (w : Walking) (list : ℕ) (old out : List ArenaBlock) (v u : Walking) (segment : ℕ) →
    Telling w list old v out → MeetsNext v (met.Destroyed segment) u.at → TellsList w list (Broken segment) old out
telling_destroyed w list old out v u segment h s = (
  h.records,
  h.is,
  λ F b. told_destroyed w.memory F (start_of w.second) list v.at u.at segment h.records (h.told F b)
      (step_of w list old out v (met.Destroyed segment) u.at h s F b),
)
