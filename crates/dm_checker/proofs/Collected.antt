-- The headers of a list, as a walk tells them one by one and they are kept.
use Rattle.std.proofs.Common.{◌≡◌, ℕ, ◌+◌, ◌-◌, ◌<◌, ◌≤◌, Bool, true, false, List, [], ◌∷◌, ◌++◌, map, Option, Some, None, Ok, Err, refl, sym, ◌∙◌, ap, subst, arith, append-nil, append_assoc, rules}
use Rattle.std.specs.Prelude.{if◌then◌else◌, All}
use Rattle.std.proofs.lemmas.List.{map_push}
use Rattle.std.proofs.lemmas.List.Elements.{All-nil, All-push}
use Rattle.dm_space.specs.Memory.{Memory}
use Rattle.dm_blocks.specs.declared.header.Header.{Header}
use Rattle.dm_blocks.specs.declared.header.ListedHeader.{ListedHeader}
use Rattle.dm_blocks.specs.declared.listing.Met.{Met}
use Rattle.dm_blocks.specs.declared.listing.Met.TheVariants as met
use Rattle.dm_blocks.specs.Chain.{first_header, next, signature_byte, IsHeader, IsClear, IsArenaBehind}
use Rattle.dm_blocks.specs.Listing.{Walking, Path, Leads, Follows, Closes, IsBehind, IsMet, IsMetFrom, MeetsNext, start_of}
use Rattle.dm_blocks.proofs.Unique.{arena_unique}
use Rattle.dm_checker.specs.declared.arena_copy.HeaderCopy.{HeaderCopy}
use Rattle.dm_checker.specs.Shown.{IsCut}
use Rattle.dm_checker.specs.ArenaCopy.{header_of, IsHeaderCopy}
use Rattle.dm_checker.specs.inner.ArenaCopy.{Collects}

-- ---- the headers before a list

behind_once : (m : Memory) (second : Bool) (F G : List Header) → IsBehind m second F → IsBehind m second G → F ≡ G
behind_once m false F G a b = a ∙ sym b
behind_once m true F G a b = arena_unique m first_header F G a b

behind_clear : (m : Memory) (second : Bool) (F : List Header) → IsBehind m second F → IsClear m F
behind_clear m false F is = (let G : List Header → Type 0 = λ X. IsClear m X in subst G (sym is) (search rules))
behind_clear m true F a = a.1

-- ---- what was told

-- behind the headers F, the headers of a list told so far, and where the next one has to stand
pub data HasTold (m : Memory) (F : List Header) (start : ℕ) (at : Option ℕ) (told : List Header) : Type 0 where
  on_way : (t : ℕ) → at ≡ Some t → Leads m F start told t → HasTold m F start at told
  over : at ≡ None → IsArenaBehind m F start told → HasTold m F start at told

told_none : (m : Memory) (second : Bool) (F : List Header) (at : Option ℕ) → IsBehind m second F →
    at ≡ Some (start_of second) → HasTold m F (start_of second) at []
told_none m second F at b e =
    let G : List Header → Type 0 = λ X. IsClear m X in
    on_way (start_of second) e (record {
      path = refl;
      clear = subst G (sym (append-nil F)) (behind_clear m second F b);
      apart = λ g w v. v;
    })

path_more : (S : Memory) (h : ℕ) (P : List Header) (t : ℕ) (b : Header) → Path S h P t → b.segment ≡ t →
    IsHeader S b 0x4D → Path S h (P ++ b ∷ []) (next b)
path_more S h [] t b p at x = (at ∙ sym p, x, refl)
path_more S h (q ∷ P) t b p at x = (p.0, p.1, path_more S (next q) P t b p.2 at x)

-- a header that others follow, or the last one
leads_more : (m : Memory) (F : List Header) (start : ℕ) (P : List Header) (t : ℕ) (e : ListedHeader) →
    Leads m F start P t → Follows m F P t e → e.last ≡ false → Leads m F start (P ++ e.header ∷ []) (next e.header)
leads_more m F start P t e l f more = record {
  path = path_more m start P t e.header l.path f.at (subst (λ (s : ℕ). IsHeader m e.header s)
      (ap signature_byte more) f.header);
  clear = f.clear;
  apart = f.apart;
}

told_by : (m : Memory) (F : List Header) (start : ℕ) (P : List Header) (t : ℕ) (e : ListedHeader) (r : Bool)
    (at : Option ℕ) → e.last ≡ r → Leads m F start P t → Follows m F P t e → Closes m F start P e →
    at ≡ (if e.last then None else Some (next e.header)) → HasTold m F start at (P ++ e.header ∷ [])
told_by m F start P t e true at is l f c next-is = over (next-is ∙ ap (λ (b : Bool). if b then None else
    Some (next e.header)) is) (c is)
told_by m F start P t e false at is l f c next-is = on_way (next e.header) (next-is
    ∙ ap (λ (b : Bool). if b then None else Some (next e.header)) is) (leads_more m F start P t e l f is)

at_segment : (m : Memory) (F : List Header) (start : ℕ) (at after : Option ℕ) (s : Met) (t : ℕ) → at ≡ Some t →
    IsMet m F start at s after → IsMetFrom m F start t s after
at_segment m F start at after s t e h = subst (λ (o : Option ℕ). IsMet m F start o s after) e h

at_end : (m : Memory) (F : List Header) (start : ℕ) (at after : Option ℕ) (s : Met) → at ≡ None →
    IsMet m F start at s after → IsMet m F start None s after
at_end m F start at after s e h = subst (λ (o : Option ℕ). IsMet m F start o s after) e h

one_told : (m : Memory) (F : List Header) (start : ℕ) (at after : Option ℕ) (e : ListedHeader) (P : List Header) →
    HasTold m F start at P → IsMet m F start at (met.Told e) after → HasTold m F start after (P ++ e.header ∷ [])
one_told m F start at after e P (on_way t is l) h =
    let s = at_segment m F start at after (met.Told e) t is h in
    let f = s.1 P l in
    told_by m F start P t e e.last after refl l f.0 f.1 s.0
one_told m F start at after e P (over is a) h = absurd (at_end m F start at after (met.Told e) is h)

-- how far the walk can still go
abbrev pub ahead : Option ℕ → ℕ
ahead None = 0
ahead (Some t) = 65536 - t

ahead_by : (t : ℕ) (e : ListedHeader) (r : Bool) (after : Option ℕ) → e.last ≡ r →
    after ≡ (if e.last then None else Some (next e.header)) → e.header.segment ≡ t →
    e.header.segment + 1 + e.header.size ≤ 0xFFFF → ahead after < 65536 - t
ahead_by t e true after is next-is at fits =
    let none : ahead after ≡ 0 = ap ahead (next-is ∙ ap (λ (b : Bool). if b then None else Some (next e.header)) is) in
    omega arith
ahead_by t e false after is next-is at fits =
    let some : ahead after ≡ 65536 - (e.header.segment + 1 + e.header.size) =
    ap ahead (next-is ∙ ap (λ (b : Bool). if b then None else Some (next e.header)) is) in
    omega arith

told_nearer : (m : Memory) (F : List Header) (start : ℕ) (at after : Option ℕ) (e : ListedHeader) (P : List Header) →
    HasTold m F start at P → IsMet m F start at (met.Told e) after → ahead after < ahead at
told_nearer m F start at after e P (on_way t is l) h =
    let s = at_segment m F start at after (met.Told e) t is h in
    let f = s.1 P l in
    let there : ahead at ≡ 65536 - t = ap ahead is in
    rw there (ahead_by t e e.last after refl s.0 f.0.at f.0.header.fits)
told_nearer m F start at after e P (over is a) h = absurd (at_end m F start at after (met.Told e) is h)

-- ---- the end

told_all : (m : Memory) (F : List Header) (start : ℕ) (at after : Option ℕ) (P : List Header) → HasTold m F start at P →
    IsMet m F start at met.End after → IsArenaBehind m F start P
told_all m F start at after P (on_way t is l) h = absurd (at_segment m F start at after met.End t is h)
told_all m F start at after P (over is a) h = a

ended_at : (m : Memory) (F : List Header) (start : ℕ) (at after : Option ℕ) (P : List Header) → HasTold m F start at P →
    IsMet m F start at met.End after → after ≡ None
ended_at m F start at after P (on_way t is l) h = absurd (at_segment m F start at after met.End t is h)
ended_at m F start at after P (over is a) h = at_end m F start at after met.End is h

told_cut : (m : Memory) (F : List Header) (start : ℕ) (at after : Option ℕ) (segment : ℕ) (P : List Header) →
    HasTold m F start at P → IsMet m F start at (met.Destroyed segment) after → IsCut m F start P segment
told_cut m F start at after segment P (on_way t is l) h =
    let s = at_segment m F start at after (met.Destroyed segment) t is h in
    subst (λ (x : ℕ). IsCut m F start P x) (sym s.0) (record { leads = l; none = s.3 P l })
told_cut m F start at after segment P (over is a) h = absurd (at_end m F start at after (met.Destroyed segment) is h)

-- ---- the walk

-- what a walk over the list of another has put behind what stood there
pub record Collecting (w : Walking) (old : List HeaderCopy) (v : Walking) (out : List HeaderCopy) : Type 0 where
  pub memory : v.memory ≡ w.memory
  pub second : v.second ≡ w.second
  pub more : List HeaderCopy
  pub is : out ≡ old ++ more
  pub told : (F : List Header) → IsBehind w.memory w.second F →
      HasTold w.memory F (start_of w.second) v.at (map header_of more)
  pub copies : All (IsHeaderCopy w.memory) more

pub collecting_none : (w : Walking) (old : List HeaderCopy) → w.at ≡ Some (start_of w.second) → Collecting w old w old
collecting_none w old e = record {
  memory = refl;
  second = refl;
  more = [];
  is = sym (append-nil old);
  told = λ F b. told_none w.memory w.second F w.at b e;
  copies = All-nil (IsHeaderCopy w.memory);
}

-- the headers behind which a step walks
front_of : (w : Walking) (old out : List HeaderCopy) (v : Walking) (s : Met) (after : Option ℕ) →
    Collecting w old v out → MeetsNext v s after → (F : List Header) × IsBehind w.memory w.second F ×
    IsMet w.memory F (start_of w.second) v.at s after
front_of w old out v s after h k =
    let begins : IsBehind w.memory w.second k.front = subst (λ (m : Memory). IsBehind m w.second k.front) h.memory
    (subst (λ (b : Bool). IsBehind v.memory b k.front) h.second k.behind) in
    let steps : IsMet v.memory k.front (start_of w.second) v.at s after =
    subst (λ (b : Bool). IsMet v.memory k.front (start_of b) v.at s after) h.second k.meets in
    (k.front, begins, subst (λ (m : Memory). IsMet m k.front (start_of w.second) v.at s after) h.memory steps)

-- it is a step behind all such headers
step_of : (w : Walking) (old out : List HeaderCopy) (v : Walking) (s : Met) (after : Option ℕ) →
    Collecting w old v out → MeetsNext v s after → (F : List Header) → IsBehind w.memory w.second F →
    IsMet w.memory F (start_of w.second) v.at s after
step_of w old out v s after h k F b =
    let f = front_of w old out v s after h k in
    subst (λ (X : List Header). IsMet w.memory X (start_of w.second) v.at s after)
    (behind_once w.memory w.second f.0 F f.1 b) f.2

pub collecting_more : (m : Memory) (w : Walking) (old out new : List HeaderCopy) (v u : Walking) (e : ListedHeader)
    (x : HeaderCopy) → w.memory ≡ m → Collecting w old v out → u.memory ≡ v.memory → u.second ≡ v.second →
    MeetsNext v (met.Told e) u.at → x.header ≡ e.header → IsHeaderCopy m x → new ≡ out ++ x ∷ [] →
    Collecting w old u new
collecting_more m w old out new v u e x here h same begins s header bits k =
    let headers : map header_of (h.more ++ x ∷ []) ≡ map header_of h.more ++ e.header ∷ [] = map_push header_of h.more x
    ∙ ap (λ (b : Header). map header_of h.more ++ b ∷ []) header in
    record {
      memory = same ∙ h.memory;
      second = begins ∙ h.second;
      more = h.more ++ x ∷ [];
      is = k ∙ ap (λ (y : List HeaderCopy). y ++ x ∷ []) h.is ∙ append_assoc old h.more (x ∷ []);
      told = λ F b. subst (λ (X : List Header). HasTold w.memory F (start_of w.second) u.at X) (sym headers)
          (one_told w.memory F (start_of w.second) v.at u.at e (map header_of h.more) (h.told F b)
          (step_of w old out v (met.Told e) u.at h s F b));
      copies = All-push (IsHeaderCopy w.memory) h.more x h.copies (subst (λ (y : Memory). IsHeaderCopy y x)
          (sym here) bits);
    }

pub collecting_nearer : (w : Walking) (old out : List HeaderCopy) (v u : Walking) (e : ListedHeader) →
    Collecting w old v out → MeetsNext v (met.Told e) u.at → ahead u.at < ahead v.at
collecting_nearer w old out v u e h s =
    let f = front_of w old out v (met.Told e) u.at h s in
    told_nearer w.memory f.0 (start_of w.second) v.at u.at e (map header_of h.more) (h.told f.0 f.1) f.2

pub collecting_all : (w : Walking) (old out : List HeaderCopy) (v u : Walking) → Collecting w old v out →
    u.memory ≡ v.memory → u.second ≡ v.second → MeetsNext v met.End u.at → Collects w (Ok u) old out
collecting_all w old out v u h same begins s =
    let f = front_of w old out v met.End u.at h s in
    record {
      more = h.more;
      is = h.is;
      walked = λ F b. (
        same ∙ h.memory,
        begins ∙ h.second,
        ended_at w.memory f.0 (start_of w.second) v.at u.at (map header_of h.more) (h.told f.0 f.1) f.2,
        told_all w.memory F (start_of w.second) v.at u.at (map header_of h.more) (h.told F b)
            (step_of w old out v met.End u.at h s F b),
      );
      copies = h.copies;
    }

pub collecting_cut : (w : Walking) (old out : List HeaderCopy) (v u : Walking) (segment : ℕ) → Collecting w old v out →
    MeetsNext v (met.Destroyed segment) u.at → Collects w (Err segment) old out
collecting_cut w old out v u segment h s = record {
  more = h.more;
  is = h.is;
  walked = λ F b. told_cut w.memory F (start_of w.second) v.at u.at segment (map header_of h.more) (h.told F b)
      (step_of w old out v (met.Destroyed segment) u.at h s F b);
  copies = h.copies;
}
