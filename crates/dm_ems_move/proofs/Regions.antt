-- The regions that are described lie where there is memory for them.
use Rattle.std.proofs.Common.{◌≡◌, ℕ, ◌+◌, ◌*◌, ◌<◌, ◌≤◌, Bool, true, false, cond, Option, Some, None, length, refl, subst, sym, ◌∙◌, arith}
use Rattle.std.specs.Prelude.{Result, Ok, Err, IfOk, ◌==◌, nat_lt, nat_le, slice_index, slice_index_or, filter}
use Rattle.std.proofs.lemmas.Bool.Decides.{nat_tests}
use Rattle.std.proofs.lemmas.Option.{slice_get-get_or}
use Rattle.std.proofs.lemmas.List.{length-map}
use Rattle.std.proofs.lemmas.List.Sums.{length-filter, count_by-le-length}
use Rattle.dm_space.specs.Memory.{Memory, IsPage}
use Rattle.dm_space.specs.moves.Spans.{Span, IsInside}
use Rattle.dm_ems.specs.declared.status.Status.{Status}
use Rattle.dm_ems.specs.declared.status.Status.TheVariants.{UnknownHandle, NoSuchPage, PastPages, OffsetPastPage, UnknownKind, PastMemory}
use Rattle.dm_ems.specs.declared.tables.Page.{Page}
use Rattle.dm_ems.specs.Tables.{Tables, Expanded, is_of, blocks_of, page_count}
use Rattle.dm_ems.specs.Consistent.{IsConsistent}
use Rattle.dm_ems.specs.Calls.{need}
use Rattle.dm_ems.proofs.Consistent.{mapped_page}
use Rattle.dm_ems_move.specs.declared.description.Description.{Description}
use Rattle.dm_ems_move.specs.Steps.{and_then}
use Rattle.dm_ems_move.specs.RegionMoves.{described, conventional, expanded_region, region_of, regions_of}

record Lies (m : Memory) (n : ℕ) (r : Result Span Status) : Type 0 where
  pub inside : IfOk r (λ r. IsInside m r n)

refuses : (m : Memory) (n : ℕ) (e : Status) → Lies m n (Err e)
refuses m n e = record { inside = tt }

if-lies : (m : Memory) (n : ℕ) (b : Bool) (r s : Result Span Status) → (b ≡ true → Lies m n r) →
    (b ≡ false → Lies m n s) → Lies m n (cond b r s)
if-lies m n true r s p q = p refl
if-lies m n false r s p q = q refl

need-lies : {A : Type 0} (m : Memory) (n : ℕ) (o : Option A) (e : Status) (f : A → Result Span Status) →
    ((v : A) → Lies m n (f v)) → Lies m n (need o e f)
need-lies m n None e f h = refuses m n e
need-lies m n (Some v) e f h = h v

pub count-blocks : (ems : Tables) (h : ℕ) → length (blocks_of ems h) ≡ page_count ems h
count-blocks ems h = length-map (filter (is_of h) ems.pages) (λ (page : Page). page.block)
    ∙ length-filter (is_of h) ems.pages

pub few-blocks : (ems : Tables) (h : ℕ) → length ems.pages ≤ 512 → length (blocks_of ems h) ≤ 512
few-blocks ems h few = omega (arith, few, count-blocks ems h, count_by-le-length (is_of h) ems.pages)

few-pages : (ems : Tables) (h : ℕ) → length ems.pages ≤ 512 → page_count ems h ≤ 512
few-pages ems h few = omega (arith, few, count_by-le-length (is_of h) ems.pages)

block-there : (x : Expanded) (h k : ℕ) → IsConsistent x → k < length (blocks_of x.ems h) →
    IsPage x.memory (slice_index (blocks_of x.ems h) k)
block-there x h k l low = mapped_page x h k (slice_index (blocks_of x.ems h) k) l
    (slice_get-get_or (blocks_of x.ems h) k 0 low)

conventional-lies : (m : Memory) (d : Description) (n : ℕ) → Lies m n (conventional d n)
conventional-lies m d n =
    let end = d.page * 16 + d.offset + n in
    if-lies m n (nat_lt 0x100000 end) (Err PastMemory) _ (λ _. refuses m n PastMemory)
    (λ e. let low : end ≤ 0x100000 = grind (arith, nat_tests, e) in
    record { inside = record { small = omega (arith, low); within = omega (arith, low) } })

expanded-lies : (x : Expanded) (d : Description) (n : ℕ) → IsConsistent x → length x.ems.pages ≤ 512 →
    Lies x.memory n (expanded_region x.ems d n)
expanded-lies x d n l few =
    let m = x.memory in let count = page_count x.ems d.handle in let end = d.page * 0x4000 + d.offset + n in
    need-lies m n (slice_index_or x.ems.handles d.handle None) UnknownHandle _ (λ s.
    if-lies m n (nat_lt 0x3FFF d.offset) (Err OffsetPastPage) _ (λ _. refuses m n OffsetPastPage) (λ _.
    if-lies m n (nat_le count d.page) (Err NoSuchPage) _ (λ _. refuses m n NoSuchPage) (λ _.
    if-lies m n (nat_lt (count * 0x4000) end) (Err PastPages) _ (λ _. refuses m n PastPages) (λ e.
    let low : end ≤ count * 0x4000 = grind (arith, nat_tests, e) in
    record {
      inside = record {
        small = omega (arith, low, few-pages x.ems d.handle few);
        within = (omega (arith, low, count-blocks x.ems d.handle), λ k. block-there x d.handle k l);
      };
    }))))

region-lies : (x : Expanded) (d : Description) (n : ℕ) → IsConsistent x → length x.ems.pages ≤ 512 →
    Lies x.memory n (region_of x.ems d n)
unfolding region_of
region-lies x d n l few =
    if-lies x.memory n (nat_lt 1 d.kind) (Err UnknownKind) _ (λ _. refuses x.memory n UnknownKind) (λ _.
    if-lies x.memory n (d.kind == 0) (conventional d n) (expanded_region x.ems d n)
    (λ _. conventional-lies x.memory d n) (λ _. expanded-lies x d n l few))

-- ---- both

pub record AreInside (m : Memory) (n : ℕ) (r : Span × Span) : Type 0 where
  pub from : IsInside m r.0 n
  pub to : IsInside m r.1 n

record Both (m : Memory) (n : ℕ) (r : Result (Span × Span) Status) : Type 0 where
  pub inside : IfOk r (AreInside m n)

both-then : (m : Memory) (n : ℕ) (r s : Result Span Status) → Lies m n r → Lies m n s →
    Both m n (and_then r (λ from. and_then s (λ to. Ok (from, to))))
both-then m n (Err e) s p q = record { inside = tt }
both-then m n (Ok v) (Err e) p q = record { inside = tt }
both-then m n (Ok v) (Ok w) p q = record { inside = record { from = p.inside; to = q.inside } }

both-lie : (x : Expanded) (segment offset n : ℕ) → IsConsistent x → length x.ems.pages ≤ 512 →
    Both x.memory n (regions_of x segment offset n)
unfolding regions_of
both-lie x segment offset n l few =
    both-then x.memory n _ _ (region-lies x (described x.memory segment offset 4) n l few)
    (region-lies x (described x.memory segment offset 11) n l few)

pub regions-inside : (x : Expanded) (segment offset n : ℕ) (r : Span × Span) → IsConsistent x →
    length x.ems.pages ≤ 512 → Ok r ≡ regions_of x segment offset n → AreInside x.memory n r
regions-inside x segment offset n r l few e = subst (λ (t : Result (Span × Span) Status). IfOk t (AreInside x.memory n))
    (sym e) (both-lie x segment offset n l few).inside
