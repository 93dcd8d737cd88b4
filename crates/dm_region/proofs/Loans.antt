-- Two runs of values leave the function at once as `&mut [R]`, and what owned them follows their last lists. Assumes
-- `Logic`.
--     lends_two      a borrow of S is open, xs and ys lie at o₁ and o₂ of one block, and with any ws and zs there, as
-- many, the rest makes F ws zs of S. F is any function on plain lists
--     lends_ends      the first values of a `&mut [R]`, and those from a later place on
use mathlib.Core.Path.{◌≡◌, refl, sym, ap, ◌∙◌}
use Prim.Native.Nat.{ℕ, ◌+◌, ◌-◌, ◌*◌, ◌≤◌}
use native.Mathlib.Nat.{add-mul}
use native.Mathlib.Omega.{arith}
use mathlib.Core.List.{List, [], ◌∷◌, ◌++◌, append_assoc}
use lib.ListN.{length, take, drop as drop_l, take-append-drop, length-take, length-drop, length-append}
use lib.Seq.{take-take, take_at}
use seplogic.Ra.Ura.{Ura}
use mir.Syntax.{Lifetime}
use mir.Val.{Val}
use base.Logic.{SProp, ent, sep, ex}
use base.Stored.{Gv, coded_list}
use base.Fml.{Lft, GName, Share, flft, fobs, fauth, fbor, fobor}
use types.Logic.{Logic, sem}
use types.Kit.{‵, raw, ◌⊛◌, some, later, ◌$◌, ◌∵◌, !, qed, by, move, drop, use1, use2, split, split3, group, pick, rewrite, fsplit, fsplit3, fjoin, feq_l, feq_i, show, await, updating, now, done}
use types.SemTy.{SemTy, cells, Arr, Body}
use types.Mut.{open_ref}
use types.Follow.{after₂, takes_two}
use denote.RattleType.{RattleType}
use denote.Memory.{mem}
use denote.Slice.{MutSlice, Room, slice_val}
use denote.FollowSlice.{heres_id, slice_of}
use borrow.Table.Elements.{at, at_mul, cut_app, join_app}
use Rattle.std.specs.List.{refill}

module _ {M : Type 1} {𝓤 : Ura M} (𝓛 : Logic 𝓤) (R : RattleType) (S : SemTy) (F : List R.Denot → List R.Denot →
    S.rep) (ℓ : Lifetime) (κ : Lft) (q : Share) (b o b' o₁ o₂ : ℕ) (γ : GName) (xs ys : List R.Denot) where
  open 𝓛 use {H, A}

  -- the two runs under new names, the token, and what S ends as
  abbrev pub TwoLent : GName × GName → SProp 𝓤
  TwoLent δ = sep 𝓤 (sem 𝓛 ((MutSlice ℓ κ R).own_val (record {
    ref_ptr = (b', o₁);
    ghost_name = δ.0;
    now = xs;
  }) (slice_val (b', o₁) (length xs) ∷ [])))
      (sep 𝓤 (sem 𝓛 ((MutSlice ℓ κ R).own_val (record { ref_ptr = (b', o₂); ghost_name = δ.1; now = ys })
      (slice_val (b', o₂) (length ys) ∷ []))) (sep 𝓤 (A.lft κ q) (sem 𝓛 (after₂ S (Arr (mem R) 0)
      (Arr (mem R) 0) γ δ.0 δ.1 F))))

  module _ (rx : Room R (length xs)) (ry : Room R (length ys)) (Rest : SProp 𝓤)
      (back : (ws zs : List R.Denot) → length ws ≡ length xs → length zs ≡ length ys →
      ent 𝓤 (sep 𝓤 (sem 𝓛 (cells (mem R) ws b' o₁)) (sep 𝓤 (sem 𝓛 (cells (mem R) zs b' o₂)) Rest))
      (sem 𝓛 (S.own_at (F ws zs) b o))) where
    whole : (ws zs : List R.Denot) → ent 𝓤 (sep 𝓤 (sem 𝓛 ((Arr (mem R) (length xs)).own_at ws b' o₁))
        (sep 𝓤 (sem 𝓛 ((Arr (mem R) (length ys)).own_at zs b' o₂)) Rest)) (sem 𝓛 (S.own_at (F ws zs) b o))
    whole ws zs = qed 𝓛 (‵ ((Arr (mem R) (length xs)).own_at ws b' o₁) ∷ ‵ ((Arr (mem R) (length ys)).own_at zs b' o₂)
        ∷ raw Rest ∷ []) ∵ fsplit ! $ feq_l ! (λ e. move ! (1 ∷ []) $ fsplit ! $ feq_l ! (λ e'. move ! (1 ∷ 0
        ∷ []) $ by ! (back ws zs e e')))

    pub lends_two : (u v : Gv)
        → ent 𝓤 (sep 𝓤 (A.obor κ q (Body S b o γ)) (sep 𝓤 (A.obs γ u) (sep 𝓤 (A.auth γ v)
        (sep 𝓤 (sem 𝓛 (cells (mem R) xs b' o₁)) (sep 𝓤 (sem 𝓛 (cells (mem R) ys b' o₂)) Rest)))))
        (H.⇛ (ex 𝓤 TwoLent))
    lends_two u v = qed 𝓛 (‵ (fobor κ q (Body S b o γ)) ∷ ‵ (fobs γ u) ∷ ‵ (fauth γ v) ∷ ‵ (cells (mem R) xs b' o₁)
        ∷ ‵ (cells (mem R) ys b' o₂) ∷ raw Rest ∷ []) ∵ updating ! $ move ! (3 ∷ []) $
        feq_i ! ℕ (length xs) (length xs) refl $ fjoin ! $ move ! (4 ∷ []) $ feq_i ! ℕ (length ys)
        (length ys) refl $ fjoin ! $ move ! (2 ∷ 3 ∷ 4 ∷ 1 ∷ 0 ∷ []) $ group ! 6 $
        use1 𝓛 (later (some (λ (δ : GName × GName). (‵ (fobs δ.0 ((coded_list R.coded).code xs)) ⊛ ‵ (fbor κ (Body (Arr (mem R) (length xs)) b' o₁ δ.0))) ⊛ (‵ (fobs δ.1 ((coded_list R.coded).code ys)) ⊛ ‵ (fbor κ (Body (Arr (mem R) (length ys)) b' o₂ δ.1)))
        ⊛ ‵ (flft κ q) ⊛ ‵ (after₂ S (Arr (mem R) 0) (Arr (mem R) 0) γ δ.0 δ.1 F))))
        (takes_two 𝓛 S (Arr (mem R) (length xs)) (Arr (mem R) (length ys)) F κ q b o b' o₁ b' o₂ γ Rest whole u v xs ys)
        $ await ! tt $ pick ! (λ δ. split3 ! $
        use1 𝓛 (‵ ((MutSlice ℓ κ R).own_val (record { ref_ptr = (b', o₁); ghost_name = δ.0; now = xs }) (slice_val (b', o₁) (length xs) ∷ []))) (slice_of 𝓛 R ℓ κ b' o₁ δ.0 xs rx) $ move ! (1 ∷ []) $
        use1 𝓛 (‵ ((MutSlice ℓ κ R).own_val (record { ref_ptr = (b', o₂); ghost_name = δ.1; now = ys }) (slice_val (b', o₂) (length ys) ∷ []))) (slice_of 𝓛 R ℓ κ b' o₂ δ.1 ys ry) $ move ! (1 ∷ 0 ∷ []) $ now ! $ show ! TwoLent δ $ done !)

module _ {M : Type 1} {𝓤 : Ura M} (𝓛 : Logic 𝓤) (R : RattleType) (ℓ : Lifetime) (κ : Lft) (q : Share) (b o : ℕ)
    (γ : GName) (xs : List R.Denot) (len other : ℕ) (apart : len ≤ other) (within : other ≤ length xs) where
  open 𝓛 use {H, A}

  abbrev s : ℕ
  s = (mem R).size

  abbrev low : List R.Denot
  low = take len xs

  abbrev middle : List R.Denot
  middle = drop_l len (take other xs)

  abbrev high : List R.Denot
  high = drop_l other xs

  abbrev past : ℕ
  past = len * s + o

  abbrev end : ℕ
  end = other * s + o

  abbrev written : List R.Denot → List R.Denot → List R.Denot
  written ws zs = refill len low ws ++ (middle ++ refill (length xs - other) high zs)

  cut : xs ≡ low ++ (middle ++ high)
  cut = sym (take-append-drop other xs) ∙ ap (λ l. l ++ high) (sym (take-append-drop len (take other xs))
      ∙ ap (λ l. l ++ middle) (take-take len other xs apart)) ∙ append_assoc low middle high

  low_length : length low ≡ len
  low_length = omega (arith, length-take len xs)

  middle_length : length middle ≡ other - len
  middle_length = omega (arith, length-drop len (take other xs), length-take other xs)

  high_length : length high ≡ length xs - other
  high_length = length-drop other xs

  past_is : (ws : List R.Denot) → length ws ≡ len → at o s (length ws) ≡ past
  past_is ws e = at_mul o s (length ws) ∙ ap (λ k. k * s + o) e

  end_is : at past s (length middle) ≡ end
  end_is =
      let all : other ≡ (other - len) + len = omega arith in
      let sum : other * s ≡ (other - len) * s + len * s = ap (λ k. k * s) all ∙ add-mul (other - len) len s in
      at_mul past s (length middle) ∙ ap (λ k. k * s + past) middle_length ∙ omega (arith, sum)

  put_back : (ws zs : List R.Denot) → length ws ≡ length low → length zs ≡ length high
      → ent 𝓤 (sep 𝓤 (sem 𝓛 (cells (mem R) ws b o)) (sep 𝓤 (sem 𝓛 (cells (mem R) zs b end))
      (sem 𝓛 (cells (mem R) middle b past)))) (sem 𝓛 ((Arr (mem R) (length xs)).own_at (written ws zs) b o))
  put_back ws zs e e' =
      let w : refill len low ws ≡ ws = take_at ws (drop_l (length ws) low) len (e ∙ low_length) in
      let z : refill (length xs - other) high zs ≡ zs = take_at zs (drop_l (length zs) high) (length xs - other) (e'
      ∙ high_length) in
      let all : written ws zs ≡ ws ++ (middle ++ zs) = λ k. w k ++ (middle ++ z k) in
      let long : length (written ws zs) ≡ length xs = ap length all ∙ omega (
        arith,
        length-append ws (middle ++ zs),
        length-append middle zs,
        low_length,
        middle_length,
        high_length,
      ) in
      qed 𝓛 (‵ (cells (mem R) ws b o) ∷ ‵ (cells (mem R) zs b end) ∷ ‵ (cells (mem R) middle b past) ∷ []) ∵
      rewrite ! 1 (λ (k : ℕ). ‵ (cells (mem R) zs b k)) (sym end_is) refl $ move ! (2 ∷ 1 ∷ []) $
      use2 𝓛 (‵ (cells (mem R) (middle ++ zs) b past)) (join_app 𝓛 (mem R) middle zs b past) $
      rewrite ! 0 (λ (k : ℕ). ‵ (cells (mem R) (middle ++ zs) b k)) (sym (past_is ws (e ∙ low_length))) refl $ move ! (1
      ∷ 0 ∷ []) $
      use2 𝓛 (‵ (cells (mem R) (ws ++ (middle ++ zs)) b o)) (join_app 𝓛 (mem R) ws (middle ++ zs) b o) $
      rewrite ! 0 (λ (l : List R.Denot). ‵ (cells (mem R) l b o)) (sym all) refl $ feq_i ! ℕ (length (written ws zs))
      (length xs) long $ fjoin ! $ done !

  -- the slice's two ends under new names, the token, and what the slice ends as
  abbrev pub EndsLent : GName × GName → SProp 𝓤
  EndsLent = TwoLent 𝓛 R (Arr (mem R) (length xs)) written ℓ κ q b o b o end γ low high

  pub lends_ends : Room R (length low) → Room R (length high) → (vs : List Val)
      → ent 𝓤 (sep 𝓤 (sem 𝓛 ((MutSlice ℓ κ R).own_val (record { ref_ptr = (b, o); ghost_name = γ; now = xs }) vs))
      (A.lft κ q)) (H.⇛ (ex 𝓤 EndsLent))
  lends_ends rl rh vs =
      let code = (coded_list R.coded).code xs in
      qed 𝓛 (‵ ((MutSlice ℓ κ R).own_val (record { ref_ptr = (b, o); ghost_name = γ; now = xs }) vs) ∷ ‵ (flft κ q)
      ∷ []) ∵ updating ! $ fsplit3 ! $ drop ! $
      rewrite ! 0 (λ (l : List R.Denot). ‵ (fobs γ ((coded_list R.coded).code l))) (heres_id R xs) refl $ open_ref ! tt
      (Arr (mem R) (length xs)) {b = b} {o = o} $ fsplit ! $ drop ! $
      rewrite ! 0 (λ (l : List R.Denot). ‵ (cells (mem R) l b o)) cut refl $
      use1 𝓛 (‵ (cells (mem R) low b o) ⊛ ‵ (cells (mem R) (middle ++ high) b (at o s (length low)))) (cut_app 𝓛 (mem R) low (middle ++ high) b o) $ split ! $ move ! (1 ∷ []) $
      rewrite ! 0 (λ (k : ℕ). ‵ (cells (mem R) (middle ++ high) b k)) (past_is low low_length) refl $
      use1 𝓛 (‵ (cells (mem R) middle b past) ⊛ ‵ (cells (mem R) high b (at past s (length middle)))) (cut_app 𝓛 (mem R) middle high b past) $ split ! $
      rewrite ! 1 (λ (k : ℕ). ‵ (cells (mem R) high b k)) end_is refl $
      -- [the middle; the high end; the low end; the open borrow, in three entries]
      move ! (3 ∷ 4 ∷ 5 ∷ 2 ∷ 1 ∷ 0 ∷ []) $ group ! 6 $
      use1 𝓛 (later (some (λ (δ : GName × GName). raw (EndsLent δ)))) (lends_two 𝓛 R (Arr (mem R) (length xs)) written ℓ κ q b o b o end γ low high rl rh (sem 𝓛 (cells (mem R) middle b past)) put_back code code) $ await ! tt $ pick ! (λ δ.
      now ! $ show ! EndsLent δ $ done !)
