-- What a handle held, from what was taken out of it.
use Rattle.std.proofs.Common.{◌≡◌, refl, sym, ap, ◌∙◌, Bool, false, Option, Some, None, true≢false}
use Rattle.std.specs.Prelude.{option_map, is_some}

pub taken : {A B : Type 0} (f : A → B) (r : Option A) (x : A) (o : Option B) → option_map f r ≡ o → r ≡ Some x →
    o ≡ Some (f x)
taken f r x o is got = sym is ∙ ap (option_map f) got

pub none_held : {A : Type 0} (o : Option A) (there : Bool) → there ≡ is_some o → there ≡ false → o ≡ None
none_held (Some x) there e f = absurd (true≢false (sym e ∙ f))
none_held None there e f = refl
