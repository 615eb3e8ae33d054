-- What a node holds, where it owns the element.
use Rattle.std.proofs.Common.{◌≡◌, Bool, true, false, if◌then◌else◌, Some, None, refl, sym}
use Rattle.std.proofs.lemmas.Option.{same_Some}

module _ {A : Type 0} (a : A) where
  pub held-owner : (owns : Bool) (x : A) → (if owns then Some a else None) ≡ Some x → owns ≡ true
  held-owner true x e = refl
  held-owner false x e = absurd cc

  pub held-is : (owns : Bool) (x : A) → (if owns then Some a else None) ≡ Some x → x ≡ a
  held-is true x e = sym (same_Some a x e)
  held-is false x e = absurd cc

  pub held-none : (owns : Bool) → (if owns then Some a else None) ≡ None → owns ≡ false
  held-none true e = absurd cc
  held-none false e = refl
