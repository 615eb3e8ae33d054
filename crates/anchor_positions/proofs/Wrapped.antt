-- Numbers that agree in 64 bits.
use Rattle.std.proofs.Common.{◌≡◌, ℤ, pos, ◌+ℤ◌, ◌-ℤ◌, ◌*ℤ◌, sym, ap, ◌∙◌}
use Rattle.std.specs.Int.{w64}
use Rattle.std.proofs.lemmas.Int.{SFits-int_wrap, int_wrap_fits, int_wrap-add_left, int_wrap-add_right, int_wrap-mul_left, int_wrap-mul_right, int_wrap-sub_right}
use Rattle.op_tables.specs.Operators.{wrapped}

abbrev pub Agree : ℤ → ℤ → Type 0
Agree a b = wrapped a ≡ wrapped b

pub agree-wrapped : (a : ℤ) → Agree (wrapped a) a
agree-wrapped a = int_wrap_fits w64 (wrapped a) (SFits-int_wrap w64 a)

pub agree-sum : (a b c d : ℤ) → Agree a c → Agree b d → Agree (a +ℤ b) (c +ℤ d)
agree-sum a b c d h g = each a b ∙ (λ i. wrapped (h i +ℤ g i)) ∙ sym (each c d)
  where
    each : (x y : ℤ) → wrapped (x +ℤ y) ≡ wrapped (wrapped x +ℤ wrapped y)
    each x y = sym (int_wrap-add_left w64 x y) ∙ sym (int_wrap-add_right w64 (wrapped x) y)

pub agree-product : (a b c d : ℤ) → Agree a c → Agree b d → Agree (a *ℤ b) (c *ℤ d)
agree-product a b c d h g = each a b ∙ (λ i. wrapped (h i *ℤ g i)) ∙ sym (each c d)
  where
    each : (x y : ℤ) → wrapped (x *ℤ y) ≡ wrapped (wrapped x *ℤ wrapped y)
    each x y = sym (int_wrap-mul_left w64 x y) ∙ sym (int_wrap-mul_right w64 (wrapped x) y)

pub agree-minus : (a b : ℤ) → Agree a b → Agree (pos 0 -ℤ a) (pos 0 -ℤ b)
agree-minus a b h = sym (int_wrap-sub_right w64 (pos 0) a) ∙ ap (λ x. wrapped (pos 0 -ℤ x)) h ∙ int_wrap-sub_right w64 (pos 0) b
