-- Operators give values of 64 bits.
use Rattle.std.proofs.Common.{◌≡◌, ℕ, zero, suc, ◌-◌, ◌%◌, ◌<◌, ◌≤◌, ◌^◌, ◌==◌, List, [], ◌∷◌, fold, Bool, true, false, true≢false, ◌&&◌, ◌||◌, not, if◌then◌else◌, Some, None, refl, ap, sym, ◌∙◌, subst, ℤ, pos, negsuc, ◌+ℤ◌, ◌-ℤ◌, ◌*ℤ◌, neg_ℤ, unsigned_abs, int_lt, int_le, int_div, int_rem, arith, rules, FitsSigned, w64}
use Rattle.std.specs.List.{AllByRecursion}
use Rattle.std.specs.Int.{int_pow, int_min, int_max, int_bit_not, int_bit_and, int_bit_or, int_bit_xor}
use Rattle.std.specs.Ordering.{int_eq}
use Rattle.std.proofs.lemmas.Bool.Decides.{Decides-int_eq}
use Rattle.std.proofs.lemmas.Int.{ints, SFits-int_wrap, int_wrap_fits, rem_below, fits_signed_from_abs}
use Rattle.std.proofs.Math.Facts.{sfits_lit, sfits_to_z}
use mir.Val.{hbits}
use Rattle.op_tables.specs.declared.op.Op.{Op}
use Rattle.op_tables.specs.declared.op.Op.TheVariants as op
use Rattle.op_tables.specs.Operators.{wrapped, truth, is_zero, is_true, modulo, signed_as, inverse_power, power, divided, quotient, quotient_of, value_of_one, value_of_two, value_by_count, value_of, can_divide, operator_value}
use Rattle.op_tables.specs.declared.join.Join.TheVariants.{Greatest, Least, And, Or, ExclusiveOr}
use Rattle.op_tables.proofs.Joins.{joins}

abbrev Fits64 : ℤ → Type 0
Fits64 z = FitsSigned w64 z

pub zero_fits : Fits64 (pos 0)
zero_fits = sfits_lit tt

pub truth_fits : (b : Bool) → Fits64 (truth b)
truth_fits true = sfits_lit tt
truth_fits false = sfits_lit tt

pub wraps_fit : (z : ℤ) → Fits64 (wrapped z)
wraps_fit z = SFits-int_wrap w64 z

-- ---- a bit that isn't set, remainders and moduli

not_fits : (a : ℤ) → Fits64 (int_bit_not w64 a)
not_fits a = sfits_to_z (record { fits = omega arith })

abs_fits : (b : ℤ) → Fits64 b → unsigned_abs b ≤ 2 ^ hbits w64
abs_fits (pos k) f = omega (arith, f)
abs_fits (negsuc k) f = omega (arith, f)

positive : (b : ℤ) → is_zero b ≡ false → 0 < unsigned_abs b
positive (pos zero) h = absurd (true≢false h)
positive (pos (suc k)) h = omega arith
positive (negsuc k) h = omega arith

rem_fits : (a b : ℤ) → Fits64 b → is_zero b ≡ false → Fits64 (int_rem a b)
rem_fits a b f h =
    let below : unsigned_abs (int_rem a b) < unsigned_abs b = rem_below a b (positive b h) in
    let most : unsigned_abs b ≤ 2 ^ hbits w64 = abs_fits b f in
    fits_signed_from_abs w64 (int_rem a b) (omega (arith, below, most))

either_fits : (c : Bool) (x y : ℤ) → Fits64 x → Fits64 y → Fits64 (if c then x else y)
either_fits true x y f g = f
either_fits false x y f g = g

-- of a remainder below b in magnitude, b is added where it has the other sign
abbrev moved : ℤ → ℤ → ℤ
moved b r = if int_eq (signed_as r b) r then r else r +ℤ b

same_itself : (z : ℤ) → int_eq z z ≡ true
same_itself z = (Decides-int_eq z z).1 refl

not_negative : (k : ℕ) → int_lt (pos k) (pos 0) ≡ false
not_negative k = search rules

moved_fits : (b r : ℤ) → Fits64 b → Fits64 r → unsigned_abs r < unsigned_abs b → Fits64 (moved b r)
moved_fits (pos k) (pos n) f g lt =
    subst (λ c. Fits64 (if int_eq (if c then neg_ℤ (pos n) else pos n) (pos n) then pos n else pos n +ℤ pos k)) (sym (not_negative k))
    (subst (λ c. Fits64 (if c then pos n else pos n +ℤ pos k)) (sym (same_itself (pos n))) g)
moved_fits (pos k) (negsuc n) f g lt =
    let e : pos (k - suc n) ≡ negsuc n +ℤ pos k = omega (arith, ints, lt) in
    let less : k - suc n < 2 ^ hbits w64 = omega (arith, f) in
    either_fits (int_eq (signed_as (negsuc n) (pos k)) (negsuc n)) (negsuc n) (negsuc n +ℤ pos k) g (subst (FitsSigned w64) e (record { sfits = less }))
moved_fits (negsuc m) (pos zero) f g lt = zero_fits
moved_fits (negsuc m) (pos (suc n)) f g lt =
    let e : negsuc (m - suc n) ≡ pos (suc n) +ℤ negsuc m = omega (arith, ints, lt) in
    let less : m - suc n < 2 ^ hbits w64 = omega (arith, f) in
    either_fits (int_eq (signed_as (pos (suc n)) (negsuc m)) (pos (suc n))) (pos (suc n)) (pos (suc n) +ℤ negsuc m) g (subst (FitsSigned w64) e (record { sfits = less }))
moved_fits (negsuc m) (negsuc n) f g lt = subst (λ c. Fits64 (if c then negsuc n else negsuc n +ℤ negsuc m)) (sym (same_itself (negsuc n))) g

modulo_fits : (a b : ℤ) → Fits64 b → is_zero b ≡ false → Fits64 (modulo a b)
modulo_fits a b f h = moved_fits b (int_rem a b) f (rem_fits a b f h) (rem_below a b (positive b h))

-- ---- all operators

-- what is done to numbers of 64 bits as they are wrapped is done to them
wrapped_fits : (op : ℤ → ℤ → ℤ) (a b : ℤ) → Fits64 a → Fits64 b → Fits64 (op (wrapped a) (wrapped b)) → Fits64 (op a b)
wrapped_fits op a b f g h = subst (λ x. Fits64 (op x b)) (int_wrap_fits w64 a f) (subst (λ y. Fits64 (op (wrapped a) y)) (int_wrap_fits w64 b g) h)

one_fits : (o : Op) (a : ℤ) → Fits64 a → Fits64 (value_of_one o a)
one_fits op.Neg a f = wraps_fit (neg_ℤ a)
one_fits op.Plus a f = f
one_fits op.LogNot a f = truth_fits (is_zero a)
one_fits op.Abs a f = wraps_fit (pos (unsigned_abs a))
one_fits op.BitNot a f = not_fits a
one_fits o a f = zero_fits

two_fits : (o : Op) (a b : ℤ) → Fits64 a → Fits64 b → Fits64 (value_of_two o a b)
two_fits op.Add a b f g = wraps_fit (a +ℤ b)
two_fits op.Sub a b f g = wraps_fit (a -ℤ b)
two_fits op.Mul a b f g = wraps_fit (a *ℤ b)
two_fits op.Eq a b f g = truth_fits (int_eq a b)
two_fits op.Ne a b f g = truth_fits (not (int_eq a b))
two_fits op.Lt a b f g = truth_fits (int_lt a b)
two_fits op.Le a b f g = truth_fits (int_le a b)
two_fits op.Gt a b f g = truth_fits (int_lt b a)
two_fits op.Ge a b f g = truth_fits (int_le b a)
two_fits op.And a b f g = truth_fits (is_true a && is_true b)
two_fits op.Or a b f g = truth_fits (is_true a || is_true b)
two_fits op.Eqv a b f g = truth_fits (if is_true a then is_true b else is_zero b)
two_fits op.Neqv a b f g = truth_fits (if is_true a then is_zero b else is_true b)
two_fits op.Dim a b f g = wraps_fit (int_max (a -ℤ b) (pos 0))
two_fits op.Sign a b f g = wraps_fit (signed_as a b)
two_fits op.BitAnd a b f g = wrapped_fits (int_bit_and w64) a b f g ((joins And).closed a b f g)
two_fits op.BitOr a b f g = wrapped_fits (int_bit_or w64) a b f g ((joins Or).closed a b f g)
two_fits op.BitXor a b f g = wrapped_fits (int_bit_xor w64) a b f g ((joins ExclusiveOr).closed a b f g)
two_fits o a b f g = zero_fits

count_fits : (o : Op) (vs : List ℤ) → AllByRecursion (FitsSigned w64) vs → Fits64 (value_by_count o vs)
count_fits o [] h = zero_fits
count_fits o (a ∷ []) h = one_fits o a h.0
count_fits o (a ∷ b ∷ []) h = two_fits o a b h.0 h.1.0
count_fits o (a ∷ b ∷ c ∷ vs) h = zero_fits

max_fits : (a : ℤ) (vs : List ℤ) → Fits64 a → AllByRecursion (FitsSigned w64) vs → Fits64 (fold int_max a vs)
max_fits a [] f h = f
max_fits a (b ∷ vs) f h = max_fits (int_max a b) vs ((joins Greatest).closed a b f h.0) h.1

min_fits : (a : ℤ) (vs : List ℤ) → Fits64 a → AllByRecursion (FitsSigned w64) vs → Fits64 (fold int_min a vs)
min_fits a [] f h = f
min_fits a (b ∷ vs) f h = min_fits (int_min a b) vs ((joins Least).closed a b f h.0) h.1

value_fits : (o : Op) (vs : List ℤ) → AllByRecursion (FitsSigned w64) vs → Fits64 (value_of o vs)
value_fits op.Max (a ∷ vs) h = max_fits a vs h.0 h.1
value_fits op.Max [] h = zero_fits
value_fits op.Min (a ∷ vs) h = min_fits a vs h.0 h.1
value_fits op.Min [] h = zero_fits
value_fits o vs h = count_fits o vs h

some_fits : (x v : ℤ) → Fits64 x → Some x ≡ Some v → Fits64 v
some_fits x v f e = let same : x ≡ v = cc in subst (FitsSigned w64) same f

divided_fits : (b x v : ℤ) → (is_zero b ≡ false → Fits64 x) → divided b x ≡ Some v → Fits64 v
divided_fits b x v f e = by (is_zero b) refl where
  by : (c : Bool) → is_zero b ≡ c → Fits64 v
  by true z = let none_of : None ≡ Some v = sym (ap (λ c. if c then None else Some x) z) ∙ e in absurd cc
  by false z = some_fits x v (f z) (sym (ap (λ c. if c then None else Some x) z) ∙ e)

inverse_fits : (a : ℤ) (n : ℕ) (v : ℤ) → inverse_power a n ≡ Some v → Fits64 v
inverse_fits (pos zero) n v e = absurd cc
inverse_fits (pos (suc zero)) n v e = some_fits (pos 1) v (sfits_lit tt) e
inverse_fits (pos (suc (suc k))) n v e = some_fits (pos 0) v zero_fits e
inverse_fits (negsuc zero) n v e = some_fits (if n % 2 == 0 then pos 1 else negsuc 0) v (parity (n % 2 == 0)) e where
  parity : (b : Bool) → Fits64 (if b then pos 1 else negsuc 0)
  parity true = sfits_lit tt
  parity false = sfits_lit tt
inverse_fits (negsuc (suc k)) n v e = some_fits (pos 0) v zero_fits e

power_fits : (a b v : ℤ) → power a b ≡ Some v → Fits64 v
power_fits a (pos n) v e = some_fits (wrapped (int_pow a n)) v (wraps_fit (int_pow a n)) e
power_fits a (negsuc n) v e = inverse_fits a (suc n) v e

quotient_fits : (o : Op) (a b v : ℤ) → Fits64 a → Fits64 b → quotient o a b ≡ Some v → Fits64 v
quotient_fits op.Div a b v f g e = divided_fits b (wrapped (int_div a b)) v (λ z. wraps_fit (int_div a b)) e
quotient_fits op.Pow a b v f g e = power_fits a b v e
quotient_fits op.Mod a b v f g e = divided_fits b (int_rem a b) v (rem_fits a b g) e
quotient_fits op.Modulo a b v f g e = divided_fits b (modulo a b) v (modulo_fits a b g) e
quotient_fits o a b v f g e = some_fits (pos 0) v zero_fits e

quotients_fit : (o : Op) (vs : List ℤ) (v : ℤ) → AllByRecursion (FitsSigned w64) vs → quotient_of o vs ≡ Some v → Fits64 v
quotients_fit o [] v h e = some_fits (pos 0) v zero_fits e
quotients_fit o (a ∷ []) v h e = some_fits (pos 0) v zero_fits e
quotients_fit o (a ∷ b ∷ []) v h e = quotient_fits o a b v h.0 h.1.0 e
quotients_fit o (a ∷ b ∷ c ∷ vs) v h e = some_fits (pos 0) v zero_fits e

pub operators_fit : (o : Op) (vs : List ℤ) (v : ℤ) → AllByRecursion (FitsSigned w64) vs → operator_value o vs ≡ Some v → FitsSigned w64 v
operators_fit o vs v h e = by (can_divide o) refl where
  by : (c : Bool) → can_divide o ≡ c → Fits64 v
  by true d = quotients_fit o vs v h (sym (ap (λ c. if c then quotient_of o vs else Some (value_of o vs)) d) ∙ e)
  by false d = some_fits (value_of o vs) v (value_fits o vs h) (sym (ap (λ c. if c then quotient_of o vs else Some (value_of o vs)) d) ∙ e)
