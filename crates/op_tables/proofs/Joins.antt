-- What joins numbers is associative and commutative, with a unit on its values.
use Rattle.std.proofs.Common.{◌≡◌, ℕ, ◌<◌, ◌^◌, ◌&&◌, ◌||◌, Bool, true, false, refl, ap, sym, ◌∙◌, ℤ, pos, negsuc, ◌+ℤ◌, ◌*ℤ◌, max, arith}
use Rattle.std.specs.Prelude.{cond, int_lt, FitsSigned, bit_and, bit_or, bit_xor}
use Rattle.std.specs.Int.{bit_at, int_max, int_min}
use Rattle.std.specs.Int.Bits.{xor_assoc, and_lt, or_zero_r, xor_zero_r}
use Rattle.std.proofs.lemmas.Int.{ints, int_max_is, int_min_is, int_wrap_fits, SFits-int_wrap, int_wrap-add_left, int_wrap-add_right, int_wrap-mul_left, int_wrap-mul_right, of_z-to_z, to_z-of_z}
use Rattle.std.proofs.lemmas.Nat.{and_assoc, and_comm, or_comm, xor_comm, or_lt, xor_lt, and_mask}
use Rattle.std.proofs.lemmas.Nat.Bits.{same_from_bits, bit_at_or}
use Rattle.std.proofs.Math.Nat.{mod-eq_of_lt}
use Rattle.std.proofs.Math.IntN.{+ℤ_comm, *ℤ_comm, *ℤ-one}
use Rattle.std.proofs.Math.Facts.{Fits-of_z, sfits_to_z, sfits_lit}
use lib.IntN
use mir.Syntax.{w64}
use mir.Val.{to_z, of_z}
use Rattle.hpf_base.proofs.Integers.{*ℤ_assoc}
use Rattle.op_tables.specs.declared.join.Join.{Join}
use Rattle.op_tables.specs.declared.join.Join.TheVariants.{Sum, Product, Greatest, Least, And, Or, ExclusiveOr, Any, All}
use Rattle.op_tables.specs.Joins.{IsJoin, IsValue, IsOverNumbers, join, unit}
use Rattle.op_tables.specs.Operators.{wrapped, truth, is_true}

abbrev InRange : ℤ → Type 0
InRange z = FitsSigned w64 z

abbrev IsRegrouped : (ℤ → ℤ → ℤ) → Type 0
IsRegrouped j = (a b c : ℤ) → j (j a b) c ≡ j a (j b c)

-- ---- sums and products

sums_regrouped : IsRegrouped (join Sum)
sums_regrouped a b c =
    let e : a +ℤ b +ℤ c ≡ a +ℤ (b +ℤ c) = omega (arith, ints) in
    int_wrap-add_left w64 (a +ℤ b) c ∙ ap wrapped e ∙ sym (int_wrap-add_right w64 a (b +ℤ c))

sums_join : IsJoin InRange (join Sum) (unit Sum)
sums_join = record {
  closed = λ a b f g. SFits-int_wrap w64 (a +ℤ b);
  unit_in = sfits_lit tt;
  associative = λ a b c f g h. sums_regrouped a b c;
  commutative = λ a b. ap wrapped (+ℤ_comm a b);
  neutral = λ a f. let e : a +ℤ pos 0 ≡ a = omega (arith, ints) in ap wrapped e ∙ int_wrap_fits w64 a f;
}

products_regrouped : IsRegrouped (join Product)
products_regrouped a b c = int_wrap-mul_left w64 (a *ℤ b) c ∙ ap wrapped (*ℤ_assoc a b c) ∙ sym (int_wrap-mul_right w64 a (b *ℤ c))

products_join : IsJoin InRange (join Product) (unit Product)
unfolding lib.IntN.one
products_join = record {
  closed = λ a b f g. SFits-int_wrap w64 (a *ℤ b);
  unit_in = sfits_lit tt;
  associative = λ a b c f g h. products_regrouped a b c;
  commutative = λ a b. ap wrapped (*ℤ_comm a b);
  neutral = λ a f. ap wrapped (*ℤ-one a) ∙ int_wrap_fits w64 a f;
}

-- ---- the greatest and the least

one_of : (b : Bool) (x y : ℤ) → InRange x → InRange y → InRange (cond b x y)
one_of true x y f g = f
one_of false x y f g = g

max_unit : (a : ℤ) → InRange a → int_max a (negsuc 9223372036854775807) ≡ a
max_unit (pos n) f = refl
max_unit (negsuc n) f = let z : n < 9223372036854775808 = f.sfits in omega (arith, ints, int_max_is (negsuc n) (negsuc 9223372036854775807))

min_unit : (a : ℤ) → InRange a → int_min a (pos 9223372036854775807) ≡ a
min_unit (pos n) f = let z : n < 9223372036854775808 = f.sfits in omega (arith, ints, int_min_is (pos n) (pos 9223372036854775807))
min_unit (negsuc n) f = omega (arith, ints, int_min_is (negsuc n) (pos 9223372036854775807))

greatest_regrouped : IsRegrouped int_max
greatest_regrouped a b c = omega (arith, ints, int_max_is (int_max a b) c, int_max_is a b, int_max_is a (int_max b c), int_max_is b c)

greatest_join : IsJoin InRange (join Greatest) (unit Greatest)
greatest_join = record {
  closed = λ a b f g. one_of (int_lt b a) a b f g;
  unit_in = sfits_lit tt;
  associative = λ a b c f g h. greatest_regrouped a b c;
  commutative = λ a b. omega (arith, ints, int_max_is a b, int_max_is b a);
  neutral = max_unit;
}

least_regrouped : IsRegrouped int_min
least_regrouped a b c = omega (arith, ints, int_min_is (int_min a b) c, int_min_is a b, int_min_is a (int_min b c), int_min_is b c)

least_join : IsJoin InRange (join Least) (unit Least)
least_join = record {
  closed = λ a b f g. one_of (int_lt b a) b a g f;
  unit_in = sfits_lit tt;
  associative = λ a b c f g h. least_regrouped a b c;
  commutative = λ a b. omega (arith, ints, int_min_is a b, int_min_is b a);
  neutral = min_unit;
}

-- ---- bits

max_assoc : (a b c : ℕ) → max (max a b) c ≡ max a (max b c)
max_assoc a b c = omega arith

or_assoc : (a b c : ℕ) → bit_or (bit_or a b) c ≡ bit_or a (bit_or b c)
or_assoc a b c = same_from_bits (bit_or (bit_or a b) c) (bit_or a (bit_or b c)) (λ i.
    bit_at_or (bit_or a b) c i ∙ ap (λ x. max x (bit_at c i)) (bit_at_or a b i) ∙ max_assoc (bit_at a i) (bit_at b i) (bit_at c i)
    ∙ ap (λ x. max (bit_at a i) x) (sym (bit_at_or b c i)) ∙ sym (bit_at_or a (bit_or b c) i))

-- an operator on the bits
module _ (op : ℕ → ℕ → ℕ) (lt : (a b : ℕ) → a < 2 ^ 64 → b < 2 ^ 64 → op a b < 2 ^ 64) (assoc : (a b c : ℕ) → op (op a b) c ≡ op a (op b c))
    (comm : (a b : ℕ) → op a b ≡ op b a) where
  abbrev bits : ℤ → ℕ
  bits a = of_z w64 (wrapped a)

  abbrev on_bits : ℤ → ℤ → ℤ
  on_bits a b = to_z w64 (op (bits a) (bits b))

  within : (a : ℤ) → bits a < 2 ^ 64
  within a = (Fits-of_z (SFits-int_wrap w64 a)).fits

  bits_in : (a b : ℤ) → InRange (on_bits a b)
  bits_in a b = sfits_to_z (record { fits = lt (bits a) (bits b) (within a) (within b) })

  bits_of : (a b : ℤ) → bits (on_bits a b) ≡ op (bits a) (bits b)
  bits_of a b =
      ap (of_z w64) (int_wrap_fits w64 (on_bits a b) (bits_in a b))
      ∙ of_z-to_z w64 (op (bits a) (bits b)) (lt (bits a) (bits b) (within a) (within b))

  bits_regrouped : IsRegrouped on_bits
  bits_regrouped a b c =
      ap (λ x. to_z w64 (op x (bits c))) (bits_of a b)
      ∙ ap (to_z w64) (assoc (bits a) (bits b) (bits c))
      ∙ ap (λ x. to_z w64 (op (bits a) x)) (sym (bits_of b c))

  bits_join : (unit : ℤ) → InRange unit → ((n : ℕ) → n < 2 ^ 64 → op n (bits unit) ≡ n) → IsJoin InRange on_bits unit
  bits_join unit fits neutral = record {
    closed = λ a b f g. bits_in a b;
    unit_in = fits;
    associative = λ a b c f g h. bits_regrouped a b c;
    commutative = λ a b. ap (to_z w64) (comm (bits a) (bits b));
    neutral = λ a f. ap (to_z w64) (neutral (bits a) (within a)) ∙ ap (λ z. to_z w64 (of_z w64 z)) (int_wrap_fits w64 a f) ∙ to_z-of_z w64 a f;
  }

unit_bits : (z : ℤ) → InRange z → of_z w64 (wrapped z) ≡ of_z w64 z
unit_bits z f = ap (of_z w64) (int_wrap_fits w64 z f)

and_unit : (n : ℕ) → n < 2 ^ 64 → bit_and n (of_z w64 (wrapped (negsuc 0))) ≡ n
and_unit n lt = ap (bit_and n) (unit_bits (negsuc 0) (sfits_lit tt)) ∙ and_mask n 64 ∙ mod-eq_of_lt lt

or_unit : (n : ℕ) → n < 2 ^ 64 → bit_or n (of_z w64 (wrapped (pos 0))) ≡ n
or_unit n lt = ap (bit_or n) (unit_bits (pos 0) (sfits_lit tt)) ∙ or_zero_r n

xor_unit : (n : ℕ) → n < 2 ^ 64 → bit_xor n (of_z w64 (wrapped (pos 0))) ≡ n
xor_unit n lt = ap (bit_xor n) (unit_bits (pos 0) (sfits_lit tt)) ∙ xor_zero_r n

-- ---- truths

truth_is : (t : Bool) → is_true (truth t) ≡ t
truth_is true = refl
truth_is false = refl

module _ (op : Bool → Bool → Bool) (assoc : (a b c : Bool) → op (op a b) c ≡ op a (op b c)) (comm : (a b : Bool) → op a b ≡ op b a) where
  abbrev on_truths : ℤ → ℤ → ℤ
  on_truths a b = truth (op (is_true a) (is_true b))

  truths_regrouped : IsRegrouped on_truths
  truths_regrouped a b c =
      ap (λ x. truth (op x (is_true c))) (truth_is (op (is_true a) (is_true b)))
      ∙ ap truth (assoc (is_true a) (is_true b) (is_true c))
      ∙ sym (ap (λ x. truth (op (is_true a) x)) (truth_is (op (is_true b) (is_true c))))

  truths_join : (unit : Bool) → ((a : Bool) → op a unit ≡ a) → IsJoin (λ z. truth (is_true z) ≡ z) on_truths (truth unit)
  truths_join unit neutral = record {
    closed = λ a b f g. ap truth (truth_is (op (is_true a) (is_true b)));
    unit_in = ap truth (truth_is unit);
    associative = λ a b c f g h. truths_regrouped a b c;
    commutative = λ a b. ap truth (comm (is_true a) (is_true b));
    neutral = λ a f. ap (λ t. truth (op (is_true a) t)) (truth_is unit) ∙ ap truth (neutral (is_true a)) ∙ f;
  }

or_truths : (a b c : Bool) → ((a || b) || c) ≡ (a || (b || c))
or_truths true b c = refl
or_truths false b c = refl

or_turned : (a b : Bool) → (a || b) ≡ (b || a)
or_turned true true = refl
or_turned true false = refl
or_turned false true = refl
or_turned false false = refl

or_false : (a : Bool) → (a || false) ≡ a
or_false true = refl
or_false false = refl

and_truths : (a b c : Bool) → ((a && b) && c) ≡ (a && (b && c))
and_truths true b c = refl
and_truths false b c = refl

and_turned : (a b : Bool) → (a && b) ≡ (b && a)
and_turned true true = refl
and_turned true false = refl
and_turned false true = refl
and_turned false false = refl

and_true : (a : Bool) → (a && true) ≡ a
and_true true = refl
and_true false = refl

-- ---- all of them

pub joins : (j : Join) → IsJoin (IsValue j) (join j) (unit j)
joins Sum = sums_join
joins Product = products_join
joins Greatest = greatest_join
joins Least = least_join
joins And = bits_join bit_and (and_lt 64) (λ a b c. and_assoc c a b) and_comm (negsuc 0) (sfits_lit tt) and_unit
joins Or = bits_join bit_or (or_lt 64) or_assoc or_comm (pos 0) (sfits_lit tt) or_unit
joins ExclusiveOr = bits_join bit_xor (xor_lt 64) xor_assoc xor_comm (pos 0) (sfits_lit tt) xor_unit
joins Any = truths_join (λ a b. a || b) or_truths or_turned false or_false
joins All = truths_join (λ a b. a && b) and_truths and_turned true and_true

pub regrouped : (j : Join) → IsRegrouped (join j)
regrouped Sum = sums_regrouped
regrouped Product = products_regrouped
regrouped Greatest = greatest_regrouped
regrouped Least = least_regrouped
regrouped And = bits_regrouped bit_and (and_lt 64) (λ a b c. and_assoc c a b) and_comm
regrouped Or = bits_regrouped bit_or (or_lt 64) or_assoc or_comm
regrouped ExclusiveOr = bits_regrouped bit_xor (xor_lt 64) xor_assoc xor_comm
regrouped Any = truths_regrouped (λ a b. a || b) or_truths or_turned
regrouped All = truths_regrouped (λ a b. a && b) and_truths and_turned

pub numbers_join : (j : Join) → IsOverNumbers j → IsJoin InRange (join j) (unit j)
numbers_join Any over = absurd over
numbers_join All over = absurd over
numbers_join Sum over = sums_join
numbers_join Product over = products_join
numbers_join Greatest over = greatest_join
numbers_join Least over = least_join
numbers_join And over = joins And
numbers_join Or over = joins Or
numbers_join ExclusiveOr over = joins ExclusiveOr
