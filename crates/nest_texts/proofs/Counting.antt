-- Inner loops count right, in 64 bits.
use Rattle.std.proofs.Common.{◌≡◌, ℕ, zero, suc, ◌+◌, ◌<◌, ◌≤◌, ◌^◌, ◌%◌, ◌-◌, ◌*◌, ◌/◌, ℤ, pos, negsuc, Bool, not, ◌-ℤ◌, ◌+ℤ◌, neg_ℤ, true, false, refl, sym, ap, ◌∙◌, arith, w64, mod-eq_of_lt, unsigned_abs, int_div, FitsSigned, div-lt_iff_lt-mul, zero-lt-suc, Ok, if◌then◌else◌}
use Rattle.std.proofs.Math.Nat.{div-zero}
use Rattle.std.proofs.lemmas.Int.{int_wrap-add_left, of_z-to_z, SFits-int_wrap, ints}
use Rattle.std.proofs.lemmas.Bool.Decides.{Decides-int_eq}
use Rattle.std.specs.Int.{int_wrap, cast_unsigned, cast_signed}
use Rattle.op_tables.specs.Operators.{wrapped, is_zero, is_true}
use Rattle.expression_rules.specs.Dims.{at_least_none}
use Rattle.array_meaning.specs.Faults.{Fault, fails}
use Rattle.array_meaning.specs.declared.faults.FaultKind.TheVariants.{ZeroStride}
use Rattle.array_meaning.specs.declared.sections.Sequence.{Sequence}
use Rattle.array_meaning.specs.Sections.{value_count}
use Rattle.machine_steps.specs.Instr.{Control}
use Rattle.code_meaning.specs.Flat.{slot}
use Rattle.code_meaning.specs.Parallel.{at_line}
use Rattle.code_meaning.specs.Instructions.{begin_trips}
use Rattle.nest_machine.specs.Counting.{entering, IsCounting}
use Rattle.nest_texts.specs.NestLoops.{counting_at}

less : (k : ℕ) → pos (suc k) -ℤ pos 1 ≡ pos k
less k = omega (arith, ints)

-- one trip less is left
pub left-less : (k : ℕ) → wrapped (wrapped (pos (suc k)) -ℤ pos 1) ≡ wrapped (pos k)
left-less k = int_wrap-add_left w64 (pos (suc k)) (negsuc 0) ∙ ap wrapped (less k)

pub none-left : is_true (wrapped (pos 0)) ≡ false
unfolding int_wrap
none-left = refl

bits-of : (m : ℕ) → m < 2 ^ 64 → cast_unsigned w64 (wrapped (pos m)) ≡ m
unfolding int_wrap
bits-of m lt = let e : m % 2 ^ 64 ≡ m = mod-eq_of_lt lt in ap (λ x. cast_unsigned w64 (cast_signed w64 x)) e ∙ of_z-to_z w64 m lt

is-true : (z : ℤ) (k : ℕ) → cast_unsigned w64 z ≡ suc k → is_true z ≡ true
is-true z k e = by_test (is_zero z) refl
  where
    by_test : (t : Bool) → is_zero z ≡ t → not t ≡ true
    by_test false is = refl
    by_test true is = absurd (bits (ap (cast_unsigned w64) ((Decides-int_eq z (pos 0)).0 is)))
      where
        bits : cast_unsigned w64 z ≡ 0 → ⊥
        bits none = omega (arith, e, none)

-- some are left
pub left-true : (k : ℕ) → suc k < 2 ^ 64 → is_true (wrapped (pos (suc k))) ≡ true
left-true k lt = is-true (wrapped (pos (suc k))) k (bits-of (suc k) lt)

quotient-small : (u m : ℕ) → u ≤ 2 ^ 64 - 1 + suc m → u / suc m ≤ 2 ^ 64
quotient-small u m h =
    let lt : u < (2 ^ 64 + 1) * suc m = omega (arith, h) in
    let less : u / suc m < 2 ^ 64 + 1 = (div-lt_iff_lt-mul (zero-lt-suc m)).1 lt in
    omega (arith, less)

none-small : (n : ℕ) → at_least_none (neg_ℤ (pos n)) ≤ 2 ^ 64
none-small zero = omega arith
none-small (suc n) = omega arith

all-small : (x d : ℤ) → unsigned_abs x ≤ 2 ^ 64 - 1 + unsigned_abs d → at_least_none (int_div x d) ≤ 2 ^ 64
all-small (pos x) (pos zero) h = omega (arith, div-zero x)
all-small (pos x) (pos (suc d)) h = quotient-small x d h
all-small (pos x) (negsuc d) h = none-small (x / suc d)
all-small (negsuc x) (pos d) h = none-small (suc x / d)
all-small (negsuc x) (negsuc d) h = quotient-small (suc x) d h

sum-small : (a z d : ℤ) → FitsSigned w64 a → FitsSigned w64 z → unsigned_abs (z -ℤ a +ℤ d) ≤ 2 ^ 64 - 1 + unsigned_abs d
sum-small a z d fa fz = omega (arith, ints, fa.sfits, fz.sfits)

pub count-small : (a z d : ℤ) → value_count (wrapped a) (wrapped z) (wrapped d) ≤ 2 ^ 64
count-small a z d = all-small (wrapped z -ℤ wrapped a +ℤ wrapped d) (wrapped d) (sum-small (wrapped a) (wrapped z) (wrapped d) (SFits-int_wrap w64 a) (SFits-int_wrap w64 z))

module _ (line : ℕ) where
  by-count : (b target : ℕ) (c : Control Fault) (first step : ℤ) (n : ℕ)
      → begin_trips (b + 3) target (Ok (record { first = first; step = step; count = n })) c ≡ entering (counting_at line) (b + 3) target n c
  by-count b target c first step zero = refl
  by-count b target c first step (suc n) = refl

  enters-so : (b target : ℕ) (c : Control Fault) (t : Bool) → is_zero (slot c.slots (b + 2)) ≡ t → not (is_zero (slot c.slots (b + 2))) ≡ true
      → (counting_at line).trips b target c
      ≡ entering (counting_at line) (b + 3) target (value_count (wrapped (slot c.slots b)) (wrapped (slot c.slots (b + 1))) (wrapped (slot c.slots (b + 2)))) c
  enters-so b target c true e ok = absurd (no (sym (ap not e) ∙ ok))
    where
      no : false ≡ true → ⊥
      no z = cc
  enters-so b target c false e ok =
      let p : Sequence = record { first = slot c.slots b; step = slot c.slots (b + 2); count = value_count (wrapped (slot c.slots b)) (wrapped (slot c.slots (b + 1))) (wrapped (slot c.slots (b + 2))) } in
      ap (λ t. begin_trips (b + 3) target (at_line line (if t then fails ZeroStride else Ok p)) c) e
      ∙ by-count b target c (slot c.slots b) (slot c.slots (b + 2)) (value_count (wrapped (slot c.slots b)) (wrapped (slot c.slots (b + 1))) (wrapped (slot c.slots (b + 2))))

  pub is-counting : IsCounting (counting_at line)
  is-counting = record {
    most = 2 ^ 64;
    enters = λ b target c ok. enters-so b target c (is_zero (slot c.slots (b + 2))) refl ok;
    bound = count-small;
    none = none-left;
    some = left-true;
    less = left-less;
  }
