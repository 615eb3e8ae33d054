-- Tests of sums, with a part on the other side.
use Rattle.std.proofs.Common.{◌≡◌, ℤ, ◌+ℤ◌, ◌-ℤ◌, ◌≤ℤ◌, Bool, true, false, refl, arith}
use Rattle.std.specs.Prelude.{int_le}
use Rattle.std.proofs.lemmas.Int.{ints}
use lib.Dec.{T}
use lib.Signed.{le_z_yes}

same : (a b : Bool) → (T a → T b) → (T b → T a) → a ≡ b
same true true f g = refl
same true false f g = absurd (f tt)
same false true f g = absurd (g tt)
same false false f g = refl

pub low_moved : (low p c : ℤ) → int_le (low -ℤ c) p ≡ int_le low (p +ℤ c)
low_moved low p c =
    same (int_le (low -ℤ c) p) (int_le low (p +ℤ c))
    (λ t. let h : (low -ℤ c) ≤ℤ p = le_z_yes t in (let k : low ≤ℤ (p +ℤ c) = omega (arith, ints) in k).le)
    (λ t. let h : low ≤ℤ (p +ℤ c) = le_z_yes t in (let k : (low -ℤ c) ≤ℤ p = omega (arith, ints) in k).le)

pub high_moved : (high p c : ℤ) → int_le p (high -ℤ c) ≡ int_le (p +ℤ c) high
high_moved high p c =
    same (int_le p (high -ℤ c)) (int_le (p +ℤ c) high)
    (λ t. let h : p ≤ℤ (high -ℤ c) = le_z_yes t in (let k : (p +ℤ c) ≤ℤ high = omega (arith, ints) in k).le)
    (λ t. let h : (p +ℤ c) ≤ℤ high = le_z_yes t in (let k : p ≤ℤ (high -ℤ c) = omega (arith, ints) in k).le)
