-- Which natural numbers solve a congruence.
use Rattle.std.proofs.Common.{◌≡◌, ℕ, zero, suc, ◌+◌, ◌*◌, ◌/◌, ◌%◌, ◌<◌, sym, ◌∙◌, ap, arith}
use Rattle.std.proofs.Math.Nat.{mod-add-div, add-mul-mod_self_left, mul-mod_right, mod-eq_of_lt, eq_of_mul-eq-mul_left}
use Rattle.std.proofs.lemmas.Nat.{mod_below}
use Rattle.congruences.specs.Naturals.{AreCongruentNaturals, IsInverse, SolvesBy}

backward_sum : (M d t g u v w n m a b : ℕ) → g * t ≡ M → d * u + M * v ≡ g + M * w → d * n + M * a ≡ d * m + M * b
    → g * (n + t * (w * n + v * m + u * a)) ≡ g * (m + t * (w * m + v * n + u * b))
backward_sum M d t g u v w n m a b gt du both =
    let h1 : (d * n + M * a) * u ≡ (d * m + M * b) * u = ap (λ x. x * u) both in
    let h2 : n * (d * u + M * v) ≡ n * (g + M * w) = ap (λ x. n * x) du in
    let h3 : m * (d * u + M * v) ≡ m * (g + M * w) = ap (λ x. m * x) du in
    let h4 : g * t * (w * n + v * m + u * a) ≡ M * (w * n + v * m + u * a) = ap (λ x. x * (w * n + v * m + u * a)) gt in
    let h5 : g * t * (w * m + v * n + u * b) ≡ M * (w * m + v * n + u * b) = ap (λ x. x * (w * m + v * n + u * b)) gt in
    omega (arith, h1, h2, h3, h4, h5)

-- two numbers below the period that lead to one residue are one
pub one_number : (M d t g u n m a b : ℕ) → IsInverse d M g t u → n < t → m < t → d * n + M * a ≡ d * m + M * b → n ≡ m
one_number M d t g u n m a b is nb mb both =
    let v = is.inverse.0 in
    let w = is.inverse.1 in
    let e : n + t * (w * n + v * m + u * a) ≡ m + t * (w * m + v * n + u * b) =
    eq_of_mul-eq-mul_left g is.some _ _ (backward_sum M d t g u v w n m a b is.period is.inverse.2 both) in
    sym (mod-eq_of_lt nb) ∙ sym (add-mul-mod_self_left n t (w * n + v * m + u * a)) ∙ ap (λ x. x % t) e
    ∙ add-mul-mod_self_left m t (w * m + v * n + u * b) ∙ mod-eq_of_lt mb

pub pos_of_product : (g t m : ℕ) → g * t ≡ m → 0 < m → 0 < t
pos_of_product g zero m e some = absurd (omega (arith, e, some))
pos_of_product g (suc t) m e some = omega arith

back_sum : (a m t c u v w g e x y z k b : ℕ) → a * t ≡ m * c → a * u + m * v ≡ g + m * w → y + t * z ≡ e * u → x ≡ y + t * k → b ≡ g * e
    → a * x + m * (c * z + e * v) ≡ b + m * (e * w + c * k)
back_sum a m t c u v w g e x y z k b at au ys xs bs =
    let h1 : a * (y + t * z) ≡ a * (e * u) = ap (λ n. a * n) ys in
    let h2 : a * t * z ≡ m * c * z = ap (λ n. n * z) at in
    let h3 : a * t * k ≡ m * c * k = ap (λ n. n * k) at in
    let h4 : e * (a * u + m * v) ≡ e * (g + m * w) = ap (λ n. e * n) au in
    let h5 : a * x ≡ a * (y + t * k) = ap (λ n. a * n) xs in
    omega (arith, h1, h2, h3, h4, h5, bs)

-- after a period the residues of the multiples repeat
pub factor_times : (a m g t u : ℕ) → (is : IsInverse a m g t u) → a * t ≡ m * is.factor.0
factor_times a m g t u is =
    let c = is.factor.0 in
    let h1 : g * c * t ≡ a * t = ap (λ n. n * t) is.factor.1 in
    let h2 : g * t * c ≡ m * c = ap (λ n. n * c) is.period in
    omega (arith, h1, h2)

solves : (a m g t u b x : ℕ) → 0 < t → IsInverse a m g t u → b % g ≡ 0 → x % t ≡ (b / g * u) % t → AreCongruentNaturals m (a * x) b
solves a m g t u b x some is none same =
    let e = b / g in
    let bs : b ≡ g * e = (let split = mod-add-div b g in omega (arith, split, none)) in
    let ys : x % t + t * (e * u / t) ≡ e * u = (let split = mod-add-div (e * u) t in omega (arith, split, same)) in
    let xs : x ≡ x % t + t * (x / t) = sym (mod-add-div x t) in
    (_, _, back_sum a m t is.factor.0 u is.inverse.0 is.inverse.1 g e x (x % t) (e * u / t) (x / t) b (factor_times a m g t u is) is.inverse.2 ys xs bs)

divides : (a m g t u b x : ℕ) → IsInverse a m g t u → AreCongruentNaturals m (a * x) b → b % g ≡ 0
divides a m g t u b x is (s, r, same) =
    let c = is.factor.0 in
    let h1 : g * c * x ≡ a * x = ap (λ n. n * x) is.factor.1 in
    let h2 : g * t * s ≡ m * s = ap (λ n. n * s) is.period in
    let h3 : g * t * r ≡ m * r = ap (λ n. n * r) is.period in
    let whole : b + g * (t * r) ≡ g * (c * x + t * s) = omega (arith, h1, h2, h3, same) in
    sym (add-mul-mod_self_left b g (t * r)) ∙ ap (λ n. n % g) whole ∙ mul-mod_right g (c * x + t * s)

unique : (a m g t u b x : ℕ) → 0 < t → IsInverse a m g t u → AreCongruentNaturals m (a * x) b → x % t ≡ (b / g * u) % t
unique a m g t u b x some is (s, r, same) =
    let y = (b / g * u) % t in
    let below : y < t = mod_below (b / g * u) t some in
    let there = solves a m g t u b y some is (divides a m g t u b x is (s, r, same)) (mod-eq_of_lt below) in
    let at = factor_times a m g t u is in
    let h1 : a * x ≡ a * (x % t + t * (x / t)) = ap (λ n. a * n) (sym (mod-add-div x t)) in
    let h2 : a * t * (x / t) ≡ m * is.factor.0 * (x / t) = ap (λ n. n * (x / t)) at in
    one_number m a t g u (x % t) y (is.factor.0 * (x / t) + s + there.1) (there.0 + r) is (mod_below x t some) below (omega (arith, h1, h2, same, there.2))

pub solved : SolvesBy
solved a m g t u b x some is = (λ same. (divides a m g t u b x is same, unique a m g t u b x some is same), λ h. solves a m g t u b x some is h.0 h.1)
