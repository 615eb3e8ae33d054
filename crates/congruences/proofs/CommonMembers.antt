-- The common numbers of two progressions.
use Rattle.std.proofs.Common.{◌≡◌, ℕ, ◌+◌, ◌-◌, ◌*◌, ◌/◌, ◌%◌, ◌<◌, ◌≤◌, sym, ◌∙◌, ap, subst, arith, min}
use Rattle.std.proofs.Math.Nat.{add-mul-mod_self_left, le_of_mul-le-mul_left, lt_of_mul-lt-mul_right, mod-add-div, mod-eq_of_lt, mul-div-le}
use Rattle.std.proofs.Math.Nat.{mul-le-mul, mul-le-mul_left, mul-le-mul_right}
use Rattle.std.proofs.lemmas.Nat.{mod_below, le-div}
use Rattle.std.proofs.lemmas.Grind.{div_ceil_times}
use Rattle.std.specs.Int.{div_ceil}
use Rattle.congruences.specs.Naturals.{AreCongruentNaturals, IsInverse}
use Rattle.congruences.proofs.Solutions.{solved}

-- the inverse of a number and of what is left of it
pub inverse_whole : (a m g t u : ℕ) → IsInverse (a % m) m g t u → IsInverse a m g t u
inverse_whole a m g t u is =
    let c = is.factor.0 in
    let split : a % m + m * (a / m) ≡ a = mod-add-div a m in
    let h1 : g * t * (a / m) ≡ m * (a / m) = ap (λ n. n * (a / m)) is.period in
    let h2 : (a % m + m * (a / m)) * u ≡ a * u = ap (λ n. n * u) split in
    record {
      some = is.some;
      period = is.period;
      factor = (c + t * (a / m), omega (arith, h1, is.factor.1, split));
      inverse = (is.inverse.0, is.inverse.1 + a / m * u, omega (arith, h2, is.inverse.2));
    }

abbrev pub Among : ℕ → ℕ → ℕ → ℕ → Type 0
Among f s c x = (n : ℕ) × (n < c) × (x ≡ f + s * n)

ceil_le : (n a j : ℕ) → 1 ≤ a → n ≤ j * a → div_ceil n a ≤ j
ceil_le n a j some h =
    let times = div_ceil_times n a some in
    let below : div_ceil n a < j + 1 = lt_of_mul-lt-mul_right a (omega (arith, times.1, h)) in
    omega (arith, below)

-- a common number, by the solution
solution : (pf ps qf qs g t u n k : ℕ) → 1 ≤ qs → 0 < t → IsInverse ps qs g t u → pf + ps * n ≡ qf + qs * k
    → (((qf + qs * pf) - pf) % g ≡ 0) × (n % t ≡ (((qf + qs * pf) - pf) / g * u) % t)
solution pf ps qf qs g t u n k some period is same =
    let room : 1 * pf ≤ qs * pf = mul-le-mul_right pf some in
    (solved ps qs g t u ((qf + qs * pf) - pf) n period is).0 (pf, k, omega (arith, same, room))

-- what the solution leads to is common up to multiples
leads : (pf ps qf qs g t u n : ℕ) → 1 ≤ qs → 0 < t → IsInverse ps qs g t u → ((qf + qs * pf) - pf) % g ≡ 0 → n % t ≡ (((qf + qs * pf) - pf) / g * u) % t
    → AreCongruentNaturals qs (pf + ps * n) qf
leads pf ps qf qs g t u n some period is none at =
    let room : 1 * pf ≤ qs * pf = mul-le-mul_right pf some in
    let there = (solved ps qs g t u ((qf + qs * pf) - pf) n period is).1 (none, at) in
    (there.0, pf + there.1, omega (arith, there.2, room))

-- every common number is one of the progression
pub forth : (pf ps pc qf qs qc g t u i L x0 x1 last x : ℕ) → 1 ≤ ps → 1 ≤ qs → 0 < t → IsInverse ps qs g t u → i ≡ (((qf + qs * pf) - pf) / g * u) % t
    → L ≡ ps * t → x0 ≡ pf + ps * i → x1 ≡ x0 + div_ceil (qf - x0) L * L → last ≡ min (pf + ps * (pc - 1)) (qf + qs * (qc - 1))
    → Among pf ps pc x → Among qf qs qc x → (((qf + qs * pf) - pf) % g ≡ 0) × (m : ℕ) × (x ≡ x1 + L * m) × (x ≤ last)
forth pf ps pc qf qs qc g t u i L x0 x1 last x p-some q-some period is i-is L-is x0-is x1-is last-is (n, nb, xn) (k, kb, xk) =
    let sol = solution pf ps qf qs g t u n k q-some period is (sym xn ∙ xk) in
    let split : i + t * (n / t) ≡ n = (let e = mod-add-div n t in omega (arith, e, sol.1, i-is)) in
    let h1 : ps * (i + t * (n / t)) ≡ ps * n = ap (λ y. ps * y) split in
    let h2 : L * (n / t) ≡ ps * t * (n / t) = ap (λ y. y * (n / t)) L-is in
    let at : x ≡ x0 + L * (n / t) = omega (arith, xn, h1, h2, x0-is) in
    let L-some : 1 * 1 ≤ ps * t = mul-le-mul p-some (let e : 1 ≤ t = omega (arith, period) in e) in
    let turns : div_ceil (qf - x0) L ≤ n / t = ceil_le (qf - x0) L (n / t) (omega (arith, L-some, L-is)) (omega (arith, at, xk)) in
    let m = n / t - div_ceil (qf - x0) L in
    let whole : n / t ≡ div_ceil (qf - x0) L + m = omega (arith, turns) in
    let h3 : L * (n / t) ≡ L * (div_ceil (qf - x0) L + m) = ap (λ y. L * y) whole in
    let h4 : ps * n ≤ ps * (pc - 1) = mul-le-mul_left ps (let e : n ≤ pc - 1 = omega (arith, nb) in e) in
    let h5 : qs * k ≤ qs * (qc - 1) = mul-le-mul_left qs (let e : k ≤ qc - 1 = omega (arith, kb) in e) in
    (sol.0, m, omega (arith, at, h3, x1-is), omega (arith, xn, xk, h4, h5, last-is))

-- every number of the progression is common
pub back : (pf ps pc qf qs qc g t u i L x0 x1 last x m : ℕ) → 1 ≤ ps → 1 ≤ qs → 1 ≤ pc → 1 ≤ qc → 0 < t → IsInverse ps qs g t u → i ≡ (((qf + qs * pf) - pf) / g * u) % t
    → L ≡ ps * t → x0 ≡ pf + ps * i → x1 ≡ x0 + div_ceil (qf - x0) L * L → last ≡ min (pf + ps * (pc - 1)) (qf + qs * (qc - 1))
    → ((qf + qs * pf) - pf) % g ≡ 0 → x ≡ x1 + L * m → x ≤ last → Among pf ps pc x × Among qf qs qc x
back pf ps pc qf qs qc g t u i L x0 x1 last x m p-some q-some pc-some qc-some period is i-is L-is x0-is x1-is last-is none at high =
    let j = div_ceil (qf - x0) L in
    let n = i + t * (j + m) in
    let h1 : L * (j + m) ≡ ps * t * (j + m) = ap (λ y. y * (j + m)) L-is in
    let xn : x ≡ pf + ps * n = omega (arith, at, x1-is, x0-is, h1) in
    let low : i < t = subst (λ y. y < t) (sym i-is) (mod_below (((qf + qs * pf) - pf) / g * u) t period) in
    let class : n % t ≡ (((qf + qs * pf) - pf) / g * u) % t = add-mul-mod_self_left i t (j + m) ∙ mod-eq_of_lt low ∙ i-is in
    let there = leads pf ps qf qs g t u n q-some period is none class in
    let L-some : 1 * 1 ≤ ps * t = mul-le-mul p-some (let e : 1 ≤ t = omega (arith, period) in e) in
    let times = div_ceil_times (qf - x0) L (omega (arith, L-some, L-is)) in
    let above : qf ≤ x = omega (arith, at, x1-is, times.0) in
    let less : qs * there.0 ≤ qs * there.1 = omega (arith, there.2, xn, above) in
    let order : there.0 ≤ there.1 = le_of_mul-le-mul_left less (omega (arith, q-some)) in
    let k = there.1 - there.0 in
    let whole : there.1 ≡ there.0 + k = omega (arith, order) in
    let h2 : qs * there.1 ≡ qs * (there.0 + k) = ap (λ y. qs * y) whole in
    let xk : x ≡ qf + qs * k = omega (arith, there.2, xn, h2) in
    let np : n ≤ pc - 1 = le_of_mul-le-mul_left (let e : ps * n ≤ ps * (pc - 1) = omega (arith, xn, high, last-is) in e) (omega (arith, p-some)) in
    let kq : k ≤ qc - 1 = le_of_mul-le-mul_left (let e : qs * k ≤ qs * (qc - 1) = omega (arith, xk, high, last-is) in e) (omega (arith, q-some)) in
    ((n, omega (arith, np, pc-some), xn), (k, omega (arith, kq, qc-some), xk))

-- how far the progression goes
pub counted : (L x1 last m : ℕ) → 1 ≤ L → x1 ≤ last → ((m < (last - x1) / L + 1 → x1 + L * m ≤ last) × (x1 + L * m ≤ last → m < (last - x1) / L + 1))
counted L x1 last m some order = (
  (λ less. let a : L * m ≤ L * ((last - x1) / L) = mul-le-mul_left L (let e : m ≤ (last - x1) / L = omega (arith, less) in e) in
      let b = mul-div-le (last - x1) L in omega (arith, a, b, order)),
  (λ high. let a : m ≤ (last - x1) / L = le-div m (last - x1) L (omega (arith, some)) (omega (arith, high)) in omega (arith, a)),
)
