-- The residues of a block, and the places that lead to them.
use Rattle.std.proofs.Common.{◌≡◌, ℕ, ◌+◌, ◌-◌, ◌*◌, ◌/◌, ◌%◌, ◌<◌, ◌≤◌, refl, sym, ◌∙◌, ap, subst, arith}
use Rattle.std.proofs.Math.Nat.{mod-eq_of_lt, add-mul-mod_self_left, mod-add-div, mul-le-mul_right}
use Rattle.std.proofs.lemmas.Nat.{mod_below}
use Rattle.mappings.specs.declared.mapping.Form.TheVariants.{Cyclic}
use Rattle.mappings.specs.Owner.{coordinate_under}
use Rattle.distribution.proofs.Cycles.{coordinate-block, owned}
use Rattle.congruences.specs.Naturals.{AreCongruentNaturals, IsInverse}
use Rattle.congruences.proofs.Solutions.{factor_times, one_number, pos_of_product}

-- what leads from a place to its residue, in one equation
forward_sum : (M d t g c u v w e i n y a b first start lo r0 : ℕ)
    → d * t ≡ M * c → d * u + M * v ≡ g + M * w → n + t * y ≡ first + i * u → first + e * u + t * a ≡ t * b → lo + r0 + g * e ≡ start + M
    → (start + d * n) + M * (1 + c * y + e * w + i * v + c * a) ≡ (lo + r0 + i * g) + M * (c * b + i * w + e * v)
forward_sum M d t g c u v w e i n y a b first start lo r0 dt du ny fa distance =
    let h1 : d * (n + t * y) ≡ d * (first + i * u) = ap (λ x. d * x) ny in
    let h2 : (d * t) * y ≡ (M * c) * y = ap (λ x. x * y) dt in
    let h3 : (d * t) * a ≡ (M * c) * a = ap (λ x. x * a) dt in
    let h4 : (d * t) * b ≡ (M * c) * b = ap (λ x. x * b) dt in
    let h5 : d * (first + e * u + t * a) ≡ d * (t * b) = ap (λ x. d * x) fa in
    let h6 : e * (d * u + M * v) ≡ e * (g + M * w) = ap (λ x. e * x) du in
    let h7 : i * (d * u + M * v) ≡ i * (g + M * w) = ap (λ x. i * x) du in
    omega (arith, h1, h2, h3, h4, h5, h6, h7, distance)

-- the place that leads to the first residue
pub first_place : (t x : ℕ) → 0 < t → (a : ℕ) × (b : ℕ) × ((t - x % t) % t + x + t * a ≡ t * b)
first_place t x some =
    let below : x % t < t = mod_below x t some in
    let split : x % t + t * (x / t) ≡ x = mod-add-div x t in
    let split' : (t - x % t) % t + t * ((t - x % t) / t) ≡ t - x % t = mod-add-div (t - x % t) t in
    ((t - x % t) / t, 1 + x / t, omega (arith, below, split, split'))

-- the place of each further residue
leads : (k procs q start d g t u n i : ℕ) → 1 ≤ k → q < procs → 1 ≤ start → IsInverse d (k * procs) g t u → 0 < t
    → n ≡ ((t - ((start + k * procs) - (q * k + 1)) / g * u % t) % t + i * u) % t
    → AreCongruentNaturals (k * procs) (start + d * n) (q * k + 1 + ((start + k * procs) - (q * k + 1)) % g + i * g)
leads k procs q start d g t u n i some inside begins is period place =
    let M = k * procs in
    let distance = (start + k * procs) - (q * k + 1) in
    let v = is.inverse.0 in
    let w = is.inverse.1 in
    let c = is.factor.0 in
    let f = first_place t (distance / g * u) period in
    let first = (t - distance / g * u % t) % t in
    let room : (q + 1) * k ≤ procs * k = mul-le-mul_right k (omega arith) in
    let split : distance % g + g * (distance / g) ≡ distance = mod-add-div distance g in
    let whole : q * k + 1 + distance % g + g * (distance / g) ≡ start + k * procs = omega (arith, room, split) in
    let ny : n + t * ((first + i * u) / t) ≡ first + i * u = rw place (mod-add-div (first + i * u) t) in
    (_, _, forward_sum M d t g c u v w (distance / g) i n ((first + i * u) / t) f.0 f.1 first start (q * k + 1) (distance % g) (factor_times d M g t u is) is.inverse.2 ny f.2 whole)

-- a place whose residue by g begins with that of another
residue_from : (r rest g x y : ℕ) → 0 < g → rest < g → r + g * x ≡ rest + g * y → rest + r / g * g ≡ r
residue_from r rest g x y some below same =
    let split : r % g + g * (r / g) ≡ r = mod-add-div r g in
    let one : r % g ≡ rest = sym (add-mul-mod_self_left r g x) ∙ ap (λ n. n % g) same ∙ add-mul-mod_self_left rest g y ∙ mod-eq_of_lt below in
    omega (arith, split, one)

pub residues : (k procs q start d g t u : ℕ) → 1 ≤ k → q < procs → 1 ≤ start → IsInverse d (k * procs) g t u →
    let distance = (start + k * procs) - (q * k + 1) in
    let first = (t - (distance / g * u) % t) % t in
    (n : ℕ) →
    ((n < t) × (coordinate_under (Cyclic k) procs (start + d * n) ≡ q) → (i : ℕ) × (distance % g + i * g < k) × (n ≡ (first + i * u) % t))
    × ((i : ℕ) × (distance % g + i * g < k) × (n ≡ (first + i * u) % t) → (n < t) × (coordinate_under (Cyclic k) procs (start + d * n) ≡ q))
residues k procs q start d g t u some inside begins is n = (solved, leading)
  where
    distance : ℕ
    distance = (start + k * procs) - (q * k + 1)

    place : ℕ → ℕ
    place i = ((t - distance / g * u % t) % t + i * u) % t

    room : (q + 1) * k ≤ procs * k
    room = mul-le-mul_right k (let e : q + 1 ≤ procs = omega (arith, inside) in e)

    period : 0 < t
    period = pos_of_product g t (k * procs) is.period (omega (arith, room, some))

    leading : (i : ℕ) × (distance % g + i * g < k) × (n ≡ place i) → (n < t) × (coordinate_under (Cyclic k) procs (start + d * n) ≡ q)
    leading (i, below, place-is) =
        let here = leads k procs q start d g t u n i some inside begins is period place-is in (
          subst (λ x. x < t) (sym place-is) (mod_below ((t - distance / g * u % t) % t + i * u) t period),
          owned k procs q (start + d * n) (distance % g + i * g) here.0 here.1 some inside (omega (arith, begins)) below (omega (arith, here.2)),
        )

    solved : (n < t) × (coordinate_under (Cyclic k) procs (start + d * n) ≡ q) → (i : ℕ) × (distance % g + i * g < k) × (n ≡ place i)
    solved (below, is-q) =
        let block = coordinate-block k procs (start + d * n) some (omega (arith, begins)) in
        let b = block.0 in
        let r = block.1 in
        let stands : start + d * n ≡ (b * procs + q) * k + 1 + r = block.3 ∙ ap (λ c. (b * procs + c) * k + 1 + r) is-q in
        let split : distance % g + g * (distance / g) ≡ distance = mod-add-div distance g in
        let dn : g * is.factor.0 * n ≡ d * n = ap (λ x. x * n) is.factor.1 in
        let mb : g * t * b ≡ k * procs * b = ap (λ x. x * b) is.period in
        let same : r + g * (t * b + t) ≡ distance % g + g * (distance / g + is.factor.0 * n) = omega (arith, stands, split, dn, mb, is.period, room) in
        let from : distance % g + r / g * g ≡ r = residue_from r (distance % g) g _ _ is.some (mod_below distance g is.some) same in
        let here = leads k procs q start d g t u (place (r / g)) (r / g) some inside begins is period refl in
        let both : d * n + k * procs * here.1 ≡ d * place (r / g) + k * procs * (here.0 + b) = omega (arith, here.2, stands, from) in (
          r / g,
          subst (λ x. x < k) (sym from) block.2,
          one_number (k * procs) d t g u n (place (r / g)) here.1 (here.0 + b) is below (mod_below ((t - distance / g * u % t) % t + r / g * u) t period) both,
        )
