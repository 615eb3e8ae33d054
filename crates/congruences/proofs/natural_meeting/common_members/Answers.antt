use Rattle.std.proofs.Common.{◌≡◌, ℕ, ◌+◌, ◌-◌, ◌*◌, ◌/◌, ◌%◌, ◌<◌, ◌≤◌, refl, ap, arith, min, rules}
use Rattle.std.specs.Int.{div_ceil}
use Rattle.std.proofs.Math.Nat.{mul-le-mul}
use Rattle.std.proofs.lemmas.Nat.{mod_below, mul-mod_first}
use Rattle.std.proofs.lemmas.Grind.{div_ceil_times}
use Rattle.congruences.proofs.CommonMembers.{back, counted, forth, inverse_whole}
use Rattle.congruences.proofs.natural_meeting.common_members.Goals as goal

pub overflow_add-first : goal.overflow_add-first
overflow_add-first c =
    let p = c.args.p in
    let q = c.args.q in
    let t = c.inverse_of-divisor.result.period in
    let u = c.inverse_of-divisor.result.number in
    let within = c.inverse_of-divisor.ensures.within in
    let turns : ℕ = (q.first + q.stride * p.first - p.first) / c.inverse_of-divisor.result.divisor % t * u in
    let i : ℕ = turns % t in
    let low : i < t = mod_below turns t c.inverse_of-divisor.ensures.some in
    let stride : t ≤ 9223372036854775808 = omega (arith, within, c.requires.q.small_stride) in
    let h1 : p.stride * i ≤ 9223372036854775808 * 9223372036854775808 = mul-le-mul c.requires.p.small_stride (let e : i ≤ 9223372036854775808 = omega (arith, low, stride) in e) in
    let h2 : p.stride * t ≤ 9223372036854775808 * 9223372036854775808 = mul-le-mul c.requires.p.small_stride stride in
    let h3 : 1 * 1 ≤ p.stride * t = mul-le-mul c.requires.p.stride (let e : 1 ≤ t = omega (arith, c.inverse_of-divisor.ensures.some) in e) in
    let behind : ℕ = q.first - (p.first + p.stride * i) in
    let times = div_ceil_times behind (p.stride * t) (omega (arith, h3)) in
    let d : c.div_ceil.result ≡ div_ceil behind (p.stride * t) = search rules in
    let h4 : c.div_ceil.result * (p.stride * t) ≡ div_ceil behind (p.stride * t) * (p.stride * t) = ap (λ n. n * (p.stride * t)) d in
    omega (arith, h1, h2, h4, times.1, c.requires.p.small, c.requires.q.small)

pub returns-then-far-divisor-ne0 : goal.returns-then-far-divisor-ne0
returns-then-far-divisor-ne0 c = λ x a b.
    let g = c.inverse_of-divisor.result.divisor in
    let t = c.inverse_of-divisor.result.period in
    let u = c.inverse_of-divisor.result.number in
    let h = forth c.args.p.first c.args.p.stride c.args.p.count c.args.q.first c.args.q.stride c.args.q.count g t u
    _ _ _ _ _ x c.requires.p.stride c.requires.q.stride c.inverse_of-divisor.ensures.some
    (inverse_whole c.args.p.stride c.args.q.stride g t u c.inverse_of-divisor.ensures.inverse)
    refl refl refl refl refl a b in
    c.if-far-divisor-ne0.true h.0

pub returns-then-first-last : goal.returns-then-first-last
returns-then-first-last c = λ x a b.
    let g = c.inverse_of-divisor.result.divisor in
    let t = c.inverse_of-divisor.result.period in
    let u = c.inverse_of-divisor.result.number in
    let far = c.args.q.first + c.args.q.stride * c.args.p.first - c.args.p.first in
    let d = c.div_ceil.ensures in
    let last = c.min-last.ensures in
    let h = forth c.args.p.first c.args.p.stride c.args.p.count c.args.q.first c.args.q.stride c.args.q.count g t u
    (far / g % t * u % t) (c.args.p.stride * t) (c.args.p.first + c.args.p.stride * (far / g % t * u % t))
    (c.args.p.first + c.args.p.stride * (far / g % t * u % t) + c.div_ceil.result * (c.args.p.stride * t)) c.min-last.result
    x c.requires.p.stride c.requires.q.stride c.inverse_of-divisor.ensures.some
    (inverse_whole c.args.p.stride c.args.q.stride g t u c.inverse_of-divisor.ensures.inverse)
    (mul-mod_first (far / g) u t) refl refl
    (ap (λ n. c.args.p.first + c.args.p.stride * (far / g % t * u % t) + n * (c.args.p.stride * t)) (search rules)) (search rules) a b in
    let at = h.2 in let high = h.3 in let more = c.if-first-last.true in omega (arith, at, high, more)

pub returns : goal.returns
returns c =
    let g = c.inverse_of-divisor.result.divisor in
    let t = c.inverse_of-divisor.result.period in
    let u = c.inverse_of-divisor.result.number in
    let far = c.args.q.first + c.args.q.stride * c.args.p.first - c.args.p.first in
    let x1 = c.args.p.first + c.args.p.stride * (far / g % t * u % t) + c.div_ceil.result * (c.args.p.stride * t) in
    let L-some : 1 * 1 ≤ c.args.p.stride * t = mul-le-mul c.requires.p.stride (let e : 1 ≤ t = omega (arith, c.inverse_of-divisor.ensures.some) in e) in
    let none : far % g ≡ 0 = search rules in
    let order : x1 ≤ c.min-last.result = c.if-first-last.false in
    let start : ℕ = c.args.p.first + c.args.p.stride * (far / g % t * u % t) in
    let x1-is : x1 ≡ start + div_ceil (c.args.q.first - start) (c.args.p.stride * t) * (c.args.p.stride * t) =
    ap (λ n. c.args.p.first + c.args.p.stride * (far / g % t * u % t) + n * (c.args.p.stride * t)) (search rules) in
    let last-is : c.min-last.result ≡ min (c.args.p.first + c.args.p.stride * (c.args.p.count - 1)) (c.args.q.first + c.args.q.stride * (c.args.q.count - 1)) = search rules in (
      omega arith,
      omega (arith, L-some),
      λ x. (
        (λ (m, less, at).
            back c.args.p.first c.args.p.stride c.args.p.count c.args.q.first c.args.q.stride c.args.q.count g t u
            (far / g % t * u % t) (c.args.p.stride * t) (c.args.p.first + c.args.p.stride * (far / g % t * u % t)) x1 c.min-last.result
            x m c.requires.p.stride c.requires.q.stride c.requires.p.count c.requires.q.count c.inverse_of-divisor.ensures.some
            (inverse_whole c.args.p.stride c.args.q.stride g t u c.inverse_of-divisor.ensures.inverse)
            (mul-mod_first (far / g) u t) refl refl x1-is last-is none at
            (let high = (counted (c.args.p.stride * t) x1 c.min-last.result m (omega (arith, L-some)) order).0 less in omega (arith, at, high))),
        (λ (a, b).
            let h = forth c.args.p.first c.args.p.stride c.args.p.count c.args.q.first c.args.q.stride c.args.q.count g t u
            (far / g % t * u % t) (c.args.p.stride * t) (c.args.p.first + c.args.p.stride * (far / g % t * u % t)) x1 c.min-last.result
            x c.requires.p.stride c.requires.q.stride c.inverse_of-divisor.ensures.some
            (inverse_whole c.args.p.stride c.args.q.stride g t u c.inverse_of-divisor.ensures.inverse)
            (mul-mod_first (far / g) u t) refl refl x1-is last-is a b in
            (h.1, (counted (c.args.p.stride * t) x1 c.min-last.result h.1 (omega (arith, L-some)) order).1 (let at = h.2 in let high = h.3 in omega (arith, at, high)), h.2)),
      ),
    )
