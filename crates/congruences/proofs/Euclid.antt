-- One turn of Euclid's algorithm.
use Rattle.std.proofs.Common.{◌≡◌, ℕ, ◌+◌, ◌-◌, ◌*◌, ◌/◌, ◌%◌, ◌<◌, ap, arith}
use Rattle.std.proofs.Math.Nat.{mod-add-div}
use Rattle.std.proofs.lemmas.Nat.{mod_below}
use Rattle.congruences.specs.Naturals.{AreCongruentNaturals}

turn_sum : (M d n m q last rest less s0 p0 s1 p1 y yq z next : ℕ) → d * n + M * s0 ≡ last + M * p0 → d * m + M * s1 ≡ rest + M * p1
    → less + rest * q ≡ last → y + M * yq ≡ m * q → next + M * z + y ≡ n + M
    → d * next + M * (d * z + q * p1 + s0) ≡ less + M * (p0 + d + d * yq + q * s1)
turn_sum M d n m q last rest less s0 p0 s1 p1 y yq z next a b split ys nexts =
    let h1 : d * (next + M * z + y) ≡ d * (n + M) = ap (λ x. d * x) nexts in
    let h2 : d * (y + M * yq) ≡ d * (m * q) = ap (λ x. d * x) ys in
    let h3 : q * (d * m + M * s1) ≡ q * (rest + M * p1) = ap (λ x. q * x) b in
    omega (arith, h1, h2, h3, a, split)

pub turn : (M d n m last rest : ℕ) → 0 < M → AreCongruentNaturals M (d * n) last → AreCongruentNaturals M (d * m) rest
    → AreCongruentNaturals M (d * ((n + (M - m * (last / rest) % M)) % M)) (last % rest)
turn M d n m last rest some a b =
    let q = last / rest in
    let y = m * q % M in
    let next = (n + (M - y)) % M in
    let below : y < M = mod_below (m * q) M some in
    let split : last % rest + rest * q ≡ last = mod-add-div last rest in
    let ys : y + M * (m * q / M) ≡ m * q = mod-add-div (m * q) M in
    let zs : next + M * ((n + (M - y)) / M) ≡ n + (M - y) = mod-add-div (n + (M - y)) M in
    (_, _, turn_sum M d n m q last rest (last % rest) a.0 a.1 b.0 b.1 y (m * q / M) ((n + (M - y)) / M) next a.2 b.2 split ys (omega (arith, zs, below)))
