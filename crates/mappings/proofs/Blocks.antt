-- What a processor owns under BLOCK is a section.
use Rattle.std.proofs.Common.{◌≡◌, ℕ, zero, suc, ◌+◌, ◌-◌, ◌*◌, ◌<◌, ◌≤◌, arith}
use Rattle.std.proofs.Math.Nat.{lt_of_mul-lt-mul_right, mul-le-mul_left, mul_comm}
use Rattle.std.proofs.lemmas.Grind.{div_ceil_times}
use Rattle.std.specs.Int.{div_ceil}
use Rattle.mappings.specs.Owner.{default_block}

-- a block is no smaller than 1
pub default_block-some : (extent procs : ℕ) → 1 ≤ default_block extent procs
default_block-some extent procs = omega arith

-- the blocks hold all positions
pub default_block-all : (extent procs : ℕ) → 1 ≤ procs → extent ≤ procs * default_block extent procs
default_block-all extent procs some =
    let times = div_ceil_times extent procs some in
    let more : procs * div_ceil extent procs ≤ procs * default_block extent procs = mul-le-mul_left procs (omega arith) in
    omega (arith, times.0, more, mul_comm (div_ceil extent procs) procs)

before_rounded : (d m j : ℕ) → 1 ≤ j → j ≤ d * m → d * m < j + m → ((d - 1) * m < j) × (j ≤ (d - 1 + 1) * m)
before_rounded zero m j begins upto below = absurd (omega arith)
before_rounded (suc k) m j begins upto below =
    let one : suc k - 1 ≡ k = omega arith in rw one (omega arith, omega arith)

-- the position lies in the block of its coordinate
pub coordinate-within : (m j : ℕ) → 1 ≤ m → 1 ≤ j → ((div_ceil j m - 1) * m < j) × (j ≤ (div_ceil j m - 1 + 1) * m)
coordinate-within m j some begins =
    let times = div_ceil_times j m some in before_rounded (div_ceil j m) m j begins times.0 times.1

-- a position in a block has the block's coordinate
pub coordinate-unique : (m j q : ℕ) → 1 ≤ m → 1 ≤ j → q * m < j → j ≤ (q + 1) * m → div_ceil j m - 1 ≡ q
coordinate-unique m j q some begins above upto =
    let within = coordinate-within m j some begins in
    let low : q < div_ceil j m - 1 + 1 = lt_of_mul-lt-mul_right m (omega (arith, within.0, within.1)) in
    let high : div_ceil j m - 1 < q + 1 = lt_of_mul-lt-mul_right m (omega (arith, within.0, within.1)) in
    omega arith
