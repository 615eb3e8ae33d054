-- A section lies inside a line where its first and its last position do.
use Rattle.std.proofs.Common.{◌≡◌, ℕ, suc, ℤ, pos, negsuc, ◌*ℤ◌, ◌≤ℤ◌, neg_ℤ, ◌-◌, ◌*◌, ◌≤◌, arith}
use Rattle.std.proofs.Math.IntN.{pos-*ℤ-pos, negsuc-*ℤ-pos}
use Rattle.std.proofs.Math.Nat.{mul-le-mul_left}
use Rattle.std.proofs.lemmas.Int.{ints}
use Rattle.mappings.specs.declared.mapping.Line.{Line}
use Rattle.gap_table.specs.OwnedSequence.{IsSectionOf, position_of}

between : (extent start n j : ℕ) (stride : ℤ) → j ≤ n → pos 1 ≤ℤ pos start → pos start ≤ℤ pos extent → pos 1 ≤ℤ position_of start stride n
    → position_of start stride n ≤ℤ pos extent → (pos 1 ≤ℤ position_of start stride j) × (position_of start stride j ≤ℤ pos extent)
between extent start n j (pos a) within low high low_last high_last =
    let here : pos a *ℤ pos j ≡ pos (a * j) = pos-*ℤ-pos a j in
    let last : pos a *ℤ pos n ≡ pos (a * n) = pos-*ℤ-pos a n in
    let less : a * j ≤ a * n = mul-le-mul_left a within in
    (omega (arith, ints, here, low), omega (arith, ints, here, last, less, high_last))
between extent start n j (negsuc a) within low high low_last high_last =
    let here : negsuc a *ℤ pos j ≡ neg_ℤ (pos (suc a * j)) = negsuc-*ℤ-pos a j in
    let last : negsuc a *ℤ pos n ≡ neg_ℤ (pos (suc a * n)) = negsuc-*ℤ-pos a n in
    let less : suc a * j ≤ suc a * n = mul-le-mul_left (suc a) within in
    (omega (arith, ints, here, last, less, low_last), omega (arith, ints, here, high))

pub section-inside : (line : Line) (start count : ℕ) (stride : ℤ) → 1 ≤ count → 1 ≤ start → start ≤ line.extent
    → pos 1 ≤ℤ position_of start stride (count - 1) → position_of start stride (count - 1) ≤ℤ pos line.extent → IsSectionOf line start stride count
section-inside line start count stride some low high low_last high_last j below =
    between line.extent start (count - 1) j stride (let e : j ≤ count - 1 = omega (arith, below) in e) (omega (arith, ints, low)) (omega (arith, ints, high))
    low_last high_last
