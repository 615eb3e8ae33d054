-- Places of a table by their classes.
use Rattle.std.proofs.Common.{◌≡◌, ℕ, ◌+◌, ◌*◌, ◌/◌, ◌%◌, ◌<◌, ◌≤◌, ◌⊎◌, inl, inr, length, IfSome, Option, Some, None, sym, arith}
use Rattle.std.proofs.Math.Nat.{div-eq_of_lt, mod-add-div, mod-eq_of_lt}
use Rattle.std.proofs.lemmas.Bool.{cases_lt}
use Rattle.std.proofs.lemmas.Nat.{mod_below}
use Rattle.gap_table.specs.GapTable.{GapView}
use Rattle.owned_places.specs.declared.candidates.Candidates.{Candidates}
use Rattle.owned_places.specs.Candidates.{candidate, classes_in, classes_of, number_in, period_in, period_of}

-- a number by what remains of it
numbers-repeat : (table : Option GapView) (n : ℕ) → 1 ≤ classes_in table → number_in table n ≡ number_in table (n % classes_in table) + period_in table * (n / classes_in table)
numbers-repeat None n some =
    let rest = mod_below n 1 (omega arith) in
    let whole = split n 1 in
    omega (arith, rest, whole)
  where
    split : (n k : ℕ) → n ≡ n % k + k * (n / k)
    split n k = sym (mod-add-div n k)
numbers-repeat (Some t) n some =
    let E = length t.offsets in
    let below : n % E < E = mod_below n E some in
    let m : n % E % E ≡ n % E = mod-eq_of_lt below in
    let d : n % E / E ≡ 0 = div-eq_of_lt below in
    rw (m, d) (omega arith)

-- where there is a place there is a class
pub some-class : (c : Candidates) → IfSome c.table (λ t. c.count ≡ t.len) → (n : ℕ) → n < c.count → IfSome c.table (λ t. 1 ≤ t.len → 1 ≤ length t.offsets) → 1 ≤ classes_in c.table
some-class c long n below some = by_table c.table long some
  where
    by_table : (table : Option GapView) → IfSome table (λ t. c.count ≡ t.len) → IfSome table (λ t. 1 ≤ t.len → 1 ≤ length t.offsets) → 1 ≤ classes_in table
    by_table None long some = omega arith
    by_table (Some t) long some = some (omega (arith, long, below))

-- the classes are those of a period, or as many as there are places
pub repeat : (c : Candidates) → 1 ≤ classes_in c.table → (n : ℕ) → n < c.count → candidate c n ≡ candidate c (n % classes_of c) + period_of c * (n / classes_of c)
repeat c some n below = by_size (cases_lt c.count (classes_in c.table))
  where
    by_size : (c.count < classes_in c.table) ⊎ (classes_in c.table ≤ c.count)
        → candidate c n ≡ candidate c (n % classes_of c) + period_of c * (n / classes_of c)
    by_size (inl fewer) =
        let all : classes_of c ≡ c.count = omega (arith, fewer) in
        let inside : n < classes_of c = omega (arith, all, below) in
        let m : n % classes_of c ≡ n = mod-eq_of_lt inside in
        let d : n / classes_of c ≡ 0 = div-eq_of_lt inside in
        rw (m, d) (omega arith)
    by_size (inr enough) =
        let one : classes_of c ≡ classes_in c.table = omega (arith, enough) in
        let step = numbers-repeat c.table n some in
        rw one (omega (arith, step))
