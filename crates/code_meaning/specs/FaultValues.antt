-- Of the claim.
-- Faults as values of letters: they are read back from their numbers.
use Rattle.std.proofs.Common.{◌≡◌, ℤ, List, ◌++◌, length, take, drop, Option, Some, None, refl, ap, ◌∙◌}
use Rattle.std.proofs.Math.Seq.{take-append_seam, drop-append_seam}
use Rattle.node_code.specs.FaultKind.{FaultKind}
use Rattle.node_code.specs.FaultKind.TheVariants.{Bounds, DivZero, Shape, ZeroStride, NotOneToOne, SpaceLimit, Interfere}
use Rattle.node_code.specs.Faults.{Object, Location, Nowhere, AtTuple, Between, Fault}
use Rattle.aligned_copies.specs.Node.{FaultValues}
use Rattle.code_meaning.specs.FaultNumbers.{between, fault_numbers, fault_of, kind_at, kind_number, location_numbers, location_of, subscript_numbers, subscripts_of}

kind_back : (k : FaultKind) → kind_at (kind_number k) ≡ k
kind_back Bounds = refl
kind_back DivZero = refl
kind_back Shape = refl
kind_back ZeroStride = refl
kind_back NotOneToOne = refl
kind_back SpaceLimit = refl
kind_back Interfere = refl

subscripts_back : (s : Option (List ℤ)) → subscripts_of (subscript_numbers s) ≡ s
subscripts_back None = refl
subscripts_back (Some is) = refl

between_back : (one other : List ℤ) (object : Object)
    → between (length one) (length other) object.name (one ++ (other ++ subscript_numbers object.subscripts)) ≡ Between one other object
between_back one other object =
    let s : List ℤ = subscript_numbers object.subscripts in
    let first : take (length one) (one ++ (other ++ s)) ≡ one = take-append_seam one (other ++ s) in
    let rest : drop (length one) (one ++ (other ++ s)) ≡ other ++ s = drop-append_seam one (other ++ s) in
    let second : take (length other) (drop (length one) (one ++ (other ++ s))) ≡ other = ap (take (length other)) rest ∙ take-append_seam other s in
    let last : drop (length other) (drop (length one) (one ++ (other ++ s))) ≡ s = ap (drop (length other)) rest ∙ drop-append_seam other s in
    let subscripts : subscripts_of (drop (length other) (drop (length one) (one ++ (other ++ s)))) ≡ object.subscripts = ap subscripts_of last
    ∙ subscripts_back object.subscripts in
    λ i. Between (first i) (second i) (record { name = object.name; subscripts = subscripts i })

location_back : (at : Location) → location_of (location_numbers at) ≡ at
location_back Nowhere = refl
location_back (AtTuple tuple) = refl
location_back (Between one other object) = between_back one other object

pub fault_back : (f : Fault) → fault_of (fault_numbers f) ≡ f
fault_back f = λ i. record { line = f.line; kind = kind_back f.kind i; at = location_back f.at i }

-- a fault goes as its numbers, and comes back with its line, kind, tuples and object
abbrev pub fault_values : FaultValues Fault
fault_values = record { values = fault_numbers; fault = fault_of; back = fault_back }
