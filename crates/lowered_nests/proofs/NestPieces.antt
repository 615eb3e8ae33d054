-- The pieces of a nest's code.
use Rattle.std.proofs.Common.{◌≡◌, ℕ, suc, ◌+◌, ◌*◌, List, [], ◌∷◌, ◌++◌, length, refl, ap, subst, arith, length-append}
use Rattle.array_meaning.specs.Statements.{Loop, Nest, Block}
use Rattle.node_code.specs.Instructions.{Instruction}
use Rattle.lowered_expressions.proofs.Reach.{HasAt, has-front, has-back}
use Rattle.program_code.specs.NestInstructions.{nest_instructions}
use Rattle.program_code.specs.NestCode.{nest_beside, plain, text_in, test_in, stored, finals, along, inner_bounds, trips_code, indices_code, nest_code}

trips-length : (line v target : ℕ) (ls : List Loop) → length (trips_code line v target ls) ≡ length ls
trips-length line v target [] = refl
trips-length line v target (l ∷ ls) = ap suc (trips-length line (v + 4) target ls)

indices-length : (line v target : ℕ) (ls : List Loop) → length (indices_code line v target ls) ≡ 3 * length ls
indices-length line v target [] = refl
indices-length line v target (l ∷ ls) = let e = indices-length line (v + 4) target ls in omega (arith, e)

module _ (n line : ℕ) (nest : Nest) (body : Block) (v pc : ℕ) where
  abbrev bounds : List Instruction
  bounds = inner_bounds line v nest.loops

  abbrev pub at_trips : ℕ
  at_trips = pc + length (inner_bounds line v nest.loops)

  abbrev pub at_statements : ℕ
  at_statements = pc + length (inner_bounds line v nest.loops) + length nest.loops

  abbrev pub statements : List Instruction
  statements = nest_instructions line (along v nest.loops) (nest_beside nest body) (text_in n nest body) (test_in n nest body) (stored n nest body) (finals n nest body) (plain body) (v + 4 * length nest.loops) at_statements

  abbrev pub at_indices : ℕ
  at_indices = at_statements + length statements

  abbrev pub end : ℕ
  end = at_indices + 3 * length nest.loops

  abbrev trips : List Instruction
  trips = trips_code line v at_indices nest.loops

  abbrev indices : List Instruction
  indices = indices_code line v end nest.loops

  pub record HasPieces (code : List Instruction) : Type 0 where
    pub has_bounds : HasAt code pc (inner_bounds line v nest.loops)
    pub has_trips : HasAt code at_trips (trips_code line v at_indices nest.loops)
    pub has_statements : HasAt code at_statements statements
    pub has_indices : HasAt code at_indices (indices_code line v end nest.loops)

  pub has-pieces : (code : List Instruction) → HasAt code pc (nest_code n line nest body v pc) → HasPieces code
  has-pieces code has =
      let one = has-back code pc bounds (trips ++ (statements ++ indices)) has in
      let size = trips-length line v at_indices nest.loops in
      let e : at_trips + length trips ≡ at_statements = omega (arith, size) in
      let two = subst (λ q. HasAt code q (statements ++ indices)) e (has-back code at_trips trips (statements ++ indices) one) in
      record {
        has_bounds = has-front code pc bounds (trips ++ (statements ++ indices)) has;
        has_trips = has-front code at_trips trips (statements ++ indices) one;
        has_statements = has-front code at_statements statements indices two;
        has_indices = has-back code at_statements statements indices two;
      }

  pub end-is : end ≡ pc + length (nest_code n line nest body v pc)
  end-is =
      let t = trips-length line v at_indices nest.loops in
      let x = indices-length line v end nest.loops in
      let one = length-append bounds (trips ++ (statements ++ indices)) in
      let two = length-append trips (statements ++ indices) in
      let three = length-append statements indices in
      let e : end ≡ pc + length (bounds ++ (trips ++ (statements ++ indices))) = omega (arith, t, x, one, two, three) in
      e
