-- A program has room for the copy of a mask.
use Rattle.std.proofs.Common.{ℕ, ◌≤◌, arith}
use Rattle.array_meaning.specs.Statements.{Block, Done, Then}
use Rattle.program_code.specs.StatementCode.{block_copies}

pub some_copy : (n : ℕ) (b : Block) → 1 ≤ block_copies n b
some_copy n Done = omega arith
some_copy n (Then line st rest) = let h = some_copy n rest in omega (arith, h)
