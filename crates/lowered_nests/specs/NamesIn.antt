-- Of proofs.
-- The names of a nest on the machine, by its code.
use Rattle.std.specs.Prelude.{ℕ, List, Bool}
use Rattle.array_meaning.specs.Statements.{Nest, Block}
use Rattle.node_code.specs.Forms.{Sub}
use Rattle.code_meaning.specs.Instructions.{ArrayTable}
use Rattle.nest_join.specs.NestNames.{NestNames}
use Rattle.program_code.specs.NestCode.{kinds_in, scalars, conditions, place_in, copied_in, nest_beside}
use Rattle.program_code.specs.Places.{is_nest_row, marks_of}

-- the nest's names on the machine, where `is_index` says which scalars are indices of the nest and of loops in it
abbrev pub names_in : ArrayTable → (n : ℕ) → Nest → Block → (over : List Sub) → (is_index : ℕ → Bool) → NestNames
names_in table n nest body over is_index = record {
  nest = nest;
  count = n;
  table = table;
  kinds = kinds_in n nest body;
  is_row = is_nest_row n (scalars n nest body) (conditions n nest body);
  place = place_in n nest body;
  marks = marks_of n (scalars n nest body) (conditions n nest body) (kinds_in n nest body);
  is_index = is_index;
  over = over;
  beside = nest_beside nest body;
  copied_in = copied_in n nest body;
}
