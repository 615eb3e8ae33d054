-- Of a promise.
-- How the inner loops of a nest count: in 64 bits, as any DO.
use Rattle.std.specs.Prelude.{ℕ, ◌+◌, pos, ◌+ℤ◌, ◌-ℤ◌, not}
use Rattle.op_tables.specs.Operators.{wrapped, is_zero, is_true}
use Rattle.array_meaning.specs.Faults.{Fault}
use Rattle.array_meaning.specs.Sections.{sequence, value_count}
use Rattle.code_meaning.specs.Flat.{slot}
use Rattle.code_meaning.specs.Parallel.{at_line}
use Rattle.code_meaning.specs.Instructions.{begin_trips}
use Rattle.nest_machine.specs.Counting.{Counting}

-- Trips begins them, and their steps aren't 0
abbrev pub counting_at : (line : ℕ) → Counting Fault
counting_at line = record {
  trips = λ b target c. begin_trips (b + 3) target (at_line line (sequence (slot c.slots b) (slot c.slots (b + 1)) (slot c.slots (b + 2)))) c;
  is_step = λ v. not (is_zero v);
  count = λ first last step. value_count (wrapped first) (wrapped last) (wrapped step);
  left = λ k. wrapped (pos k);
  less = λ v. wrapped (v -ℤ pos 1);
  is_left = is_true;
  advance = λ v step. wrapped (v +ℤ step);
}
