use Rattle.std.proofs.Common.{◌≡◌, ◌<◌, ◌≤◌, ℕ, length, pos, Some}
use Rattle.std.specs.Prelude.{slice_index_or}
use Rattle.tuple_values.specs.Statements.{made_by}
use Rattle.tuple_values.proofs.strip_values.all_made_by.Given as goal

-- it is made of those before the place, and the others are as they were
abbrev pub invariant-loop-index : goal.invariant-loop-index
invariant-loop-index l = record {
  count : length l.values.items ≡ length l.initial.values.items;
  made : (k : ℕ) → k < l.index → slice_index_or l.values.items k (pos 0) ≡ made_by (Some l.made) (slice_index_or l.initial.values.items k (pos 0));
  left : (k : ℕ) → l.index ≤ k → slice_index_or l.values.items k (pos 0) ≡ slice_index_or l.initial.values.items k (pos 0);
}
