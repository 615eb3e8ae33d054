-- Of private clauses.
-- What a part comes to at a strip of the tuples that a node computes. Private contracts alone cite this.
use Rattle.std.specs.Prelude.{◌≡◌, ℕ, ◌+◌, ◌-◌, ◌*◌, ◌^◌, ◌<◌, ◌≤◌, List, [], ◌∷◌, IfSome, length, map, slice_index, slice_index_or, ℤ, pos, Option, Some, option_map}
use Rattle.std.specs.List.{range_with_len}
use Rattle.storage.specs.Storage.{Storage}
use Rattle.op_tables.specs.declared.join.Join.{Join}
use Rattle.op_tables.specs.Joins.{join}
use Rattle.machine_steps.specs.Instr.{Value}
use Rattle.machine_steps.specs.Layout.{Layout}
use Rattle.machine_steps.specs.Node.{join_options, local_write}
use Rattle.course_forms.specs.Views.{named_of, names_of}
use Rattle.tuple_values.specs.NamedElements.{AreInOrder, AreReferences}
use Rattle.tuple_values.specs.Statements.{tuple_left}
use Rattle.tuple_values.specs.Strips.{line_spot, strip_tuple}
use Rattle.tuple_values.specs.declared.strips.ElementLine.{ElementLine}
use Rattle.tuple_values.specs.declared.strips.Strip.{Strip}
use Rattle.tuple_values.specs.declared.references.References.{References}
use Rattle.tuple_values.specs.Views.{statement}
use Rattle.part_steps.specs.After.{After, outcome_of}
use Rattle.part_steps.specs.declared.gathered.Gathered.{Gathered}
use Rattle.part_steps.specs.declared.strips.StripOutcome.{StripOutcome}

abbrev pub strip_tuples : Strip → List ℕ
strip_tuples s = map (strip_tuple s) (range_with_len 0 s.count)

-- what the statement of a part names, one reference for each read, where that is known
abbrev pub AreReferencesOf : Gathered → Option References → Type 0
AreReferencesOf g p =
    let w = statement g.part.now.statement.now in
    IfSome p (λ r. AreReferences w r.extents.items (option_map named_of r.left) (names_of r.reads.items) × AreInOrder w r.extents.items (names_of r.reads.items))

-- the strip's tuples are those of a list from an index on
pub record IsStripOf (ts : List ℕ) (from : ℕ) (s : Strip) : Type 0 where
  pub within : from + s.count ≤ length ts
  pub at : (k : ℕ) → k < s.count → slice_index ts (from + k) ≡ strip_tuple s k

-- each tuple comes to a value, which is assigned to the next element of a line, where something is assigned
pub record AreOutcomes (b : After) (s : Strip) (o : StripOutcome) : Type 0 where
  pub count : length o.values.items ≡ s.count
  pub value : (k : ℕ) → k < s.count → outcome_of b (strip_tuple s k) ≡ Value (slice_index_or o.values.items k (pos 0))
  pub near : IfSome o.left (λ l. l.first.at + (s.count - 1) * l.step < 2 ^ 64)
  pub left : (k : ℕ) → k < s.count → tuple_left b.part.statement (strip_tuple s k) ≡ option_map (λ l. line_spot l k) o.left

-- pieces of the node `id` with these values written to the elements of a line, of which so many were written before
abbrev pub written : List Layout → ℕ → ElementLine → ℕ → List ℤ → Storage → Storage
written layouts id l done [] pieces = pieces
written layouts id l done (v ∷ vs) pieces = written layouts id l (done + 1) vs (local_write layouts id (line_spot l done) v pieces)

-- a value that there may be, and after it these, joined
abbrev pub joined_values : Join → List ℤ → Option ℤ → Option ℤ
joined_values op [] so_far = so_far
joined_values op (v ∷ vs) so_far = joined_values op vs (join_options (join op) so_far (Some v))
