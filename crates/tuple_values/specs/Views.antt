-- Of a promise.
-- What parallel statements in code are, apart from where they lie.
use Rattle.std.specs.Prelude.{map, option_map}
use Rattle.node_code.specs.Texts.{when}
use Rattle.tuple_values.specs.declared.statement.ParallelStatement.{ParallelStatement}
use Rattle.tuple_values.specs.Statements.{Statement}
use Rattle.tuple_values.specs.Targets.{target, form_of}

abbrev pub statement : ParallelStatement → Statement
statement w = record {
  shapes = w.shapes.now;
  slots = w.slots.now;
  line = w.line;
  extents = w.space.extents.items;
  indices = option_map (λ ds. ds.items) w.space.indices;
  whens = map when w.whens.now;
  copies = w.copies.now;
  located = w.located;
  target = target w.target;
  form = form_of w.right;
  made = w.made;
}
