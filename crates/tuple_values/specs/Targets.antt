-- Of a promise.
-- What targets in code stand for.
use Rattle.node_code.specs.Forms.{ArrayForm, SectionForm}
use Rattle.node_code.specs.NestStatements.{NestLeft, ElementLeft, CopyLeft}
use Rattle.node_code.specs.Texts.{form, subs}
use Rattle.tuple_values.specs.declared.right.Right.{Right}
use Rattle.tuple_values.specs.declared.right.Right.TheVariants as right
use Rattle.tuple_values.specs.declared.target.Target.{Target as HeldTarget}
use Rattle.tuple_values.specs.declared.target.Target.TheVariants as held
use Rattle.tuple_values.specs.Statements.{Target, Nowhere, InCopy, InSection, ByIndices}

abbrev pub target : HeldTarget → Target
target held.Nothing = Nowhere
target (held.Copy row) = InCopy row
target (held.Section a ds) = InSection a ds.items
target (held.Indexed a ds) = ByIndices a (subs ds.now)

abbrev pub form_of : Right → ArrayForm
form_of (right.Form f) = form f.now
form_of (right.Section a ds) = SectionForm a (subs ds.now)

-- what is assigned in an iteration of a nest
abbrev pub nest_target : NestLeft → Target
nest_target (ElementLeft a ds) = ByIndices a ds
nest_target (CopyLeft row) = InCopy row
