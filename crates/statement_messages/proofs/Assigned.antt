-- Parts of assignments by what these name.
use Rattle.std.proofs.Common.{◌≡◌, ℕ, List, map, Option, Some, sym, ◌∙◌, ap}
use Rattle.machine_steps.specs.Layout.{in_bounds}
use Rattle.machine_steps.specs.Message.{computes_left}
use Rattle.courses.specs.References.{Named, named_spot}
use Rattle.owner_tables.specs.Views.{OwnersView}
use Rattle.visited_tuples.specs.Parts.{IsPartOf}
use Rattle.tuple_values.specs.NamedElements.{AreReferences, spot_if}
use Rattle.tuple_values.specs.Statements.{Statement}
use Rattle.statement_messages.specs.Assigning.{assigning}

pub left-part : (owners : OwnersView) (w : Statement) (ns : List ℕ) (l : Option Named) (rs : List Named) → AreReferences w ns l rs → (left : Named) → l ≡ Some left
    → IsPartOf ns rs (λ node t. computes_left owners.layouts node (in_bounds owners.layouts (named_spot ns t left))) (assigning owners w)
left-part owners w ns l rs are left is = record {
  tuples = sym are.count;
  reads = are.reads;
  computes = λ node t small. ap (λ o. computes_left owners.layouts node (in_bounds owners.layouts o)) (are.left t small ∙ ap (spot_if ns t) is);
}
