use Rattle.std.proofs.Common.{ap, subst, sym}
use Rattle.std.specs.Option.{option_map}
use Rattle.course_forms.specs.Views.{named_of, names_of}
use Rattle.tuple_values.specs.NamedElements.{AreReferences}
use Rattle.tuple_values.specs.Views.{statement}
use Rattle.statement_messages.proofs.Assigned.{left-part}
use Rattle.statement_messages.specs.Assigning.{assigning}
use Rattle.statement_messages.proofs.messages.by_references.Goals as goal

pub returns : goal.returns
returns c =
    let owners = c.args.owners.now in
    let w = statement c.args.statement.now in
    let l = option_map named_of c.args.references.now.left in
    let ns = c.as_slice-extents.result.now in
    let rs = names_of c.as_slice-reads.result.now in
    let are : AreReferences w ns l rs =
    subst (λ ns. AreReferences w ns l rs) (sym c.as_slice-extents.ensures.value)
    (subst (λ rs. AreReferences w c.args.references.now.extents.items l (names_of rs)) (sym c.as_slice-reads.ensures.value) c.requires.references) in
    c.in_ok-spots.ensures (assigning owners w) (left-part owners w ns l rs are (named_of c.in-Some.left) (ap (option_map named_of) c.in-Some.is))
