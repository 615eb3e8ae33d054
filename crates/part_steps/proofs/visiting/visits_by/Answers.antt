use Rattle.std.proofs.Common.{ap, subst, sym}
use Rattle.std.specs.Option.{IfSome, option_map}
use Rattle.message_elements.specs.Candidates.{AreCandidates}
use Rattle.course_forms.specs.Views.{named_of, names_of}
use Rattle.tuple_values.specs.NamedElements.{AreInOrder, AreReferences}
use Rattle.tuple_values.specs.Views.{statement}
use Rattle.part_steps.specs.Parts.{part_of}
use Rattle.part_steps.specs.declared.who.Who.TheVariants.{Left, First, Root}
use Rattle.part_steps.proofs.OfReferences.{first-part, if-some-map, left-part, root-part}
use Rattle.part_steps.proofs.visiting.visits_by.Goals as goal

pub returns-in_ok-found-in-Left : goal.returns-in_ok-found-in-Left
returns-in_ok-found-in-Left c =
    let owners = c.args.part.now.owners.now in
    let w = statement c.args.part.now.statement.now in
    let l = option_map named_of c.args.references.now.left in
    let ns = c.as_slice-extents.result.now in
    let rs = names_of c.as_slice-reads.result.now in
    let are : AreReferences w ns l rs =
    subst (λ ns. AreReferences w ns l rs) (sym c.as_slice-extents.ensures.value)
    (subst (λ rs. AreReferences w c.args.references.now.extents.items l (names_of rs)) (sym c.as_slice-reads.ensures.value) c.requires.references) in
    subst (λ who. IfSome c.in_ok-found-in-Left.found (AreCandidates owners.nodes owners.layouts (part_of (record { who = who; nodes = owners.nodes; layouts = owners.layouts; statement = w })) c.args.id))
    (sym c.in-Left.is)
    (if-some-map c.in_ok-found-in-Left.found
    (λ v visits. visits (part_of (record { who = Left; nodes = owners.nodes; layouts = owners.layouts; statement = w })) (left-part owners.nodes owners.layouts w ns l rs are (named_of c.in-Some.left) (ap (option_map named_of) c.in-Some.is)))
    c.in_ok-found-in-Left.ensures)

pub returns-in_ok-found-in-First : goal.returns-in_ok-found-in-First
returns-in_ok-found-in-First c =
    let owners = c.args.part.now.owners.now in
    let w = statement c.args.part.now.statement.now in
    let l = option_map named_of c.args.references.now.left in
    let ns = c.as_slice-extents.result.now in
    let rs = names_of c.as_slice-reads.result.now in
    let are : AreReferences w ns l rs =
    subst (λ ns. AreReferences w ns l rs) (sym c.as_slice-extents.ensures.value)
    (subst (λ rs. AreReferences w c.args.references.now.extents.items l (names_of rs)) (sym c.as_slice-reads.ensures.value) c.requires.references) in
    let order : AreInOrder w ns rs =
    subst (λ ns. AreInOrder w ns rs) (sym c.as_slice-extents.ensures.value)
    (subst (λ rs. AreInOrder w c.args.references.now.extents.items (names_of rs)) (sym c.as_slice-reads.ensures.value)
    (c.requires.order c.if-not-references.false)) in
    subst (λ who. IfSome c.in_ok-found-in-First.found (AreCandidates owners.nodes owners.layouts (part_of (record { who = who; nodes = owners.nodes; layouts = owners.layouts; statement = w })) c.args.id))
    (sym c.in-First.is)
    (if-some-map c.in_ok-found-in-First.found
    (λ v visits. visits (part_of (record { who = First; nodes = owners.nodes; layouts = owners.layouts; statement = w })) (first-part owners.nodes owners.layouts w ns l rs are order))
    c.in_ok-found-in-First.ensures)

pub returns-in_ok-found-in-Root : goal.returns-in_ok-found-in-Root
returns-in_ok-found-in-Root c =
    let owners = c.args.part.now.owners.now in
    let w = statement c.args.part.now.statement.now in
    let l = option_map named_of c.args.references.now.left in
    let ns = c.as_slice-extents.result.now in
    let rs = names_of c.as_slice-reads.result.now in
    let are : AreReferences w ns l rs =
    subst (λ ns. AreReferences w ns l rs) (sym c.as_slice-extents.ensures.value)
    (subst (λ rs. AreReferences w c.args.references.now.extents.items l (names_of rs)) (sym c.as_slice-reads.ensures.value) c.requires.references) in
    subst (λ who. IfSome c.in_ok-found-in-Root.found (AreCandidates owners.nodes owners.layouts (part_of (record { who = who; nodes = owners.nodes; layouts = owners.layouts; statement = w })) c.args.id))
    (sym c.in-Root.is)
    (if-some-map c.in_ok-found-in-Root.found
    (λ v visits. visits (part_of (record { who = Root; nodes = owners.nodes; layouts = owners.layouts; statement = w })) (root-part owners.nodes owners.layouts w ns l rs are))
    c.in_ok-found-in-Root.ensures)
