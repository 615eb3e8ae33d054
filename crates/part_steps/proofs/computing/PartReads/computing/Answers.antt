use Rattle.std.proofs.Common.{[], ◌∷◌, filter, sym, ◌∙◌, ap}
use Rattle.std.specs.List.{range_with_len}
use Rattle.machine_steps.specs.Layout.{in_bounds}
use Rattle.machine_steps.specs.Message.{first_read, least_or_zero}
use Rattle.tuple_values.specs.Statements.{tuple_reads}
use Rattle.tuple_values.specs.Views.{statement}
use Rattle.part_steps.specs.Parts.{computed_by, computing_node}
use Rattle.part_steps.proofs.Nodes.{one-of, root-of}
use Rattle.part_steps.proofs.Owners.{least-below}
use Rattle.part_steps.proofs.computing.PartReads.computing.Goals as goal

pub returns-in-First : goal.returns-in-First
returns-in-First c =
    let p = c.args.self.now in
    let owners = p.owners.now in
    let w = statement p.statement.now in
    let t = c.args.tuple in
    c.first_node.ensures ∙ ap (λ rs. least_or_zero owners.nodes owners.layouts (in_bounds owners.layouts (first_read rs)) ∷ []) c.requires.reads
    ∙ sym (one-of (computing_node owners.nodes owners.layouts w t) owners.nodes (least-below owners.nodes owners.layouts (in_bounds owners.layouts (first_read (tuple_reads w t))) p.some))
    ∙ ap (λ who. filter (λ node. computed_by who owners.nodes owners.layouts w node t) (range_with_len 0 owners.nodes)) (sym c.in-First.is)

pub returns-in-Root : goal.returns-in-Root
returns-in-Root c =
    let p = c.args.self.now in
    let nodes = p.owners.now.nodes in
    sym (root-of nodes p.some) ∙ ap (λ who. filter (λ node. computed_by who nodes p.owners.now.layouts (statement p.statement.now) node c.args.tuple) (range_with_len 0 nodes)) (sym c.in-Root.is)
