use Rattle.std.proofs.Common.{map, refl, arith}
use Rattle.node_code.specs.Instructions.{Print}
use Rattle.code_meaning.specs.Instructions.{items_of}
use Rattle.node_code.specs.Texts.{print_item}
use Rattle.node_machine.proofs.PrintLaws.{item-there, items-over, next-step}
use Rattle.node_machine.proofs.prints.print_step.Goals as goal

pub returns-then-substep-len : goal.returns-then-substep-len
returns-then-substep-len c =
    let shapes = c.args.program.now.shapes.items in
    let items = c.args.items.now.items in
    next-step shapes items c.index.result.now (Print (map print_item items)) c.args.program.now.nodes c.args.substep c.item_step.result
    (item-there shapes items c.args.substep c.index.result.now (omega (arith, c.len.ensures, c.if-substep-len.true)) c.index.ensures) c.item_step.ensures

pub returns-else-substep-len : goal.returns-else-substep-len
returns-else-substep-len c =
    let shapes = c.args.program.now.shapes.items in
    let items = c.args.items.now.items in
    record {
      items = items_of shapes (map print_item items);
      is = refl;
      over = items-over shapes items c.args.substep (omega (arith, c.len.ensures, c.if-substep-len.false));
    }
