use Rattle.std.proofs.Common.{◌≡◌, ℕ, List, [], ◌++◌, OnOk, length, map, sym, subst, take}
use Rattle.message_lines.proofs.Moves.{moves-apart}
use Rattle.node_code.specs.Texts.{instruction}
use Rattle.node_program.specs.Programs.{mappings_of}
use Rattle.message_lines.proofs.instructions.push_lines.Goals as goal

pub returns : goal.returns
returns c = λ moves.
    let names = map (λ e. e.name) c.args.names.now in
    let shapes = c.args.program.now.shapes.items in
    let maps = mappings_of c.args.program.now.tables.items in
    let layouts = take (length c.args.names.now) c.args.owners.now.layouts in
    subst (λ (lines : List ℕ). OnOk c.add.result (c.add.new.text.items ≡ c.args.text.now.items ++ lines))
    (moves-apart maps c.args.owners.now.nodes c.args.program.now.nodes names shapes (λ line. []) moves layouts (instruction c.args.i.now) c.args.slots.now (sym c.requires.nodes))
    c.add.ensures
