use Rattle.std.proofs.Common.{◌≡◌, ◌∙◌, ◌+◌, ◌≤◌, length, ap, arith, rules}
use Rattle.machine_steps.specs.Layout.{address, owns_spot}
use Rattle.tuple_values.specs.Strips.{line_spot}
use Rattle.part_steps.specs.Stores.{stored}
use Rattle.part_steps.proofs.StoreLaws.{stored-last}
use Rattle.part_steps.proofs.StripLaws.{line-written}
use Rattle.part_steps.proofs.stores.Stores.add_line.Goals as goal

pub returns : goal.returns
returns c pieces =
    let all : length c.args.values.items ≤ c.held_line-held.result.count = search rules in
    let before = c.list_singles.new.self in
    stored-last before.singles.items before.list.items _ _ pieces (stored c.args.self.now pieces) c.in_ok-list_singles.ensures.none c.in_ok-push.ensures.items (c.in_ok-list_singles.ensures.same pieces)
    ∙ line-written c.args.owners.now.layouts c.args.id c.args.line c.held_line-held.result.step c.args.values.items 0 c.held_line-held.result.first (stored c.args.self.now pieces)
    (λ k lt.
    let none : 0 + k ≡ k = omega arith in
    let held = c.held_line-held.ensures.held k (omega (arith, lt, all)) in (
      ap (λ k. owns_spot c.args.owners.now.layouts c.args.id (line_spot c.args.line k)) none ∙ held.0,
      ap (λ k. address c.args.owners.now.layouts c.args.id (line_spot c.args.line k)) none ∙ held.1,
    ))
