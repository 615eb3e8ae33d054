use Rattle.std.proofs.Common.{◌≡◌, ◌+◌, ◌≤◌, sym, ap, ◌∙◌, arith}
use Rattle.declarations.specs.declared.limits.TheConstants.{MAX_TOTAL_ELEMENTS}
use Rattle.expression_rules.specs.Symbols.{all_elements, elements_of}
use Rattle.declarations.proofs.ElementTotals.{elements_new}
use Rattle.declarations.proofs.declared_names.DeclaredNames.add.Goals as goal

pub invariant_of-self-2 : goal.invariant_of-self-2
invariant_of-self-2 c =
    let now : all_elements c.change.new.self ≡ all_elements c.self.inside.table + elements_of c.args.symbol =
    ap all_elements c.in_ok-change.ensures.changed ∙ elements_new c.args.name c.args.symbol c.self.inside.table (sym c.is_declared.ensures ∙ c.if-is_declared.false) in
    let few : all_elements c.args.self.now ≤ MAX_TOTAL_ELEMENTS = omega (arith, ap all_elements c.self.view_is) in
    (omega (arith, now), omega (arith, now, ap all_elements c.self.view_is, c.requires few))
