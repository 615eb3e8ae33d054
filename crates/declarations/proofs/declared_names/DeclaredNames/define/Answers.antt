use Rattle.std.proofs.Common.{◌≡◌, sym, ap, ◌∙◌, arith}
use Rattle.expression_rules.specs.Symbols.{all_elements, is_uninitialized, satisfies}
use Rattle.declarations.proofs.ElementTotals.{elements_defined}
use Rattle.declarations.proofs.declared_names.DeclaredNames.define.Goals as goal

pub invariant_of-self-2 : goal.invariant_of-self-2
invariant_of-self-2 c =
    let now : all_elements c.change.new.self ≡ all_elements c.self.inside.table =
    ap all_elements c.in_ok-change.ensures.changed ∙ elements_defined c.args.name c.args.value c.self.inside.table
    (sym (c.is_uninitialized.ensures ∙ ap (satisfies is_uninitialized) c.find.ensures) ∙ c.if-not-is_uninitialized.false) in
    (omega (arith, now), omega arith)
