use Rattle.std.proofs.Common.{◌≡◌, ◌∙◌, ◌+◌, suc, ◌++◌, ◌∷◌, [], ap, sym, rules, w64, SFits, pos, arith, Ok}
use Rattle.array_meaning.specs.Elementals.{NoOperand, Operand, Operation, values_over}
use Rattle.std.proofs.lemmas.Int.{to_z-of_z}
use Rattle.term_values.specs.States.{state_of}
use Rattle.term_values.specs.Views.{elemental}
use Rattle.term_values.proofs.LinesAndPlanes.{one_operated}
use Rattle.term_values.proofs.columns.operated_columns.Goals as goal

pub loop-t-preserved : goal.loop-t-preserved
loop-t-preserved c =
    let fits : SFits w64 c.in-Ok.v = search rules in
    let next : c.loop-t.t + 1 ≡ suc c.loop-t.t = omega arith in
    ap (values_over (state_of c.args.s.now) c.args.ns.now (Operation c.args.op (Operand (elemental c.args.x.now) (Operand (elemental c.args.y.now) NoOperand)))) next
    ∙ one_operated (state_of c.args.s.now) c.args.ns.now c.args.op (elemental c.args.x.now) (elemental c.args.y.now) c.args.first.now c.args.second.now c.args.n c.loop-t.t (pos 0) c.in-Ok.v c.loop-t.vs.items
    c.requires.first c.requires.second c.loop-t-test.true c.in-Ok.ensures.value c.loop-t.invariant
    ∙ ap (λ v. Ok (c.loop-t.vs.items ++ v ∷ [])) (sym (to_z-of_z w64 c.in-Ok.v fits))
    ∙ ap Ok (sym c.in_ok-push-in-Ok.ensures.items)
