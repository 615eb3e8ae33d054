use Rattle.std.proofs.Common.{ap, ◌∙◌, map, arith}
use Rattle.std.proofs.lemmas.List.{length-map}
use Rattle.array_meaning.specs.Forall.{linear_by}
use Rattle.forall_conditions.specs.Linears.{linear_of}
use Rattle.forall_conditions.proofs.Linears.{by_many, two_forms}
use Rattle.forall_conditions.proofs.linear_forms.linear_by.Goals as goal

pub returns-in-len2 : goal.returns-in-len2
returns-in-len2 c = λ other.
    c.of_two.ensures other ∙ ap (λ xs. linear_by c.args.op (map linear_of xs) other) (two_forms c.args.xs.now _ c.in-len2.len_at_least c.in-len2.len_below)

pub returns-in_default-2 : goal.returns-in_default-2
returns-in_default-2 c = λ other. by_many c.args.op (map linear_of c.args.xs.now) other (omega (arith, length-map c.args.xs.now linear_of))
