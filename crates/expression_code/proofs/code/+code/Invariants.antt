use Rattle.std.proofs.Common.{◌≡◌, ◌++◌, drop}
use Rattle.program_code.specs.ExpressionCode.{all_parts_code, codes_of, subscripts_code}
use Rattle.node_code.specs.Texts.{instructions}
use Rattle.resolved_program.specs.Resolved.{subscripts_of, terms_of}
use Rattle.expression_code.proofs.code.+code.Given as goal

-- the code so far, before that of the rest, is all
abbrev pub invariant-add_codes-loop-t : goal.invariant-add_codes-loop-t
invariant-add_codes-loop-t l =
    instructions l.code.items ++ codes_of l.line l.at (terms_of (drop l.t-index l.terms)) ≡ instructions l.fn.code.items ++ codes_of l.line l.b (terms_of l.terms)

abbrev pub invariant-add_subscripts-loop-d : goal.invariant-add_subscripts-loop-d
invariant-add_subscripts-loop-d l =
    instructions l.code.items ++ subscripts_code l.line l.at (subscripts_of (drop l.d-index l.subscripts))
    ≡ instructions l.fn.code.items ++ subscripts_code l.line l.b (subscripts_of l.subscripts)

abbrev pub invariant-add_all_parts-loop-t : goal.invariant-add_all_parts-loop-t
invariant-add_all_parts-loop-t l =
    instructions l.code.items ++ all_parts_code l.line l.at (terms_of (drop l.t-index l.terms)) ≡ instructions l.fn.code.items ++ all_parts_code l.line l.b (terms_of l.terms)
