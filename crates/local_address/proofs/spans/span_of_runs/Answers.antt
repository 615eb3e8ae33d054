use Rattle.std.proofs.Common.{sym, ◌∙◌}
use Rattle.local_address.proofs.SpanLaws.{none-of-runs, some-of-runs}
use Rattle.local_address.proofs.spans.span_of_runs.Goals as goal

pub returns-then-has_empty : goal.returns-then-has_empty
returns-then-has_empty c = λ xss is. sym (none-of-runs c.args.runs.now xss (sym c.has_empty.ensures ∙ c.if-has_empty.true) is)

pub returns : goal.returns
returns c = λ xss is.
    some-of-runs c.args.runs.now xss c.tuple_count.result c.in-Some-Some.first c.in-Some-Some.last (sym c.has_empty.ensures ∙ c.if-has_empty.false)
    c.tuple_count.ensures (c.in-Some-Some.ensures.value ∙ c.deref.ensures.value ∙ c.in_ok-first.ensures)
    (c.in-Some-Some.ensures'.value ∙ c.deref-2.ensures.value ∙ c.in_ok-last.ensures) is
