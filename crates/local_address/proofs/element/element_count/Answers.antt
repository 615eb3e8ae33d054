use Rattle.std.proofs.Common.{sym, ◌∙◌, ap, map, unsigned_abs}
use Rattle.hpf_base.specs.ElementOrder.{product}
use Rattle.local_address.proofs.ElementLaws.{none_extent}
use Rattle.local_address.proofs.element.element_count.Goals as goal

pub returns-then-contains-clause-value : goal.returns-then-contains-clause-value
returns-then-contains-clause-value c =
    sym (ap (λ extents. product (map unsigned_abs extents)) (sym c.numbers-extents.ensures.value)
    ∙ none_extent c.numbers-extents.result.now (sym c.contains.ensures.value ∙ c.if-contains.true))
