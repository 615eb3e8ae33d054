use Rattle.std.proofs.Common.{◌≡◌, ◌∙◌, [], ap}
use Rattle.part_steps.specs.declared.stores.Stored.TheVariants.{Each}
use Rattle.part_steps.specs.Stores.{each_stored, stored_all}
use Rattle.part_steps.proofs.StoreLaws.{stored-more}
use Rattle.part_steps.proofs.stores.Stores.list_singles.Goals as goal

pub returns-clause-same : goal.returns-clause-same
returns-clause-same c pieces =
    let list = c.args.self.now.list.items in
    let none : c.replace-singles.new.dest.items ≡ [] = ap (λ v. v.items) c.replace-singles.ensures.after ∙ c.new.ensures.items in
    (λ i. each_stored (none i) (stored_all (c.in_ok-push.ensures.items i) pieces)) ∙ stored-more list (Each c.replace-singles.result) pieces
    ∙ ap (λ v. each_stored v.items (stored_all list pieces)) c.replace-singles.ensures.value
