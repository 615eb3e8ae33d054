use Rattle.std.proofs.lemmas.Fn.{filter_same}
use Rattle.std.proofs.Common.{ℕ, rules}
use Rattle.part_visits.specs.Owning.{owns_if_at}
use Rattle.part_visits.proofs.owning.Owning.keep.Goals as goal

pub returns : goal.returns
returns c = filter_same _ (λ (place : ℕ). owns_if_at c.args.self.now c.args.axis place) _ (λ x b f' k. search rules) _ _ c.retain.ensures.filtered
