use Rattle.std.proofs.Common.{◌∙◌, subst, sym, ◌≤◌, ◌^◌}
use Rattle.hpf_base.specs.ElementOrder.{product}
use Rattle.pair_messages.proofs.Counts.{few-counted}
use Rattle.pair_messages.proofs.pair.Pair.tuples.Goals as goal

pub returns-clause-value : goal.returns-clause-value
returns-clause-value c = c.count_of.ensures ∙ few-counted (product c.args.self.now.extents.now) c.args.self.now.tuples

pub returns-clause-few : goal.returns-clause-few
returns-clause-few c =
    subst (λ n. n ≤ 2 ^ 32) (sym (c.count_of.ensures ∙ few-counted (product c.args.self.now.extents.now) c.args.self.now.tuples)) c.args.self.now.tuples
