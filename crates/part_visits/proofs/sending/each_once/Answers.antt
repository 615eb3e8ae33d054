use Rattle.std.proofs.Common.{◌==◌, sym, ◌∙◌, ap, eqb}
use Rattle.std.proofs.lemmas.Bool.{eqb-true}
use Rattle.std.proofs.lemmas.List.Filters.{dedup_is}
use Rattle.std.proofs.lemmas.List.Sorted.{list_any-IsPermutation}
use Rattle.std.specs.List.{list_any}
use Rattle.message_elements.proofs.Arranging.{any-dedup}
use Rattle.part_visits.proofs.sending.each_once.Goals as goal

pub returns : goal.returns
returns c n =
    let sorted = c.sort_unstable.new.self.items in
    ap (list_any (λ v. v == n)) (dedup_is eqb sorted c.dedup.new.self.items c.dedup.ensures.filtered)
    ∙ any-dedup eqb (λ v. v == n) (λ x y same. ap (λ v. v == n) (eqb-true x y same)) sorted
    ∙ sym (list_any-IsPermutation (λ v. v == n) c.args.numbers.now.items sorted c.sort_unstable.ensures.permutation)
