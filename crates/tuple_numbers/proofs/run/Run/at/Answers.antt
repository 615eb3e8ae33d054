use Rattle.std.proofs.Common.{◌≡◌, length, option_map, get_or, sym, ◌∙◌, ap, subst, arith}
use Rattle.std.proofs.lemmas.List.FromFn.{get_or-range_with_len, length-range_with_len}
use Rattle.std.specs.List.{range_with_len}
use Rattle.tuple_numbers.specs.Runs.{run_of}
use Rattle.tuple_numbers.proofs.run.Run.at.Goals as goal

pub returns-in-None : goal.returns-in-None
returns-in-None c =
    let r = c.self.inside in
    let is : range_with_len r.first r.count ≡ c.args.self.now = subst (λ o. run_of (option_map (λ s. s.now) o) r.first r.count ≡ c.args.self.now) c.in-None.is c.self.view_is in
    let long : length c.args.self.now ≡ r.count = ap length (sym is) ∙ length-range_with_len r.first r.count in
    sym (get_or-range_with_len r.first r.count c.args.index 0 (omega (arith, long, c.requires))) ∙ ap (λ xs. get_or xs c.args.index 0) is
