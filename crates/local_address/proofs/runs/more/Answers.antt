use Rattle.std.proofs.Common.{rules, FitsSigned, of_z, to_z}
use Rattle.std.proofs.lemmas.Int.{to_z-of_z}
use Rattle.std.specs.Int.{w64}
use Rattle.local_address.proofs.SpanLaws.{run-more}
use Rattle.local_address.proofs.runs.more.Goals as goal

pub returns-else-run-eq0 : goal.returns-else-run-eq0
returns-else-run-eq0 c = λ xs is.
    let fits : FitsSigned w64 c.args.run.first = search rules in
    run-more c.args.run xs c.args.i (to_z w64 (of_z w64 c.args.run.first)) (to_z w64 (of_z w64 c.args.i)) is c.if-run-eq0.false
    (to_z-of_z w64 c.args.run.first fits) (to_z-of_z w64 c.args.i c.ranges.i)
