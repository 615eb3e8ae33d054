use Rattle.prefix_scan.proofs.Rounds.{upto-all, below-all}
use Rattle.prefix_scan.proofs.promises.scans_fold.Goals as goal

pub returns-clause-upto : goal.returns-clause-upto
returns-clause-upto g c nodes items each = upto-all g.F.Fold.is_value g.F.Fold.joined g.F.Fold.neutral g.met.F.Fold.laws nodes items each

pub returns-clause-below : goal.returns-clause-below
returns-clause-below g c nodes items each = below-all g.F.Fold.is_value g.F.Fold.joined g.F.Fold.neutral g.met.F.Fold.laws nodes items each
