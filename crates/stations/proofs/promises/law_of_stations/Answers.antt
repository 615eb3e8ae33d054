use Rattle.stations.proofs.StationLaw.{last-are, pair, sent-is, all-taken}
use Rattle.stations.proofs.promises.law_of_stations.Goals as goal

pub returns-clause-last : goal.returns-clause-last
returns-clause-last g c S from ss each of passed run p = last-are S from ss each of passed run p

pub returns-clause-letters : goal.returns-clause-letters
returns-clause-letters g c S from ss each of passed run p q s t ep eq =
    let w = pair S from ss each of passed p q s t ep eq in
    (w.out, w.inn, w.out_is, w.inn_is, sent-is S from ss each of passed run p q s t w, all-taken S from ss each of passed run p q s t w)
