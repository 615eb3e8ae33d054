use Rattle.std.proofs.Common.{◌≡◌, ◌+◌, IfSome, None, sym, subst}
use Rattle.std.specs.List.{range_with_len}
use Rattle.gap_table.specs.GapTable.{places_of}
use Rattle.owned_places.specs.Candidates.{AreCandidates}
use Rattle.owned_places.proofs.KeptPlaces.{candidates-follow}
use Rattle.owned_places.proofs.candidates.places_in.Goals as goal

pub returns-in-Some : goal.returns-in-Some
returns-in-Some c = λ passes extent are.
    subst (AreCandidates passes extent) (sym c.places_from.ensures)
    (subst (λ n. AreCandidates passes extent record { begin = c.args.begin + c.in-Some.first; count = n; exact = c.args.exact; table = None }) (sym c.len-count.ensures)
    (candidates-follow passes extent c.args.begin c.in-Some.first c.args.exact c.args.table
    (subst (λ o. IfSome o (λ first. places_of c.args.table ≡ range_with_len first c.args.table.len)) c.in-Some.is c.first_of_run.ensures.places) are))
