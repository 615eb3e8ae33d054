use Rattle.nest_join.proofs.Held.{arrays-held}
use Rattle.nest_join.proofs.promises.arrays_held.Goals as goal

pub returns : goal.returns
returns g c meaning code is_quiet joined line printed w at all s loop block body ok start entry d r h holds rows a lt =
    let held = arrays-held meaning code is_quiet joined line printed w at all s loop block body ok start entry d r h holds rows in
    (held.elements a lt, held.shape a lt)
