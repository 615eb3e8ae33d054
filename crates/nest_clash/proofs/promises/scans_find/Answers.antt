use Rattle.std.proofs.Common.{refl}
use Rattle.array_meaning.specs.Clashes.{first_clash}
use Rattle.nest_clash.specs.Scan.{scan}
use Rattle.nest_clash.proofs.FirstOfAll.{tells_first}
use Rattle.nest_clash.proofs.Scanning.{scan_tells}
use Rattle.nest_clash.proofs.OneClash.{one_clash}
use Rattle.nest_clash.proofs.promises.scans_find.Goals as goal

pub returns : goal.returns
returns c touched n name place objects ordered there =
    one_clash touched n (scan touched name place n objects) (first_clash touched n) (scan_tells touched n name place objects ordered there)
    (tells_first touched n (first_clash touched n) refl)
