-- Courses before others that may be missing.
use Rattle.std.proofs.Common.{List, ◌++◌, Option, option_map}
use Rattle.courses.specs.Courses.{Course}

abbrev pub before : List Course → Option (List Course) → Option (List Course)
before cs o = option_map (λ ds. cs ++ ds) o
