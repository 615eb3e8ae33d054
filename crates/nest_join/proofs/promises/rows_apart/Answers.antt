use Rattle.nest_join.proofs.RowPlaces.{places-apart, condition-place, condition-row, name-row, array-place, marks-off}
use Rattle.nest_join.proofs.promises.rows_apart.Goals as goal

pub returns-clause-places : goal.returns-clause-places
returns-clause-places c n scalars conditions are = places-apart n scalars conditions are

pub returns-clause-conditions : goal.returns-clause-conditions
returns-clause-conditions c n scalars conditions are k lt = (condition-place n scalars conditions are k, condition-row n scalars conditions are k lt)

pub returns-clause-arrays : goal.returns-clause-arrays
returns-clause-arrays c n scalars conditions are a lt none = (array-place n scalars conditions are a lt none, name-row n scalars conditions are a lt)

pub returns-clause-marks : goal.returns-clause-marks
returns-clause-marks c n scalars conditions are kinds k q e r of_row at = marks-off n scalars conditions are kinds k q e r of_row at
