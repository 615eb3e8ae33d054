-- Of a promise.
-- The first of several subscripts, as one that goes round a dimension.
use Rattle.std.specs.Prelude.{List, ◌∷◌, ℤ, Option, None}
use Rattle.node_code.specs.Forms.{Sub, SubAt}
use Rattle.courses.specs.TurnedForms.{Turned, turned_in}

-- where it is one
abbrev pub first_turned : List ℤ → List Sub → Option Turned
first_turned slots (SubAt f ∷ subs) = turned_in slots f
first_turned slots subs = None
