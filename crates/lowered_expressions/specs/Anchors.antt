-- Of a promise.
-- What copies lie beside, in a well-formed program, and as the code of a statement has it.
use Rattle.std.specs.Prelude.{◌≡◌, ℕ, ◌<◌, true, Option, Some, None, option_map, ⊤}
use Rattle.std.specs.List.{AllByRecursion}
use Rattle.statement_trail.specs.Anchors.{AnchorTerm, AtTerm, AlongTerms, AnchorText, is_foreknown}
use Rattle.node_code.specs.Anchors.{FlatAnchor}
use Rattle.program_code.specs.ExpressionCode.{anchor_code}
use Rattle.lowered_expressions.specs.WellFormed.{IsSubscript}

-- its names are among n declared ones
module _ (n : ℕ) where
  abbrev pub IsAnchorTerm : AnchorTerm → Type 0
  IsAnchorTerm (AtTerm t) = IsSubscript n t
  IsAnchorTerm (AlongTerms first stride) = IsSubscript n first × IsSubscript n stride

  abbrev pub IsAnchorText : Option AnchorText → Type 0
  IsAnchorText None = ⊤
  IsAnchorText (Some a) = (a.array < n) × AllByRecursion IsAnchorTerm a.subscripts

  -- the code has this
  abbrev pub IsBeside : Option FlatAnchor → Option AnchorText → Type 0
  IsBeside code beside = (code ≡ option_map anchor_code beside) × IsAnchorText beside

-- in a WHERE no index stands in it
abbrev pub IsForeknownTerm : AnchorTerm → Type 0
IsForeknownTerm (AtTerm t) = is_foreknown t ≡ true
IsForeknownTerm (AlongTerms first stride) = ⊤

abbrev pub IsForeknown : Option AnchorText → Type 0
IsForeknown None = ⊤
IsForeknown (Some a) = AllByRecursion IsForeknownTerm a.subscripts
