-- Of private clauses.
-- No public clause cites this file. An element that is assigned, as a plan holds it.
use Rattle.std.specs.Prelude.{ℕ, Option, Some, None}
use Rattle.resolved_program.specs.Resolved.{terms_of}
use Rattle.statement_trail.specs.Anchors.{AnchorText, element_anchor}
use Rattle.statement_trail.specs.NestTerms.{all_indexed}
use Rattle.anchor_code.specs.declared.lefts.Left.{Left}

-- `index` says which names are indices
abbrev pub anchor_from : (ℕ → Option ℕ) → Option Left → Option AnchorText
anchor_from index None = None
anchor_from index (Some x) = Some (element_anchor x.array (all_indexed index (terms_of x.subscripts.now.items)))
