-- Of private clauses.
-- No public clause cites this file. One subscript of a section, as a plan holds it.
use Rattle.std.specs.Prelude.{Bool, ◌&&◌}
use Rattle.resolved_program.specs.declared.terms.SectionSubscript.{SectionSubscript as HeldSubscript}
use Rattle.resolved_program.specs.declared.terms.SectionSubscript.TheBlock.{Subscript as Subscript', Triplet as Triplet'}
use Rattle.resolved_program.specs.Resolved.{term}
use Rattle.statement_trail.specs.Anchors.{AnchorTerm, AtTerm, AlongTerms, is_foreknown}

-- its values are known before
abbrev pub is_subscript_foreknown : HeldSubscript → Bool
is_subscript_foreknown (Subscript' t) = is_foreknown (term t)
is_subscript_foreknown (Triplet' first last step) = is_foreknown (term first) && (is_foreknown (term last) && is_foreknown (term step))

-- what it is in an anchor
abbrev pub subscript_term : HeldSubscript → AnchorTerm
subscript_term (Subscript' t) = AtTerm (term t)
subscript_term (Triplet' first last step) = AlongTerms (term first) (term step)
