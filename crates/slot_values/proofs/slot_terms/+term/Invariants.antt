use Rattle.std.proofs.Common.{◌≡◌, drop}
use Rattle.array_meaning.specs.Terms.{More}
use Rattle.code_meaning.specs.ForallLimits.{terms_of}
use Rattle.node_code.specs.Texts.{flats_of}
use Rattle.resolved_program.specs.Made.{before}
use Rattle.resolved_program.specs.Resolved.{term}
use Rattle.slot_values.proofs.slot_terms.+term.Given as goal

-- the terms so far, before those that are left
abbrev pub invariant-terms-loop-f : goal.invariant-terms-loop-f
invariant-terms-loop-f l = terms_of (flats_of l.f-items) ≡ before (λ t. More (term t)) l.ts.items (terms_of (flats_of (drop l.f-index l.f-items)))
