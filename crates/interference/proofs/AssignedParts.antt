-- The scalars that are assigned, by the parts of a program in code.
use Rattle.std.proofs.Common.{◌≡◌, List, ◌∷◌, ◌++◌, Option, Vec, Global, ap, sym, ◌∙◌}
use Rattle.resolved_program.specs.declared.statements.Action.{Action}
use Rattle.resolved_program.specs.declared.statements.Action.TheVariants as action
use Rattle.resolved_program.specs.declared.statements.Arm.{Arm, out-Arm}
use Rattle.resolved_program.specs.declared.statements.Loop.{Loop}
use Rattle.resolved_program.specs.declared.statements.Nest.{Nest}
use Rattle.resolved_program.specs.declared.statements.Statement.{Statement}
use Rattle.resolved_program.specs.Resolved.{arms_of, block_of, statement}
use Rattle.resolved_program.proofs.Rows.{arm_parts, do_vec, if_vec}
use Rattle.array_meaning.specs.Touches.{assigned_by, assigned_in, assigned_in_arms}

pub if_assigned : (a : Action) (as' : Vec Arm Global) (other : Vec Statement Global) → a ≡ action.If as' other →
    assigned_in_arms (arms_of as'.items) ++ assigned_in (block_of other.items) ≡ assigned_by (statement a)
if_assigned a as' other is = sym (ap (λ a. assigned_by (statement a)) is ∙ ap assigned_by (if_vec as' other))

pub do_assigned : (a : Action) (nest : Option Nest) (l : Loop) (body : Vec Statement Global) → a ≡ action.Do nest l body → assigned_in (block_of body.items) ≡ assigned_by (statement a)
do_assigned a nest l body is = sym (ap (λ a. assigned_by (statement a)) is ∙ ap assigned_by (do_vec nest l body))

pub arm_assigned : (a : Arm) (rest : List Arm) → assigned_in (block_of (out-Arm a).body.items) ++ assigned_in_arms (arms_of rest) ≡ assigned_in_arms (arms_of (a ∷ rest))
arm_assigned a rest = sym (ap assigned_in_arms (arm_parts a (arms_of rest)))
