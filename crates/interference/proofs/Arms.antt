-- The limits of the arms of an IF, and of the statement.
use Rattle.std.proofs.Common.{◌≡◌, ℕ, ◌+◌, ◌<◌, Bool, List, length, get_or, drop, Vec, Global, ap, ◌∙◌}
use Rattle.std.specs.Prelude.{◌&&◌}
use Rattle.resolved_program.specs.declared.statements.Action.{Action}
use Rattle.resolved_program.specs.declared.statements.Action.TheVariants as action
use Rattle.resolved_program.specs.declared.statements.Arm.{Arm}
use Rattle.resolved_program.specs.declared.statements.Statement.{Statement}
use Rattle.resolved_program.specs.Resolved.{arms_of, block_of, statement}
use Rattle.resolved_program.proofs.Rows.{arm_parts, if_vec}
use Rattle.expression_rules.proofs.Lists.{drop_item}
use Rattle.array_meaning.specs.State.{State}
use Rattle.array_meaning.specs.NestLimits.{are_arms_in_limits, is_block_in_limits, is_in_limits}
use Rattle.interference.specs.Limits.{is_arm_in_limits}

-- one arm, and those after it
pub arm_next : (indices : List ℕ) (s : State) (n : ℕ) (as' : List Arm) (k : ℕ) (a : Arm) (b : Bool) → k < length as' → a ≡ get_or as' k a →
    is_arm_in_limits indices s n a ≡ b →
    are_arms_in_limits indices s n (arms_of (drop k as')) ≡ (b && are_arms_in_limits indices s n (arms_of (drop (k + 1) as')))
arm_next indices s n as' k a b lt at is =
    ap (λ xs. are_arms_in_limits indices s n (arms_of xs)) (drop_item as' k a lt at)
    ∙ ap (are_arms_in_limits indices s n) (arm_parts a (arms_of (drop (k + 1) as')))
    ∙ ap (λ t. t && are_arms_in_limits indices s n (arms_of (drop (k + 1) as'))) is

pub if_limits : (indices : List ℕ) (s : State) (n : ℕ) (a : Action) (as' : Vec Arm Global) (other : Vec Statement Global) → a ≡ action.If as' other →
    is_in_limits indices s n (statement a) ≡ (are_arms_in_limits indices s n (arms_of as'.items) && is_block_in_limits indices s n (block_of other.items))
if_limits indices s n a as' other is = ap (λ a. is_in_limits indices s n (statement a)) is ∙ ap (is_in_limits indices s n) (if_vec as' other)
