use Rattle.std.proofs.Common.{◌≡◌, drop}
use Rattle.construct_rules.specs.Rules.{is_independent_target}
use Rattle.construct_rules.proofs.rules.is_independent_target.Given as goal

-- the lines so far are passed over
abbrev pub invariant-loop-role : goal.invariant-loop-role
invariant-loop-role l = is_independent_target l.clauses l.after ≡ is_independent_target l.clauses (drop l.role-index l.after)
