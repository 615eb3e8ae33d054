-- Of the claim.
-- The rules of constructs, declarations and directives, for one line (Fortran 95, 2.3, 7.5 and 8; HPF 2.0, 3 and 5.1).
use Rattle.std.specs.Prelude.{◌≡◌, Bool, true, false, ◌||◌, ◌&&◌, not, List, [], ◌∷◌, length, nat_le}
use Rattle.construct_rules.specs.declared.limits.TheConstants.{MAX_NESTING}
use Rattle.hpf_base.specs.declared.refusal.Reason.{Reason}
use Rattle.hpf_base.specs.declared.refusal.Reason.TheVariants as reason
use Rattle.construct_rules.specs.declared.role.Clauses.{Clauses}
use Rattle.construct_rules.specs.declared.role.Clauses.TheVariants as clauses
use Rattle.construct_rules.specs.declared.role.Construct.TheVariants as construct
use Rattle.construct_rules.specs.declared.role.Role.{Role}
use Rattle.construct_rules.specs.declared.role.Role.TheVariants as role
use Rattle.construct_rules.specs.NestState.{Open, NestState, is_innermost, takes_else, in_where_or_forall, in_do, is_where_or_forall, is_passed, is_statement}

abbrev pub is_empty : {A : Type 0} → List A → Bool
is_empty [] = true
is_empty (x ∷ xs) = false

-- an END part that doesn't close the innermost open construct, and an ELSE part out of place (Fortran 95, 7.5.3, 8.1)
abbrev pub closes_wrongly : List Open → Role → Bool
closes_wrongly os (role.Closes c) = not (is_innermost c os)
closes_wrongly os role.ElseIf = not (takes_else construct.If os)
closes_wrongly os role.Else = not (takes_else construct.If os)
closes_wrongly os role.ElseWhere = not (takes_else construct.Where os)
closes_wrongly os role.End = not (is_empty os)
closes_wrongly os r = false

-- what may stand inside a WHERE or FORALL construct, as far as these rules go: an assignment, a WHERE or FORALL, and the
-- parts of a construct
abbrev pub fits_where_or_forall : Role → Bool
fits_where_or_forall role.Assign = true
fits_where_or_forall (role.One c) = true
fits_where_or_forall (role.Opens c) = is_where_or_forall c
fits_where_or_forall role.ElseIf = true
fits_where_or_forall role.Else = true
fits_where_or_forall role.ElseWhere = true
fits_where_or_forall (role.Closes c) = true
fits_where_or_forall role.Passed = true
fits_where_or_forall role.End = true
fits_where_or_forall r = false

-- EXIT or CYCLE outside a DO
abbrev pub leaves_nothing : List Open → Role → Bool
leaves_nothing os role.Jump = not (in_do os)
leaves_nothing os r = false

-- a PROGRAM statement before which something stands, and after a statement a declaration that is no directive
abbrev pub comes_late : NestState → Role → Bool
comes_late s role.Program = s.begun
comes_late s role.Declaration = s.stated
comes_late s r = false

-- out of its place in the nest
abbrev pub is_misplaced : NestState → Role → Bool
is_misplaced s r =
    closes_wrongly s.opens r || leaves_nothing s.opens r || comes_late s r || (in_where_or_forall s.opens && not (fits_where_or_forall r)) || (s.ended && not (is_passed r))

-- WHERE or FORALL inside a WHERE or FORALL construct, which this compiler leaves out
abbrev pub nests_where_or_forall : List Open → Role → Bool
nests_where_or_forall os (role.Opens c) = is_where_or_forall c && in_where_or_forall os
nests_where_or_forall os (role.One c) = is_where_or_forall c && in_where_or_forall os
nests_where_or_forall os r = false

-- one construct more than may be open at one place
abbrev pub is_too_deep : List Open → Role → Bool
is_too_deep os (role.Opens c) = nat_le MAX_NESTING (length os)
is_too_deep os r = false

-- before the declarations end a declaration comes that isn't passed over
abbrev pub declaration_comes : List Role → Bool
declaration_comes [] = false
declaration_comes (role.Declaration ∷ rs) = true
declaration_comes (role.SpecificationDirective ∷ rs) = true
declaration_comes (r ∷ rs) = not (is_statement r) && declaration_comes rs

abbrev pub is_absent : Clauses → Bool
is_absent clauses.Absent = true
is_absent clauses.Given = false

-- the first line that isn't passed over is what an INDEPENDENT with or without clauses may stand before: a DO or, without
-- clauses, a FORALL (HPF 2.0, 5.1)
abbrev pub is_independent_target : Clauses → List Role → Bool
is_independent_target cs [] = false
is_independent_target cs (role.Passed ∷ rs) = is_independent_target cs rs
is_independent_target cs (role.Opens construct.Do ∷ rs) = true
is_independent_target cs (role.Opens construct.Forall ∷ rs) = is_absent cs
is_independent_target cs (role.One construct.Forall ∷ rs) = is_absent cs
is_independent_target cs (r ∷ rs) = false

-- a directive that stands where it may not; `rs` are the lines after it
abbrev pub is_misdirected : NestState → Role → List Role → Bool
is_misdirected s role.SpecificationDirective rs = s.stated
is_misdirected s role.Redistribute rs = not s.stated && declaration_comes rs
is_misdirected s (role.Independent cs) rs = (not s.stated && declaration_comes rs) || not (is_independent_target cs rs)
is_misdirected s r rs = false

-- the reasons for which a line may not stand where it stands
abbrev pub Breaks : NestState → Role → List Role → Reason → Type 0
Breaks s r rs reason.BadNest = is_misplaced s r ≡ true
Breaks s r rs reason.BadDirective = is_misdirected s r rs ≡ true
Breaks s r rs reason.Limit = is_too_deep s.opens r ≡ true
Breaks s r rs reason.LeftOut = nests_where_or_forall s.opens r ≡ true
Breaks s r rs why = ⊥
