-- Of the claim.
-- The nest where a line stands: what the lines before it have opened and begun.
use Rattle.std.specs.Prelude.{Bool, true, false, ◌||◌, ◌&&◌, not, List, [], ◌∷◌, if◌then◌else◌}
use Rattle.std.specs.List.{list_any}
use Rattle.construct_rules.specs.declared.role.Construct.{Construct}
use Rattle.construct_rules.specs.declared.role.Construct.TheVariants as construct
use Rattle.construct_rules.specs.declared.role.Role.{Role}
use Rattle.construct_rules.specs.declared.role.Role.TheVariants as role

-- a construct that is open, and whether its ELSE or ELSEWHERE has stood
pub record Open : Type 0 where
  pub construct : Construct
  pub otherwise : Bool

-- the nest after some lines of a program
pub record NestState : Type 0 where
  -- the open constructs, the innermost one first
  pub opens : List Open
  -- something other than a directive that is passed over has stood
  pub begun : Bool
  -- a statement has stood, so the declarations are over
  pub stated : Bool
  -- END has stood
  pub ended : Bool

abbrev pub state_at_start : NestState
state_at_start = record { opens = []; begun = false; stated = false; ended = false }

abbrev pub same_construct : Construct → Construct → Bool
same_construct construct.If construct.If = true
same_construct construct.Do construct.Do = true
same_construct construct.Where construct.Where = true
same_construct construct.Forall construct.Forall = true
same_construct c d = false

-- the innermost open construct is of this kind
abbrev pub is_innermost : Construct → List Open → Bool
is_innermost c [] = false
is_innermost c (o ∷ os) = same_construct c o.construct

-- and its ELSE or ELSEWHERE hasn't stood
abbrev pub takes_else : Construct → List Open → Bool
takes_else c [] = false
takes_else c (o ∷ os) = same_construct c o.construct && not o.otherwise

abbrev pub is_where_or_forall : Construct → Bool
is_where_or_forall construct.Where = true
is_where_or_forall construct.Forall = true
is_where_or_forall c = false

-- a WHERE or FORALL construct is open
abbrev pub in_where_or_forall : List Open → Bool
in_where_or_forall os = list_any (λ o. is_where_or_forall o.construct) os

-- a DO is open
abbrev pub in_do : List Open → Bool
in_do os = list_any (λ o. same_construct construct.Do o.construct) os

abbrev pub is_statement : Role → Bool
is_statement (role.Opens c) = true
is_statement role.ElseIf = true
is_statement role.Else = true
is_statement role.ElseWhere = true
is_statement (role.Closes c) = true
is_statement role.Assign = true
is_statement (role.One c) = true
is_statement role.Jump = true
is_statement role.Plain = true
is_statement role.End = true
is_statement r = false

abbrev pub is_passed : Role → Bool
is_passed role.Passed = true
is_passed r = false

abbrev pub is_end : Role → Bool
is_end role.End = true
is_end r = false

-- the innermost construct without what it was told
abbrev pub without_innermost : List Open → List Open
without_innermost [] = []
without_innermost (o ∷ os) = os

abbrev pub with_else : List Open → List Open
with_else [] = []
with_else (o ∷ os) = record { construct = o.construct; otherwise = true } ∷ os

-- the open constructs after a line; a part that doesn't fit the innermost one changes nothing
abbrev pub opens_after : Role → List Open → List Open
opens_after (role.Opens c) os = record { construct = c; otherwise = false } ∷ os
opens_after role.Else os = if takes_else construct.If os then with_else os else os
opens_after role.ElseWhere os = if takes_else construct.Where os then with_else os else os
opens_after (role.Closes c) os = if is_innermost c os then without_innermost os else os
opens_after r os = os

abbrev pub state_after : NestState → Role → NestState
state_after s r = record {
  opens = opens_after r s.opens;
  begun = s.begun || not (is_passed r);
  stated = s.stated || is_statement r;
  ended = s.ended || is_end r;
}
