-- Of the claim.
-- Which programs keep the rules, and what the others are refused for.
use Rattle.std.specs.Prelude.{ℕ, List}
use Rattle.hpf_base.specs.declared.refusal.Refusal.{Refusal}
use Rattle.hpf_base.specs.declared.refusal.StaticError.{StaticError}
use Rattle.hpf_base.specs.declared.refusal.StaticError.TheVariants.{Refused, Memory}
use Rattle.hpf_base.specs.FirstBreach.{Among}
use Rattle.hpf_base.specs.Refusal.{IsFirstBreach, NoBreach}
use Rattle.syntax_tree.specs.MainProgram.{MainProgram}
use Rattle.name_table.specs.Entries.{entries}
use Rattle.name_table.specs.Resolved as names
use Rattle.body_check.specs.BodyRules.{body_breaches}
use Rattle.directive_check.specs.MappingRules.{mapping_breaches}

-- what is wrong with the bodies of a program's statements
abbrev pub bodies : MainProgram → List Refusal
bodies p = body_breaches (entries p) p.body

-- a program keeps the rules that ask for no grid: of names, constants, types and ranks, and of bodies
pub record KeepsRules (p : MainProgram) : Type 0 where
  pub resolved : names.HasNoBreach p
  pub bodies_fine : NoBreach (Among (bodies p))

-- a program keeps all rules on a grid: these, and those of its mappings onto the grid
pub record KeepsRulesOn (grid : List ℕ) (p : MainProgram) : Type 0 where
  pub anywhere : KeepsRules p
  pub mapped : NoBreach (Among (mapping_breaches grid p))

-- the first breach of the first of these stages that has one
pub data IsRefused (grid : List ℕ) (p : MainProgram) (r : Refusal) : Type 0 where
  by_names : names.IsRefused p r → IsRefused grid p r
  by_mapping : names.HasNoBreach p → IsFirstBreach (Among (mapping_breaches grid p)) r → IsRefused grid p r
  by_bodies : names.HasNoBreach p → NoBreach (Among (mapping_breaches grid p)) → IsFirstBreach (Among (bodies p)) r → IsRefused grid p r

-- why a program isn't accepted on a grid; want of memory has no cause in it
abbrev pub IsProgramRefusal : List ℕ → MainProgram → StaticError → Type 0
IsProgramRefusal grid p (Refused r) = IsRefused grid p r
IsProgramRefusal grid p Memory = Unit {0}
