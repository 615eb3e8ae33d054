-- Of the claim.
-- What a program is refused for, and what holds of one that isn't.
use Rattle.std.specs.Prelude.{Option, Some, None}
use Rattle.hpf_base.specs.FirstBreach.{Among}
use Rattle.hpf_base.specs.Refusal.{IsFirstBreach, NoBreach}
use Rattle.hpf_base.specs.declared.refusal.Refusal.{Refusal}
use Rattle.hpf_base.specs.declared.refusal.StaticError.{StaticError}
use Rattle.hpf_base.specs.declared.refusal.StaticError.TheVariants.{Refused, Memory}
use Rattle.syntax_tree.specs.MainProgram.{MainProgram}
use Rattle.name_table.specs.NameRules.{name_breaches}
use Rattle.name_table.specs.RankRules.{rank_breaches}

-- the first breach of the rules of names and constants; where there is none of these, the first of those of types and ranks
pub data IsRefused (p : MainProgram) (r : Refusal) : Type 0 where
  by_names : IsFirstBreach (Among (name_breaches p)) r → IsRefused p r
  by_ranks : NoBreach (Among (name_breaches p)) → IsFirstBreach (Among (rank_breaches p)) r → IsRefused p r

-- why a program isn't resolved; want of memory has no cause in it
abbrev pub IsProgramRefusal : MainProgram → StaticError → Type 0
IsProgramRefusal p (Refused r) = IsRefused p r
IsProgramRefusal p Memory = Unit {0}

-- no rule is broken
pub record HasNoBreach (p : MainProgram) : Type 0 where
  pub names : NoBreach (Among (name_breaches p))
  pub ranks : NoBreach (Among (rank_breaches p))

-- the refusal that there may be
abbrev pub IsRefusedOrNone : MainProgram → Option Refusal → Type 0
IsRefusedOrNone p None = HasNoBreach p
IsRefusedOrNone p (Some r) = IsRefused p r
