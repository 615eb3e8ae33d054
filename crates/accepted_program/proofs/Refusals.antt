-- Why a program isn't accepted.
use Rattle.std.proofs.Common.{ℕ, List}
use Rattle.hpf_base.specs.declared.refusal.StaticError.{StaticError}
use Rattle.hpf_base.specs.declared.refusal.StaticError.TheVariants.{Refused, Memory}
use Rattle.hpf_base.specs.FirstBreach.{Among}
use Rattle.hpf_base.specs.Refusal.{IsRefusalBy, NoBreach}
use Rattle.syntax_tree.specs.MainProgram.{MainProgram}
use Rattle.name_table.specs.Resolved as names
use Rattle.directive_check.specs.MappingRules.{mapping_breaches}
use Rattle.accepted_program.specs.Accepted.{IsProgramRefusal, bodies, by_bodies, by_mapping, by_names}

-- a program that breaks the rules of names or ranks
pub misnamed : (grid : List ℕ) (p : MainProgram) (e : StaticError) → names.IsProgramRefusal p e → IsProgramRefusal grid p e
misnamed grid p (Refused r) is = by_names is
misnamed grid p Memory is = tt {0}

-- a program that breaks the rules of mappings
pub mismapped : (grid : List ℕ) (p : MainProgram) (e : StaticError) → names.HasNoBreach p → IsRefusalBy (Among (mapping_breaches grid p)) e
    → IsProgramRefusal grid p e
mismapped grid p (Refused r) resolved is = by_mapping resolved is
mismapped grid p Memory resolved is = tt {0}

-- a program that breaks the rules of bodies
pub misbodied : (grid : List ℕ) (p : MainProgram) (e : StaticError) → names.HasNoBreach p → NoBreach (Among (mapping_breaches grid p))
    → IsRefusalBy (Among (bodies p)) e → IsProgramRefusal grid p e
misbodied grid p (Refused r) resolved mapped is = by_bodies resolved mapped is
misbodied grid p Memory resolved mapped is = tt {0}
