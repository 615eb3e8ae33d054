-- Of private clauses.
-- The least reason for which a statement breaks a rule of names. No public clause cites this file.
use Rattle.std.specs.Prelude.{◌&&◌, ◌||◌, not, nat_lt, List, length, Option, Some, None, if◌then◌else◌}
use Rattle.std.specs.List.{list_all}
use Rattle.name_table.specs.declared.limits.TheConstants.{MAX_INDICES}
use Rattle.hpf_base.specs.declared.refusal.Reason.{Reason}
use Rattle.hpf_base.specs.declared.refusal.Reason.TheVariants as reason
use Rattle.expression_rules.specs.Symbols.{Name, SymbolTable}
use Rattle.expression_rules.specs.Operands.{are_operands}
use Rattle.statement_walk.specs.Head.{Head}
use Rattle.name_table.specs.NameRules.{expressions_of, header_names, own_uses}
use Rattle.name_table.specs.Uses.{allows, repeats}

-- the least reason for which the names of a statement break a rule
abbrev pub name_reason : SymbolTable → List Name → Head → Option Reason
name_reason t xs h =
    if not (list_all (allows t xs) (own_uses h) && list_all (are_operands t) (expressions_of h)) || repeats (header_names h) then Some reason.BadName
    else (if nat_lt MAX_INDICES (length (header_names h)) then Some reason.Limit else None)
