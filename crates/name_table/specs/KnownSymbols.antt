-- Of a promise.
-- What a program that breaks no rule declares is known.
use Rattle.std.specs.Prelude.{◌≡◌, Bool, true, ◌&&◌, is_some}
use Rattle.std.specs.List.{list_all}
use Rattle.hpf_base.specs.FirstBreach.{Among}
use Rattle.hpf_base.specs.Refusal.{NoBreach}
use Rattle.syntax_tree.specs.MainProgram.{MainProgram}
use Rattle.expression_rules.specs.declared.symbols.Symbol.{Symbol}
use Rattle.expression_rules.specs.declared.symbols.Symbol.TheVariants.{Initialized, Constant, Array}
use Rattle.declarations.specs.Declarations.{symbol_table}
use Rattle.name_table.specs.NameRules.{name_breaches}
use Rattle.name_table.specs.RankRules.{rank_breaches}

-- the numbers and the dimensions that a symbol has are known
abbrev pub is_known : Symbol → Bool
is_known (Initialized n) = is_some n
is_known (Constant n) = is_some n
is_known (Array r ds n) = is_some ds && is_some n
is_known s = true

-- where a program breaks no rule of names or of ranks, all that it declares is known
abbrev pub AllAreKnown : MainProgram → Type 0
AllAreKnown p =
    NoBreach (Among (name_breaches p)) → NoBreach (Among (rank_breaches p)) → list_all (λ e. is_known e.1) (symbol_table p.declarations) ≡ true
