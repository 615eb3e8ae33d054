-- Of private clauses.
-- What private contracts see of names that are put together one after the other. No public clause cites this file.
use Rattle.std.specs.Prelude.{◌≡◌, false, bytes_eq, List}
use Rattle.std.specs.List.{list_any}
use Rattle.expression_rules.specs.Symbols.{Name}
use Rattle.name_table.specs.declared.names.Entry.{Entry}

-- no entry has the name
abbrev pub IsNew : Name → List Entry → Type 0
IsNew x es = list_any (λ e. bytes_eq x e.name) es ≡ false
