-- Of private clauses.
-- No public clause cites this file.
-- The statements of lines that are words alone, by their kinds.
use Rattle.statement_reader.specs.declared.kind.Kind.{Kind}
use Rattle.statement_reader.specs.declared.kind.Kind.TheVariants as kind
use Rattle.statement_reader.specs.declared.statement.Statement.{Statement}
use Rattle.statement_reader.specs.declared.statement.Statement.TheVariants as statement
use Rattle.statement_reader.specs.declared.statement.Action.{Action}
use Rattle.statement_reader.specs.declared.statement.Action.TheVariants as action

-- CONTINUE is that of each kind that is named in neither
abbrev pub worded_action : Kind → Action
worded_action kind.Stop = action.Stop
worded_action kind.Exit = action.Exit
worded_action kind.Cycle = action.Cycle
worded_action k = action.Continue

abbrev pub worded : Kind → Statement
worded kind.ImplicitNone = statement.ImplicitNone
worded kind.Else = statement.Else
worded (kind.EndIf glued) = statement.EndIf glued
worded (kind.EndDo glued) = statement.EndDo glued
worded (kind.ElseWhere glued) = statement.ElseWhere
worded (kind.EndWhere glued) = statement.EndWhere glued
worded (kind.EndForall glued) = statement.EndForall glued
worded k = statement.Action (worded_action k)
