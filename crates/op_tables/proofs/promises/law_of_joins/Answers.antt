use Rattle.op_tables.proofs.Joins.{joins, numbers_join, regrouped}
use Rattle.op_tables.proofs.promises.law_of_joins.Goals as goal

pub returns-clause-joins : goal.returns-clause-joins
returns-clause-joins c = joins

pub returns-clause-numbers : goal.returns-clause-numbers
returns-clause-numbers c = numbers_join

pub returns-clause-associative : goal.returns-clause-associative
returns-clause-associative c = regrouped
