use Rattle.nest_machine.proofs.Examples.{counting, has, takes, mean, fit, place, memory, scalar}
use Rattle.nest_machine.proofs.example.example_meets.Goals as goal

pub returns-clause-counting : goal.returns-clause-counting
returns-clause-counting c = counting

pub returns-clause-has : goal.returns-clause-has
returns-clause-has c = has

pub returns-clause-takes : goal.returns-clause-takes
returns-clause-takes c = takes

pub returns-clause-mean : goal.returns-clause-mean
returns-clause-mean c = mean

pub returns-clause-fit : goal.returns-clause-fit
returns-clause-fit c = fit

pub returns-clause-place : goal.returns-clause-place
returns-clause-place c = place

pub returns-clause-memory : goal.returns-clause-memory
returns-clause-memory c = memory

pub returns-clause-scalar : goal.returns-clause-scalar
returns-clause-scalar c = scalar
