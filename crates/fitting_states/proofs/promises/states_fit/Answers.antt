use Rattle.fitting_states.proofs.Runs.{run_fits, block_fits}
use Rattle.fitting_states.proofs.Starts.{initial_fits}
use Rattle.fitting_states.proofs.promises.states_fit.Goals as goal

pub returns-clause-start : goal.returns-clause-start
returns-clause-start c names h = initial_fits names h

pub returns-clause-statements : goal.returns-clause-statements
returns-clause-statements c statement line s h fits = run_fits statement line h s fits

pub returns-clause-blocks : goal.returns-clause-blocks
returns-clause-blocks c body s h fits = block_fits body h s fits
