use Rattle.std.proofs.Common.{inl}
use Rattle.passed_states.proofs.PassedLayouts.{maps-now}
use Rattle.passed_states.proofs.promises.maps_now.Goals as goal

pub returns : goal.returns
returns c = λ table count shapes k m first valid. maps-now table count shapes k m (inl first) valid
