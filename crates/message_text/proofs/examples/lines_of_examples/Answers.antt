use Rattle.std.proofs.Common.{refl}
use Rattle.std.specs.Fmt.{digits}
use Rattle.std.specs.Int.{int_wrap}
use Rattle.machine_steps.specs.Layout.{size_of, owned_by}
use Rattle.message_text.proofs.examples.lines_of_examples.Goals as goal

pub returns-clause-shift : goal.returns-clause-shift
unfolding int_wrap size_of owned_by digits
returns-clause-shift c = refl

pub returns-clause-reverse : goal.returns-clause-reverse
unfolding int_wrap size_of owned_by digits
returns-clause-reverse c = refl

pub returns-clause-moved : goal.returns-clause-moved
unfolding int_wrap size_of owned_by digits
returns-clause-moved c = refl

pub returns-clause-mask : goal.returns-clause-mask
unfolding int_wrap size_of owned_by digits
returns-clause-mask c = refl

pub returns-clause-outside : goal.returns-clause-outside
unfolding int_wrap size_of owned_by digits
returns-clause-outside c = refl

pub returns-clause-replicated : goal.returns-clause-replicated
unfolding int_wrap size_of owned_by digits
returns-clause-replicated c = refl

pub returns-clause-dimensions : goal.returns-clause-dimensions
unfolding int_wrap size_of owned_by digits
returns-clause-dimensions c = refl

pub returns-clause-nest : goal.returns-clause-nest
unfolding int_wrap size_of owned_by digits
returns-clause-nest c = refl

pub returns-clause-condition : goal.returns-clause-condition
unfolding int_wrap size_of owned_by digits
returns-clause-condition c = refl

pub returns-clause-apart : goal.returns-clause-apart
unfolding int_wrap size_of owned_by digits
returns-clause-apart c = refl

pub returns-clause-alone : goal.returns-clause-alone
unfolding int_wrap size_of owned_by digits
returns-clause-alone c = refl
