use Rattle.owned_places.proofs.Entries.{alone-inside}
use Rattle.owned_places.proofs.owned.is_ever_held.Goals as goal

pub agree_alone-requires-clause-inside : goal.agree_alone-requires-clause-inside
agree_alone-requires-clause-inside c = alone-inside c.args.dims.now c.args.mapping.now c.requires.lie
