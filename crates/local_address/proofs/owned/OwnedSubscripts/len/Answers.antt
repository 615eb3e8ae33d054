use Rattle.std.proofs.Common.{sym, ◌∙◌, ap, length}
use Rattle.local_address.proofs.OwnedLaws.{length-subscripts}
use Rattle.local_address.proofs.owned.OwnedSubscripts.len.Goals as goal

pub returns : goal.returns
returns c = c.len.ensures ∙ sym (length-subscripts c.self.inside.lower c.self.inside.places) ∙ ap length c.self.view_is
