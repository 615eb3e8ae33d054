-- Of private clauses.
-- A clash in code as the definitions have it.
use Rattle.array_meaning.specs.Clashes.{Clash}
use Rattle.interference.specs.declared.clashes.Clash.{Clash as HeldClash}

abbrev pub clash : HeldClash → Clash
clash c = record { earlier = c.earlier; later = c.later; name = c.name; place = c.place }
