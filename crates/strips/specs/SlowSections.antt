-- Of private clauses.
-- Sections whose subscripts don't wrap in a space of any size that is allowed. Private contracts alone cite this.
use Rattle.std.specs.Prelude.{Bool, true, ◌&&◌, ◌^◌, nat_le, unsigned_abs}
use Rattle.array_meaning.specs.declared.sections.Selection.{Selection}
use Rattle.array_meaning.specs.declared.sections.Selection.TheVariants.{At, Along}

-- one with a small step, not too far from 0
abbrev pub is_slow : Selection → Bool
is_slow (At i) = true
is_slow (Along p) = nat_le (unsigned_abs p.step) (2 ^ 30) && nat_le (unsigned_abs p.first) (2 ^ 60)
