-- Of a promise.
-- Parts whose reads are named by the places of a tuple.
use Rattle.std.specs.Prelude.{◌≡◌, ℕ, ◌<◌, Bool, List, map}
use Rattle.hpf_base.specs.ElementOrder.{product}
use Rattle.storage.specs.Storage.{Spot}
use Rattle.machine_steps.specs.Message.{Part, names_spot}
use Rattle.courses.specs.References.{Named, named_spot}

-- the part has the tuples of a space, the elements that it reads there are those that the references name, and this says who computes them
pub record IsPartOf (ns : List ℕ) (rs : List Named) (who : (node tuple : ℕ) → Bool) (part : Part) : Type 0 where
  pub tuples : part.tuples ≡ product ns
  pub reads : (t : ℕ) (spot : Spot) → t < product ns → names_spot (part.reads t) spot ≡ names_spot (map (named_spot ns t) rs) spot
  pub computes : (node t : ℕ) → t < product ns → part.computes node t ≡ who node t
