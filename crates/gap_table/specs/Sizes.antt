-- Of a promise.
-- How large a table is, and in how many steps it is built, whatever the extent, the stride and the count.
use Rattle.std.specs.Prelude.{ℕ, ◌+◌, ◌*◌}
use Rattle.mappings.specs.declared.mapping.Form.{Form}
use Rattle.mappings.specs.declared.mapping.Form.TheVariants.{Whole, Block, Cyclic, Gen}

-- how many offsets a table has at most
abbrev pub most_offsets : Form → ℕ
most_offsets Whole = 1
most_offsets (Block m) = 1
most_offsets (Cyclic k) = k
most_offsets (Gen sizes) = 1

-- how many steps build it at most
abbrev pub most_steps : Form → ℕ
most_steps Whole = 4
most_steps (Block m) = 4
most_steps (Cyclic k) = 2 * k + 4
most_steps (Gen sizes) = 4
