-- Of private clauses.
-- Lines that an operand reads, and those after them. Private contracts alone cite this.
use Rattle.std.specs.Prelude.{◌≡◌, List, take, drop}
use Rattle.node_code.specs.declared.form.ArrayForm.{ArrayForm}
use Rattle.node_code.specs.Texts.{form}
use Rattle.tuple_values.specs.declared.form_strips.SplitLines.{SplitLines}
use Rattle.tuple_values.specs.declared.strips.ElementLine.{ElementLine}
use Rattle.tuple_values.specs.FormStrips.{section_count}

pub record AreSplit (f : ArrayForm) (split : SplitLines) (ls : List ElementLine) : Type 0 where
  pub first : split.first.now ≡ take (section_count (form f)) ls
  pub rest : split.rest.now ≡ drop (section_count (form f)) ls
