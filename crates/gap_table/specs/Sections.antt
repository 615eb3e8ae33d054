-- Of private clauses.
-- Regular sections as private functions take them. Only private contracts cite this.
use Rattle.std.specs.Prelude.{ℕ, ◌<◌, ◌≤◌, ◌≢◌, pos, ◌≤ℤ◌}
use Rattle.mappings.specs.declared.limits.TheConstants.{MAX_TEMPLATE_EXTENT}
use Rattle.gap_table.specs.declared.sections.Section.{Section}
use Rattle.gap_table.specs.OwnedSequence.{position_of}

-- what holds of a section of a line that has a place: its stride isn't 0, and it lies inside a line of the greatest extent
pub record IsLimited (section : Section) : Type 0 where
  pub start : 1 ≤ section.start
  pub near : section.start ≤ MAX_TEMPLATE_EXTENT
  pub stride : section.stride ≢ pos 0
  pub few : section.count ≤ MAX_TEMPLATE_EXTENT
  pub inside : (j : ℕ) → j < section.count → pos 1 ≤ℤ position_of section.start section.stride j
