use Rattle.std.proofs.Common.{sym}
use Rattle.owner_tables.specs.CopyTables.{laid_out}
use Rattle.owner_tables.proofs.SameLayouts.{same_layouts}
use Rattle.owner_tables.proofs.copy_tables.row_of.Goals as goal

pub returns-then-is_laid_as : goal.returns-then-is_laid_as
returns-then-is_laid_as c =
    let table = c.in-Some.table.now in
    λ i. record { layout = same_layouts table.layout (laid_out c.args.copy.now) (sym c.if-is_laid_as.ensures) i; nodes = c.in-Some.ensures.nodes i }
