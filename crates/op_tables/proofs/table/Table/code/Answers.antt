use Rattle.std.proofs.Common.{rules, ◌≡◌, ◌∙◌}
use Rattle.op_tables.proofs.Codes.{code_found, code_found-code_in}
use Rattle.op_tables.proofs.table.Table.code.Goals as goal

pub returns : goal.returns
returns c =
    let found : c.map.result ≡ code_found c.args.self.now.rows.now c.args.word.now = search rules in
    λ words is. found ∙ code_found-code_in words _ _ is
