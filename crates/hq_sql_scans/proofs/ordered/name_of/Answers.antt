use Rattle.std.proofs.Common.{◌≡◌, ◌∙◌, Some, bytes_eq, ap, sym}
use Rattle.std.specs.List.{position}
use Rattle.hq_model.specs.declared.table.Column.{Column}
use Rattle.hq_sql_scans.proofs.ordered.name_of.Goals as goal

pub returns-then-is_first : goal.returns-then-is_first
returns-then-is_first c =
    let columns = c.args.table.now.columns in
    let name = c.in-Some.named.now.name in
    let found : position (λ k. bytes_eq k.name name) c.as_slice.result.now ≡ Some c.at.result = c.is_first.ensures c.if-is_first.true in
    ap (position (λ (k : Column). bytes_eq k.name name)) (sym c.as_slice.ensures) ∙ found ∙ ap Some c.at.ensures
