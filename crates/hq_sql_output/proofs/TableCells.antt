-- Cells of a table by the numbers of their columns.
use Rattle.std.proofs.Common.{◌≡◌, ℕ, List, Some, bytes_eq, sym}
use Rattle.std.specs.List.{position}
use Rattle.hq_model.specs.declared.table.Column.{Column}
use Rattle.hq_sql_access.proofs.Asked.{named_first}
use Rattle.hq_sql_output.specs.TableRows.{IsNamed}

-- the first column of a name
pub named_is : (columns : List Column) (name : List ℕ) (at : ℕ) → Some at ≡ position (λ c. bytes_eq c.name name) columns → IsNamed columns name at
named_is columns name at first = record { cell = λ row. named_first columns row name at (sym first) }
