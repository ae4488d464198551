-- What the statement depends on of what is granted.
use Rattle.std.specs.Prelude.{ℕ, List, Option}
use Rattle.hq_model.specs.Bexp.{BexpTree}
use Rattle.hq_model.specs.Grants.{Grants, grant}
use Rattle.hq_model.specs.Permission.{Mask}

-- for each table the filter that its rows are to meet, the most rows of a list, and the masks
pub record GrantedTables : Type 0 where
  pub filter : (table : ℕ) → BexpTree
  pub limit : (table : ℕ) → Option ℕ
  pub masks : (table : ℕ) → List Mask

abbrev pub granted_of : Grants → GrantedTables
granted_of g = record {
  filter = λ t. (grant g t).filter;
  limit = λ t. (grant g t).limit;
  masks = λ t. (grant g t).masks;
}
