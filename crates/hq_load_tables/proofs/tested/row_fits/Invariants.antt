use Rattle.std.proofs.Common.{◌≡◌, length}
use Rattle.hq_model.specs.Database.{row_fits}
use Rattle.hq_load_tables.proofs.tested.row_fits.Given as goal

-- the columns and values that are left tell what all tell
abbrev pub invariant-cells : goal.invariant-cells
invariant-cells l = row_fits l.columns_left l.values_left ≡ row_fits l.columns l.row

abbrev pub decreases-cells : goal.decreases-cells
decreases-cells l = length l.columns_left
