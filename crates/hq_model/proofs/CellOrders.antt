-- How cells of one kind, and of two kinds, are ordered.
use Rattle.std.proofs.Common.{◌≡◌, refl, ◌∙◌, Some, None, Ordering, Less, Equal, Greater}
use Rattle.std.specs.Cmp.Lexicographic.{slice_cmp}
use Rattle.std.specs.Ordering.{nat_cmp, int_cmp, bool_cmp, ordering_then}
use Rattle.hq_base.specs.Cells.{CellTree, null, int, text, bool, json, kind_of, cell_cmp}
use Rattle.hq_model.specs.Logic.{order_between}

-- an order that is decided needs no second one
pub then_equal : (o : Ordering) → ordering_then o Equal ≡ o
then_equal Less = refl
then_equal Equal = refl
then_equal Greater = refl

-- cells that have an order among themselves stand in it
pub cell_cmp_between : (a b : CellTree) (o : Ordering) → order_between a b ≡ Some o → cell_cmp a b ≡ o
cell_cmp_between (int m) (int n) o h = let is : int_cmp m n ≡ o = cc in then_equal (int_cmp m n) ∙ is
cell_cmp_between (text s) (text t) o h = let is : slice_cmp nat_cmp s t ≡ o = cc in then_equal (slice_cmp nat_cmp s t) ∙ is
cell_cmp_between (bool x) (bool y) o h = let is : bool_cmp x y ≡ o = cc in is
cell_cmp_between _ _ o h = cc

-- cells that have none stand in the order of their kinds
pub cell_cmp_kinds : (a b : CellTree) → order_between a b ≡ None → cell_cmp a b ≡ nat_cmp (kind_of a) (kind_of b)
cell_cmp_kinds null null none = refl
cell_cmp_kinds null (int n) none = refl
cell_cmp_kinds null (text t) none = refl
cell_cmp_kinds null (bool c) none = refl
cell_cmp_kinds null (json k) none = refl
cell_cmp_kinds (int m) null none = refl
cell_cmp_kinds (int m) (int n) none = cc
cell_cmp_kinds (int m) (text t) none = refl
cell_cmp_kinds (int m) (bool c) none = refl
cell_cmp_kinds (int m) (json k) none = refl
cell_cmp_kinds (text s) null none = refl
cell_cmp_kinds (text s) (int n) none = refl
cell_cmp_kinds (text s) (text t) none = cc
cell_cmp_kinds (text s) (bool c) none = refl
cell_cmp_kinds (text s) (json k) none = refl
cell_cmp_kinds (bool b) null none = refl
cell_cmp_kinds (bool b) (int n) none = refl
cell_cmp_kinds (bool b) (text t) none = refl
cell_cmp_kinds (bool b) (bool c) none = cc
cell_cmp_kinds (bool b) (json k) none = refl
cell_cmp_kinds (json j) null none = refl
cell_cmp_kinds (json j) (int n) none = refl
cell_cmp_kinds (json j) (text t) none = refl
cell_cmp_kinds (json j) (bool c) none = refl
cell_cmp_kinds (json j) (json k) none = refl
