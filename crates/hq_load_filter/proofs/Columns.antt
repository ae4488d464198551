-- The conditions that a value writes on a column, by whether it is an object.
use Rattle.std.proofs.Common.{◌≡◌, refl, ℕ, List, false, Some, None}
use Rattle.hq_base.specs.Due.{mapped}
use Rattle.hq_base.specs.Json.{JsonTree, null, bool, int, str, arr, obj}
use Rattle.hq_base.specs.Look.{object_in}
use Rattle.hq_base.specs.declared.value.Ty.{Ty}
use Rattle.hq_model.specs.Bexp.{conjunction}
use Rattle.hq_model.specs.Operators.{operator}
use Rattle.hq_model.specs.Schema.{SchemaTable}
use Rattle.hq_model.specs.declared.op.Op.TheVariants.{Eq}
use Rattle.hq_model.specs.declared.test.Test.TheVariants.{Compare}
use Rattle.hq_load_filter.specs.Condition.{condition_due, written_on, column_due}
use Rattle.hq_load_filter.specs.Each.{each_member}

pub of_object : (x : SchemaTable) (c : ℕ) (ty : Ty) (path : List ℕ) (j : JsonTree) (ms : List (List ℕ × JsonTree)) → object_in j ≡ Some ms
    → column_due x c ty path j ≡ mapped conjunction (each_member (written_on x c ty) path ms)
of_object x c ty path null ms e = cc
of_object x c ty path (bool b) ms e = cc
of_object x c ty path (int n) ms e = cc
of_object x c ty path (str s) ms e = cc
of_object x c ty path (arr js) ms e = cc
of_object x c ty path (obj js) ms e = cc

pub of_other : (x : SchemaTable) (c : ℕ) (ty : Ty) (path : List ℕ) (j : JsonTree) → object_in j ≡ None
    → column_due x c ty path j ≡ condition_due c ty path (Some (operator (Compare Eq) false)) j
of_other x c ty path null e = refl
of_other x c ty path (bool b) e = refl
of_other x c ty path (int n) e = refl
of_other x c ty path (str s) e = refl
of_other x c ty path (arr js) e = refl
of_other x c ty path (obj js) e = cc
