-- What collected fields are seen as.
use Rattle.std.specs.Prelude.{ℕ, List, [], ◌∷◌, map}
use Rattle.hq_gql_tree.specs.Selections.{FieldHead, field_view}
use Rattle.hq_request_collect.specs.declared.tree.CollectedField.{CollectedField, fold-CollectedField, out-CollectedField}
use Rattle.hq_request_collect.specs.declared.tree.CollectedField.TheOpen.{CollectedField-F}
use Rattle.hq_request_collect.specs.Tree.{CollectedTrees, no_collected, collected}

-- a field with what stands below it
pub record FieldSeen : Type 0 where
  pub key : List ℕ
  pub head : FieldHead
  pub below : CollectedTrees

abbrev pub trees_of : List FieldSeen → CollectedTrees
trees_of [] = no_collected
trees_of (f ∷ fs) = collected f.key f.head f.below (trees_of fs)

abbrev pub collected_step : CollectedField-F FieldSeen → FieldSeen
collected_step f = record { key = f.key; head = (field_view f.first.now).0; below = trees_of f.below.items }

abbrev pub collected_view : CollectedField → FieldSeen
collected_view = fold-CollectedField FieldSeen collected_step

-- a collected field by its parts, as it is seen
abbrev pub parts_seen : CollectedField → FieldSeen
parts_seen f = record {
  key = (out-CollectedField f).key;
  head = (field_view (out-CollectedField f).first.now).0;
  below = trees_of (map collected_view (out-CollectedField f).below.items);
}
