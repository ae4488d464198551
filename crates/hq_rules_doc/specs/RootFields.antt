-- Root fields.
use Rattle.std.specs.Prelude.{ℕ, List}
use Rattle.hq_rules_doc.specs.declared.rules.single_field_subscriptions.RootField.{RootField}

-- a field, by its response key and its name
pub record RootFieldTree : Type 0 where
  pub key : List ℕ
  pub name : List ℕ

abbrev pub root_field_view : RootField → RootFieldTree
root_field_view f = record { key = f.key.now; name = f.name.now }
