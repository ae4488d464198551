-- The table whose rows `_exists` asks for (Hasura, Authorization: row-level permissions, `_exists`).
use Rattle.std.specs.Prelude.{ℕ, List, [], ◌∷◌, Bool, ◌||◌, ok_or, Result, Ok, Err, if◌then◌else◌, bytes_eq, codes}
use Rattle.hq_base.specs.Due.{◌>>=◌}
use Rattle.hq_base.specs.Json.{JsonTree}
use Rattle.hq_base.specs.Look.{object_in, member_in}
use Rattle.hq_base.specs.Path.{member_path}
use Rattle.hq_model.specs.Meta.{MetaTree}
use Rattle.hq_model.specs.declared.table.Table.{Table}
use Rattle.hq_load_filter.specs.declared.refusal.FilterRefusal.{FilterRefusal}
use Rattle.hq_load_filter.specs.declared.refusal.FilterRefusal.TheVariants.{Shape}
use Rattle.hq_load_filter.specs.Tables.{remote_at}

-- its two members
abbrev pub is_part : (name : List ℕ) → Bool
is_part name = bytes_eq name (codes "_table") || bytes_eq name (codes "_where")

-- a member of the object at a path is one of them
abbrev pub part_due : (path : List ℕ) → List ℕ × JsonTree → Result (Unit {0}) FilterRefusal
part_due path m = if is_part m.0 then Ok tt else Err (Shape (member_path path m.0))

-- all members are
abbrev pub parts_due : (path : List ℕ) → List (List ℕ × JsonTree) → Result (Unit {0}) FilterRefusal
parts_due path [] = Ok tt
parts_due path (m ∷ ms) = part_due path m >>= λ _. parts_due path ms

-- the tracked table that the member `_table` of the object at a path names; other members than the two come before
unfoldable pub asked_due : List Table → MetaTree → (path : List ℕ) → JsonTree → Result ℕ FilterRefusal
asked_due tables m path j = do
  members ← ok_or (object_in j) (Shape path)
  _ ← parts_due path members
  table ← ok_or (member_in j (codes "_table")) (Shape (member_path path (codes "_table")))
  remote_at tables m (member_path path (codes "_table")) table
