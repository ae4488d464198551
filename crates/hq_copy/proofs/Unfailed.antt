-- No cause that is told is a failure to read rows.
use Rattle.std.proofs.Common.{◌≡◌, ◌≢◌, ℕ, ◌+◌, List, [], ◌∷◌, ◌++◌, Bool, true, false, Option, Some, None, Result, Ok, Err}
use Rattle.std.specs.List.{list_any}
use Rattle.std.specs.Prelude.{bytes_eq, flat_map, slice_index_or}
use Rattle.hq_copy_definition.specs.Metadata.{copied_meta}
use Rattle.hq_copy_definition.specs.Refusals.{column_refusal, filter_refusal, first_of, is_kept_name, is_null_text, kept_name, like_type, masked_key_refusal, or_else, own_name_refusal, refused_if, repeated_after, row_refusal, scalar_refusal, schema_name_refusal, unbound, width_refusal}
use Rattle.hq_copy_definition.specs.Sources.{Source, kept_relationships, sources}
use Rattle.hq_copy_definition.specs.Tables.{copied_tables}
use Rattle.hq_copy_definition.specs.declared.refusal.CopyRefusal.{CopyRefusal}
use Rattle.hq_copy_definition.specs.declared.refusal.CopyRefusal.TheVariants as refusal
use Rattle.hq_model.specs.Binding.{bound_permission}
use Rattle.hq_model.specs.Catalog.{full_name}
use Rattle.hq_model.specs.Database.{Row}
use Rattle.hq_model.specs.Meta.{MetaTree}
use Rattle.hq_model.specs.Permission.{Permission, named_columns}
use Rattle.hq_model.specs.Schema.{Schema, column, rel, schema_of}
use Rattle.hq_model.specs.SchemaNames.{all_types, roots_of, scalar_of}
use Rattle.hq_model.specs.declared.bind.BindRefusal.{BindRefusal}
use Rattle.hq_model.specs.declared.bind.BindRefusal.TheVariants as bind
use Rattle.hq_model.specs.declared.role.Role.{Role}
use Rattle.hq_model.specs.declared.session.Var.{Var}
use Rattle.hq_model.specs.declared.table.Table.{Table}
use Rattle.hq_copy.specs.Files.{file_of, files_of}
use Rattle.hq_copy.specs.Redacting.{described_refusal}

-- the refusal, where there is one, is no failure
abbrev pub Unfailed : Option CopyRefusal → Type 0
Unfailed o = (e : CopyRefusal) (before after : ℕ) → o ≡ Some e → e ≢ refusal.Failed before after

none_unfailed : Unfailed None
none_unfailed e before after h f = cc

taken_unfailed : (b : Bool) (name : List ℕ) → Unfailed (refused_if b (refusal.NameTaken name))
taken_unfailed true name e before after h f = cc
taken_unfailed false name e before after h f = cc

masked_unfailed : (b : Bool) (name : List ℕ) → Unfailed (refused_if b (refusal.MaskedKey name))
masked_unfailed true name e before after h f = cc
masked_unfailed false name e before after h f = cc

wide_unfailed : (b : Bool) (name : List ℕ) → Unfailed (refused_if b (refusal.TooWide name))
wide_unfailed true name e before after h f = cc
wide_unfailed false name e before after h f = cc

written_unfailed : (b : Bool) (name : List ℕ) (k : ℕ) → Unfailed (refused_if b (refusal.NotWritable name k))
written_unfailed true name k e before after h f = cc
written_unfailed false name k e before after h f = cc

pub either_unfailed : (a b : Option CopyRefusal) → Unfailed a → Unfailed b → Unfailed (or_else a b)
either_unfailed None b p q = q
either_unfailed (Some e) b p q = p

first_unfailed : {A : Type 0} (f : A → Option CopyRefusal) → ((x : A) → Unfailed (f x)) → (xs : List A) → Unfailed (first_of f xs)
first_unfailed f each [] = none_unfailed
first_unfailed f each (x ∷ xs) = either_unfailed (f x) (first_of f xs) (each x) (first_unfailed f each xs)

-- ---- filters

unbound_unfailed : (r : Result Permission BindRefusal) → Unfailed (unbound r)
unbound_unfailed (Ok p) e before after h f = cc
unbound_unfailed (Err (bind.NoVariable name)) e before after h f = cc
unbound_unfailed (Err (bind.BadVariable name want)) e before after h f = cc
unbound_unfailed (Err bind.Memory) e before after h f = cc

pub filters_unfailed : (s : Schema) (vars : List Var) (os : List Source) → Unfailed (first_of (filter_refusal s vars) os)
filters_unfailed s vars os = first_unfailed (filter_refusal s vars) (λ o. unbound_unfailed (bound_permission o.permission s vars o.entry.table)) os

-- ---- names, keys and widths

repeated_unfailed : (known names : List (List ℕ)) → Unfailed (repeated_after known names)
repeated_unfailed known [] = none_unfailed
repeated_unfailed known (n ∷ ns) =
    either_unfailed (refused_if (list_any (bytes_eq n) known) (refusal.NameTaken n)) (repeated_after (known ++ n ∷ []) ns)
    (taken_unfailed (list_any (bytes_eq n) known) n) (repeated_unfailed (known ++ n ∷ []) ns)

like_unfailed : (types : List (List ℕ)) (o : Option (List ℕ)) → Unfailed (like_type types o)
like_unfailed types None = none_unfailed
like_unfailed types (Some n) = taken_unfailed (list_any (λ t. bytes_eq t n) types) n

schema_unfailed : (z : Schema) (m : MetaTree) → Unfailed (schema_name_refusal z m)
schema_unfailed z m =
    either_unfailed (or_else (repeated_after [] (all_types z m)) (repeated_after [] (flat_map (roots_of z) m.tracked))) (first_of (scalar_refusal z (all_types z m)) m.tracked)
    (either_unfailed (repeated_after [] (all_types z m)) (repeated_after [] (flat_map (roots_of z) m.tracked))
    (repeated_unfailed [] (all_types z m)) (repeated_unfailed [] (flat_map (roots_of z) m.tracked)))
    (first_unfailed (scalar_refusal z (all_types z m))
    (λ k. first_unfailed (λ c. like_type (all_types z m) (scalar_of (column z k.table c))) (λ c. like_unfailed (all_types z m) (scalar_of (column z k.table c))) (named_columns k)) m.tracked)

module _ (role : Role) (m : MetaTree) (s : Schema) where
  own_unfailed : (o : Source) → Unfailed (own_name_refusal role m s o)
  own_unfailed o =
      either_unfailed (first_of (column_refusal s o) o.permission.columns) (first_of (λ r. kept_name (rel s o.entry.table r).name) (kept_relationships role m s o.entry.table))
      (first_unfailed (column_refusal s o)
      (λ c. either_unfailed (kept_name (column s o.entry.table c).name) (kept_name (slice_index_or o.entry.column_names c []))
      (taken_unfailed (is_kept_name (column s o.entry.table c).name) (column s o.entry.table c).name)
      (taken_unfailed (is_kept_name (slice_index_or o.entry.column_names c [])) (slice_index_or o.entry.column_names c []))) o.permission.columns)
      (first_unfailed (λ r. kept_name (rel s o.entry.table r).name) (λ r. taken_unfailed (is_kept_name (rel s o.entry.table r).name) (rel s o.entry.table r).name)
      (kept_relationships role m s o.entry.table))

  pub described_unfailed : Unfailed (described_refusal role m s)
  described_unfailed =
      let os = sources role m in
      let names = schema_name_refusal (schema_of (copied_tables role m s) (copied_meta role m s)) (copied_meta role m s) in
      let own = first_of (own_name_refusal role m s) os in
      let keys = first_of (masked_key_refusal role m s) os in
      let widths = first_of (width_refusal role m s) os in
      either_unfailed own (or_else names (or_else keys widths)) (first_unfailed (own_name_refusal role m s) own_unfailed os)
      (either_unfailed names (or_else keys widths) (schema_unfailed (schema_of (copied_tables role m s) (copied_meta role m s)) (copied_meta role m s))
      (either_unfailed keys widths
      (first_unfailed (masked_key_refusal role m s) (λ o. masked_unfailed _ _) os)
      (first_unfailed (width_refusal role m s) (λ o. wide_unfailed _ _) os)))

-- ---- files

rows_unfailed : (name : List ℕ) (k : ℕ) (rows : List Row) → Unfailed (row_refusal name k rows)
rows_unfailed name k [] = none_unfailed
rows_unfailed name k (row ∷ rows) =
    either_unfailed (refused_if (list_any is_null_text row) (refusal.NotWritable name k)) (row_refusal name (k + 1) rows)
    (written_unfailed (list_any is_null_text row) name k) (rows_unfailed name (k + 1) rows)

pub files_unfailed : (ts : List Table) (d : List (List Row)) → Unfailed (files_of ts d)
files_unfailed [] d = none_unfailed
files_unfailed (t ∷ ts) [] = none_unfailed
files_unfailed (t ∷ ts) (rows ∷ d) =
    either_unfailed (file_of t rows) (files_of ts d)
    (either_unfailed _ (row_refusal (full_name t) 1 rows) (written_unfailed _ (full_name t) 0) (rows_unfailed (full_name t) 1 rows))
    (files_unfailed ts d)
