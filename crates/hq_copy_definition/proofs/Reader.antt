-- What the reader of a copy may see of its tables.
use Rattle.std.proofs.Common.{◌≡◌, ℕ, List, [], ◌∷◌, map, filter, true, ◌==◌, Some, refl, ap, ◌∙◌}
use Rattle.std.specs.List.{list_any}
use Rattle.std.specs.Prelude.{option_and_then, slice_get, slice_index_or}
use Rattle.hq_base.specs.Lists.{Each}
use Rattle.hq_base.proofs.Lists.{each_all}
use Rattle.hq_model.specs.Bexp.{always}
use Rattle.hq_model.specs.Meta.{MetaTree}
use Rattle.hq_model.specs.Names.{is_free_name}
use Rattle.hq_model.specs.Permission.{Permission, with_columns, named_columns, permission, permission_in, or_inherited, set_of}
use Rattle.hq_model.specs.Schema.{Schema}
use Rattle.hq_model.specs.declared.role.Role.{Role}
use Rattle.hq_model.specs.declared.role.Role.TheVariants.{Named}
use Rattle.hq_copy_definition.specs.Extras.{extra_name, extras_of}
use Rattle.hq_copy_definition.specs.Metadata.{reader, places, copied_names, copied_entry, copied_meta}
use Rattle.hq_copy_definition.specs.Sources.{Source, sources}
use Rattle.hq_copy_definition.proofs.Found.{entry_at}
use Rattle.hq_copy_definition.proofs.Names.{HasColumns, extra_free, all_named}
use Rattle.hq_copy_definition.proofs.Places.{front_places}
use Rattle.hq_copy_definition.proofs.Lists.{each_map, each_append, map_length}

-- the reader's permission: the permitted columns, which come first, of all rows, without masks
abbrev pub reads : Permission → Permission
reads p = record { columns = places 0 p.columns; filter = always; limit = p.limit; aggregations = p.aggregations; masks = [] }

given_columns : (q : Permission) (cs : List ℕ) (c : ℕ) (rest : List ℕ) → cs ≡ c ∷ rest → with_columns q (places 0 cs) ≡ Some (record q { columns = places 0 cs })
given_columns q [] c rest e = cc
given_columns q (d ∷ cs) c rest e = refl

module _ (role : Role) (m : MetaTree) (s : Schema) (o : Source) (h : HasColumns o.entry o.permission) where
  pub names_free : Each (λ n. is_free_name n ≡ true) (copied_names role m s o)
  names_free =
      each_append (λ n. is_free_name n ≡ true) (map (λ c. slice_index_or o.entry.column_names c []) o.permission.columns) (map extra_name (extras_of role m s o))
      (each_map (λ n. is_free_name n ≡ true) (λ c. slice_index_or o.entry.column_names c []) o.permission.columns h.free)
      (each_map (λ n. is_free_name n ≡ true) extra_name (extras_of role m s o) (each_all _ extra_free (extras_of role m s o)))

  -- the columns of the reader's entry that are named: those that are permitted
  reader_columns : (u : ℕ) → filter (λ c. list_any (λ d. d == c) (places 0 o.permission.columns)) (named_columns (copied_entry role m s u o)) ≡ places 0 o.permission.columns
  reader_columns u =
      ap (filter (λ c. list_any (λ d. d == c) (places 0 o.permission.columns))) (all_named 0 (copied_names role m s o) names_free)
      ∙ front_places o.permission.columns (map (λ c. slice_index_or o.entry.column_names c []) o.permission.columns) (map extra_name (extras_of role m s o)) (map_length _ o.permission.columns)

  pub reader_sees : (u : ℕ) → slice_get (sources role m) u ≡ Some o → permission (Named reader) (copied_meta role m s) u ≡ Some (reads o.permission)
  reader_sees u at =
      let base : Permission = record { columns = []; filter = always; limit = o.permission.limit; aggregations = o.permission.aggregations; masks = [] } in
      ap (option_and_then (permission_in (Named reader) [])) (entry_at role m s u o at)
      ∙ ap (λ cs. or_inherited (with_columns base cs) (copied_entry role m s u o) (set_of [] reader)) (reader_columns u)
      ∙ ap (λ w. or_inherited w (copied_entry role m s u o) (set_of [] reader)) (given_columns base o.permission.columns h.first h.rest h.columns)
