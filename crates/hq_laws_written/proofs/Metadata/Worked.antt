-- A worked metadata and its text.
use Rattle.std.proofs.Common.{◌≡◌, ◌++◌, [], ◌∷◌, Some, codes, true, false, refl}
use Rattle.std.specs.Fmt.{digits}
use Rattle.std.specs.Str.{is_utf8, chars}
use lib.Utf8.{encode}
use Rattle.hq_base.specs.Compact.{compact, escaped}
use Rattle.hq_base.specs.declared.value.Ty.TheVariants.{Integer}
use Rattle.hq_load_meta_tables.specs.Field.{field_name}
use Rattle.hq_model.specs.Bexp.{always}
use Rattle.hq_model.specs.Meta.{TrackedTree, MetaTree}
use Rattle.hq_model.specs.declared.table.Table.{Table}
use Rattle.hq_laws_written.specs.Metadata.Plain.{IsPlain, IsPlainPerm, IsPlainRel, IsPlainTable}
use Rattle.hq_laws_written.specs.Metadata.Written.{meta_json}

-- authors with a number of their editor, and a relationship to that one
abbrev authors : Table
authors = record {
  schema = codes "public";
  name = codes "author";
  columns = record { name = codes "id"; ty = Integer; of = []; nullable = false } ∷ record { name = codes "editor"; ty = Integer; of = []; nullable = true } ∷ [];
  key = 0 ∷ [];
  foreign = [];
}

-- readers see the ids alone, ten rows at most
abbrev tracked : TrackedTree
tracked = record {
  table = 0;
  name = codes "writer";
  column_names = codes "number" ∷ codes "editor" ∷ [];
  roots = record { select = codes "writers"; select_aggregate = codes "writers_aggregate"; select_by_pk = codes "writer_by_pk" };
  rels = record { name = codes "boss"; remote = 0; pairs = record { own = 1; remote = 0 } ∷ []; many = false } ∷ [];
  perms = record { role = codes "reader"; cols = 0 ∷ []; filter = always; limit = Some 10; aggregations = true } ∷ [];
}

abbrev whole : MetaTree
whole = record { tracked = tracked ∷ []; inherited = [] }

whole_text : compact (meta_json (authors ∷ []) whole)
    ≡ codes "{\"version\":3,\"sources\":[{\"name\":\"default\",\"kind\":\"postgres\",\"tables\":[{\"table\":{\"schema\":\"public\",\"name\":\"author\"},"
    ++ codes "\"configuration\":{\"custom_name\":\"writer\",\"column_config\":{\"id\":{\"custom_name\":\"number\"}},"
    ++ codes "\"custom_root_fields\":{\"select\":\"writers\",\"select_by_pk\":\"writer_by_pk\",\"select_aggregate\":\"writers_aggregate\"}},"
    ++ codes "\"object_relationships\":[{\"name\":\"boss\",\"using\":{\"manual_configuration\":{\"remote_table\":{\"schema\":\"public\",\"name\":\"author\"},"
    ++ codes "\"column_mapping\":{\"editor\":\"id\"}}}}],"
    ++ codes "\"array_relationships\":[],\"select_permissions\":[{\"role\":\"reader\","
    ++ codes "\"permission\":{\"columns\":[\"id\"],\"filter\":{},\"limit\":10,\"allow_aggregations\":true}}]}]}]}"
unfolding field_name escaped digits
whole_text = refl

-- it can be read back
plain_rel : IsPlainRel authors.columns authors.columns (record { name = codes "boss"; remote = 0; pairs = record { own = 1; remote = 0 } ∷ []; many = false })
unfolding is_utf8 chars encode
plain_rel = record { ascending = (tt, tt); differ = refl; clean = refl }

plain_perm : IsPlainPerm authors.columns (record { role = codes "reader"; cols = 0 ∷ []; filter = always; limit = Some 10; aggregations = true })
unfolding is_utf8 chars encode
plain_perm = record { unfiltered = refl; ordered = refl; clean = refl }

plain_table : IsPlainTable (authors ∷ []) tracked
unfolding is_utf8 chars encode
plain_table = record { own = ((λ e. cc), ((λ e. refl), tt)); rels = (plain_rel, tt); perms = (plain_perm, tt); clean = refl; roots = refl }

plain_whole : IsPlain (authors ∷ []) whole
unfolding is_utf8 chars encode
plain_whole = record { catalog = refl; clean = refl; fits = refl; own = refl; tracked = (plain_table, tt) }
