-- A worked catalog and its text.
use Rattle.std.proofs.Common.{◌≡◌, [], ◌∷◌, codes, true, false, refl}
use Rattle.hq_base.specs.Compact.{compact, escaped}
use Rattle.hq_base.specs.declared.value.Ty.TheVariants.{Integer}
use Rattle.hq_load_catalog.specs.Field.{field_name}
use Rattle.hq_model.specs.Catalog.{is_catalog}
use Rattle.hq_model.specs.declared.table.Table.{Table}
use Rattle.hq_laws_written.specs.Catalog.Written.{catalog_json}

-- authors, and their articles
abbrev authors : Table
authors = record { schema = codes "public"; name = codes "author"; columns = record { name = codes "id"; ty = Integer; of = []; nullable = false } ∷ []; key = 0 ∷ []; foreign = [] }

abbrev articles : Table
articles = record {
  schema = codes "public";
  name = codes "article";
  columns = record { name = codes "id"; ty = Integer; of = []; nullable = false } ∷ record { name = codes "writer"; ty = Integer; of = []; nullable = true } ∷ [];
  key = 0 ∷ [];
  foreign = record { columns = 1 ∷ []; remote = 0; references = 0 ∷ [] } ∷ [];
}

is_one : is_catalog (authors ∷ articles ∷ []) ≡ true
is_one = refl

authors_alone : compact (catalog_json (authors ∷ []))
    ≡ codes "{\"tables\":[{\"schema\":\"public\",\"name\":\"author\",\"columns\":[{\"name\":\"id\",\"type\":\"integer\",\"nullable\":false}],\"primary_key\":[\"id\"],\"foreign_keys\":[]}]}"
unfolding field_name escaped
authors_alone = refl
