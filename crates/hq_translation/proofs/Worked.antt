-- The texts of worked statements, by computing the definitions.
use Rattle.std.proofs.Common.{◌≡◌, ℕ, pos, List, [], ◌∷◌, true, false, Some, None, codes, refl}
use Rattle.std.specs.Fmt.{digits}
use Rattle.hq_base.specs.declared.value.Ty.TheVariants.{Integer, Bigint, Text, Boolean}
use Rattle.hq_base.specs.declared.value.Val.TheVariants as val
use Rattle.hq_model.specs.Bexp.{BexpTree, always, or_of, test, exists_in, two_columns, bexp, no_bexp}
use Rattle.hq_model.specs.Grants.{Grants}
use Rattle.hq_model.specs.Schema.{Schema}
use Rattle.hq_model.specs.Selected.{ListArguments}
use Rattle.hq_model.specs.declared.bexp.Operand.TheVariants.{Const}
use Rattle.hq_model.specs.declared.bexp.Operands.TheVariants as operands
use Rattle.hq_model.specs.declared.op.Op.TheVariants.{Eq, Ne, Gt}
use Rattle.hq_model.specs.declared.test.Test.TheVariants.{Compare}
use Rattle.hq_request_tree.specs.Fields.{FieldTrees, no_field, field, column, list, from_table}
use Rattle.hq_sql_tree.specs.Spelling.{select_text, quoted}
use Rattle.hq_sql_tree.specs.Word.{word_text}
use Rattle.hq_translation.specs.GrantedTables.{granted_of}
use Rattle.hq_translation.specs.Names.{table_alias, fold_alias, join_alias, value_name, key_name, needed_name, unit_name}
use Rattle.hq_translation.specs.Statement.{statement}

-- authors and their articles, and what user 1 is granted: all authors, and the articles that are published or the user's own
abbrev schema : Schema
schema =
    record {
      schema = codes "public";
      name = codes "author";
      columns =
          record { name = codes "id"; ty = Integer; of = []; nullable = false }
          ∷ record { name = codes "name"; ty = Text; of = []; nullable = false }
          ∷ record { name = codes "email"; ty = Text; of = []; nullable = true } ∷ [];
      key = 0 ∷ [];
      rels = record { name = codes "articles"; remote = 1; pairs = record { own = 0; remote = 1 } ∷ []; many = true } ∷ [];
    }
    ∷ record {
      schema = codes "public";
      name = codes "article";
      columns =
          record { name = codes "id"; ty = Integer; of = []; nullable = false }
          ∷ record { name = codes "author_id"; ty = Integer; of = []; nullable = true }
          ∷ record { name = codes "title"; ty = Text; of = []; nullable = false }
          ∷ record { name = codes "published"; ty = Boolean; of = []; nullable = false } ∷ record { name = codes "rating"; ty = Bigint; of = []; nullable = true } ∷ [];
      key = 0 ∷ [];
      rels = record { name = codes "author"; remote = 0; pairs = record { own = 1; remote = 0 } ∷ []; many = false } ∷ [];
    }
    ∷ []

abbrev grants : Grants
grants =
    Some (record { columns = 0 ∷ 1 ∷ []; filter = always; limit = None; aggregations = false; masks = [] })
    ∷ Some (record {
      columns = 0 ∷ 2 ∷ 4 ∷ [];
      filter = or_of (bexp (test 3 (Compare Eq) (operands.List (Const (val.Bool true) ∷ [])) false) (bexp (test 1 (Compare Eq) (operands.List (Const (val.Int (pos 1)) ∷ [])) false) no_bexp));
      limit = None;
      aggregations = true;
      masks = [];
    })
    ∷ []

abbrev plain : ListArguments
plain = record { wanted = always; sorts = []; distinct = []; limit = None; offset = None }

-- {author(where:{name:{_eq:"O'Hara"}}){id name}}
abbrev named : FieldTrees
named =
    field (codes "author")
    (list (from_table 0) (record plain { wanted = test 1 (Compare Eq) (operands.List (Const (val.Text (codes "O'Hara")) ∷ [])) false })
    (field (codes "id") (column 0) (field (codes "name") (column 1) no_field)))
    no_field

named_text : select_text (statement named schema (granted_of grants))
    ≡ codes
    "SELECT json_build_object('author'::text, \"j1\".\"v\") AS \"v\" FROM (SELECT TRUE AS \"u\") AS \"t0\" LEFT JOIN LATERAL (SELECT COALESCE(json_agg(\"s1\".\"v\" ORDER BY \"s1\".\"o0\" ASC NULLS LAST), '[]'::json) AS \"v\" FROM (SELECT json_build_object('id'::text, \"t1\".\"id\", 'name'::text, \"t1\".\"name\") AS \"v\", \"t1\".\"id\" AS \"o0\" FROM \"public\".\"author\" AS \"t1\" WHERE (\"t1\".\"name\" COLLATE \"C\" = 'O''Hara'::text) ORDER BY \"t1\".\"id\" ASC NULLS LAST) AS \"s1\") AS \"j1\" ON TRUE"
unfolding table_alias fold_alias join_alias value_name key_name needed_name unit_name digits quoted word_text
named_text = refl

-- {author{id}}, where the filter of authors is this one
abbrev authors_by : BexpTree → List ℕ
authors_by b =
    select_text (statement (field (codes "author") (list (from_table 0) plain (field (codes "id") (column 0) no_field)) no_field) schema
    (granted_of (Some (record { columns = 0 ∷ []; filter = b; limit = None; aggregations = false; masks = [] }) ∷ [])))

-- rows of a table by themselves: no link, and no filter of the table's own
rated_text : authors_by (exists_in 1 (test 4 (Compare Gt) (operands.List (Const (val.Int (pos 6)) ∷ [])) false))
    ≡ codes
    "SELECT json_build_object('author'::text, \"j1\".\"v\") AS \"v\" FROM (SELECT TRUE AS \"u\") AS \"t0\" LEFT JOIN LATERAL (SELECT COALESCE(json_agg(\"s1\".\"v\" ORDER BY \"s1\".\"o0\" ASC NULLS LAST), '[]'::json) AS \"v\" FROM (SELECT json_build_object('id'::text, \"t1\".\"id\") AS \"v\", \"t1\".\"id\" AS \"o0\" FROM \"public\".\"author\" AS \"t1\" WHERE EXISTS (SELECT TRUE AS \"u\" FROM \"public\".\"article\" AS \"t2\" WHERE (\"t2\".\"rating\" > '6'::bigint)) ORDER BY \"t1\".\"id\" ASC NULLS LAST) AS \"s1\") AS \"j1\" ON TRUE"
unfolding table_alias fold_alias join_alias value_name key_name needed_name unit_name digits quoted word_text
rated_text = refl

-- any row at all: no WHERE
any_text : authors_by (exists_in 1 always)
    ≡ codes
    "SELECT json_build_object('author'::text, \"j1\".\"v\") AS \"v\" FROM (SELECT TRUE AS \"u\") AS \"t0\" LEFT JOIN LATERAL (SELECT COALESCE(json_agg(\"s1\".\"v\" ORDER BY \"s1\".\"o0\" ASC NULLS LAST), '[]'::json) AS \"v\" FROM (SELECT json_build_object('id'::text, \"t1\".\"id\") AS \"v\", \"t1\".\"id\" AS \"o0\" FROM \"public\".\"author\" AS \"t1\" WHERE EXISTS (SELECT TRUE AS \"u\" FROM \"public\".\"article\" AS \"t2\") ORDER BY \"t1\".\"id\" ASC NULLS LAST) AS \"s1\") AS \"j1\" ON TRUE"
unfolding table_alias fold_alias join_alias value_name key_name needed_name unit_name digits quoted word_text
any_text = refl

-- two columns of a row, with COLLATE at both where they are texts
differing_text : authors_by (two_columns 1 Ne 2)
    ≡ codes
    "SELECT json_build_object('author'::text, \"j1\".\"v\") AS \"v\" FROM (SELECT TRUE AS \"u\") AS \"t0\" LEFT JOIN LATERAL (SELECT COALESCE(json_agg(\"s1\".\"v\" ORDER BY \"s1\".\"o0\" ASC NULLS LAST), '[]'::json) AS \"v\" FROM (SELECT json_build_object('id'::text, \"t1\".\"id\") AS \"v\", \"t1\".\"id\" AS \"o0\" FROM \"public\".\"author\" AS \"t1\" WHERE (\"t1\".\"name\" COLLATE \"C\" <> \"t1\".\"email\" COLLATE \"C\") ORDER BY \"t1\".\"id\" ASC NULLS LAST) AS \"s1\") AS \"j1\" ON TRUE"
unfolding table_alias fold_alias join_alias value_name key_name needed_name unit_name digits quoted word_text
differing_text = refl
