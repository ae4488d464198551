-- What the copy of the blog for user 2 gives its reader: what the blog gives user 2.
use Rattle.std.specs.Prelude.{◌≡◌, ℕ, List, [], ◌∷◌, length, true, codes, refl}
use Rattle.std.specs.Fmt.{digits}
use Rattle.hq_base.specs.Compact.{compact, escaped}
use Rattle.hq_model.specs.Permission.{role_of}
use Rattle.hq_model.specs.Schema.{schema_of}
use Rattle.hq_model.specs.View.{view}
use Rattle.hq_request_tree.specs.Fields.{FieldTrees, list, from_table, along, field, column}
use Rattle.hq_request_tree.specs.Resolve.{resolved}
use Rattle.hq_request_tree.proofs.Blog.{tables, meta, schema, database, user_2, given, session_of, plain, only, ids}
use Rattle.hq_request_tree.proofs.Worked.{by, by_ann, home, listed}
use Rattle.hq_copy_definition.specs.Copied.{Copied, copy_of}
use Rattle.hq_laws_renumbered.specs.Resolving.Renumbering.{fields_over}
use Rattle.hq_laws_copy.specs.Views.Laws.{numbers, reader_grants}

abbrev copy : Copied
copy = copy_of tables meta (session_of (codes "user") (codes "2")) (view schema user_2 database)

-- the compact text of what root fields give over the copy, in its numbers
abbrev given_in_copy : FieldTrees → List ℕ
given_in_copy fs =
    compact (resolved (fields_over fs schema (numbers (role_of (codes "user")) meta schema) (length schema)) (schema_of copy.tables copy.meta) (reader_grants copy) copy.rows)

-- the articles of each author
abbrev of_authors : FieldTrees
of_authors = only (codes "author") (list (from_table 0) plain (field (codes "id") (column 0) (only (codes "articles") (list (along 0) plain ids))))

articles_of_authors : given_in_copy of_authors ≡ codes "{\"author\":[{\"id\":1,\"articles\":[{\"id\":10}]},{\"id\":2,\"articles\":[{\"id\":12}]},{\"id\":3,\"articles\":[]}]}"
unfolding digits escaped
articles_of_authors = refl

-- the articles by rating, the greatest first
by_rating : given_in_copy (listed (record plain { sorts = by 4 true true ∷ [] })) ≡ codes "{\"article\":[{\"id\":13},{\"id\":10},{\"id\":12}]}"
unfolding digits escaped
by_rating = refl

-- one article of each rating
of_each_rating : given_in_copy (listed (record plain { distinct = 4 ∷ [] })) ≡ codes "{\"article\":[{\"id\":10},{\"id\":13}]}"
unfolding digits escaped
of_each_rating = refl

-- through a relationship, both in the condition and in the sort
by_author : given_in_copy by_ann ≡ given user_2 by_ann
unfolding digits escaped
by_author = refl

-- with aggregates of related rows
with_counts : given_in_copy home ≡ given user_2 home
unfolding digits escaped
with_counts = refl
