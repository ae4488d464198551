-- The table whose rows `_exists` asks for is there, and tracked.
use Rattle.std.proofs.Common.{◌≡◌, refl, sym, ap, subst, ℕ, suc, ◌<◌, Bool, true, false, cond, List, [], ◌∷◌, length, Option, Some, None, Ok, Err}
use Rattle.std.specs.Prelude.{⊤, IfOk, ◌&&◌, is_some, nat_lt, ok_or, position, bytes_eq, codes}
use Rattle.std.proofs.lemmas.Bool.{lt-ltb}
use Rattle.std.proofs.lemmas.List.Quantifiers.{position-Some}
use Rattle.hq_base.specs.Due.{and_then}
use Rattle.hq_base.specs.Json.{JsonTree}
use Rattle.hq_base.specs.Look.{str_in, object_in, member_in}
use Rattle.hq_base.specs.Path.{member_path}
use Rattle.hq_model.specs.Meta.{MetaTree, tracked_table}
use Rattle.hq_model.specs.Schema.{numbered, schema_table, schema_of}
use Rattle.hq_model.specs.declared.table.Table.{Table}
use Rattle.hq_load_filter.specs.declared.refusal.FilterRefusal.TheVariants.{Shape, UnknownTable}
use Rattle.hq_load_filter.specs.Asked.{parts_due, asked_due}
use Rattle.hq_load_filter.specs.Tables.{text_member, table_named, qualified_table, table_by, table_at, tracked_due, remote_at}
use Rattle.hq_load_filter.proofs.Results.{ok_always, ok_and_then}

-- a table of the schema that is tracked
pub record Known (tables : List Table) (d : MetaTree) (u : ℕ) : Type 0 where
  pub there : nat_lt u (length (schema_of tables d)) ≡ true
  pub tracked : is_some (tracked_table d u) ≡ true

-- what is found stands in the list
within : {A : Type 0} (test : A → Bool) (xs : List A) (i : ℕ) → position test xs ≡ Some i → i < length xs
within test [] i e = cc
within test (x ∷ xs) i e = (position-Some test (x ∷ xs) i x e).0

ok_found : {A E : Type 0} (o : Option A) (e : E) (P : A → Type 0) → ((x : A) → o ≡ Some x → P x) → IfOk (ok_or o e) P
ok_found None e P h = tt
ok_found (Some x) e P h = h x refl

numbered-long : {A B : Type 0} (f : ℕ → A → B) (k : ℕ) (xs : List A) → length (numbered f k xs) ≡ length xs
numbered-long f k [] = refl
numbered-long f k (x ∷ xs) = ap suc (numbered-long f (suc k) xs)

table_named-within : (tables : List Table) (path schema name : List ℕ) → IfOk (table_named tables path schema name) (λ u. u < length tables)
unfolding table_named
table_named-within tables path schema name =
    let test = λ (t : Table). bytes_eq t.schema schema && bytes_eq t.name name in
    ok_found (position test tables) (UnknownTable path) (λ u. u < length tables) (within test tables)

qualified_table-within : (tables : List Table) (path : List ℕ) (j : JsonTree) → IfOk (qualified_table tables path j) (λ u. u < length tables)
unfolding qualified_table
qualified_table-within tables path j =
    let P = λ (u : ℕ). u < length tables in
    ok_and_then (λ _. and_then (λ schema. and_then (λ name. table_named tables path schema name) (text_member path j (codes "name"))) (text_member path j (codes "schema"))) P (λ _. ⊤)
    (λ _ _. ok_and_then (λ schema. and_then (λ name. table_named tables path schema name) (text_member path j (codes "name"))) P (λ _. ⊤)
    (λ schema _. ok_and_then (λ name. table_named tables path schema name) P (λ _. ⊤) (λ name _. table_named-within tables path schema name)
    (text_member path j (codes "name")) (ok_always (text_member path j (codes "name"))))
    (text_member path j (codes "schema")) (ok_always (text_member path j (codes "schema"))))
    (ok_or (object_in j) (Shape path)) (ok_always (ok_or (object_in j) (Shape path)))

table_at-within : (tables : List Table) (path : List ℕ) (j : JsonTree) → IfOk (table_at tables path j) (λ u. u < length tables)
unfolding table_at
table_at-within tables path j = by (str_in j)
  where
    by : (o : Option (List ℕ)) → IfOk (table_by tables path j o) (λ u. u < length tables)
    by (Some name) = table_named-within tables path (codes "public") name
    by None = qualified_table-within tables path j

tracked_due-known : (tables : List Table) (d : MetaTree) (path : List ℕ) (t : ℕ) → t < length tables → IfOk (tracked_due d path t) (Known tables d)
unfolding tracked_due
tracked_due-known tables d path t below = by (is_some (tracked_table d t)) refl
  where
    by : (b : Bool) → is_some (tracked_table d t) ≡ b → IfOk (cond b (Ok t) (Err (UnknownTable path))) (Known tables d)
    by true is = record { there = lt-ltb t (length (schema_of tables d)) (subst (λ n. t < n) (sym (numbered-long (schema_table d) 0 tables)) below); tracked = is }
    by false is = tt

remote_at-known : (tables : List Table) (d : MetaTree) (path : List ℕ) (j : JsonTree) → IfOk (remote_at tables d path j) (Known tables d)
unfolding remote_at
remote_at-known tables d path j =
    ok_and_then (λ t. tracked_due d path t) (Known tables d) (λ u. u < length tables) (λ t below. tracked_due-known tables d path t below) (table_at tables path j) (table_at-within tables path j)

-- the table that `_table` names
pub asked_known : (tables : List Table) (d : MetaTree) (path : List ℕ) (j : JsonTree) → IfOk (asked_due tables d path j) (Known tables d)
unfolding asked_due
asked_known tables d path j =
    let here = member_path path (codes "_table") in
    let table = ok_or (member_in j (codes "_table")) (Shape here) in
    ok_and_then (λ ms. and_then (λ _. and_then (λ t. remote_at tables d here t) table) (parts_due path ms)) (Known tables d) (λ _. ⊤)
    (λ ms _. ok_and_then (λ _. and_then (λ t. remote_at tables d here t) table) (Known tables d) (λ _. ⊤)
    (λ _ _. ok_and_then (λ t. remote_at tables d here t) (Known tables d) (λ _. ⊤) (λ t _. remote_at-known tables d here t) table (ok_always table))
    (parts_due path ms) (ok_always (parts_due path ms)))
    (ok_or (object_in j) (Shape path)) (ok_always (ok_or (object_in j) (Shape path)))
