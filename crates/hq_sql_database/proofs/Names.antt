-- What a statement means is an object of the names that it asks for.
use Rattle.std.proofs.Common.{◌≡◌, List, [], ◌∷◌, ◌++◌, map, Bool, true, false, cond, Some, None, Ordering, is_gt, refl, sym, ap, subst}
use Rattle.std.specs.Prelude.{flat_map, filter as kept_items, codes, bytes_eq, ◌&&◌, ⊤}
use Rattle.std.proofs.lemmas.List.Concat.{flat_map-cons}
use Rattle.hq_base.specs.Cells.{json_of}
use Rattle.hq_base.specs.Json.{names_of}
use Rattle.hq_base.specs.Lists.{put, sort}
use Rattle.hq_model.specs.declared.table.Table.{Table}
use Rattle.hq_sql_tree.specs.Meaning.{NamedRow, Scope, World, nothing, value, with_alias, members, order_cmp, outputs, or_null_row, rows_of, scopes_of, joined, kept, first_value, meaning, distinct_on}
use Rattle.hq_sql_tree.specs.Tree as tree
use Rattle.hq_sql_tree.specs.Tree.{ExprTree, PairTrees, OutTree, SelectTree, JoinTrees}
use Rattle.hq_sql_tree.specs.WellFormed.{is_statement, is_statement_form, is_object_output, is_object, is_well_formed}
use Rattle.hq_database.specs.Answered.{member_names, pair_names, object_names, lone_names, statement_names}

both : (a b : Bool) → (a && b) ≡ true → (a ≡ true) × (b ≡ true)
both true b e = (refl, e)
both false b e = absurd cc

-- the members of an object stand under the names of its pairs
members_named : (ps : PairTrees) (group : List Scope) (scope : Scope) → names_of (members ps group scope) ≡ pair_names ps
members_named tree.no_pair group scope = refl
members_named (tree.pair name e ps) group scope = ap (λ ns. name ∷ ns) (members_named ps group scope)

-- ---- lists with an item

abbrev HasItem : {A : Type 0} → List A → Type 0
HasItem [] = ⊥
HasItem (x ∷ xs) = ⊤

item_in_front : {A : Type 0} (xs ys : List A) → HasItem xs → HasItem (xs ++ ys)
item_in_front [] ys h = absurd h
item_in_front (x ∷ xs) ys h = tt

item_of_put : {A : Type 0} (order : A → A → Ordering) (x : A) (xs : List A) → HasItem (put order x xs)
item_of_put order x [] = tt
item_of_put order x (y ∷ ys) =
    let placed : (b : Bool) → HasItem (cond b (y ∷ put order x ys) (x ∷ (y ∷ ys))) = elim [ true ↦ tt | false ↦ tt ] in
    placed (is_gt (order x y))

item_of_sort : {A : Type 0} (order : A → A → Ordering) (xs : List A) → HasItem xs → HasItem (sort order xs)
item_of_sort order [] h = absurd h
item_of_sort order (x ∷ xs) h = item_of_put order x (sort order xs)

item_of_distinct : (es : List ExprTree) (xs : List Scope) → HasItem xs → HasItem (distinct_on es xs)
item_of_distinct [] xs h = h
item_of_distinct (e ∷ es) [] h = absurd h
item_of_distinct (e ∷ es) (x ∷ xs) h = tt

item_of_flat : {A B : Type 0} (f : A → List B) (xs : List A) → ((x : A) → HasItem (f x)) → HasItem xs → HasItem (flat_map f xs)
item_of_flat f [] each h = absurd h
item_of_flat f (x ∷ xs) each h = subst HasItem (sym (flat_map-cons f x xs)) (item_in_front (f x) (flat_map f xs) (each x))

item_of_map : {A B : Type 0} (f : A → B) (xs : List A) → HasItem xs → HasItem (map f xs)
item_of_map f [] h = absurd h
item_of_map f (x ∷ xs) h = tt

item_of_or : (rs : List NamedRow) → HasItem (or_null_row rs)
item_of_or [] = tt
item_of_or (r ∷ rs) = tt

-- a left join loses no row
item_of_joined : (js : JoinTrees) (world : World) (scope : Scope) → HasItem (joined js world scope)
item_of_joined tree.no_join world scope = tt
item_of_joined (tree.join s alias js) world scope =
    item_of_flat (joined js world) (map (with_alias scope alias) (or_null_row (rows_of s world scope))) (item_of_joined js world)
    (item_of_map (with_alias scope alias) (or_null_row (rows_of s world scope)) (item_of_or (rows_of s world scope)))

kept_all : (world : World) (xs : List Scope) → HasItem xs → HasItem (kept_items (kept tree.no_filter world) xs)
kept_all world [] h = absurd h
kept_all world (x ∷ xs) h = tt

-- ---- the object of a statement

object_named : (o : OutTree) (xs : List Scope) → is_object_output (o ∷ []) ≡ true → HasItem xs → member_names (first_value (map (outputs (o ∷ []) []) xs)) ≡ object_names o.value
object_named o [] is h = absurd h
object_named o (x ∷ xs) is h =
    let parts = both (bytes_eq o.name (codes "v")) (is_object o.value) is in
    let named : (e : ExprTree) → is_object e ≡ true → member_names (json_of (value e [] x)) ≡ object_names e =
    elim [
      | tree.object ps ↦ λ e. ap Some (members_named ps [] x)
      | tree.column alias name form ↦ λ e. absurd cc
      | tree.int n ↦ λ e. absurd cc
      | tree.text s ↦ λ e. absurd cc
      | tree.uuid s ↦ λ e. absurd cc
      | tree.bool b ↦ λ e. absurd cc
      | tree.aggregate a ↦ λ e. absurd cc
    ] in
    rw parts.0 (named o.value parts.1)

outputs_named : (outs : List OutTree) (xs : List Scope) → is_object_output outs ≡ true → HasItem xs → member_names (first_value (map (outputs outs []) xs)) ≡ lone_names outs
outputs_named [] xs is h = absurd cc
outputs_named (o ∷ []) xs is h = object_named o xs is h
outputs_named (o ∷ (p ∷ os)) xs is h = absurd cc

form_named : (s : SelectTree) (world : World) → is_statement_form s ≡ true → member_names (meaning s world) ≡ statement_names s
form_named (tree.rows distinct outs (tree.one alias) joins tree.no_filter [] None None) world is =
    outputs_named outs _ is
    (item_of_distinct distinct _ (item_of_sort (order_cmp []) _ (kept_all world _
    (item_of_flat (joined joins world) (scopes_of (tree.one alias) world nothing) (item_of_joined joins world) tt))))
form_named (tree.fold out inner alias) world is = absurd cc
form_named (tree.rows distinct outs (tree.one alias) joins tree.no_filter [] None (Some o)) world is = absurd cc
form_named (tree.rows distinct outs (tree.one alias) joins tree.no_filter [] (Some l) offset) world is = absurd cc
form_named (tree.rows distinct outs (tree.one alias) joins tree.no_filter (k ∷ ks) limit offset) world is = absurd cc
form_named (tree.rows distinct outs (tree.one alias) joins (tree.filter p) keys limit offset) world is = absurd cc
form_named (tree.rows distinct outs (tree.table schema name alias) joins condition keys limit offset) world is = absurd cc
form_named (tree.rows distinct outs (tree.sub s alias) joins condition keys limit offset) world is = absurd cc

-- the meaning of a statement is an object of its names
pub statement_named : (tables : List Table) (s : SelectTree) (world : World) → is_statement s tables ≡ true → member_names (meaning s world) ≡ statement_names s
statement_named tables s world is = form_named s world (both (is_statement_form s) (is_well_formed s tables) is).0
