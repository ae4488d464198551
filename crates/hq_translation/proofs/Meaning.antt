-- The main theorem: the statement means what nested resolvers give. One lemma for each kind of field, and the induction.
use Rattle.std.proofs.Common.{◌≡◌, ℕ, ◌+◌, ◌<◌, ◌≤◌, ◌^◌, List, [], ◌∷◌, ◌++◌, length, map, filter, Bool, true, false, cond, ◌&&◌, bytes_eq, Option, None, Some, refl, sym, ap, ap₂, ◌∙◌, arith}
use Rattle.std.specs.Prelude.{slice_index_or, codes}
use Rattle.hq_base.specs.Json.{JsonTree, arr, obj, elements_of, MemberTrees, member}
use Rattle.hq_base.specs.Cells.{json, json_of, bool}
use Rattle.hq_base.specs.Cells as cell
use Rattle.hq_base.specs.Lists.{sort}
use Rattle.hq_base.specs.declared.value.Val.{Val}
use Rattle.hq_model.specs.Database.{Row}
use Rattle.hq_model.specs.Grants.{Grants, grant, limits}
use Rattle.hq_model.specs.Logic.{is_true}
use Rattle.hq_model.specs.Meta.{MetaTree}
use Rattle.hq_model.specs.Permitted.{permitted, shown, seen_by}
use Rattle.hq_model.specs.Related.{related}
use Rattle.hq_model.specs.Schema.{Schema, schema_of, table, rel, no_table}
use Rattle.hq_model.specs.Seen.{linked_by}
use Rattle.hq_model.specs.Selected.{ListArguments, limited, offset_by, smaller, ordered, selected}
use Rattle.hq_model.specs.declared.op.Op.TheVariants.{Eq}
use Rattle.hq_model.specs.declared.table.Table.{Table}
use Rattle.hq_request_tree.specs.Fields.{Origin, from_table, along, FieldTrees, no_field, field, FieldTree, column, typename, no_queries, object, list, by_key, aggregate, introspect, PartTrees, no_part, part, PartTree, summary, nodes, part_typename}
use Rattle.hq_request_tree.specs.Resolve.{origin_table, origin_rows, shows_key, first_or_null, summary_members, resolve_all, resolve, resolve_parts, resolve_part}
use Rattle.hq_sql_tree.specs.Tree as tree
use Rattle.hq_sql_tree.specs.Tree.{JoinTree, pairs_of, PredTree}
use Rattle.hq_sql_tree.specs.Meaning.{NamedRow, cell_named, Scope, nothing, with_alias, World, value, members, outputs, order_cmp, or_null_row, first_value, rows_of, kept, truth_at}
use Rattle.hq_translation.specs.GrantedTables.{granted_of}
use Rattle.hq_translation.specs.Names.{table_alias, join_alias, value_name}
use Rattle.hq_translation.specs.Looks.{Look, own_look, type_in}
use Rattle.hq_translation.specs.Conditions.{joined_by_and}
use Rattle.hq_translation.specs.Predicates.{link}
use Rattle.hq_translation.specs.Masks.{value_output, extra, masks, shown_look, filter_numbers, filter_predicate}
use Rattle.hq_translation.specs.Selects.{filter_from, behind_filter, first_select}
use Rattle.hq_translation.specs.Lists.{list_sorts, list_used, list_numbers, children_from}
use Rattle.hq_translation.specs.Aggregates.{needed, some_aggregate, summary_used, summary_numbers, folded_select, plain_select, summary_select}
use Rattle.hq_translation.specs.Fields.{field_used, fields_used, key_used, origin_tie, key_members, fields_numbers, field_numbers, parts_numbers, part_numbers, field_value, fields_values, part_value, parts_values, empty_select, fields_joins, field_joins, parts_joins, part_joins, kids_from, list_join}
use Rattle.hq_translation.specs.Correct.{AreFew, IsFew, AreFewParts, IsFewPart, MeansResolved}
use Rattle.hq_translation.proofs.Names.{Shows, Narrow, at_row, shows_row, shows_behind, Looks, looks_left, looks_right, used_left, used_one, same_text, with_alias_same, with_alias_other, table_aliases_differ, join_aliases_differ}
use Rattle.hq_translation.proofs.Sound.{Sound, sound_of}
use Rattle.hq_translation.proofs.Conditions.{all_kept, true_joined, compares}
use Rattle.hq_translation.proofs.Extends.{Extends, extends_none, extends_one, extends_then, extends_apart, goes_last, shows_kept, first_named}
use Rattle.hq_translation.proofs.Predicates.{link_means}
use Rattle.hq_translation.proofs.Masks.{behind_masks, masks_at, looks_at, looks_later}
use Rattle.hq_translation.proofs.Selects.{behind, behind_shows, behind_above, first_means}
use Rattle.hq_translation.proofs.Lists.{X, x_shows, x_more, all, list_means}
use Rattle.hq_translation.proofs.Summaries.{folded_means, plain_pairs}

one_value : (j : JsonTree) → json_of (cell_named ((value_name, json j) ∷ []) value_name) ≡ j
one_value j = rw (same_text value_name) refl

-- the row of the first object
abbrev objects : (Row → MemberTrees) → List Row → NamedRow
objects at l = first_named (map (λ far. json (obj (at far))) l)

object_value : (at : Row → MemberTrees) (l : List Row) → json_of (cell_named (objects at l) value_name) ≡ first_or_null (map (λ far. obj (at far)) l)
object_value at [] = refl
object_value at (x ∷ l) = rw (same_text value_name) refl

all_rows : {A : Type 0} (xs : List A) → filter (λ x. true) xs ≡ xs
all_rows [] = refl
all_rows (x ∷ xs) = ap (λ l. x ∷ l) (all_rows xs)

no_smaller : (limit : Option ℕ) → smaller limit None ≡ limit
no_smaller None = refl
no_smaller (Some n) = refl

module _ (s : Schema) (tables : List Table) (d : List (List Row)) (g : Grants) where
  abbrev w : World
  w = record { tables = tables; database = d }

  -- what the resolvers give at a row
  abbrev given_all : FieldTrees → ℕ → Row → MemberTrees
  given_all fs t row = resolve_all fs s (limits g) (seen_by s g d) t row

  abbrev given : FieldTree → ℕ → Row → JsonTree
  given f t row = resolve f s (limits g) (seen_by s g d) t row

  abbrev given_part : PartTree → ℕ → ListArguments → List Row → JsonTree
  given_part p u a start = resolve_part p s (limits g) (seen_by s g d) u a start

  abbrev given_parts : PartTrees → ℕ → ListArguments → List Row → MemberTrees
  given_parts ps u a start = resolve_parts ps s (limits g) (seen_by s g d) u a start

  abbrev start : Origin → ℕ → Row → List Row
  start o t row = origin_rows o s (seen_by s g d) t row

  -- ---- the rows that joins give

  abbrev with_value : ℕ → JsonTree → Scope → Scope
  with_value n j scope = with_alias scope (join_alias n) ((value_name, json j) ∷ [])

  abbrev with_field : FieldTree → (t n : ℕ) → Row → Scope → Scope
  with_field (column c) t n row scope = scope
  with_field (typename name) t n row scope = scope
  with_field no_queries t n row scope = with_alias scope (join_alias n) []
  with_field (object r fs) t n row scope = with_alias scope (join_alias n) (objects (given_all fs (rel s t r).remote) (related s (seen_by s g d) t r row))
  with_field (list o a fs) t n row scope = with_value n (given (list o a fs) t row) scope
  with_field (by_key u key fs) t n row scope = with_alias scope (join_alias n) (objects (given_all fs u) (filter (shows_key (table s u).key key (seen_by s g d) u) (permitted s g d u)))
  with_field (aggregate o a ps) t n row scope = with_value n (given (aggregate o a ps) t row) scope
  with_field (introspect f) t n row scope = with_alias scope (join_alias n) []

  abbrev with_fields : FieldTrees → (t n : ℕ) → Row → Scope → Scope
  with_fields no_field t n row scope = scope
  with_fields (field key f fs) t n row scope = with_fields fs t (n + field_numbers f s (granted_of g) t) row (with_field f t n row scope)

  abbrev with_part : PartTree → Origin → (t : ℕ) → ListArguments → (n : ℕ) → Row → Scope → Scope
  with_part (summary fs) o t a n row scope = with_value n (given_part (summary fs) (origin_table o s t) a (start o t row)) scope
  with_part (nodes fs) o t a n row scope = with_value n (given_part (nodes fs) (origin_table o s t) a (start o t row)) scope
  with_part (part_typename name) o t a n row scope = scope

  abbrev with_parts : PartTrees → Origin → (t : ℕ) → ListArguments → (n : ℕ) → Row → Scope → Scope
  with_parts no_part o t a n row scope = scope
  with_parts (part key p ps) o t a n row scope = with_parts ps o t a (n + part_numbers p s (granted_of g) (origin_table o s t) a) row (with_part p o t a n row scope)

  -- ---- ties

  -- whether a row of a list is tied to the row above
  abbrev tied_of : Origin → (t : ℕ) → Row → Row → Bool
  tied_of (from_table u) t row far = true
  tied_of (along r) t row far = linked_by (rel s t r).pairs row far

  start_is : (o : Origin) (t : ℕ) (row : Row) → filter (tied_of o t row) (permitted s g d (origin_table o s t)) ≡ start o t row
  start_is (from_table u) t row = all_rows (permitted s g d u)
  start_is (along r) t row = refl

  tie_means : (o : Origin) (t p n : ℕ) (scope : Scope) (row far : Row) → Shows s scope t p row → Shows s scope (origin_table o s t) n far
      → is_true (truth_at (origin_tie o s t p n) w scope) ≡ tied_of o t row far
  tie_means (from_table u) t p n scope row far f h = refl
  tie_means (along r) t p n scope row far f h = link_means s w t (rel s t r) p n scope row far f h

  key_means : (u : ℕ) (look : Look) (cs : List ℕ) (vs : List Val) (scope : Scope) (far : Row) → Looks look cs scope (shown s g d u far)
      → is_true (truth_at (joined_by_and (key_members (table s u).columns look cs vs)) w scope) ≡ shows_key cs vs (seen_by s g d) u far
  key_means u look cs vs scope far l = true_joined w scope (key_members (table s u).columns look cs vs) ∙ go cs vs l
    where
      go : (cs : List ℕ) (vs : List Val) → Looks look cs scope (shown s g d u far) → all_kept w scope (key_members (table s u).columns look cs vs) ≡ shows_key cs vs (seen_by s g d) u far
      go [] vs l = refl
      go (c ∷ cs) [] l = refl
      go (c ∷ cs) (v ∷ vs) l =
          ap₂ (λ a b. is_true a && b)
          (compares w scope (type_in (table s u).columns c) Eq (cell_named (scope (look c).alias) (look c).name) v ∙ rw (l c (used_left c (c ∷ []) cs (used_one c))) refl)
          (go cs vs (looks_right look (c ∷ []) cs scope (shown s g d u far) l))

  -- ---- a join changes its own alias alone

  field_other : (f : FieldTree) (t n : ℕ) (row : Row) (scope : Scope) (b : List ℕ)
      → ((m : ℕ) → n ≤ m → m < n + field_numbers f s (granted_of g) t → bytes_eq (join_alias m) b ≡ false)
      → with_field f t n row scope b ≡ scope b
  field_other (column c) t n row scope b ne = refl
  field_other (typename name) t n row scope b ne = refl
  field_other no_queries t n row scope b ne = with_alias_other scope (join_alias n) b _ (ne n (omega arith) (omega arith))
  field_other (object r fs) t n row scope b ne = with_alias_other scope (join_alias n) b _ (ne n (omega arith) (omega arith))
  field_other (list o a fs) t n row scope b ne = with_alias_other scope (join_alias n) b _ (ne n (omega arith) (omega arith))
  field_other (by_key u key fs) t n row scope b ne = with_alias_other scope (join_alias n) b _ (ne n (omega arith) (omega arith))
  field_other (aggregate o a ps) t n row scope b ne = with_alias_other scope (join_alias n) b _ (ne n (omega arith) (omega arith))
  field_other (introspect f) t n row scope b ne = with_alias_other scope (join_alias n) b _ (ne n (omega arith) (omega arith))

  fields_other : (fs : FieldTrees) (t n : ℕ) (row : Row) (scope : Scope) (b : List ℕ)
      → ((m : ℕ) → n ≤ m → m < n + fields_numbers fs s (granted_of g) t → bytes_eq (join_alias m) b ≡ false)
      → with_fields fs t n row scope b ≡ scope b
  fields_other no_field t n row scope b ne = refl
  fields_other (field key f fs) t n row scope b ne =
      fields_other fs t (n + field_numbers f s (granted_of g) t) row (with_field f t n row scope) b (λ m h i. ne m (omega arith) (omega arith))
      ∙ field_other f t n row scope b (λ m h i. ne m h (omega arith))

  -- a summary takes a number
  summary_some : (fs : List _) (u : ℕ) (a : ListArguments) → 0 < summary_numbers fs s (granted_of g) u a
  summary_some fs u a =
      let go : (b : Bool) → 0 < cond b (list_numbers s (granted_of g) u (summary_used s u a fs) a) 1 = elim [ true ↦ omega arith | false ↦ omega arith ] in
      go (some_aggregate fs)

  part_other : (p : PartTree) (o : Origin) (t : ℕ) (a : ListArguments) (n : ℕ) (row : Row) (scope : Scope) (b : List ℕ)
      → ((m : ℕ) → n ≤ m → m < n + part_numbers p s (granted_of g) (origin_table o s t) a → bytes_eq (join_alias m) b ≡ false)
      → with_part p o t a n row scope b ≡ scope b
  part_other (summary fs) o t a n row scope b ne = let some = summary_some fs (origin_table o s t) a in with_alias_other scope (join_alias n) b _ (ne n (omega arith) (omega arith))
  part_other (nodes fs) o t a n row scope b ne = with_alias_other scope (join_alias n) b _ (ne n (omega arith) (omega arith))
  part_other (part_typename name) o t a n row scope b ne = refl

  parts_other : (ps : PartTrees) (o : Origin) (t : ℕ) (a : ListArguments) (n : ℕ) (row : Row) (scope : Scope) (b : List ℕ)
      → ((m : ℕ) → n ≤ m → m < n + parts_numbers ps s (granted_of g) (origin_table o s t) a → bytes_eq (join_alias m) b ≡ false)
      → with_parts ps o t a n row scope b ≡ scope b
  parts_other no_part o t a n row scope b ne = refl
  parts_other (part key p ps) o t a n row scope b ne =
      parts_other ps o t a (n + part_numbers p s (granted_of g) (origin_table o s t) a) row (with_part p o t a n row scope) b (λ m h i. ne m (omega arith) (omega arith))
      ∙ part_other p o t a n row scope b (λ m h i. ne m h (omega arith))

  -- ---- values behind the joins

  -- what the join of number n gave is still there behind the later ones
  still : (fs : FieldTrees) (t n m : ℕ) (row : Row) (scope : Scope) (x : NamedRow) → n < m
      → m + fields_numbers fs s (granted_of g) t ≤ 2 ^ 64
      → json_of (cell_named (with_fields fs t m row (with_alias scope (join_alias n) x) (join_alias n)) value_name)
      ≡ json_of (cell_named x value_name)
  still fs t n m row scope x lt bound =
      ap (λ y. json_of (cell_named y value_name))
      (fields_other fs t m row (with_alias scope (join_alias n) x) (join_alias n)
      (λ q h i. join_aliases_differ n q (omega arith) (omega arith))
      ∙ with_alias_same scope (join_alias n) x)

  value_one : (f : FieldTree) (fs : FieldTrees) (look : Look) (t n : ℕ) (scope : Scope) (row : Row) → n + field_numbers f s (granted_of g) t + fields_numbers fs s (granted_of g) t ≤ 2 ^ 64
      → Looks look (field_used f) (with_fields fs t (n + field_numbers f s (granted_of g) t) row (with_field f t n row scope)) (shown s g d t row)
      → json_of (value (field_value f (table s t).columns look n) [] (with_fields fs t (n + field_numbers f s (granted_of g) t) row (with_field f t n row scope))) ≡ given f t row
  value_one (column c) fs look t n scope row bound l = ap json_of (l c (used_one c))
  value_one (typename name) fs look t n scope row bound l = refl
  value_one no_queries fs look t n scope row bound l = still fs t n (n + field_numbers no_queries s (granted_of g) t) row scope [] (omega arith) bound
  value_one (object r gs) fs look t n scope row bound l =
      still fs t n (n + field_numbers (object r gs) s (granted_of g) t) row scope (objects (given_all gs (rel s t r).remote) (related s (seen_by s g d) t r row)) (omega arith) bound
      ∙ object_value (given_all gs (rel s t r).remote) (related s (seen_by s g d) t r row)
  value_one (list o a gs) fs look t n scope row bound l =
      still fs t n (n + field_numbers (list o a gs) s (granted_of g) t) row scope ((value_name, json (given (list o a gs) t row)) ∷ []) (omega arith) bound ∙ one_value (given (list o a gs) t row)
  value_one (by_key u key gs) fs look t n scope row bound l =
      still fs t n (n + field_numbers (by_key u key gs) s (granted_of g) t) row scope
      (objects (given_all gs u) (filter (shows_key (table s u).key key (seen_by s g d) u) (permitted s g d u))) (omega arith) bound
      ∙ object_value (given_all gs u) (filter (shows_key (table s u).key key (seen_by s g d) u) (permitted s g d u))
  value_one (aggregate o a ps) fs look t n scope row bound l =
      still fs t n (n + field_numbers (aggregate o a ps) s (granted_of g) t) row scope
      ((value_name, json (given (aggregate o a ps) t row)) ∷ []) (omega arith) bound
      ∙ one_value (given (aggregate o a ps) t row)
  value_one (introspect f) fs look t n scope row bound l = still fs t n (n + field_numbers (introspect f) s (granted_of g) t) row scope [] (omega arith) bound

  values_all : (fs : FieldTrees) (look : Look) (t n : ℕ) (scope : Scope) (row : Row) → n + fields_numbers fs s (granted_of g) t ≤ 2 ^ 64
      → Looks look (fields_used fs) (with_fields fs t n row scope) (shown s g d t row)
      → members (pairs_of (fields_values fs s (granted_of g) look t n)) [] (with_fields fs t n row scope) ≡ given_all fs t row
  values_all no_field look t n scope row bound l = refl
  values_all (field key f fs) look t n scope row bound l =
      let final : Scope = with_fields (field key f fs) t n row scope in
      ap₂ (member key) (value_one f fs look t n scope row (omega arith) (looks_left look (field_used f) (fields_used fs) final (shown s g d t row) l))
      (values_all fs look t (n + field_numbers f s (granted_of g) t) (with_field f t n row scope) row (omega arith) (looks_right look (field_used f) (fields_used fs) final (shown s g d t row) l))

  still_part : (ps : PartTrees) (o : Origin) (t : ℕ) (a : ListArguments) (n m : ℕ) (row : Row) (scope : Scope) (j : JsonTree) → n < m
      → m + parts_numbers ps s (granted_of g) (origin_table o s t) a ≤ 2 ^ 64
      → json_of (cell_named (with_parts ps o t a m row (with_value n j scope) (join_alias n)) value_name) ≡ j
  still_part ps o t a n m row scope j lt bound =
      ap (λ y. json_of (cell_named y value_name))
      (parts_other ps o t a m row (with_value n j scope) (join_alias n) (λ q h i. join_aliases_differ n q (omega arith) (omega arith))
      ∙ with_alias_same scope (join_alias n) ((value_name, json j) ∷ []))
      ∙ one_value j

  value_part : (p : PartTree) (ps : PartTrees) (o : Origin) (t : ℕ) (a : ListArguments) (n : ℕ) (scope : Scope) (row : Row)
      → n + part_numbers p s (granted_of g) (origin_table o s t) a + parts_numbers ps s (granted_of g) (origin_table o s t) a ≤ 2 ^ 64
      → json_of
      (value (part_value p n) []
      (with_parts ps o t a (n + part_numbers p s (granted_of g) (origin_table o s t) a) row (with_part p o t a n row scope)))
      ≡ given_part p (origin_table o s t) a (start o t row)
  value_part (summary fs) ps o t a n scope row bound =
      let some = summary_some fs (origin_table o s t) a in
      still_part ps o t a n (n + part_numbers (summary fs) s (granted_of g) (origin_table o s t) a) row scope (given_part (summary fs) (origin_table o s t) a (start o t row)) (omega arith) bound
  value_part (nodes fs) ps o t a n scope row bound =
      still_part ps o t a n (n + part_numbers (nodes fs) s (granted_of g) (origin_table o s t) a) row scope (given_part (nodes fs) (origin_table o s t) a (start o t row)) (omega arith) bound
  value_part (part_typename name) ps o t a n scope row bound = refl

  values_parts : (ps : PartTrees) (o : Origin) (t : ℕ) (a : ListArguments) (n : ℕ) (scope : Scope) (row : Row) → n + parts_numbers ps s (granted_of g) (origin_table o s t) a ≤ 2 ^ 64
      → members (pairs_of (parts_values ps s (granted_of g) (origin_table o s t) a n)) [] (with_parts ps o t a n row scope) ≡ given_parts ps (origin_table o s t) a (start o t row)
  values_parts no_part o t a n scope row bound = refl
  values_parts (part key p ps) o t a n scope row bound =
      ap₂ (member key) (value_part p ps o t a n scope row (omega arith))
      (values_parts ps o t a (n + part_numbers p s (granted_of g) (origin_table o s t) a) (with_part p o t a n row scope) row (omega arith))

  module _ (sound : Sound s tables d) where
    -- ---- a list, from its children

    list_gives : (o : Origin) (a : ListArguments) (fs : FieldTrees) (t p n : ℕ) → p < n
        → n
        +
        (list_numbers s (granted_of g) (origin_table o s t) (list_used s (origin_table o s t) a (fields_used fs)) a
        + fields_numbers fs s (granted_of g) (origin_table o s t))
        ≤ 2 ^ 64
        → length (list_sorts s (origin_table o s t) a) ≤ 2 ^ 64
        → Extends s w (fields_joins fs s (granted_of g) (origin_table o s t) n (kids_from s (granted_of g) (origin_table o s t) a fs n))
        (origin_table o s t) n (kids_from s (granted_of g) (origin_table o s t) a fs n)
        (fields_numbers fs s (granted_of g) (origin_table o s t)) (with_fields fs (origin_table o s t) (kids_from s (granted_of g) (origin_table o s t) a fs n))
        → (scope : Scope) (row : Row) → Shows s scope t p row
        → rows_of (list_join s (granted_of g) o t p a fs n (fields_joins fs s (granted_of g) (origin_table o s t) n (kids_from s (granted_of g) (origin_table o s t) a fs n))).select w scope
        ≡ ((value_name, json (given (list o a fs) t row)) ∷ []) ∷ []
    list_gives o a fs t p n lt bound few x scope row shows =
        let u : ℕ = origin_table o s t in
        let more : List ℕ = fields_used fs in
        let cs : List ℕ = list_used s u a more in
        let m : ℕ = children_from s (granted_of g) u cs a n in
        let k : ℕ = fields_numbers fs s (granted_of g) u in
        let F : Row → Scope → Scope = with_fields fs u m in
        let J : List JoinTree = fields_joins fs s (granted_of g) u n m in
        let far_shows = x_shows s tables d sound g u n a more J k F x bound scope in
        let above : (far : Row) → Shows s (X s tables d sound g u n a more J k F x bound scope far) t p row =
        λ far. behind_above s tables d sound u n _ _ _ _ (all s tables d sound g u n a more J k F x bound scope) scope far t p row lt (omega arith) shows in
        list_means s tables d sound g u n a more J k F x bound scope (origin_tie o s t p n) (tied_of o t row)
        (λ far narrow. tie_means o t p n (X s tables d sound g u n a more J k F x bound scope far) row far (above far) (far_shows far narrow))
        (fields_values fs s (granted_of g) (shown_look s (granted_of g) u cs n) u m) (given_all fs u) few
        (λ far narrow. values_all fs (shown_look s (granted_of g) u cs n) u m _ far (omega arith) (x_more s tables d sound g u n a more J k F x bound scope far narrow))
        ∙ ap (λ l. ((value_name, json (arr (elements_of (map (λ far. obj (given_all fs u far)) (selected s (seen_by s g d) u a (grant g u).limit l))))) ∷ []) ∷ []) (start_is o t row)

    -- ---- a first row, from its children

    -- its masks, and then its children
    abbrev with_first : (u : ℕ) → (used : List ℕ) → FieldTrees → (n : ℕ) → Row → Scope → Scope
    with_first u cs fs n far e = with_fields fs u (behind_filter s (granted_of g) u cs n) far (behind_masks s tables d sound g u cs n far e)

    first_extends : (u : ℕ) (cs : List ℕ) (fs : FieldTrees) (n : ℕ) → n + (1 + extra s (granted_of g) u cs + filter_numbers s (granted_of g) u + fields_numbers fs s (granted_of g) u) ≤ 2 ^ 64
        → Extends s w (fields_joins fs s (granted_of g) u n (behind_filter s (granted_of g) u cs n)) u n
        (behind_filter s (granted_of g) u cs n) (fields_numbers fs s (granted_of g) u)
        (with_fields fs u (behind_filter s (granted_of g) u cs n))
        → Extends s w (masks s (granted_of g) u cs n ++ fields_joins fs s (granted_of g) u n (behind_filter s (granted_of g) u cs n)) u n
        (n + 1) (extra s (granted_of g) u cs + filter_numbers s (granted_of g) u + fields_numbers fs s (granted_of g) u)
        (with_first u cs fs n)
    first_extends u cs fs n bound x =
        extends_apart s w (masks s (granted_of g) u cs n) (fields_joins fs s (granted_of g) u n (behind_filter s (granted_of g) u cs n)) u n
        (n + 1) (extra s (granted_of g) u cs) (behind_filter s (granted_of g) u cs n) (fields_numbers fs s (granted_of g) u) _
        (behind_masks s tables d sound g u cs n) (with_fields fs u (behind_filter s (granted_of g) u cs n)) (omega arith) (omega arith)
        (masks_at s tables d sound g u n cs (omega arith)) x

    first_looks : (u : ℕ) (cs : List ℕ) (fs : FieldTrees) (n : ℕ) → n + (1 + extra s (granted_of g) u cs + filter_numbers s (granted_of g) u + fields_numbers fs s (granted_of g) u) ≤ 2 ^ 64
        → Extends s w (fields_joins fs s (granted_of g) u n (behind_filter s (granted_of g) u cs n)) u n
        (behind_filter s (granted_of g) u cs n) (fields_numbers fs s (granted_of g) u)
        (with_fields fs u (behind_filter s (granted_of g) u cs n))
        → (scope : Scope) (far : Row) → Narrow s u far → Looks (shown_look s (granted_of g) u cs n) cs (with_first u cs fs n far (at_row s u n scope far)) (shown s g d u far)
    first_looks u cs fs n bound x scope far narrow =
        looks_later s tables d sound g u n cs (fields_joins fs s (granted_of g) u n (behind_filter s (granted_of g) u cs n)) u n
        (behind_filter s (granted_of g) u cs n) (fields_numbers fs s (granted_of g) u)
        (with_fields fs u (behind_filter s (granted_of g) u cs n)) x (omega arith) (omega arith)
        (behind_masks s tables d sound g u cs n far (at_row s u n scope far)) far (shown s g d u far)
        (looks_at s tables d sound g u n cs (at_row s u n scope far) far (omega arith) (shows_row s scope u n far (sound.differ u) narrow))

    first_gives : (u : ℕ) (cs : List ℕ) (fs : FieldTrees) (n : ℕ) (tie : PredTree) (tied : Row → Bool)
        → (bound : n + (1 + extra s (granted_of g) u cs + filter_numbers s (granted_of g) u + fields_numbers fs s (granted_of g) u) ≤ 2 ^ 64)
        →
        (x : Extends s w (fields_joins fs s (granted_of g) u n (behind_filter s (granted_of g) u cs n)) u n
        (behind_filter s (granted_of g) u cs n) (fields_numbers fs s (granted_of g) u)
        (with_fields fs u (behind_filter s (granted_of g) u cs n)))
        → ((e : Scope) (far : Row) → Looks (shown_look s (granted_of g) u cs n) cs e (shown s g d u far) → Looks (shown_look s (granted_of g) u cs n) (fields_used fs) e (shown s g d u far))
        → (scope : Scope) → ((far : Row) → Narrow s u far → is_true (truth_at tie w (behind s tables d sound u n _ _ _ _ (first_extends u cs fs n bound x) scope far)) ≡ tied far)
        → or_null_row
        (rows_of
        (first_select s u n tie (filter_predicate s (granted_of g) u n (filter_from s (granted_of g) u cs n))
        (tree.object
        (pairs_of (fields_values fs s (granted_of g) (shown_look s (granted_of g) u cs n) u (behind_filter s (granted_of g) u cs n))))
        (masks s (granted_of g) u cs n ++ fields_joins fs s (granted_of g) u n (behind_filter s (granted_of g) u cs n)))
        w scope)
        ≡ objects (given_all fs u) (filter tied (permitted s g d u)) ∷ []
    first_gives u cs fs n tie tied bound x within scope means =
        let m : ℕ = behind_filter s (granted_of g) u cs n in
        first_means s tables d sound u n (masks s (granted_of g) u cs n ++ fields_joins fs s (granted_of g) u n m) (n + 1) _
        (with_first u cs fs n) (first_extends u cs fs n bound x) g
        (tree.object (pairs_of (fields_values fs s (granted_of g) (shown_look s (granted_of g) u cs n) u m)))
        (λ far. json (obj (given_all fs u far))) scope tie tied (filter_from s (granted_of g) u cs n) (omega arith) (omega arith)
        (λ far narrow. ap (λ z. json (obj z))
        (values_all fs (shown_look s (granted_of g) u cs n) u m (behind_masks s tables d sound g u cs n far (at_row s u n scope far)) far
        (omega arith)
        (within (with_first u cs fs n far (at_row s u n scope far)) far (first_looks u cs fs n bound x scope far narrow))))
        means

    -- ---- an aggregate over a list

    summary_gives : (fs : List _) (o : Origin) (a : ListArguments) (t p n : ℕ) → p < n
        → n + summary_numbers fs s (granted_of g) (origin_table o s t) a ≤ 2 ^ 64 → length (needed fs []) ≤ 2 ^ 64
        → (scope : Scope) (row : Row) → Shows s scope t p row
        → rows_of (summary_select fs s (granted_of g) (origin_table o s t) a n (origin_tie o s t p n)) w scope
        ≡ ((value_name, json (given_part (summary fs) (origin_table o s t) a (start o t row))) ∷ []) ∷ []
    summary_gives fs o a t p n lt bound few scope row shows =
        let u : ℕ = origin_table o s t in
        let tie : PredTree = origin_tie o s t p n in
        let gives : List Row → NamedRow = λ l. (value_name, json (obj (summary_members fs (seen_by s g d) u l))) ∷ [] in
        let go : (b : Bool) → some_aggregate fs ≡ b → n + cond b (list_numbers s (granted_of g) u (summary_used s u a fs) a) 1 ≤ 2 ^ 64
        → rows_of (cond b (folded_select fs s (granted_of g) u a n tie) (plain_select fs s u n)) w scope ≡ gives (selected s (seen_by s g d) u a None (start o t row)) ∷ [] =
        elim [
          | true ↦ λ e size.
              let whole : n + (list_numbers s (granted_of g) u (summary_used s u a fs) a + 0) ≤ 2 ^ 64 = omega arith in
              let x = extends_none s w u n (children_from s (granted_of g) u (summary_used s u a fs) a n) in
              folded_means s tables d sound g u n a fs whole scope tie (tied_of o t row) few
              (λ far narrow. tie_means o t p n _ row far
              (behind_above s tables d sound u n _ _ _ _ (all s tables d sound g u n a (needed fs []) [] 0 (λ r z. z) x whole scope) scope far t p row lt (omega arith) shows)
              (x_shows s tables d sound g u n a (needed fs []) [] 0 (λ r z. z) x whole scope far narrow))
              ∙ ap (λ l. gives (limited l (offset_by a.offset (ordered s (seen_by s g d) u a (filter (tied_of o t row) (permitted s g d u))))) ∷ []) (sym (no_smaller a.limit))
              ∙ ap (λ l. gives (selected s (seen_by s g d) u a None l) ∷ []) (start_is o t row)
          | false ↦ λ e size.
              ap (λ m. ((value_name, json (obj m)) ∷ []) ∷ [])
              (plain_pairs s g d u (table s u).columns n (needed fs []) [] (with_alias scope (table_alias n) ((codes "u", bool true) ∷ [])) (selected s (seen_by s g d) u a None (start o t row)) fs e)
        ] in
        go (some_aggregate fs) refl bound

    -- ---- the induction

    mutual
      pub fields_extend : (fs : FieldTrees) (t p n : ℕ) → p < n → n + fields_numbers fs s (granted_of g) t ≤ 2 ^ 64 → AreFew fs s t
          → Extends s w (fields_joins fs s (granted_of g) t p n) t p n (fields_numbers fs s (granted_of g) t) (with_fields fs t n)
      fields_extend no_field t p n lt bound few = extends_none s w t p n
      fields_extend (field key f fs) t p n lt bound few =
          extends_then s w (field_joins f s (granted_of g) t p n)
          (fields_joins fs s (granted_of g) t p (n + field_numbers f s (granted_of g) t)) t p n (field_numbers f s (granted_of g) t)
          (fields_numbers fs s (granted_of g) t) (with_field f t n) (with_fields fs t (n + field_numbers f s (granted_of g) t))
          (field_extends f t p n lt (omega arith) few.0)
          (fields_extend fs t p (n + field_numbers f s (granted_of g) t) (omega arith) (omega arith) few.1)

      field_extends : (f : FieldTree) (t p n : ℕ) → p < n → n + field_numbers f s (granted_of g) t ≤ 2 ^ 64 → IsFew f s t
          → Extends s w (field_joins f s (granted_of g) t p n) t p n (field_numbers f s (granted_of g) t) (with_field f t n)
      field_extends (column c) t p n lt bound few = extends_none s w t p n
      field_extends (typename name) t p n lt bound few = extends_none s w t p n
      field_extends no_queries t p n lt bound few = extends_one s w (empty_select n) t p n 1 (λ row. []) (omega arith) (λ scope row shows. refl)
      field_extends (object r fs) t p n lt bound few =
          let u : ℕ = (rel s t r).remote in
          let cs : List ℕ = fields_used fs in
          let x = fields_extend fs u n (behind_filter s (granted_of g) u cs n) (omega arith) (omega arith) few in
          let whole = first_extends u cs fs n bound x in
          extends_one s w _ t p n (field_numbers (object r fs) s (granted_of g) t) (λ row. objects (given_all fs u) (related s (seen_by s g d) t r row)) (omega arith)
          (λ scope row shows. first_gives u cs fs n (link s t (rel s t r) p n) (linked_by (rel s t r).pairs row) bound x (λ e far l. l) scope
          (λ far narrow. link_means s w t (rel s t r) p n _ row far (behind_above s tables d sound u n _ _ _ _ whole scope far t p row lt (omega arith) shows)
          (behind_shows s tables d sound u n _ _ _ _ whole scope far narrow)))
      field_extends (list o a fs) t p n lt bound few =
          let u : ℕ = origin_table o s t in
          let x = fields_extend fs u n (kids_from s (granted_of g) u a fs n) (omega arith) (omega arith) few.1 in
          extends_one s w _ t p n (field_numbers (list o a fs) s (granted_of g) t) (λ row. (value_name, json (given (list o a fs) t row)) ∷ []) (omega arith)
          (λ scope row shows. ap or_null_row (list_gives o a fs t p n lt bound few.0 x scope row shows))
      field_extends (by_key u key fs) t p n lt bound few =
          let cs : List ℕ = key_used s u fs in
          let columns : List ℕ = (table s u).key in
          let x = fields_extend fs u n (behind_filter s (granted_of g) u cs n) (omega arith) (omega arith) few in
          extends_one s w _ t p n (field_numbers (by_key u key fs) s (granted_of g) t)
          (λ row. objects (given_all fs u) (filter (shows_key columns key (seen_by s g d) u) (permitted s g d u))) (omega arith)
          (λ scope row shows. first_gives u cs fs n (joined_by_and (key_members (table s u).columns (shown_look s (granted_of g) u cs n) columns key)) (shows_key columns key (seen_by s g d) u) bound x
          (λ e far l. looks_right (shown_look s (granted_of g) u cs n) columns (fields_used fs) e (shown s g d u far) l) scope
          (λ far narrow. key_means u (shown_look s (granted_of g) u cs n) columns key (with_first u cs fs n far (at_row s u n scope far)) far
          (looks_left (shown_look s (granted_of g) u cs n) columns (fields_used fs) (with_first u cs fs n far (at_row s u n scope far))
          (shown s g d u far) (first_looks u cs fs n bound x scope far narrow))))
      field_extends (aggregate o a ps) t p n lt bound few =
          let u : ℕ = origin_table o s t in
          let x = parts_extend ps o t p a (n + 1) (omega arith) (omega arith) few.0 few.1 in
          extends_one s w _ t p n (field_numbers (aggregate o a ps) s (granted_of g) t) (λ row. (value_name, json (given (aggregate o a ps) t row)) ∷ []) (omega arith)
          (λ scope row shows.
          let E : Scope = with_alias scope (table_alias n) ((codes "u", bool true) ∷ []) in
          let outs = value_output (tree.object (pairs_of (parts_values ps s (granted_of g) u a (n + 1)))) in
          ap (λ l. or_null_row (map (outputs outs []) (sort (order_cmp []) (filter (kept tree.no_filter w) (l ++ [])))))
          (goes_last s w x E row (shows_behind s scope t p (table_alias n) row _ (table_aliases_differ p n lt (omega arith)) shows))
          ∙ ap (λ z. ((value_name, json (obj z)) ∷ []) ∷ []) (values_parts ps o t a (n + 1) E row (omega arith)))
      field_extends (introspect f) t p n lt bound few = extends_one s w (empty_select n) t p n 1 (λ row. []) (omega arith) (λ scope row shows. refl)

      parts_extend : (ps : PartTrees) (o : Origin) (t p : ℕ) (a : ListArguments) (n : ℕ) → p < n
          → n + parts_numbers ps s (granted_of g) (origin_table o s t) a ≤ 2 ^ 64 → length (list_sorts s (origin_table o s t) a) ≤ 2 ^ 64
          → AreFewParts ps s (origin_table o s t)
          → Extends s w (parts_joins ps s (granted_of g) o t p a n) t p n (parts_numbers ps s (granted_of g) (origin_table o s t) a) (with_parts ps o t a n)
      parts_extend no_part o t p a n lt bound few more = extends_none s w t p n
      parts_extend (part key q ps) o t p a n lt bound few more =
          let k : ℕ = part_numbers q s (granted_of g) (origin_table o s t) a in
          extends_then s w (part_joins q s (granted_of g) o t p a n) (parts_joins ps s (granted_of g) o t p a (n + k)) t p n k
          (parts_numbers ps s (granted_of g) (origin_table o s t) a) (with_part q o t a n) (with_parts ps o t a (n + k))
          (part_extends q o t p a n lt (omega arith) few more.0)
          (parts_extend ps o t p a (n + k) (omega arith) (omega arith) few more.1)

      part_extends : (q : PartTree) (o : Origin) (t p : ℕ) (a : ListArguments) (n : ℕ) → p < n
          → n + part_numbers q s (granted_of g) (origin_table o s t) a ≤ 2 ^ 64 → length (list_sorts s (origin_table o s t) a) ≤ 2 ^ 64
          → IsFewPart q s (origin_table o s t)
          → Extends s w (part_joins q s (granted_of g) o t p a n) t p n (part_numbers q s (granted_of g) (origin_table o s t) a) (with_part q o t a n)
      part_extends (summary fs) o t p a n lt bound few more =
          let some = summary_some fs (origin_table o s t) a in
          extends_one s w _ t p n (part_numbers (summary fs) s (granted_of g) (origin_table o s t) a)
          (λ row. (value_name, json (given_part (summary fs) (origin_table o s t) a (start o t row))) ∷ []) some
          (λ scope row shows. ap or_null_row (summary_gives fs o a t p n lt bound more scope row shows))
      part_extends (nodes fs) o t p a n lt bound few more =
          let u : ℕ = origin_table o s t in
          let x = fields_extend fs u n (kids_from s (granted_of g) u a fs n) (omega arith) (omega arith) more in
          extends_one s w _ t p n (part_numbers (nodes fs) s (granted_of g) u a) (λ row. (value_name, json (given_part (nodes fs) u a (start o t row))) ∷ []) (omega arith)
          (λ scope row shows. ap or_null_row (list_gives o a fs t p n lt bound few x scope row shows))
      part_extends (part_typename name) o t p a n lt bound few more = extends_none s w t p n

-- ---- the statement

-- no row of a table stands above the root fields
past_end : {A : Type 0} (xs : List A) (beyond : A) → slice_index_or xs (length xs) beyond ≡ beyond
past_end [] beyond = refl
past_end (x ∷ xs) beyond = past_end xs beyond

nothing_shown : (b : Bool) → cell.null ≡ cond b cell.null cell.null
nothing_shown true = refl
nothing_shown false = refl

pub means_resolved : (fs : FieldTrees) (tables : List Table) (meta : MetaTree) (g : Grants) (d : List (List Row)) → MeansResolved fs tables meta g d
unfolding value_name
means_resolved fs tables meta g d catalog database bound few =
    let s : Schema = schema_of tables meta in
    let w : World = record { tables = tables; database = d } in
    let root : NamedRow = (codes "u", bool true) ∷ [] in
    let E : Scope = with_alias nothing (table_alias 0) root in
    let t : ℕ = length s in
    let look : Look = own_look (table s t).columns 0 in
    let shows : Shows s E t 0 [] = λ c. rw (past_end s no_table, with_alias_same nothing (table_alias 0) root) refl in
    let lt : 0 < 1 = omega arith in
    let x = fields_extend s tables d g (sound_of tables meta d catalog database) fs t 0 1 lt bound few in
    let looked : Looks look (fields_used fs) (with_fields s tables d g fs t 1 [] E) (shown s g d t []) = λ c h. shows_kept s w x E [] t 0 [] shows c ∙ nothing_shown _ in
    let outs = value_output (tree.object (pairs_of (fields_values fs s (granted_of g) look t 1))) in
    ap (λ l. first_value (map (outputs outs []) (sort (order_cmp []) (filter (kept tree.no_filter w) (l ++ [])))))
    (goes_last s w x E [] shows)
    ∙ one_value (obj (members (pairs_of (fields_values fs s (granted_of g) look t 1)) [] (with_fields s tables d g fs t 1 [] E)))
    ∙ ap obj (values_all s tables d g fs look t 1 E [] bound looked)
