-- Conjuncts of a filter or a mask, in a database and in the same one in key order.
use Rattle.std.proofs.Common.{◌≡◌, ℕ, ◌+◌, ◌≤◌, ◌^◌, List, [], ◌∷◌, map, Bool, true, false, ◌&&◌, ◌||◌, bytes_eq, refl, sym, ap, ap₂, ◌∙◌, arith}
use Rattle.std.specs.List.{list_all, list_any}
use Rattle.std.proofs.lemmas.Bool.{and_parts}
use Rattle.hq_base.proofs.Lists.{any_map_of}
use Rattle.hq_base.proofs.Sorts.{sort_any}
use Rattle.hq_model.specs.Bexp.{BexpTree}
use Rattle.hq_model.specs.Database.{Row}
use Rattle.hq_model.specs.Logic.{is_true, truth_of, not3, and3, or3}
use Rattle.hq_model.specs.Permitted.{columns_cmp, by_key}
use Rattle.hq_model.specs.Schema.{Schema, table}
use Rattle.hq_model.specs.Seen.{all_of, table_rows}
use Rattle.hq_model.specs.Truth.{keeps}
use Rattle.hq_model.specs.declared.table.Table.{Table}
use Rattle.hq_sql_tree.specs.Tree as tree
use Rattle.hq_sql_tree.specs.Tree.{SelectTree, FilterTree, PredTree, PredTrees}
use Rattle.hq_sql_tree.specs.Meaning.{NamedRow, Scope, with_alias, nothing, World, named_row, rows_named, has_rows, rows_of, kept, truth_at, all_true, any_true}
use Rattle.hq_translation.specs.Names.{table_alias}
use Rattle.hq_translation.specs.Predicates.{own_numbers, own_predicate}
use Rattle.hq_translation.proofs.Names.{same_text, Narrow, shows_row}
use Rattle.hq_translation.proofs.Predicates.{own_means}
use Rattle.hq_translation.proofs.Sound.{Sound}
use Rattle.hq_confine_rules.specs.Conjuncts.{opened, conjuncts}
use Rattle.hq_confine_rules.specs.Members.{is_written, is_one_of, stand_among}
use Rattle.hq_confine_rules.specs.Origins.{table_place}
use Rattle.hq_confine_rules.specs.Renamed.{Renaming, is_bare, same_table, beside, are_alike_outs, is_alike, are_alike, is_alike_select, is_alike_filter}
use Rattle.hq_confine_rules.proofs.Alike.{truth_alike, is_so, true_opened, kept_conjuncts, bare_rows, bare_select, any_alike}
use Rattle.hq_confine_rules.proofs.Permitted.{related}
use Rattle.hq_laws_confine.proofs.Meaning.Lists.{bool_same}
use Rattle.hq_laws_confine.proofs.Meaning.Tables.{keyed, file_world, key_world}

-- what is used of a database of a catalog
pub record Base (s : Schema) (tables : List Table) (d : List (List Row)) : Type 0 where
  pub sound : Sound s tables d
  pub rows : (schema name : List ℕ) → rows_named tables d schema name ≡ map (named_row (table s (table_place s schema name)).columns) (table_rows d (table_place s schema name))
  pub in_order : (schema name : List ℕ) → rows_named tables (keyed s d) schema name ≡ map (named_row (table s (table_place s schema name)).columns) (by_key s d (table_place s schema name))

module _ (s : Schema) (tables : List Table) (d : List (List Row)) (base : Base s tables d) where
  abbrev File : World
  File = file_world tables d

  abbrev Keys : World
  Keys = key_world s tables d

  -- some row passes, in file order and in key order
  any_row : (p : NamedRow → Bool) (schema name : List ℕ) → list_any p (rows_named tables (keyed s d) schema name) ≡ list_any p (rows_named tables d schema name)
  any_row p schema name =
      let t : ℕ = table_place s schema name in
      let N : Row → NamedRow = named_row (table s t).columns in
      ap (list_any p) (base.in_order schema name) ∙ any_map_of p N (by_key s d t) ∙ sort_any (columns_cmp (table s t).key) (λ row. p (N row)) (table_rows d t)
      ∙ sym (any_map_of p N (table_rows d t)) ∙ sym (ap (list_any p) (base.rows schema name))

  -- ---- conditions that equal others up to the aliases inside EXISTS do not see the order of rows

  mutual
    pub truth_keyed : (p q : PredTree) (r : Renaming) → is_alike r p q ≡ true → (x : Scope) → truth_at q Keys x ≡ truth_at q File x
    truth_keyed tree.always tree.always r k x = refl
    truth_keyed tree.never tree.never r k x = refl
    truth_keyed (tree.test v t es) (tree.test w u fs) r k x = refl
    truth_keyed (tree.negation p) (tree.negation q) r k x = ap not3 (truth_keyed p q r k x)
    truth_keyed (tree.all_of ps) (tree.all_of qs) r k x = all_keyed ps qs r k x
    truth_keyed (tree.any_of ps) (tree.any_of qs) r k x = any_keyed ps qs r k x
    truth_keyed (tree.exists q) (tree.exists u) r k x = ap truth_of (has_keyed q u r k x)
    truth_keyed _ _ r k x = cc

    all_keyed : (ps qs : PredTrees) (r : Renaming) → are_alike r ps qs ≡ true → (x : Scope) → all_true qs Keys x ≡ all_true qs File x
    all_keyed tree.no_pred tree.no_pred r k x = refl
    all_keyed (tree.pred p ps) (tree.pred q qs) r k x = let parts = and_parts (is_alike r p q) (are_alike r ps qs) k in ap₂ and3 (truth_keyed p q r parts.0 x) (all_keyed ps qs r parts.1 x)
    all_keyed _ _ r k x = cc

    any_keyed : (ps qs : PredTrees) (r : Renaming) → are_alike r ps qs ≡ true → (x : Scope) → any_true qs Keys x ≡ any_true qs File x
    any_keyed tree.no_pred tree.no_pred r k x = refl
    any_keyed (tree.pred p ps) (tree.pred q qs) r k x = let parts = and_parts (is_alike r p q) (are_alike r ps qs) k in ap₂ or3 (truth_keyed p q r parts.0 x) (any_keyed ps qs r parts.1 x)
    any_keyed _ _ r k x = cc

    has_keyed : (q u : SelectTree) (r : Renaming) → is_alike_select r q u ≡ true → (x : Scope) → has_rows (rows_of u Keys x) ≡ has_rows (rows_of u File x)
    has_keyed (tree.rows distinct outs (tree.table schema name alias) joins condition keys limit offset)
        (tree.rows other_distinct other_outs (tree.table other_schema other_name other_alias) other_joins other_condition other_keys
        other_limit other_offset)
        r k x =
        let within : Renaming = (alias, other_alias) ∷ r in
        let one : Bool = is_bare distinct joins keys limit offset in
        let two : Bool = is_bare other_distinct other_joins other_keys other_limit other_offset in
        let last = and_parts (one && two && (bytes_eq schema other_schema && bytes_eq name other_name) && are_alike_outs within outs other_outs) (is_alike_filter within condition other_condition) k in
        let before = and_parts (one && two && (bytes_eq schema other_schema && bytes_eq name other_name)) (are_alike_outs within outs other_outs) last.0 in
        let bare = and_parts one two (and_parts (one && two) (bytes_eq schema other_schema && bytes_eq name other_name) before.0).0 in
        let select : SelectTree = tree.rows other_distinct other_outs (tree.table other_schema other_name other_alias) other_joins other_condition other_keys other_limit other_offset in
        let is = bare_select other_distinct other_outs (tree.table other_schema other_name other_alias) other_joins other_condition other_keys other_limit other_offset bare.1 in
        let each : (row : NamedRow) → kept other_condition Keys (with_alias x other_alias row) ≡ kept other_condition File (with_alias x other_alias row) =
        λ row. kept_keyed condition other_condition within last.1 (with_alias x other_alias row) in
        ap (λ u. has_rows (rows_of u Keys x)) is ∙ bare_rows Keys x other_schema other_name other_alias other_outs other_condition
        ∙ any_alike (λ row. kept other_condition Keys (with_alias x other_alias row))
        (λ row. kept other_condition File (with_alias x other_alias row)) each (rows_named tables (keyed s d) other_schema other_name)
        ∙ any_row (λ row. kept other_condition File (with_alias x other_alias row)) other_schema other_name
        ∙ sym (ap (λ u. has_rows (rows_of u File x)) is ∙ bare_rows File x other_schema other_name other_alias other_outs other_condition)
    has_keyed (tree.rows distinct outs from joins condition keys limit offset) (tree.rows other_distinct other_outs other_from other_joins other_condition other_keys other_limit other_offset) r k x =
        let from_one =
        and_parts (is_bare distinct joins keys limit offset && is_bare other_distinct other_joins other_keys other_limit other_offset)
        (same_table from other_from) (and_parts
        (is_bare distinct joins keys limit offset && is_bare other_distinct other_joins other_keys other_limit other_offset
        && same_table from other_from)
        (are_alike_outs (beside r from other_from) outs other_outs)
        (and_parts (is_bare distinct joins keys limit offset && is_bare other_distinct other_joins other_keys other_limit other_offset && same_table from other_from
        && are_alike_outs (beside r from other_from) outs other_outs) (is_alike_filter (beside r from other_from) condition other_condition) k).0).0
        in
        absurd (let no = from_one.1 in cc)
    has_keyed _ _ r k x = cc

    kept_keyed : (c o : FilterTree) (r : Renaming) → is_alike_filter r c o ≡ true → (x : Scope) → kept o Keys x ≡ kept o File x
    kept_keyed tree.no_filter tree.no_filter r k x = refl
    kept_keyed (tree.filter p) (tree.filter q) r k x = ap is_true (truth_keyed p q r k x)
    kept_keyed _ _ r k x = cc

  -- one of these conjuncts does not see the order of rows
  pub one_keyed : (owns : List PredTree) (alias : List ℕ) (p : PredTree) → is_one_of owns alias p ≡ true → (x : Scope) → is_so Keys x p ≡ is_so File x p
  one_keyed [] alias p k x = cc
  one_keyed (own ∷ owns) alias p k x =
      let go : (b : Bool) → is_written alias own p ≡ b → (b || is_one_of owns alias p) ≡ true → is_so Keys x p ≡ is_so File x p =
      elim [ true ↦ λ e h. ap is_true (truth_keyed own p ((table_alias 0, alias) ∷ []) e x) | false ↦ λ e h. one_keyed owns alias p h x ] in
      go (is_written alias own p) refl k

  -- ---- conjuncts at a row

  module _ (b : BexpTree) (t : ℕ) (bound : 1 + own_numbers b s t ≤ 2 ^ 64) (alias : List ℕ) (row : Row) (narrow : Narrow s t row) (x : Scope) (at : x alias ≡ named_row (table s t).columns row) where
    abbrev owns : List PredTree
    owns = opened (own_predicate b s t 0 1)

    abbrev start : Scope
    start = with_alias nothing (table_alias 0) (named_row (table s t).columns row)

    own_start : start (table_alias 0) ≡ x alias
    own_start = rw (same_text (table_alias 0)) (sym at)

    -- all of them are true exactly where the condition is
    starts : list_all (is_so File start) owns ≡ keeps b s (all_of s d) t row
    starts = sym (true_opened (own_predicate b s t 0 1) File start) ∙ own_means s tables d base.sound b t 0 1 start row (omega arith) bound (shows_row s nothing t 0 row (base.sound.differ t) narrow)

    -- one of them at the alias is as it is at the row
    written_so : (own p : PredTree) → is_written alias own p ≡ true → is_so Keys x p ≡ is_so File start own
    written_so own p k = ap is_true (truth_keyed own p ((table_alias 0, alias) ∷ []) k x ∙ sym (truth_alike own p ((table_alias 0, alias) ∷ []) k File start x (related File x start alias own_start)))

    one_so : (os : List PredTree) → list_all (is_so File start) os ≡ true → (p : PredTree) → is_one_of os alias p ≡ true → is_so Keys x p ≡ true
    one_so [] h p k = cc
    one_so (own ∷ os) h p k =
        let parts = and_parts (is_so File start own) (list_all (is_so File start) os) h in
        let go : (c : Bool) → is_written alias own p ≡ c → (c || is_one_of os alias p) ≡ true → is_so Keys x p ≡ true =
        elim [ true ↦ λ e f. written_so own p e ∙ parts.0 | false ↦ λ e f. one_so os parts.1 p f ] in
        go (is_written alias own p) refl k

    -- where the condition is true of the row, each of its conjuncts is at the alias
    pub kept_one : keeps b s (all_of s d) t row ≡ true → (p : PredTree) → is_one_of owns alias p ≡ true → is_so Keys x p ≡ true
    kept_one h p k = one_so owns (starts ∙ h) p k

    found_so : (own : PredTree) (all : List PredTree) → list_any (is_written alias own) all ≡ true → list_all (is_so Keys x) all ≡ true → is_so File start own ≡ true
    found_so own [] f h = cc
    found_so own (p ∷ all) f h =
        let parts = and_parts (is_so Keys x p) (list_all (is_so Keys x) all) h in
        let go : (c : Bool) → is_written alias own p ≡ c → (c || list_any (is_written alias own) all) ≡ true → is_so File start own ≡ true =
        elim [ true ↦ λ e g. sym (written_so own p e) ∙ parts.0 | false ↦ λ e g. found_so own all g parts.1 ] in
        go (is_written alias own p) refl f

    all_found : (all os : List PredTree) → stand_among all os alias ≡ true → list_all (is_so Keys x) all ≡ true → list_all (is_so File start) os ≡ true
    all_found all [] f h = refl
    all_found all (own ∷ os) f h =
        let parts = and_parts (list_any (is_written alias own) all) (stand_among all os alias) f in
        let here : is_so File start own ≡ true = found_so own all parts.0 h in
        rw here (all_found all os parts.1 h)

    -- where all conjuncts are true at the alias, and those of the condition stand among them, it is true of the row
    pub all_keep : (all : List PredTree) → stand_among all owns alias ≡ true → list_all (is_so Keys x) all ≡ true → keeps b s (all_of s d) t row ≡ true
    all_keep all f h = sym starts ∙ all_found all owns f h

    each_one : (ps : List PredTree) → keeps b s (all_of s d) t row ≡ true → list_all (is_one_of owns alias) ps ≡ true → list_all (is_so Keys x) ps ≡ true
    each_one [] h k = refl
    each_one (p ∷ ps) h k =
        let parts = and_parts (is_one_of owns alias p) (list_all (is_one_of owns alias) ps) k in
        let here : is_so Keys x p ≡ true = kept_one h p parts.0 in
        rw here (each_one ps h parts.1)

    -- exactly its conjuncts are true exactly where it is
    pub exactly : (c : FilterTree) → stand_among (conjuncts c) owns alias ≡ true → list_all (is_one_of owns alias) (conjuncts c) ≡ true → kept c Keys x ≡ keeps b s (all_of s d) t row
    exactly c f k =
        kept_conjuncts c Keys x
        ∙ bool_same (list_all (is_so Keys x) (conjuncts c)) (keeps b s (all_of s d) t row) (λ h. all_keep (conjuncts c) f h) (λ h. each_one (conjuncts c) h k)
