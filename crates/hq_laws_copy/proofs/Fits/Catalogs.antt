-- The catalog of a copy is a catalog.
use Rattle.std.proofs.Common.{◌≡◌, ℕ, zero, suc, ◌+◌, ◌*◌, ◌≤◌, ◌<◌, List, [], ◌∷◌, ◌++◌, map, length, Bool, true, false, cond, not, ◌&&◌, ◌||◌, ◌==◌, Option, Some, None, refl, sym, ap, ap₂, ◌∙◌, subst, arith, slice_get, nat_lt, length-append}
use Rattle.std.proofs.lemmas.Bool.{and_parts, and_from, eq-eqb, ne_eqb, lt-ltb, le-leb, ltb-false, leb-true, not-true, false≢true}
use Rattle.std.specs.List.{list_all, list_any}
use Rattle.std.specs.Prelude.{bytes_eq, codes, slice_index_or}
use Rattle.hq_base.specs.Lists.{Each, all_differ}
use Rattle.hq_base.specs.Types.{is_ordered}
use Rattle.hq_base.proofs.Lists.{each_weaken, each_all}
use Rattle.hq_model.specs.Catalog.{full_name, is_key_column, is_catalog, is_catalog_name, is_table}
use Rattle.hq_model.specs.Fits.{fits}
use Rattle.hq_model.specs.Laws.{HasColumn}
use Rattle.hq_model.specs.Meta.{MetaTree}
use Rattle.hq_model.specs.Permission.{Permission}
use Rattle.hq_model.specs.Schema.{Schema, SchemaTable, schema_of, schema_table, table, column, no_column}
use Rattle.hq_model.specs.Seen.{Sees}
use Rattle.hq_model.specs.declared.role.Role.{Role}
use Rattle.hq_model.specs.declared.session.Var.{Var}
use Rattle.hq_model.specs.declared.table.Column.{Column}
use Rattle.hq_model.specs.declared.table.Table.{Table}
use Rattle.hq_model.proofs.Places.{present}
use Rattle.hq_copy_definition.specs.Extras.{Extra, row_position, ends_of, extras_of, extra_name, extra_column}
use Rattle.hq_copy_definition.specs.Refusals.{is_kept_name, own_name_refusal, masked_key_refusal, width_refusal}
use Rattle.hq_copy_definition.specs.Sources.{Source, sources, table_place, place_in, kept_relationships, keeps_key, has_mask, links}
use Rattle.hq_copy_definition.specs.Tables.{copied_column, copied_columns, copied_key, copied_table, copied_tables}
use Rattle.hq_copy_definition.proofs.Places.{place_holds}
use Rattle.hq_laws_copy.proofs.Views.Refused.{NotRefused, not_refused}
use Rattle.hq_laws_copy.proofs.Fits.Columns.{column_there, column_at, extra_at, position_at}
use Rattle.hq_laws_copy.proofs.Fits.Extras.{extras_apart, extras_within, links_length, links_short}
use Rattle.hq_laws_copy.proofs.Fits.Held.{Held, columns_apart, tables_differ, all_held}
use Rattle.hq_laws_copy.proofs.Fits.Unkept.{unkept_names}
use Rattle.hq_laws_copy.proofs.Fits.Texts.{Small, number_of, one_extra, unkept_differs, extras_differ, extra_catalog_name}
use Rattle.hq_copy_definition.proofs.Apart.{Apart, differ_apart, apart_differ, apart_append, apart_map, apart_on, at_most}
use Rattle.hq_copy_definition.proofs.Found.{schema_long}
use Rattle.hq_copy_definition.proofs.Lists.{each_map, each_append, each_at, map_length, each_none, each_of, all_each, each_both}
use Rattle.hq_laws_copy.proofs.Fits.Texts.{bytes_turn}

-- items at different places differ, where all do
module _ {A : Type 0} (same : A → A → Bool) (turn : (x y : A) → same x y ≡ false → same y x ≡ false) where
  apart_at : (xs : List A) → Apart same xs → (i j : ℕ) (x y : A) → slice_get xs i ≡ Some x → slice_get xs j ≡ Some y → (i == j) ≡ false → same x y ≡ false
  apart_at [] h i j x y a b e = cc
  apart_at (z ∷ zs) h zero zero x y a b e = absurd (false≢true (sym e))
  apart_at (z ∷ zs) h zero (suc j) x y a b e = let is : z ≡ x = cc in subst (λ w. same w y ≡ false) is (each_at (λ w. same z w ≡ false) zs j y h.0 b)
  apart_at (z ∷ zs) h (suc i) zero x y a b e = let is : z ≡ y = cc in turn y x (subst (λ w. same w x ≡ false) is (each_at (λ w. same z w ≡ false) zs i x h.0 a))
  apart_at (z ∷ zs) h (suc i) (suc j) x y a b e = apart_at zs h.1 i j x y a b (ne_eqb i j (λ g. false≢true (sym e ∙ eq-eqb (suc i) (suc j) (ap suc g))))

-- ---- the parts of a table of the catalog

pub record TableParts (t : SchemaTable) : Type 0 where
  pub schema : is_catalog_name t.schema ≡ true
  pub name : is_catalog_name t.name ≡ true
  pub named : Each (λ c. is_catalog_name c.name ≡ true) t.columns
  pub differ : Apart (λ (c d : Column). bytes_eq c.name d.name) t.columns
  pub key : nat_lt 0 (length t.key) ≡ true
  pub once : Apart (λ c d. c == d) t.key
  pub holds : Each (λ c. is_key_column (slice_get t.columns c) ≡ true) t.key

table_parts : (tables : List Table) (m : MetaTree) (u : ℕ) (t : Table) → is_table tables t ≡ true → TableParts (schema_table m u t)
table_parts tables m u t h =
    let foreign = and_parts _ _ h in
    let holds = and_parts _ _ foreign.0 in
    let once = and_parts _ _ holds.0 in
    let key = and_parts _ _ once.0 in
    let differ = and_parts _ _ key.0 in
    let named = and_parts _ _ differ.0 in
    let most = and_parts _ _ named.0 in
    let some = and_parts _ _ most.0 in
    let name = and_parts _ _ some.0 in record {
      schema = name.0;
      name = name.1;
      named = each_of (λ (c : Column). is_catalog_name c.name) t.columns named.1;
      differ = differ_apart (λ (c d : Column). bytes_eq c.name d.name) t.columns differ.1;
      key = key.1;
      once = differ_apart (λ c d. c == d) t.key once.1;
      holds = each_of (λ c. is_key_column (slice_get t.columns c)) t.key holds.1;
    }

-- the places of different numbers in a list differ
places_apart : (ns : List ℕ) (c d : ℕ) → list_any (λ m. m == c) ns ≡ true → list_any (λ m. m == d) ns ≡ true → (c == d) ≡ false → (place_in ns c == place_in ns d) ≡ false
places_apart ns c d a b e =
    ne_eqb (place_in ns c) (place_in ns d)
    (λ same. let both : ◌≡◌ {A = Option ℕ} (Some c) (Some d) = sym (place_holds ns c a) ∙ ap (slice_get ns) same ∙ place_holds ns d b in
    let is : c ≡ d = cc in false≢true (sym e ∙ eq-eqb c d is))

module _ (tables : List Table) (m : MetaTree) (role : Role) (whole : is_catalog tables ≡ true) (fit : fits tables m ≡ true) where
  abbrev s : Schema
  s = schema_of tables m

  abbrev os : List Source
  os = sources role m

  parts_are : (o : Source) → Held tables m role o → TableParts (table s o.entry.table)
  parts_are o h =
      let t : ℕ = o.entry.table in
      let all = (and_parts _ _ whole).1 in
      subst TableParts (sym h.table_is) (table_parts tables m t h.origin (each_at (λ x. is_table tables x ≡ true) tables t h.origin (each_of (is_table tables) tables all) h.stands))

  -- there are as few copied tables as tables
  sources_few : length os ≤ 500
  sources_few =
      let numbers : List ℕ = map (λ (o : Source). o.entry.table) os in
      let apart : Apart (λ x y. x == y) numbers = apart_map (λ x y. x == y) (λ (o : Source). o.entry.table) os (tables_differ tables m role fit) in
      let below : Each (λ n. n < length s) numbers =
      each_map (λ n. n < length s) (λ (o : Source). o.entry.table) os
      (each_weaken (Held tables m role) (λ o. o.entry.table < length s) (λ o h. h.entry.there) os (all_held tables m role fit)) in
      let few = at_most (length s) numbers apart below in
      let long = map_length (λ (o : Source). o.entry.table) os in
      let same = schema_long m 0 tables in
      let most = leb-true (length tables) 500 (and_parts _ _ (and_parts _ _ whole).0).0 in
      omega (arith, few, long, same, most)

  -- the full names of copied tables differ
  full_name_is : (o : Source) (h : Held tables m role o) → full_name (copied_table role m s o) ≡ full_name h.origin
  full_name_is o h = ap (λ (x : SchemaTable). x.schema ++ codes "." ++ x.name) h.table_is

  names_apart : Apart (λ (a b : Table). bytes_eq (full_name a) (full_name b)) (copied_tables role m s)
  names_apart =
      let known = differ_apart (λ (a b : Table). bytes_eq (full_name a) (full_name b)) tables (and_parts _ _ (and_parts _ _ whole).0).1 in
      apart_map (λ (a b : Table). bytes_eq (full_name a) (full_name b)) (copied_table role m s) os
      (apart_on (Held tables m role) (λ (a b : Source). a.entry.table == b.entry.table) (λ a b. bytes_eq (full_name (copied_table role m s a)) (full_name (copied_table role m s b)))
      (λ a b h k e. ap₂ bytes_eq (full_name_is a h) (full_name_is b k)
      ∙ apart_at (λ (x y : Table). bytes_eq (full_name x) (full_name y))
      (λ x y g. bytes_turn (full_name x) (full_name y) g) tables known a.entry.table b.entry.table h.origin k.origin h.stands k.stands e)
      os (all_held tables m role fit) (tables_differ tables m role fit))

  module _ (vars : List Var) (S : Sees ℕ) (none : NotRefused role m s vars S) where
    -- numbers of links are small
    wide_enough : (o : Source) → Held tables m role o → length (copied_columns role m s o) ≤ 200
    wide_enough o h =
        ltb-false 200 _ (not_refused _ _ (each_at (λ o. width_refusal role m s o ≡ None) os (at o) o none.widths h.is.place))
      where
        at : Source → ℕ
        at o = table_place os o.entry.table

    ends_few : (o : Source) → Held tables m role o → length (ends_of role m s o.entry.table) ≤ 200
    ends_few o h =
        let p : Permission = o.permission in
        let t : ℕ = o.entry.table in
        let wide = wide_enough o h in
        let columns = length-append (map (copied_column s p t) p.columns) (map extra_column (extras_of role m s o)) in
        let extras = map_length extra_column (extras_of role m s o) in
        let ends = length-append (ends_of role m s t) (cond (keeps_key p (table s t).key) [] (row_position ∷ [])) in
        omega (arith, wide, columns, extras, ends)

    links_few : length (links role m s) ≤ 200 * 500
    links_few =
        let each : Each (λ o. length (map (λ r. record { table = o.entry.table; relationship = r }) (kept_relationships role m s o.entry.table)) ≤ 200) os =
        each_weaken (Held tables m role) _ (λ o h. links_short role m s o (table_place os o.entry.table) h.is.place (ends_few o h)) os (all_held tables m role fit) in
        let many = links_length role m s each in
        let few = sources_few in
        omega (arith, many, few)

    pub numbers_small : (o : Source) → Each (λ e. Small (number_of e)) (extras_of role m s o)
    numbers_small o =
        let few = links_few in
        each_weaken (λ e. number_of e ≤ length (links role m s)) (λ e. Small (number_of e)) (λ e h. omega (arith, h, few)) (extras_of role m s o) (extras_within role m s o)

    -- ---- names

    pub column_named : (o : Source) → Held tables m role o → (c : ℕ) → HasColumn s o.entry.table c → is_catalog_name (column s o.entry.table c).name ≡ true
    column_named o h c a =
        let parts =
        parts_are o h in each_at (λ (x : Column). is_catalog_name x.name ≡ true) (table s o.entry.table).columns c (column s o.entry.table c) parts.named (column_there s o.entry.table c a)

    all_names : (o : Source) → Held tables m role o → list_all (λ (c : Column). is_catalog_name c.name) (copied_columns role m s o) ≡ true
    all_names o h =
        let p : Permission = o.permission in
        let t : ℕ = o.entry.table in
        all_each (λ (c : Column). is_catalog_name c.name) (copied_columns role m s o)
        (each_append (λ (c : Column). is_catalog_name c.name ≡ true) (map (copied_column s p t) p.columns) (map extra_column (extras_of role m s o))
        (each_map (λ (c : Column). is_catalog_name c.name ≡ true) (copied_column s p t) p.columns (each_weaken (HasColumn s t) _ (λ c a. column_named o h c a) p.columns h.allowed.columns))
        (each_map (λ (c : Column). is_catalog_name c.name ≡ true) extra_column (extras_of role m s o)
        (each_weaken (λ e. Small (number_of e)) _ (λ e a. extra_catalog_name e a) (extras_of role m s o) (numbers_small o))))

    pub extra_names_apart : (o : Source) → Apart (λ e f. bytes_eq (extra_name e) (extra_name f)) (extras_of role m s o)
    extra_names_apart o =
        apart_on (λ e. Small (number_of e)) one_extra (λ e f. bytes_eq (extra_name e) (extra_name f)) extras_differ (extras_of role m s o) (numbers_small o) (extras_apart role m s o)

    columns_differ : (o : Source) → Held tables m role o → Apart (λ (c d : Column). bytes_eq c.name d.name) (copied_columns role m s o)
    columns_differ o h =
        let p : Permission = o.permission in
        let t : ℕ = o.entry.table in
        let es : List Extra = extras_of role m s o in
        let parts = parts_are o h in
        let unkept = unkept_names role m s o (each_at (λ o. own_name_refusal role m s o ≡ None) os (table_place os t) o none.names h.is.place) in
        apart_append (λ (c d : Column). bytes_eq c.name d.name) (map (copied_column s p t) p.columns) (map extra_column es)
        (apart_map (λ (c d : Column). bytes_eq c.name d.name) (copied_column s p t) p.columns
        (apart_on (HasColumn s t) (λ c d. c == d) (λ c d. bytes_eq (column s t c).name (column s t d).name)
        (λ c d a b e. apart_at (λ (x y : Column). bytes_eq x.name y.name) (λ x y g. bytes_turn x.name y.name g) (table s t).columns parts.differ c d (column s t c) (column s t d)
        (column_there s t c a) (column_there s t d b) e)
        p.columns h.allowed.columns (columns_apart tables m role o h)))
        (apart_map (λ (c d : Column). bytes_eq c.name d.name) extra_column es (extra_names_apart o))
        (each_map (λ (c : Column). Each (λ (d : Column). bytes_eq c.name d.name ≡ false) (map extra_column es)) (copied_column s p t) p.columns
        (each_weaken (λ c. (is_kept_name (column s t c).name ≡ false) × (is_kept_name (slice_index_or o.entry.column_names c []) ≡ false)) _
        (λ c g. each_map (λ (d : Column). bytes_eq (column s t c).name d.name ≡ false) extra_column es
        (each_all (λ e. bytes_eq (column s t c).name (extra_name e) ≡ false) (λ e. unkept_differs (column s t c).name e g.0) es))
        p.columns unkept.columns))

    -- ---- the key

    record KeyParts (o : Source) (key : List ℕ) : Type 0 where
      some : nat_lt 0 (length key) ≡ true
      differ : all_differ (λ c d. c == d) key ≡ true
      holds : list_all (λ c. is_key_column (slice_get (copied_columns role m s o) c)) key ≡ true

    key_parts : (o : Source) → Held tables m role o → KeyParts o (copied_key role m s o)
    key_parts o h =
        let p : Permission = o.permission in
        let t : ℕ = o.entry.table in
        let key : List ℕ = (table s t).key in
        let cs : List Column = copied_columns role m s o in
        let f : ℕ → ℕ = place_in p.columns in
        let parts = parts_are o h in
        let q : ℕ = length p.columns + length (ends_of role m s t) in
        let refused = not_refused _ _ (each_at (λ o. masked_key_refusal role m s o ≡ None) os (table_place os t) o none.keys h.is.place) in
        let go : (b : Bool) → keeps_key p key ≡ b → KeyParts o (cond b (map f key) (q ∷ [])) =
        elim [
          | true ↦ λ kept.
              let members : Each (λ c. list_any (λ d. d == c) p.columns ≡ true) key = each_of (λ c. list_any (λ d. d == c) p.columns) key kept in
              let plain : Each (λ c. has_mask p c ≡ false) key = each_none (has_mask p) key (sym (ap (λ b. b && list_any (has_mask p) key) kept) ∙ refused) in record {
                some = ap (nat_lt 0) (map_length f key) ∙ parts.key;
                differ = apart_differ (λ c d. c == d) (map f key) (apart_map (λ c d. c == d) f key
                    (apart_on (λ c. list_any (λ d. d == c) p.columns ≡ true) (λ c d. c == d) (λ c d. f c == f d) (places_apart p.columns) key members parts.once));
                holds = all_each (λ c. is_key_column (slice_get cs c)) (map f key) (each_map (λ c. is_key_column (slice_get cs c) ≡ true) f key
                    (each_both (λ c. (list_any (λ d. d == c) p.columns ≡ true) × (has_mask p c ≡ false)) (λ c. is_key_column (slice_get (table s t).columns c) ≡ true)
                    (λ c. is_key_column (slice_get cs (f c)) ≡ true)
                    (λ c a b. ap is_key_column (column_at role m s o c a.0) ∙ still_key o c a.1 b)
                    key (each_both (λ c. list_any (λ d. d == c) p.columns ≡ true) (λ c. has_mask p c ≡ false) _ (λ c a b. (a, b)) key members plain) parts.holds));
              }
          | false ↦ λ lost. record {
            some = refl;
            differ = refl;
            holds = and_from _ _ (ap is_key_column (extra_at role m s o (length (ends_of role m s t)) row_position (position_at role m s o lost))) refl;
          }
        ] in
        go (keeps_key p key) refl
      where
        still_key : (o : Source) (c : ℕ) → has_mask o.permission c ≡ false → is_key_column (slice_get (table s o.entry.table).columns c) ≡ true
            → (not ((column s o.entry.table c).nullable || has_mask o.permission c) && is_ordered (column s o.entry.table c).ty) ≡ true
        still_key o c plain old =
            let go : (w : Option Column) → slice_get (table s o.entry.table).columns c ≡ w → is_key_column w ≡ true
            → (not ((column s o.entry.table c).nullable || has_mask o.permission c) && is_ordered (column s o.entry.table c).ty) ≡ true =
            elim [
              | None ↦ λ e g. absurd (false≢true g)
              | Some x ↦ λ e g.
                  let same : column s o.entry.table c ≡ x = present (table s o.entry.table).columns c no_column x e in
                  let p = and_parts (not x.nullable) (is_ordered x.ty) g in
                  and_from (not ((column s o.entry.table c).nullable || has_mask o.permission c)) (is_ordered (column s o.entry.table c).ty)
                  (ap₂ (λ a b. not (a || b)) (ap (λ (y : Column). y.nullable) same ∙ not-true x.nullable p.0) plain)
                  (ap (λ (y : Column). is_ordered y.ty) same ∙ p.1)
            ] in
            go (slice_get (table s o.entry.table).columns c) refl old

    -- ---- the whole

    some_columns : (o : Source) → Held tables m role o → nat_lt 0 (length (copied_columns role m s o)) ≡ true
    some_columns o h =
        let p : Permission = o.permission in
        let t : ℕ = o.entry.table in
        let first : length p.columns ≡ suc (length h.is.columns.rest) = ap length h.is.columns.columns in
        let long : length (map (copied_column s p t) p.columns) ≡ length p.columns = map_length (copied_column s p t) p.columns in
        lt-ltb 0 _ (omega (arith, first, long, length-append (map (copied_column s p t) p.columns) (map extra_column (extras_of role m s o))))

    table_is_one : (o : Source) → Held tables m role o → is_table (copied_tables role m s) (copied_table role m s o) ≡ true
    table_is_one o h =
        let parts = parts_are o h in
        let key = key_parts o h in
        and_from _ _ (and_from _ _ (and_from _ _ (and_from _ _ (and_from _ _ (and_from _ _ (and_from _ _ (and_from _ _ (and_from _ _
        parts.schema parts.name) (some_columns o h)) (le-leb _ 200 (wide_enough o h))) (all_names o h))
        (apart_differ (λ (c d : Column). bytes_eq c.name d.name) (copied_columns role m s o) (columns_differ o h))) key.some) key.differ) key.holds) refl

    pub catalog_is_one : is_catalog (copied_tables role m s) ≡ true
    catalog_is_one =
        let long = map_length (copied_table role m s) os in
        let few = sources_few in
        and_from _ _ (and_from _ _ (le-leb _ 500 (omega (arith, long, few))) (apart_differ (λ (a b : Table). bytes_eq (full_name a) (full_name b)) (copied_tables role m s) names_apart))
        (all_each (is_table (copied_tables role m s)) (copied_tables role m s) (each_map (λ x. is_table (copied_tables role m s) x ≡ true) (copied_table role m s) os
        (each_weaken (Held tables m role) _ table_is_one os (all_held tables m role fit))))
