-- The relationships of the tracked tables are read.
use Rattle.std.proofs.Common.{◌≡◌, ◌∙◌, ℕ, nat_lt, ◌&&◌, ◌++◌, List, [], ◌∷◌, length, map, filter, zip, Bool, true, false, cond, not, Some, Ok, slice_get, is_some, bytes_eq, codes, refl, sym, ap, arith, ltb-true}
use Rattle.std.specs.List.{list_all}
use Rattle.std.proofs.lemmas.Bool.{and_parts}
use Rattle.hq_base.specs.Due.{and_then, mapped}
use Rattle.hq_base.specs.Json.{JsonTree, str, members_of, elements_of}
use Rattle.hq_base.specs.Lists.{Each, Ascends, sort}
use Rattle.hq_base.specs.Look.{element_list, member_list}
use Rattle.hq_base.specs.Path.{member_path}
use Rattle.hq_base.proofs.Lists.{each_filter, each_passes, each_weaken, map_map}
use Rattle.hq_base.proofs.Sorts.{sort_ascending}
use Rattle.hq_load_filter.specs.Each.{each_member}
use Rattle.hq_model.specs.Fits.{objects_first}
use Rattle.hq_model.specs.Meta.{TrackedTree, MetaTree, tracked_table}
use Rattle.hq_model.specs.Names.{is_free_name}
use Rattle.hq_model.specs.declared.meta.Pair.{Pair}
use Rattle.hq_model.specs.declared.meta.Rel.{Rel}
use Rattle.hq_model.specs.declared.table.Column.{Column}
use Rattle.hq_model.specs.declared.table.Table.{Table}
use Rattle.hq_load_meta_tables.specs.Each.{each, each_after}
use Rattle.hq_load_meta_tables.specs.Field.{field_name}
use Rattle.hq_load_meta_tables.specs.Found.{columns_of}
use Rattle.hq_load_meta_tables.specs.Node.{at, object_at, text_at, list_at, free_name_at, member_at, object_member, entries_member}
use Rattle.hq_load_meta_tables.specs.Tracked.{tables_of}
use Rattle.hq_load_meta_tables.specs.declared.field.Field.TheVariants as field
use Rattle.hq_load_meta.specs.Linked.{pair_at, some_pair, pairs_at, by_hand, link_at}
use Rattle.hq_load_meta.specs.Related.{rel_name_at, rel_at, objects_at, rels_at, rels_beside, with_rels, related}
use Rattle.hq_laws_written.specs.Json.Building.{object}
use Rattle.hq_laws_written.specs.Json.ReadBack.{by_name, in_name_order, elements_in_name_order, ordered_inside}
use Rattle.hq_laws_written.proofs.Json.Building.{elements_read, members_inside, members_listed}
use Rattle.hq_laws_written.proofs.Json.Ordered.{by_name_total}
use Rattle.hq_laws_written.specs.Catalog.Written.{name_at}
use Rattle.hq_laws_written.proofs.Catalog.Places.{differ}
use Rattle.hq_laws_written.proofs.Catalog.Shapes.{itself}
use Rattle.hq_laws_written.specs.Metadata.Plain.{IsPlainRel}
use Rattle.hq_laws_written.specs.Metadata.Written.{pair_json, link_json, rel_json, tracked_json}
use Rattle.hq_laws_written.proofs.Metadata.Fitting.{IsPair, IsRel}
use Rattle.hq_laws_written.proofs.Metadata.Lists.{after_back, after_each, each_back, each_both, zip_maps}
use Rattle.hq_laws_written.proofs.Metadata.Named.{bare}
use Rattle.hq_laws_written.proofs.Metadata.Parts.{Apart, remote_back, named_back}

-- ---- pairs

-- the pairs of a mapping, as they are read
pairs_read : (own remote : List Column) (ps : List Pair) → Ascends by_name (map (pair_json own remote) ps)
    → member_list (members_of (sort by_name (ordered_inside (members_of (map (pair_json own remote) ps))))) ≡ map (pair_json own remote) ps
pairs_read own remote ps h =
    members_listed (sort by_name (ordered_inside (members_of (map (pair_json own remote) ps))))
    ∙ ap (sort by_name) (members_inside (map (pair_json own remote) ps) ∙ map_map (λ (m : List ℕ × JsonTree). (m.0, in_name_order m.1)) (pair_json own remote) ps)
    ∙ sort_ascending by_name_total (map (pair_json own remote) ps) h

pair_back : (own remote : List Column) (p : Pair) (path : List ℕ) → differ own ≡ true → differ remote ≡ true → IsPair own remote p
    → pair_at own remote (name_at own p.own) path (str (name_at remote p.remote)) ≡ Ok p
unfolding pair_at text_at
pair_back own remote p path a b is = rw (named_back own p.own path a is.own_there, named_back remote p.remote path b is.remote_there) (rw is.fit refl)

all_pairs : (own remote : List Column) (path : List ℕ) (ps : List Pair) → differ own ≡ true → differ remote ≡ true
    → Each (IsPair own remote) ps → each_member (pair_at own remote) path (map (pair_json own remote) ps) ≡ Ok ps
all_pairs own remote path [] a b h = refl
all_pairs own remote path (p ∷ ps) a b h =
    ap (and_then (λ q. mapped (λ qs. q ∷ qs) (each_member (pair_at own remote) path (map (pair_json own remote) ps)))) (pair_back own remote p (member_path path (name_at own p.own)) a b h.0)
    ∙ ap (mapped (λ qs. p ∷ qs)) (all_pairs own remote path ps a b h.1)

some_there : (own remote : List Column) (path : List ℕ) (ps : List Pair) → nat_lt 0 (length ps) ≡ true → some_pair path (map (pair_json own remote) ps) ≡ Ok tt
some_there own remote path [] h = let none = ltb-true 0 0 h in absurd (omega (arith, none))
some_there own remote path (p ∷ ps) h = refl

-- the pairs of a mapping are read
pairs_back : (own remote : List Column) (path : List ℕ) (ps : List Pair) → differ own ≡ true → differ remote ≡ true → nat_lt 0 (length ps) ≡ true → Each (IsPair own remote) ps
    → Ascends by_name (map (pair_json own remote) ps) → pairs_at own remote path (in_name_order (object (map (pair_json own remote) ps))) ≡ Ok ps
unfolding pairs_at
pairs_back own remote path ps a b some there h =
    rw (pairs_read own remote ps h) (rw (some_there own remote path ps some) (all_pairs own remote path ps a b there))

-- ---- a relationship

name_back : (many : Bool) (path name : List ℕ) → is_free_name name ≡ true → not (many && bytes_eq name (codes "_")) ≡ true → rel_name_at many path (str name) ≡ Ok name
unfolding rel_name_at free_name_at text_at
name_back many path name free other = rw (free, other) refl

module _ (tables : List Table) (h : Apart tables) (all : (t : ℕ) → differ (columns_of tables t) ≡ true) (m : MetaTree) (t : ℕ) where
  -- the pairs and the remote table of a relationship
  link_back : (many : Bool) (r : Rel) (path : List ℕ) (u : Table) → slice_get tables r.remote ≡ Some u → is_some (tracked_table m r.remote) ≡ true → nat_lt 0 (length r.pairs) ≡ true
      → Each (IsPair (columns_of tables t) (columns_of tables r.remote)) r.pairs → Ascends by_name (map (pair_json (columns_of tables t) (columns_of tables r.remote)) r.pairs)
      → link_at tables m t many path
      (in_name_order (object ((field_name field.ManualConfiguration, link_json tables (columns_of tables t) r) ∷ [])))
      ≡ Ok (record { remote = r.remote; pairs = r.pairs })
  unfolding link_at by_hand object_at member_at field_name
  link_back many r path u is_at tracked some there ascending =
      let remote = remote_back tables m r.remote u (at (at path field.ManualConfiguration) field.RemoteTable) h is_at tracked in
      let pairs = pairs_back (columns_of tables t) (columns_of tables r.remote) (at (at path field.ManualConfiguration) field.ColumnMapping) r.pairs (all t) (all r.remote) some there ascending in
      rw remote (rw pairs refl)

  -- a relationship is read
  rel_back : (many : Bool) (r : Rel) (path : List ℕ) (u : Table) → r.many ≡ many → slice_get tables r.remote ≡ Some u → is_some (tracked_table m r.remote) ≡ true → IsRel tables m t r
      → IsPlainRel (columns_of tables t) (columns_of tables r.remote) r → rel_at tables m t many path (in_name_order (rel_json tables (columns_of tables t) r)) ≡ Ok r
  unfolding rel_at object_at member_at object_member field_name
  rel_back many r path u same is_at tracked is plain =
      let name = name_back many (at path field.Name) r.name is.free (ap (λ b. not (b && bytes_eq r.name (codes "_"))) (sym same) ∙ is.other) in
      let link = link_back many r (at path field.Using) u is_at tracked is.some is.pairs plain.ascending in
      rw name (rw link (ap (λ b. Ok (record r { many = b })) (sym same)))

  -- what is needed of a relationship
  pub record IsGood (r : Rel) : Type 0 where
    pub there : (u : Table) × (slice_get tables r.remote ≡ Some u)
    pub tracked : is_some (tracked_table m r.remote) ≡ true
    pub is : IsRel tables m t r
    pub plain : IsPlainRel (columns_of tables t) (columns_of tables r.remote) r

  -- those of one kind are read
  kind_back : (many : Bool) (path : List ℕ) (rs : List Rel) → Each (λ r. r.many ≡ many) rs → Each IsGood rs
      → Each (λ r. (p : List ℕ) → rel_at tables m t many p (in_name_order (rel_json tables (columns_of tables t) r)) ≡ Ok r) rs
  kind_back many path rs kind good =
      each_both (λ (r : Rel). r.many ≡ many) IsGood (λ r. (p : List ℕ) → rel_at tables m t many p (in_name_order (rel_json tables (columns_of tables t) r)) ≡ Ok r)
      (λ r k g p. rel_back many r p g.there.0 k g.there.1 g.tracked g.is g.plain) rs kind good

-- object relationships before array ones are all of them
no_objects : (qs : List Rel) → list_all (λ q. q.many) qs ≡ true → filter (λ q. not q.many) qs ≡ []
no_objects [] h = refl
no_objects (q ∷ qs) h = let p = and_parts q.many (list_all (λ r. r.many) qs) h in rw p.0 (no_objects qs p.1)

all_arrays : (qs : List Rel) → list_all (λ q. q.many) qs ≡ true → filter (λ q. q.many) qs ≡ qs
all_arrays [] h = refl
all_arrays (q ∷ qs) h =
    let p = and_parts q.many (list_all (λ r. r.many) qs) h in
    let later = filter (λ (r : Rel). r.many) qs in
    ap (λ (b : Bool). cond b (q ∷ later) later) p.0 ∙ ap (λ l. q ∷ l) (all_arrays qs p.1)

in_two : (rs : List Rel) → objects_first rs ≡ true → filter (λ r. not r.many) rs ++ filter (λ r. r.many) rs ≡ rs
in_two [] h = refl
in_two (r ∷ rs) h =
    let go : (b : Bool) → cond b (list_all (λ q. q.many) rs) (objects_first rs) ≡ true
    → cond (not b) (r ∷ filter (λ q. not q.many) rs) (filter (λ q. not q.many) rs) ++ cond b (r ∷ filter (λ q. q.many) rs) (filter (λ q. q.many) rs) ≡ r ∷ rs =
    elim [ true ↦ λ e. rw (no_objects rs e, all_arrays rs e) refl | false ↦ λ e. ap (λ l. r ∷ l) (in_two rs e) ] in
    go r.many h

not_true : (b : Bool) → not b ≡ true → b ≡ false
not_true true h = cc
not_true false h = refl

module _ (tables : List Table) (h : Apart tables) (all : (t : ℕ) → differ (columns_of tables t) ≡ true) (m : MetaTree) where
  -- the relationships of an entry are read: object ones, and behind them array ones
  entry_back : (k : TrackedTree) (path : List ℕ) → objects_first k.rels ≡ true → Each (IsGood tables h all m k.table) k.rels
      → rels_at tables m path (k.table, in_name_order (tracked_json tables k)) ≡ Ok k.rels
  unfolding rels_at objects_at entries_member list_at field_name
  entry_back k path ordered good =
      let columns = columns_of tables k.table in
      let objects = filter (λ r. not r.many) k.rels in
      let arrays = filter (λ r. r.many) k.rels in
      let Good = IsGood tables h all m k.table in
      let object_kind = each_weaken (λ (r : Rel). not r.many ≡ true) (λ r. r.many ≡ false) (λ r e. not_true r.many e) objects (each_passes (λ (r : Rel). not r.many) k.rels) in
      let array_kind = each_passes (λ (r : Rel). r.many) k.rels in
      let first : each (rel_at tables m k.table false) (at path field.ObjectRelationships) (element_list (elements_in_name_order (elements_of (map (rel_json tables columns) objects)))) ≡ Ok objects =
      ap (each (rel_at tables m k.table false) (at path field.ObjectRelationships)) (elements_read (rel_json tables columns) objects)
      ∙ each_back (rel_at tables m k.table false) (λ r. in_name_order (rel_json tables columns r)) (λ r. r) (at path field.ObjectRelationships) objects
      (kind_back tables h all m k.table false path objects object_kind (each_filter Good (λ r. not r.many) k.rels good))
      ∙ ap Ok (itself objects) in
      let second : each_after (λ before. rel_at tables m k.table true) (at path field.ArrayRelationships) 0 objects
      (element_list (elements_in_name_order (elements_of (map (rel_json tables columns) arrays))))
      ≡ Ok (objects ++ arrays) =
      ap (each_after (λ before. rel_at tables m k.table true) (at path field.ArrayRelationships) 0 objects) (elements_read (rel_json tables columns) arrays)
      ∙ after_back (λ before. rel_at tables m k.table true) (λ r. in_name_order (rel_json tables columns r)) (λ r. r) (at path field.ArrayRelationships) 0 objects arrays
      (after_each (λ r. (p : List ℕ) → rel_at tables m k.table true p (in_name_order (rel_json tables columns r)) ≡ Ok r) (λ r. r) objects
      arrays (kind_back tables h all m k.table true path arrays array_kind (each_filter Good (λ r. r.many) k.rels good)))
      ∙ ap (λ l. Ok (objects ++ l)) (itself arrays) in
      rw first (second ∙ ap Ok (in_two k.rels ordered))

  -- what is needed of an entry
  abbrev pub IsGoodEntry : TrackedTree → Type 0
  IsGoodEntry k = (objects_first k.rels ≡ true) × Each (IsGood tables h all m k.table) k.rels

  all_related : (ks : List TrackedTree) → Each IsGoodEntry ks → Each (λ k. (p : List ℕ) → rels_at tables m p (k.table, in_name_order (tracked_json tables k)) ≡ Ok k.rels) ks
  all_related [] good = tt
  all_related (k ∷ ks) good = ((λ p. entry_back k p good.0.0 good.0.1), all_related ks good.1)

-- a tracked table without its permissions
abbrev pub without_perms : TrackedTree → TrackedTree
without_perms k = record k { perms = [] }

beside : (ks : List TrackedTree) → rels_beside (map bare ks) (map (λ k. k.rels) ks) ≡ map without_perms ks
beside [] = refl
beside (k ∷ ks) = ap (λ l. without_perms k ∷ l) (beside ks)

same_tables : (ks : List TrackedTree) → map (λ k. k.table) (map bare ks) ≡ map (λ k. k.table) ks
same_tables [] = refl
same_tables (k ∷ ks) = ap (λ l. k.table ∷ l) (same_tables ks)

-- the tables with their names are read with their relationships
pub related_back : (tables : List Table) (h : Apart tables) (all : (t : ℕ) → differ (columns_of tables t) ≡ true) (ks : List TrackedTree) (path : List ℕ)
    → Each (IsGoodEntry tables h all (record { tracked = map bare ks; inherited = [] })) ks
    → related tables path (map (λ k. in_name_order (tracked_json tables k)) ks) (record { tracked = map bare ks; inherited = [] }) ≡ Ok (record { tracked = map without_perms ks; inherited = [] })
unfolding related
related_back tables h all ks path good =
    let m : MetaTree = record { tracked = map bare ks; inherited = [] } in
    let entries : zip (tables_of m) (map (λ k. in_name_order (tracked_json tables k)) ks) ≡ map (λ k. (k.table, in_name_order (tracked_json tables k))) ks =
    ap (λ ts. zip ts (map (λ k. in_name_order (tracked_json tables k)) ks)) (same_tables ks) ∙ zip_maps (λ (k : TrackedTree). k.table) (λ k. in_name_order (tracked_json tables k)) ks in
    let read : each (rels_at tables m) path (zip (tables_of m) (map (λ k. in_name_order (tracked_json tables k)) ks)) ≡ Ok (map (λ k. k.rels) ks) =
    ap (each (rels_at tables m) path) entries
    ∙ each_back (rels_at tables m) (λ k. (k.table, in_name_order (tracked_json tables k))) (λ k. k.rels) path ks (all_related tables h all m ks good) in
    ap (and_then (λ rels. Ok (with_rels m rels))) read ∙ ap (λ l. Ok (record m { tracked = l })) (beside ks)
