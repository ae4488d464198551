-- The relationships that a copy's schema shows, and its types.
use Rattle.std.proofs.Common.{◌≡◌, ℕ, suc, ◌+◌, ◌<◌, List, [], ◌∷◌, ◌++◌, map, length, Bool, true, false, cond, not, ◌==◌, Option, Some, None, refl, sym, ap, ap₂, ◌∙◌, arith, is_some}
use Rattle.std.proofs.lemmas.Bool.{eq-eqb, eqb-true, ne_eqb, false≢true}
use Rattle.std.specs.List.{cons_option, find, list_any}
use Rattle.std.specs.Prelude.{flat_map, option_map, slice_index_or}
use Rattle.hq_base.specs.Lists.{Each}
use Rattle.hq_base.proofs.Lists.{each_weaken}
use Rattle.hq_schema_of_role.specs.Placed.{placed, placed_from, part_count, link_to, link_among, links_from}
use Rattle.hq_schema_of_role.specs.RoleSchema.{types_with, table_types, all_types, schema_over as schema_with, role_schema}
use Rattle.hq_schema_of_role.specs.FixedTypes.{fixed_types}
use Rattle.hq_schema_of_role.specs.Scalars.{scalars_of, behind_scalars, scalar_type}
use Rattle.hq_schema_of_role.specs.Shown.{shown_tables}
use Rattle.hq_schema_of_role.specs.declared.shown.Link.{Link}
use Rattle.hq_schema_of_role.specs.declared.shown.PlacedTable.{PlacedTable}
use Rattle.hq_schema_of_role.specs.declared.shown.ShownTable.{ShownTable}
use Rattle.hq_model.specs.Fits.{fits}
use Rattle.hq_model.specs.Meta.{MetaTree}
use Rattle.hq_model.specs.Permission.{permission}
use Rattle.hq_model.specs.Schema.{Schema, schema_of, table, rel, no_rel}
use Rattle.hq_model.specs.View.{places_from}
use Rattle.hq_model.specs.declared.meta.Rel.{Rel}
use Rattle.hq_model.specs.declared.role.Role.{Role}
use Rattle.hq_model.specs.declared.role.Role.TheVariants.{Named}
use Rattle.hq_model.specs.declared.table.Table.{Table}
use Rattle.hq_copy_definition.specs.Metadata.{reader, copied_rel, copied_meta}
use Rattle.hq_copy_definition.specs.Sources.{sources, table_place, place_in, kept_relationships, keeps_key, has_mask, Source}
use Rattle.hq_copy_definition.specs.Tables.{copied_tables}
use Rattle.hq_laws_copy.proofs.Views.Numbers.{one_to_one}
use Rattle.hq_laws_renumbered.specs.Schemas.SchemaOver.{type_over, schema_over}
use Rattle.hq_laws_copy.proofs.Schemas.Shown.{n, rels_over, IsSeen, shown_seen, tables_are}
use Rattle.hq_laws_copy.proofs.Schemas.Types.{link_over, table_over, placed_over, placed_same, scalar_types_over, scalars_same, types_over, fixed_types_over}
use Rattle.hq_laws_copy.proofs.Fits.Held.{Held}

-- ---- lists

map_joined : {A B : Type 0} (f : A → B) (xs ys : List A) → map f (xs ++ ys) ≡ map f xs ++ map f ys
map_joined f [] ys = refl
map_joined f (x ∷ xs) ys = ap (λ l. f x ∷ l) (map_joined f xs ys)

made_on : {A B C D : Type 0} (P : A → Type 0) (f : A → List C) (g : B → List D) (h : A → B) (k : C → D) → ((x : A) → P x → g (h x) ≡ map k (f x)) → (xs : List A) → Each P xs
    → flat_map g (map h xs) ≡ map k (flat_map f xs)
made_on P f g h k e [] p = refl
made_on P f g h k e (x ∷ xs) p = ap₂ (λ a b. a ++ b) (e x p.0) (made_on P f g h k e xs p.1) ∙ sym (map_joined k (f x) (flat_map f xs))

-- a number that does not stand before has its place behind
place_behind : (front rest : List ℕ) (i : ℕ) → Each (λ r. r < i) front → place_in (front ++ i ∷ rest) i ≡ length front
place_behind [] rest i h = let here : (i == i) ≡ true = eq-eqb i i refl in ap (λ b. cond (not b) (1 + place_in rest i) 0) here
place_behind (r ∷ front) rest i h =
    let less = h.0 in
    let other : (r == i) ≡ false = ne_eqb r i (omega arith) in
    let later = place_behind front rest i h.1 in
    ap (λ b. cond (not b) (1 + place_in (front ++ i ∷ rest) i) 0) other ∙ omega (arith, later)

append_assoc : {A : Type 0} (xs ys zs : List A) → (xs ++ ys) ++ zs ≡ xs ++ (ys ++ zs)
append_assoc [] ys zs = refl
append_assoc (x ∷ xs) ys zs = ap (λ l. x ∷ l) (append_assoc xs ys zs)

length_snoc : {A : Type 0} (xs : List A) (x : A) → length (xs ++ x ∷ []) ≡ length xs + 1
length_snoc [] x = omega arith
length_snoc (y ∷ ys) x = let rest = length_snoc ys x in omega (arith, rest)

each_snoc : {A : Type 0} (P : A → Type 0) (xs : List A) (x : A) → Each P xs → P x → Each P (xs ++ x ∷ [])
each_snoc P [] x h p = (p, tt)
each_snoc P (y ∷ ys) x h p = (h.0, each_snoc P ys x h.1 p)

module _ (tables : List Table) (m : MetaTree) (role : Role) (fit : fits tables m ≡ true) where
  abbrev s : Schema
  s = schema_of tables m

  abbrev seen : ℕ → Bool
  seen t = is_some (permission role m t)

  abbrev over : PlacedTable → PlacedTable
  over = placed_over (n tables m role fit) (rels_over tables m role fit)

  abbrev place : ℕ → ℕ
  place t = table_place (sources role m) t

  -- a placed table of which something is permitted
  abbrev Seen : PlacedTable → Type 0
  Seen p = IsSeen tables m role fit p.shown

  -- a table that is seen is found by its place in the copy
  found_over : (w : ℕ) → seen w ≡ true → (ps : List PlacedTable) → Each Seen ps
      → find (λ (p : PlacedTable). p.shown.table == place w) (map over ps) ≡ option_map over (find (λ (p : PlacedTable). p.shown.table == w) ps)
  found_over w h [] e = refl
  found_over w h (p ∷ ps) e =
      let later = found_over w h ps e.1 in
      let go : (b : Bool) → (p.shown.table == w) ≡ b → cond (place p.shown.table == place w) (Some (over p)) (find (λ (q : PlacedTable). q.shown.table == place w) (map over ps)) ≡ option_map over
      (cond b (Some p) (find (λ (q : PlacedTable). q.shown.table == w) ps)) =
      elim [
        | true ↦ λ f.
            let here : (place p.shown.table == place w) ≡ true = eq-eqb (place p.shown.table) (place w) (ap place (eqb-true p.shown.table w f)) in
            ap (λ b. cond b (Some (over p)) (find (λ (q : PlacedTable). q.shown.table == place w) (map over ps))) here
        | false ↦ λ f.
            let other : (place p.shown.table == place w) ≡ false =
            ne_eqb (place p.shown.table) (place w) (λ same. false≢true (sym f ∙ eq-eqb p.shown.table w ((one_to_one role m s).tables p.shown.table w e.0.0 h same))) in
            ap (λ b. cond b (Some (over p)) (find (λ (q : PlacedTable). q.shown.table == place w) (map over ps))) other ∙ later
      ] in
      go (p.shown.table == w) refl

  -- a table that is not seen is not found
  not_found : (w : ℕ) → seen w ≡ false → (ps : List PlacedTable) → Each Seen ps → find (λ (p : PlacedTable). p.shown.table == w) ps ≡ None
  not_found w h [] e = refl
  not_found w h (p ∷ ps) e =
      let other : (p.shown.table == w) ≡ false = ne_eqb p.shown.table w (λ same. false≢true (sym h ∙ ap seen (sym same) ∙ e.0.0)) in
      ap (λ b. cond b (Some p) (find (λ (q : PlacedTable). q.shown.table == w) ps)) other ∙ not_found w h ps e.1

  module _ (ps : List PlacedTable) (known : Each Seen ps) (t : ℕ) where
    -- a kept relationship is shown under its new number
    link_kept : (i j : ℕ) (x : Rel) → rel s t i ≡ x → seen x.remote ≡ true → (n tables m role fit).relationship t i ≡ j
        → link_among (map over ps) j (copied_rel role m s t i) ≡ option_map (link_over (n tables m role fit) t) (link_among ps i x)
    link_kept i j x is h number =
        let linked : (w : Option PlacedTable) → link_to j (copied_rel role m s t i) (option_map over w) ≡ option_map (link_over (n tables m role fit) t) (link_to i x w) =
        elim [
          | None ↦ refl
          | Some p ↦ ap₂ (λ (y : Rel) k. Some (record { name = y.name; rel = k; many = y.many; aggregates = p.shown.aggregates; first = p.first })) is (sym number)
        ] in
        ap (λ (y : Rel). link_to j (copied_rel role m s t i) (find (λ (p : PlacedTable). p.shown.table == place y.remote) (map over ps))) is
        ∙ ap (link_to j (copied_rel role m s t i)) (found_over x.remote h ps known)
        ∙ linked (find (λ (p : PlacedTable). p.shown.table == x.remote) ps)

    -- the two counters: i runs over all relationships, and as many as stand in front are kept
    links_over : (i : ℕ) (xs : List Rel) (front : List ℕ) → ((k : ℕ) → slice_index_or (table s t).rels (i + k) no_rel ≡ slice_index_or xs k no_rel)
        → kept_relationships role m s t ≡ front ++ places_from (λ (r : Rel). seen r.remote) i xs → Each (λ r. r < i) front
        → links_from (map over ps) (length front) (map (copied_rel role m s t) (places_from (λ (r : Rel). seen r.remote) i xs)) ≡ map (link_over (n tables m role fit) t) (links_from ps i xs)
    links_over i [] front at kept less = refl
    links_over i (x ∷ xs) front at kept less =
        let test : Rel → Bool = λ r. seen r.remote in
        let same : i + 0 ≡ i = omega arith in
        let here : rel s t i ≡ x = ap (λ k. slice_index_or (table s t).rels k no_rel) (sym same) ∙ at 0 in
        let next : (k : ℕ) → slice_index_or (table s t).rels (suc i + k) no_rel ≡ slice_index_or xs k no_rel =
        λ k. let step : suc i + k ≡ i + suc k = omega arith in ap (λ j. slice_index_or (table s t).rels j no_rel) step ∙ at (suc k) in
        let one_more : i + 1 ≡ suc i = omega arith in
        let joined : (o : Option Link) (ls : List Link) → cons_option (option_map (link_over (n tables m role fit) t) o) (map (link_over (n tables m role fit) t) ls) ≡ map
        (link_over (n tables m role fit) t) (cons_option o ls) =
        elim [ None ↦ λ ls. refl | Some l ↦ λ ls. refl ] in
        let later : List Link = links_from ps (i + 1) xs in
        let go : (b : Bool) → test x ≡ b → kept_relationships role m s t ≡ front ++ cond b (i ∷ places_from test (suc i) xs) (places_from test (suc i) xs)
        → links_from (map over ps) (length front) (map (copied_rel role m s t) (cond b (i ∷ places_from test (suc i) xs) (places_from test (suc i) xs)))
        ≡ map (link_over (n tables m role fit) t) (cons_option (link_among ps i x) later) =
        elim [
          | true ↦ λ e k.
              let number : (n tables m role fit).relationship t i ≡ length front = ap (λ l. place_in l i) k ∙ place_behind front (places_from test (suc i) xs) i less in
              let rest = links_over (suc i) xs (front ++ i ∷ []) next (k ∙ sym (append_assoc front (i ∷ []) (places_from test (suc i) xs)))
              (each_snoc (λ r. r < suc i) front i (each_weaken (λ r. r < i) (λ r. r < suc i) (λ r l. omega arith) front less) (omega arith)) in
              ap₂ cons_option (link_kept i (length front) x here e number)
              (ap (λ j. links_from (map over ps) j (map (copied_rel role m s t) (places_from test (suc i) xs))) (sym (length_snoc front i)) ∙ rest
              ∙ ap (λ j. map (link_over (n tables m role fit) t) (links_from ps j xs)) (sym one_more))
              ∙ joined (link_among ps i x) later
          | false ↦ λ e k.
              let none : link_among ps i x ≡ None = ap (link_to i x) (not_found x.remote e ps known) in
              links_over (suc i) xs front next k (each_weaken (λ r. r < i) (λ r. r < suc i) (λ r l. omega arith) front less)
              ∙ ap (λ j. map (link_over (n tables m role fit) t) (links_from ps j xs)) (sym one_more)
              ∙ ap (λ o. map (link_over (n tables m role fit) t) (cons_option o later)) (sym none)
        ] in
        go (test x) refl kept

  -- ---- the whole

  each_placed : (first : ℕ) (xs : List ShownTable) → Each (IsSeen tables m role fit) xs → Each Seen (placed_from first xs)
  each_placed first [] h = tt
  each_placed first (x ∷ xs) h = (h.0, each_placed (first + part_count x) xs h.1)

  table_over_types : (scalars : List (List ℕ)) (ps : List PlacedTable) → Each Seen ps → (p : PlacedTable) → Seen p
      → table_types scalars (map over ps) (over p) ≡ map (type_over (n tables m role fit)) (table_types scalars ps p)
  table_over_types scalars ps known p h =
      let t : ℕ = p.shown.table in
      ap (types_with scalars (over p)) (links_over ps known t 0 (table s t).rels [] (λ k. let zeroth : 0 + k ≡ k = omega arith in ap (λ j. slice_index_or (table s t).rels j no_rel) zeroth) refl tt)
      ∙ types_over (n tables m role fit) (rels_over tables m role fit) scalars p (links_from ps 0 (table s t).rels)
      ∙ ap (λ rels. map (type_over (n tables m role fit)) (types_with scalars p (links_from ps 0 rels))) (sym h.1)

  all_types_over : (scalars : List (List ℕ)) (ps : List PlacedTable) → Each Seen ps → all_types scalars (map over ps) ≡ map (type_over (n tables m role fit)) (all_types scalars ps)
  all_types_over scalars ps known =
      let renumbered = type_over (n tables m role fit) in
      ap₂ (λ a b. a ++ b)
      (ap₂ (λ a b. a ++ b) (fixed_types_over (n tables m role fit) (rels_over tables m role fit) ps) (scalar_types_over (n tables m role fit) (rels_over tables m role fit) scalars)
      ∙ sym (map_joined renumbered (fixed_types ps) (map scalar_type scalars)))
      (made_on Seen (table_types scalars ps) (table_types scalars (map over ps)) over renumbered (table_over_types scalars ps known) ps known)
      ∙ sym (map_joined renumbered (fixed_types ps ++ map scalar_type scalars) (flat_map (table_types scalars ps) ps))

  pub schema_is : ((o : Source) → Held tables m role o → keeps_key o.permission (table s o.entry.table).key ≡ true → list_any (has_mask o.permission) (table s o.entry.table).key ≡ false)
      → role_schema (copied_tables role m s) (copied_meta role m s) (Named reader) ≡ schema_over (n tables m role fit) (role_schema tables m role)
  unfolding role_schema
  schema_is unmasked =
      let xs : List ShownTable = shown_tables tables m role in
      let ys : List ShownTable = map (table_over (n tables m role fit) (rels_over tables m role fit)) xs in
      let scalars : List (List ℕ) = scalars_of xs in
      let first : ℕ = behind_scalars scalars in
      let ps : List PlacedTable = placed xs in
      ap (λ (l : List ShownTable). schema_with (scalars_of l) (placed l)) (tables_are tables m role fit unmasked)
      ∙ ap (λ (l : List (List ℕ)). schema_with l (placed_from (behind_scalars l) ys)) (scalars_same (n tables m role fit) (rels_over tables m role fit) xs)
      ∙ ap (schema_with scalars) (placed_same (n tables m role fit) (rels_over tables m role fit) first xs)
      ∙ ap (λ types. record {
        types = types;
        query = (schema_with scalars ps).query;
        type_name = (schema_with scalars ps).type_name;
        introspection = (schema_with scalars ps).introspection;
        conditions = (schema_with scalars ps).conditions;
      })
      (all_types_over scalars ps (each_placed first xs (shown_seen tables m role fit)))
