-- The tables of a copy hold what the role may see of the database's, in the numbers of the copy.
use Rattle.std.proofs.Common.{◌≡◌, ◌∙◌, refl, sym, ap, ℕ, List, [], ◌∷◌, map, slice_index_or, true, false, ◌==◌, Option, Some, None, is_some, option_map, option_and_then, slice_get}
use Rattle.std.specs.List.{list_any}
use Rattle.std.specs.Option.{option_map_or}
use Rattle.std.proofs.lemmas.Bool.{and_from, false≢true}
use Rattle.hq_base.specs.Lists.{Each}
use Rattle.hq_request_tree.specs.Allowed.{Allowed, allowed_to, permitted_columns}
use Rattle.hq_request_tree.specs.Uses.{UsesColumns}
use Rattle.hq_schema_roles.specs.Access.{Access, access_of}
use Rattle.hq_model.specs.Database.{Row}
use Rattle.hq_model.specs.Fits.{fits}
use Rattle.hq_model.specs.Meta.{MetaTree, TrackedTree}
use Rattle.hq_model.specs.Permission.{Permission, permission, role_of}
use Rattle.hq_model.specs.Schema.{Schema, schema_of, table, column, rel, no_column, no_rel}
use Rattle.hq_model.specs.View.{seen_in}
use Rattle.hq_model.specs.declared.meta.Rel.{Rel}
use Rattle.hq_model.specs.declared.role.Role.{Role}
use Rattle.hq_model.specs.declared.session.Session.{Session}
use Rattle.hq_model.specs.declared.table.Column.{Column}
use Rattle.hq_model.specs.declared.table.Table.{Table}
use Rattle.hq_model.proofs.Places.{present}
use Rattle.hq_copy_definition.specs.Extras.{extras_of, extra_column}
use Rattle.hq_copy_definition.specs.Sources.{Source, sources, table_place, place_in}
use Rattle.hq_copy_definition.specs.Tables.{copied_column, copied_columns}
use Rattle.hq_copy_definition.proofs.BySource.{IsSource, by_source}
use Rattle.hq_copy_definition.proofs.Found.{copied_schema, table_at}
use Rattle.hq_copy_definition.proofs.Lists.{each_at, got_front, got_map}
use Rattle.hq_copy_definition.proofs.Places.{place_holds}
use Rattle.hq_laws_copy.specs.Views.Laws.{numbers}
use Rattle.hq_laws_copy.proofs.Views.Copy.{is_copy}
use Rattle.hq_laws_copy.proofs.Views.Numbers.{one_to_one}
use Rattle.hq_laws_copy.proofs.Views.Refused.{NotRefused}
use Rattle.hq_laws_copy.proofs.Fits.Entries.{rels_are}
use Rattle.hq_laws_copy.proofs.Fits.Held.{Held, all_held}
use Rattle.hq_laws_renumbered.specs.Resolving.Renumbering.{Renumbering}
use Rattle.hq_laws_renumbered.specs.Requests.Alike.{TablesAlike}
use Rattle.hq_laws_copy_replies.specs.Requests.Laws.{session_view}

module _ (tables : List Table) (m : MetaTree) (session : Session) (d : List (List Row)) (fit : fits tables m ≡ true)
    (none : NotRefused (role_of session.role) m (schema_of tables m) session.vars (seen_in (session_view tables m session d))) where
  abbrev role : Role
  role = role_of session.role

  abbrev s : Schema
  s = schema_of tables m

  abbrev a : Access
  a = access_of m role

  abbrev ok : Allowed
  ok = allowed_to role m s

  abbrev n : Renumbering
  n = numbers role m s

  abbrev z : Schema
  z = copied_schema role m s

  -- ---- what the schema permits may be used

  column_allowed : (t c : ℕ) → a.column t c ≡ true → ok.column t c ≡ true
  column_allowed t c h = go (permission role m t) h
    where
      go : (o : Option Permission) → option_map_or (λ (p : Permission). list_any (λ e. e == c) p.columns) o false ≡ true → list_any (λ e. e == c) (permitted_columns o) ≡ true
      go None h = absurd (false≢true h)
      go (Some p) h = h

  -- a column is one of a table that is seen
  column_seen : (t c : ℕ) → a.column t c ≡ true → is_some (permission role m t) ≡ true
  column_seen t c h = go (permission role m t) h
    where
      go : (o : Option Permission) → option_map_or (λ (p : Permission). list_any (λ e. e == c) p.columns) o false ≡ true → is_some o ≡ true
      go None h = absurd (false≢true h)
      go (Some p) h = refl

  keyed_allowed : (t : ℕ) (cs : List ℕ) → Each (λ c. a.column t c ≡ true) cs → UsesColumns cs ok t
  keyed_allowed t [] h = tt
  keyed_allowed t (c ∷ cs) h = (column_allowed t c h.0, keyed_allowed t cs h.1)

  -- ---- columns

  type_is : (o : Source) → IsSource role m o → (c : ℕ) → a.column o.entry.table c ≡ true → (column z (n.table o.entry.table) (n.column o.entry.table c)).ty ≡ (column s o.entry.table c).ty
  type_is o is c h =
      let t : ℕ = o.entry.table in
      let cs : List ℕ = o.permission.columns in
      let among : list_any (λ e. e == c) cs ≡ true = sym (ap (λ p. list_any (λ e. e == c) (permitted_columns p)) is.seen) ∙ column_allowed t c h in
      let j : ℕ = place_in cs c in
      let at : slice_get (copied_columns role m s o) j ≡ Some (copied_column s o.permission t c) =
      got_front (map (copied_column s o.permission t) cs) (map extra_column (extras_of role m s o)) j (copied_column s o.permission t c)
      (got_map (copied_column s o.permission t) cs j ∙ ap (option_map (copied_column s o.permission t)) (place_holds cs c among)) in
      ap (λ (w : List Column). (slice_index_or w (n.column t c) no_column).ty) (ap (λ x. x.columns) (table_at role m s (n.table t) o is.place))
      ∙ ap (λ p. (slice_index_or (copied_columns role m s o) (place_in (permitted_columns p) c) no_column).ty) is.seen
      ∙ ap (λ (w : Column). w.ty) (present (copied_columns role m s o) j no_column (copied_column s o.permission t c) at)

  -- ---- relationships

  rel_is : (o : Source) → IsSource role m o → (r : ℕ) (q : Rel) → a.rel o.entry.table r ≡ Some q → (rel s o.entry.table r ≡ q) × (is_some (slice_get (table s o.entry.table).rels r) ≡ true)
  rel_is o is r q h =
      let held : Held tables m role o = each_at (Held tables m role) (sources role m) (table_place (sources role m) o.entry.table) o (all_held tables m role fit) is.place in
      let here : slice_get o.entry.rels r ≡ Some q = sym (ap (option_and_then (λ (k : TrackedTree). slice_get k.rels r)) is.tracked) ∙ h in
      let at : slice_get (table s o.entry.table).rels r ≡ Some q = ap (λ l. slice_get l r) (rels_are tables m role fit o held) ∙ here in
      (present (table s o.entry.table).rels r no_rel q at, ap is_some at)

  leads_is : (o : Source) → IsSource role m o → (r : ℕ) (q : Rel) → a.rel o.entry.table r ≡ Some q → a.seen q.remote ≡ true
      → ((rel s o.entry.table r).remote ≡ q.remote) × ((rel z (n.table o.entry.table) (n.relationship o.entry.table r)).remote ≡ n.table q.remote)
  leads_is o is r q h seen =
      let found = rel_is o is r q h in
      let remote : (rel s o.entry.table r).remote ≡ q.remote = ap (λ (x : Rel). x.remote) found.0 in
      let allowed : ok.relationship o.entry.table r ≡ true =
      and_from (is_some (slice_get (table s o.entry.table).rels r)) (is_some (permission role m (rel s o.entry.table r).remote)) found.1 (ap (λ u. is_some (permission role m u)) remote ∙ seen) in
      (remote, (is_copy tables m session d fit none).leads o.entry.table r (ap is_some is.seen) allowed ∙ ap n.table remote)

  pub alike : TablesAlike s z n a
  alike = record {
    types = λ t c h. by_source role m (λ u. a.column u c ≡ true → (column z (n.table u) (n.column u c)).ty ≡ (column s u c).ty) (λ o is g. type_is o is c g) t (column_seen t c h) h;
    columns = λ t c e p q same. (one_to_one role m s).columns t c e (column_allowed t c p) (column_allowed t e q) same;
    leads = λ t r q seen h far.
        by_source role m
        (λ u. a.rel u r ≡ Some q → ((rel s u r).remote ≡ q.remote) × ((rel z (n.table u) (n.relationship u r)).remote ≡ n.table q.remote))
        (λ o is g. leads_is o is r q g far) t seen h;
    keys = λ t seen keyed. (is_copy tables m session d fit none).keys t seen (keyed_allowed t (table s t).key keyed);
  }
