-- Root fields, in other numbers: they stand at no table.
use Rattle.std.proofs.Common.{◌≡◌, ◌∙◌, refl, sym, ap, subst, ℕ, List, [], map, Bool, true, false, codes, Some, None}
use Rattle.hq_base.specs.Due.{mapped, ◌>>=◌}
use Rattle.hq_base.specs.Lists.{Each}
use Rattle.hq_model.specs.Schema.{Schema}
use Rattle.hq_gql_tree.specs.Selections.{FieldHead}
use Rattle.hq_schema.specs.Schema.{base, TypeTree, SchemaTree}
use Rattle.hq_schema.specs.Schema as schema
use Rattle.hq_schema.specs.declared.origin.FieldOrigin.{FieldOrigin}
use Rattle.hq_schema.specs.declared.origin.FieldOrigin.TheVariants as origin
use Rattle.hq_schema.specs.declared.origin.TypeOrigin.TheVariants as type
use Rattle.hq_schema_of_role.specs.Root.{type_name_field, schema_field, type_field}
use Rattle.hq_schema_roles.specs.Access.{Access}
use Rattle.hq_schema_roles.specs.Leads.{to, where_holds, Reaches, ArgFits, key_target, root_target, root_args}
use Rattle.hq_request_arguments.specs.Context.{Context}
use Rattle.hq_request_arguments.specs.FieldArguments as given
use Rattle.hq_request_arguments.specs.Keys.{key_due}
use Rattle.hq_request_arguments.specs.Plain.{text_due}
use Rattle.hq_request_arguments.specs.Reading.{given_named}
use Rattle.hq_request_build.specs.Asked.{field_by, fields_due}
use Rattle.hq_request_build.specs.Due.{root_due}
use Rattle.hq_request_build.specs.KnownField.{Due, KnownField, known_due}
use Rattle.hq_request_build.specs.Looks.{looks_due}
use Rattle.hq_request_tree.specs.Fields.{FieldTree, field, by_key, introspect}
use Rattle.hq_request_tree.specs.Introspection.{look}
use Rattle.hq_request_coerce.specs.Variables.{VarTree}
use Rattle.hq_request_collect.specs.Tree.{CollectedTrees, no_collected, collected, is_empty}
use Rattle.hq_laws_renumbered.specs.Resolving.Renumbering.{Renumbering, fields_over, field_over as asked_over}
use Rattle.hq_laws_renumbered.specs.Schemas.SchemaOver.{arg_over, field_origin_over, field_over, keyed_table, schema_over}
use Rattle.hq_laws_renumbered.specs.Requests.Alike.{TablesAlike}
use Rattle.hq_laws_renumbered.specs.Requests.OfRole.{At, LooksUp, IsOfRole}
use Rattle.hq_laws_renumbered.proofs.Requests.Found.{Found, own, of_type_name, of_schema, of_type}
use Rattle.hq_laws_renumbered.proofs.Requests.Given.{context, named_given, text_over}
use Rattle.hq_laws_renumbered.proofs.Requests.Introspected.{looks_over}
use Rattle.hq_laws_renumbered.proofs.Requests.Keys.{key_over}
use Rattle.hq_laws_renumbered.proofs.Requests.Known.{argued, known_over}
use Rattle.hq_laws_renumbered.proofs.Requests.Rows.{below_at, asked, Inner, rows_below, listed_over, totalled_over, name_over_below, all_over}
use Rattle.hq_laws_renumbered.proofs.Requests.Steps.{then_over, mapped_over, mapped_same, mapped_itself}

module _ (s z : Schema) (n : Renumbering) (a : Access) (r : SchemaTree) (of_role : IsOfRole s a r) (alike : TablesAlike s z n a) (vars : List VarTree) (root there : ℕ) where
  abbrev c : Context
  c = context vars r s

  abbrev d : Context
  d = context vars (schema_over n r) z

  abbrev types : List TypeTree
  types = r.types

  abbrev over : FieldTree → FieldTree
  over x = asked_over x s n root

  module _ (h : FieldHead) (below : CollectedTrees) (f g : schema.FieldTree) (same : g.ty ≡ f.ty) (v : ℕ) where
    inner : Inner s z n a r of_role alike vars below
    inner = all_over s z n a r of_role alike vars below

    key_root : (u : ℕ) → a.seen u ≡ true → LooksUp s a (origin.RowByKey u) → At types (base f.ty) (type.Rows u) → Each (ArgFits types (key_target a u)) f.args → v ≡ u
        → asked d r.query there h below g (map (arg_over n v) f.args) (origin.RowByKey (n.table u)) ≡ mapped over (asked c r.query root h below f f.args (origin.RowByKey u))
    key_root u seen keyed at args is =
        argued over h.at given.key given.key (λ x. x) (key_due c f.args h.args u) (key_due d (map (arg_over n v) f.args) h.args (n.table u))
        (λ y. field_by c r.query root h (f, y) (below_at c root below f) (origin.RowByKey u))
        (λ y. field_by d r.query there h (g, y) (below_at d there below g) (origin.RowByKey (n.table u)))
        (ap (λ w. key_due d (map (arg_over n w) f.args) h.args (n.table u)) is
        ∙ key_over s z n a r of_role alike vars u seen keyed f.args args h.args ∙ sym (mapped_itself (key_due c f.args h.args u)))
        (λ vs. mapped_over (λ fs. fields_over fs s n u) over (by_key u vs) (by_key (n.table u) vs) (λ fs. refl) (fields_due c (base f.ty) u below) (fields_due d (base g.ty) (n.table u) below)
        (rows_below s z n a r of_role alike vars h below inner r.query root there f g same v u at))

    own_root : (o : FieldOrigin) → Reaches types f.ty (root_target a o) → Each (ArgFits types (root_args a o)) f.args → LooksUp s a o → keyed_table o 0 ≡ v
        → asked d r.query there h below g (map (arg_over n v) f.args) (field_origin_over n 0 o) ≡ mapped over (asked c r.query root h below f f.args o)
    own_root (origin.Rows u) at args keyed is = go (a.seen u) at
      where
        go : (b : Bool) → Reaches types f.ty (where_holds b (to (type.Rows u)))
            → asked d r.query there h below g (map (arg_over n v) f.args) (origin.Rows (n.table u)) ≡ mapped over (asked c r.query root h below f f.args (origin.Rows u))
        go true at = listed_over s z n a r of_role alike vars h below inner r.query root there f g same v u None None refl refl at args
        go false at = absurd at
    own_root (origin.RowsAggregate u) at args keyed is = go (a.aggregates u) at
      where
        go : (b : Bool) → Reaches types f.ty (where_holds b (to (type.Aggregate u)))
            → asked d r.query there h below g (map (arg_over n v) f.args) (origin.RowsAggregate (n.table u)) ≡ mapped over (asked c r.query root h below f f.args (origin.RowsAggregate u))
        go true at = totalled_over s z n a r of_role alike vars h below inner r.query root there f g same v u None None refl refl at args
        go false at = absurd at
    own_root (origin.RowByKey u) at args keyed is = go (a.seen u) refl at
      where
        go : (b : Bool) → a.seen u ≡ b → Reaches types f.ty (where_holds b (to (type.Rows u)))
            → asked d r.query there h below g (map (arg_over n v) f.args) (origin.RowByKey (n.table u)) ≡ mapped over (asked c r.query root h below f f.args (origin.RowByKey u))
        go true seen at = key_root u seen keyed at args (sym is)
        go false seen at = absurd at
    own_root origin.NoQueries at args keyed is = refl
    own_root o at args keyed is = absurd at

  -- `__schema`, and `__type` with the name of a type
  schema_root : (h : FieldHead) (below : CollectedTrees) → asked d r.query there h below schema_field [] origin.Schema ≡ mapped over (asked c r.query root h below schema_field [] origin.Schema)
  schema_root h below =
      mapped_same over (λ fs. introspect (look h.name None false fs)) (λ fs. introspect (look h.name None false fs)) (λ fs. refl)
      (looks_due c (base schema_field.ty) root below) (looks_due d (base schema_field.ty) there below)
      (looks_over s z n a r of_role alike vars below (base schema_field.ty) root there of_role.schema_plain)

  type_root : (h : FieldHead) (below : CollectedTrees) (v : ℕ)
      → asked d r.query there h below type_field (map (arg_over n v) type_field.args) origin.«Type» ≡ mapped over (asked c r.query root h below type_field type_field.args origin.«Type»)
  type_root h below v =
      argued over h.at given.type_name given.type_name (λ x. x) (text_due (given_named c type_field.args h.args (codes "name")))
      (text_due (given_named d (map (arg_over n v) type_field.args) h.args (codes "name")))
      (λ y. field_by c r.query root h (type_field, y) (below_at c root below type_field) origin.«Type»)
      (λ y. field_by d r.query there h (type_field, y) (below_at d there below type_field) origin.«Type»)
      (ap text_due (named_given n vars r (schema_over n r) s z v type_field.args h.args (codes "name")) ∙ text_over n v (given_named c type_field.args h.args (codes "name"))
      ∙ sym (mapped_itself (text_due (given_named c type_field.args h.args (codes "name")))))
      (λ name. mapped_same over (λ fs. introspect (look h.name (Some name) false fs)) (λ fs. introspect (look h.name (Some name) false fs)) (λ fs. refl) (looks_due c (base type_field.ty) root below)
      (looks_due d (base type_field.ty) there below) (looks_over s z n a r of_role alike vars below (base type_field.ty) root there of_role.type_plain))

  one_root : (h : FieldHead) (below : CollectedTrees) (f : schema.FieldTree) → Found s a r of_role r.query type.Query f
      → asked d r.query there h below (field_over n 0 f) (field_over n 0 f).args (field_over n 0 f).origin ≡ mapped over (asked c r.query root h below f f.args f.origin)
  one_root h below f (own i) = own_root h below f (field_over n 0 f) refl (keyed_table f.origin 0) f.origin i.fits.reaches i.fits.args i.looks_up refl
  one_root h below f (of_type_name is) =
      subst
      (λ (k : schema.FieldTree). asked d r.query there h below (field_over n 0 k) (field_over n 0 k).args (field_over n 0 k).origin
      ≡ mapped over (asked c r.query root h below k k.args k.origin))
      (sym is)
      (name_over_below s z n a r of_role alike vars h below (all_over s z n a r of_role alike vars below) r.query root there type_name_field (field_over n 0 type_name_field) refl 0)
  one_root h below f (of_schema at is) =
      subst
      (λ (k : schema.FieldTree). asked d r.query there h below (field_over n 0 k) (field_over n 0 k).args (field_over n 0 k).origin
      ≡ mapped over (asked c r.query root h below k k.args k.origin))
      (sym is) (schema_root h below)
  one_root h below f (of_type at is) =
      subst
      (λ (k : schema.FieldTree). asked d r.query there h below (field_over n 0 k) (field_over n 0 k).args (field_over n 0 k).origin
      ≡ mapped over (asked c r.query root h below k k.args k.origin))
      (sym is) (type_root h below 0)

  -- all root fields
  pub roots_over : (trees : CollectedTrees) → root_due vars (schema_over n r) z there trees ≡ mapped (λ fs. fields_over fs s n root) (root_due vars r s root trees)
  roots_over no_collected = refl
  roots_over (collected key h below others) =
      let next : KnownField → Due FieldTree = λ k. field_by c r.query root h k (below_at c root below k.0) k.0.origin in
      let more : KnownField → Due FieldTree = λ k. field_by d r.query there h k (below_at d there below k.0) k.0.origin in
      then_over over (λ fs. fields_over fs s n root) (λ x. mapped (field key x) (fields_due c r.query root others)) (λ x. mapped (field key x) (fields_due d r.query there others))
      (known_due c r.query root h (is_empty below) >>= next) (known_due d r.query there h (is_empty below) >>= more)
      (known_over s z n a r of_role vars over r.query type.Query of_role.root root there h (is_empty below) next more (one_root h below))
      (λ x e. mapped_over (λ fs. fields_over fs s n root) (λ fs. fields_over fs s n root) (field key x) (field key (over x)) (λ fs. refl)
      (fields_due c r.query root others) (fields_due d r.query there others) (roots_over others))
