-- The schema of a role stands for what the role may see.
use Rattle.std.proofs.Common.{◌≡◌, refl, ℕ, List, [], ◌∷◌, ◌++◌, map, Bool, true, false, cond, Option, Some, None}
use Rattle.std.specs.Prelude.{flat_map}
use Rattle.hq_base.specs.Lists.{Each}
use Rattle.hq_schema.specs.Fixed.{all_fixed, fixed_origin}
use Rattle.hq_schema.specs.Parts.{part_origin}
use Rattle.hq_schema.specs.Schema.{TypeRefTree, FieldTree, TypeTree, SchemaTree}
use Rattle.hq_schema.specs.declared.fixed.Fixed.{Fixed}
use Rattle.hq_schema.specs.declared.fixed.Fixed.TheVariants as fixed
use Rattle.hq_schema.specs.declared.origin.FieldOrigin.{FieldOrigin}
use Rattle.hq_schema.specs.declared.origin.FieldOrigin.TheVariants as field
use Rattle.hq_schema.specs.declared.origin.TypeOrigin.{TypeOrigin}
use Rattle.hq_schema.specs.declared.origin.TypeOrigin.TheVariants as type
use Rattle.hq_schema.specs.declared.part.Part.{Part}
use Rattle.hq_schema.specs.declared.part.Part.TheVariants as part
use Rattle.hq_schema_of_role.specs.Fields.{aggregate_field}
use Rattle.hq_schema_of_role.specs.FixedTypes.{fixed_type, fixed_types, fixed_fields}
use Rattle.hq_schema_of_role.specs.Introspection.{introspection_fields}
use Rattle.hq_schema_of_role.specs.Placed.{parts_of, placed, links_from}
use Rattle.hq_schema_of_role.specs.RoleSchema.{part_type, table_types, role_schema}
use Rattle.hq_schema_of_role.specs.Root.{key_fields, aggregate_root, root_fields, query_fields}
use Rattle.hq_schema_of_role.specs.Scalars.{scalars_of, behind_scalars, scalar_type}
use Rattle.hq_schema_of_role.specs.Shown.{shown_tables}
use Rattle.hq_schema_of_role.specs.declared.shown.Link.{Link}
use Rattle.hq_schema_of_role.specs.declared.shown.PlacedTable.{PlacedTable}
use Rattle.hq_schema_of_role.specs.declared.shown.ShownColumn.{ShownColumn}
use Rattle.hq_schema_roles.specs.Access.{Access, access_of}
use Rattle.hq_schema_roles.specs.Leads.{Reaches, TypeFits, FieldFits, field_target}
use Rattle.hq_model.specs.Meta.{MetaTree}
use Rattle.hq_model.specs.Schema.{Schema, schema_of}
use Rattle.hq_model.specs.declared.role.Role.{Role}
use Rattle.hq_model.specs.declared.table.Table.{Table}
use Rattle.hq_copy_definition.proofs.Lists.{each_append, each_map, each_made, each_both}
use Rattle.hq_laws_renumbered.specs.Requests.OfRole.{IsOfSeen, LooksUp, LeadsToPlain, Introspects, IsOfRole}
use Rattle.hq_laws_copy_replies.proofs.Requests.Shown.{KeyIs, IsShown, all_shown}

each_all : {A : Type 0} (P : A → Type 0) → ((x : A) → P x) → (xs : List A) → Each P xs
each_all P h [] = tt
each_all P h (x ∷ xs) = (h x, each_all P h xs)

each_given : {A : Type 0} (P Q : A → Type 0) → ((x : A) → P x → Q x) → (xs : List A) → Each P xs → Each Q xs
each_given P Q f [] h = tt
each_given P Q f (x ∷ xs) h = (f x h.0, each_given P Q f xs h.1)

module _ (tables : List Table) (m : MetaTree) (role : Role) where
  abbrev s : Schema
  s = schema_of tables m

  abbrev a : Access
  a = access_of m role

  abbrev R : SchemaTree
  R = role_schema tables m role

  abbrev scalars : List (List ℕ)
  scalars = scalars_of (shown_tables tables m role)

  abbrev ps : List PlacedTable
  ps = placed (shown_tables tables m role)

  abbrev Shown : PlacedTable → Type 0
  Shown p = IsShown tables m role p.shown

  -- what the types that each schema has, the scalars and the types of shown tables have, all types have
  all_types_have : (P : TypeTree → Type 0) → ((f : Fixed) → P (fixed_type ps f)) → ((name : List ℕ) → P (scalar_type name))
      → ((p : PlacedTable) (ls : List Link) (q : Part) → Shown p → P (part_type scalars p ls q)) → Each P R.types
  unfolding role_schema
  all_types_have P of_fixed of_scalar of_part =
      each_append P (fixed_types ps ++ map scalar_type scalars) (flat_map (table_types scalars ps) ps)
      (each_append P (fixed_types ps) (map scalar_type scalars) (each_map P (fixed_type ps) all_fixed (each_all (λ f. P (fixed_type ps f)) of_fixed all_fixed))
      (each_map P scalar_type scalars (each_all (λ name. P (scalar_type name)) of_scalar scalars)))
      (each_made P (table_types scalars ps) ps
      (each_given Shown (λ p. Each P (table_types scalars ps p))
      (λ p shown. each_map P (part_type scalars p (links_from ps 0 p.shown.rels)) (parts_of p.shown)
      (each_all (λ q. P (part_type scalars p (links_from ps 0 p.shown.rels) q)) (λ q. of_part p (links_from ps 0 p.shown.rels) q shown) (parts_of p.shown))) ps
      (all_shown tables m role (behind_scalars scalars))))

  -- ---- the tables of types are seen

  fixed_seen : (f : Fixed) → IsOfSeen a (fixed_origin f)
  fixed_seen (fixed.Scalar t) = tt
  fixed_seen fixed.OrderBy = tt
  fixed_seen (fixed.Comparison t) = tt
  fixed_seen fixed.QueryRoot = tt
  fixed_seen f = tt

  part_seen : (t : ℕ) (q : Part) → a.seen t ≡ true → IsOfSeen a (part_origin q t)
  part_seen t part.Rows seen = seen
  part_seen t part.Filter seen = seen
  part_seen t part.Sort seen = seen
  part_seen t part.Columns seen = seen
  part_seen t part.Aggregate seen = seen
  part_seen t part.AggregateFields seen = seen
  part_seen t (part.Aggregated g) seen = seen

  types_seen : Each (λ (d : TypeTree). IsOfSeen a d.origin) R.types
  unfolding fixed_type scalar_type part_type
  types_seen = all_types_have (λ d. IsOfSeen a d.origin) fixed_seen (λ name. tt) (λ p ls q shown. part_seen p.shown.table q shown.seen)

  -- ---- look-ups by key

  abbrev Keyed : FieldTree → Type 0
  Keyed f = LooksUp s a f.origin

  key_keyed : (p : PlacedTable) (o : Option (List ShownColumn)) → KeyIs tables m role p.shown.table o → Each Keyed (key_fields p o)
  key_keyed p None h = tt
  key_keyed p (Some cs) h = (h, tt)

  root_keyed : (p : PlacedTable) → Shown p → Each Keyed (root_fields p)
  root_keyed p shown = (tt, each_append Keyed (aggregate_root p) (key_fields p p.shown.key) (totals p.shown.aggregates) (key_keyed p p.shown.key shown.key))
    where
      totals : (b : Bool) → Each Keyed (cond b (aggregate_field p.shown.roots.select_aggregate p.first (field.RowsAggregate p.shown.table) ∷ []) [])
      totals true = (tt, tt)
      totals false = tt

  query_keyed : (qs : List PlacedTable) → Each Shown qs → Each Keyed (query_fields qs)
  query_keyed [] h = (tt, tt)
  query_keyed (q ∷ qs) h = each_made Keyed root_fields (q ∷ qs) (each_given Shown (λ p. Each Keyed (root_fields p)) root_keyed (q ∷ qs) h)

  abbrev RootKeyed : TypeTree → Type 0
  RootKeyed d = d.origin ≡ type.Query → Each Keyed d.fields

  fixed_keyed : (f : Fixed) → fixed_origin f ≡ type.Query → Each Keyed (fixed_fields ps f)
  fixed_keyed fixed.QueryRoot is = query_keyed ps (all_shown tables m role (behind_scalars scalars))
  fixed_keyed (fixed.Scalar t) is = cc
  fixed_keyed fixed.OrderBy is = cc
  fixed_keyed (fixed.Comparison t) is = cc
  fixed_keyed f is = cc

  part_keyed : (t : ℕ) (q : Part) (fs : List FieldTree) → part_origin q t ≡ type.Query → Each Keyed fs
  part_keyed t part.Rows fs is = cc
  part_keyed t part.Filter fs is = cc
  part_keyed t part.Sort fs is = cc
  part_keyed t part.Columns fs is = cc
  part_keyed t part.Aggregate fs is = cc
  part_keyed t part.AggregateFields fs is = cc
  part_keyed t (part.Aggregated g) fs is = cc

  roots_keyed : Each RootKeyed R.types
  unfolding fixed_type scalar_type part_type
  roots_keyed = all_types_have RootKeyed fixed_keyed (λ name is. tt) (λ p ls q shown. part_keyed p.shown.table q (part_type scalars p ls q).fields)

  -- only the root has look-ups
  one_keyed : (types : List TypeTree) (r : TypeRefTree) (owner : TypeOrigin) (o : FieldOrigin) → Reaches types r (field_target a owner o) → (owner ≡ type.Query → LooksUp s a o) → LooksUp s a o
  one_keyed types r type.Query (field.RowByKey u) at root = root refl
  one_keyed types r owner (field.RowByKey u) at root = absurd at
  one_keyed types r owner o at root = tt

  fields_keyed : (owner : TypeOrigin) (fs : List FieldTree) → Each (FieldFits R.types a owner) fs → (owner ≡ type.Query → Each Keyed fs) → Each Keyed fs
  fields_keyed owner [] fit root = tt
  fields_keyed owner (f ∷ fs) fit root = (one_keyed R.types f.ty owner f.origin fit.0.reaches (λ is. (root is).0), fields_keyed owner fs fit.1 (λ is. (root is).1))

  types_keyed : Each (TypeFits R.types a) R.types → Each (λ (d : TypeTree). Each Keyed d.fields) R.types
  types_keyed fit =
      each_both (TypeFits R.types a) RootKeyed (λ d. Each Keyed d.fields) (λ d fits root. fields_keyed d.origin d.fields fits.fields root) R.types fit roots_keyed

  -- ---- types of introspection

  abbrev Plain : FieldTree → Type 0
  Plain f = LeadsToPlain R.types f.ty

  fixed_plain : (f : Fixed) → Introspects R.types (fixed_origin f) (fixed_fields ps f)
  unfolding role_schema fixed_type introspection_fields
  fixed_plain fixed.Schema = (refl, (refl, (refl, (refl, (refl, (refl, tt))))))
  fixed_plain fixed.«Type» = (refl, (refl, (refl, (refl, (refl, (refl, (refl, (refl, (refl, (refl, tt))))))))))
  fixed_plain fixed.Field = (refl, (refl, (refl, (refl, (refl, (refl, tt))))))
  fixed_plain fixed.InputValue = (refl, (refl, (refl, (refl, tt))))
  fixed_plain fixed.EnumValue = (refl, (refl, (refl, (refl, tt))))
  fixed_plain fixed.Directive = (refl, (refl, (refl, (refl, (refl, tt)))))
  fixed_plain fixed.TypeKind = tt
  fixed_plain fixed.DirectiveLocation = tt
  fixed_plain (fixed.Scalar t) = tt
  fixed_plain fixed.OrderBy = tt
  fixed_plain (fixed.Comparison t) = tt
  fixed_plain fixed.QueryRoot = tt

  part_plain : (t : ℕ) (q : Part) (fs : List FieldTree) → Introspects R.types (part_origin q t) fs
  part_plain t part.Rows fs = tt
  part_plain t part.Filter fs = tt
  part_plain t part.Sort fs = tt
  part_plain t part.Columns fs = tt
  part_plain t part.Aggregate fs = tt
  part_plain t part.AggregateFields fs = tt
  part_plain t (part.Aggregated g) fs = tt

  types_plain : Each (λ (d : TypeTree). Introspects R.types d.origin d.fields) R.types
  unfolding fixed_type scalar_type part_type
  types_plain = all_types_have (λ d. Introspects R.types d.origin d.fields) fixed_plain (λ name. tt) (λ p ls q shown. part_plain p.shown.table q (part_type scalars p ls q).fields)

  -- ---- all

  pub of_role : Each (TypeFits R.types a) R.types → IsOfRole s a R
  unfolding role_schema fixed_type
  of_role fit = record {
    fit = fit;
    seen = types_seen;
    keys = types_keyed fit;
    introspects = types_plain;
    root = refl;
    type_name = refl;
    introspection = refl;
    type_name_plain = refl;
    schema_plain = refl;
    type_plain = refl;
  }
