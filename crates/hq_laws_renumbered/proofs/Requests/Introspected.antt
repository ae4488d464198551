-- Fields of introspection are the same in other numbers.
use Rattle.std.proofs.Common.{◌≡◌, ◌∙◌, refl, sym, ap, ap₂, subst, ℕ, List, map, true, false, Option, Some, None, slice_get, option_map}
use Rattle.std.specs.Option.{option_map_or}
use Rattle.hq_base.specs.Due.{mapped, and_then, ◌>>=◌}
use Rattle.hq_model.specs.Schema.{Schema}
use Rattle.hq_gql_tree.specs.Selections.{FieldHead}
use Rattle.hq_schema.specs.Schema.{base, FieldTree, TypeTree, SchemaTree}
use Rattle.hq_schema.specs.declared.origin.FieldOrigin.{FieldOrigin}
use Rattle.hq_schema.specs.declared.origin.FieldOrigin.TheVariants as origin
use Rattle.hq_schema.specs.declared.origin.TypeOrigin.{TypeOrigin}
use Rattle.hq_schema.specs.declared.origin.TypeOrigin.TheVariants as type
use Rattle.hq_schema_of_role.specs.Root.{type_name_field}
use Rattle.hq_schema_roles.specs.Access.{Access}
use Rattle.hq_schema_roles.specs.Leads.{Reaches, introspection_target}
use Rattle.hq_request_arguments.specs.Context.{Context}
use Rattle.hq_request_arguments.specs.Due.{introspection_due, arguments_due}
use Rattle.hq_request_build.specs.KnownField.{known_due, leads_to, deprecated_of}
use Rattle.hq_request_build.specs.Looks.{look_of, looks_due}
use Rattle.hq_request_tree.specs.Introspection.{look, looks}
use Rattle.hq_request_coerce.specs.Variables.{VarTree}
use Rattle.hq_request_collect.specs.Tree.{CollectedTrees, no_collected, collected, is_empty}
use Rattle.hq_laws_renumbered.specs.Resolving.Renumbering.{Renumbering}
use Rattle.hq_laws_renumbered.specs.Schemas.SchemaOver.{arg_over, field_origin_over, field_over, keyed_table, type_table, schema_over}
use Rattle.hq_laws_renumbered.specs.Requests.Alike.{TablesAlike}
use Rattle.hq_laws_renumbered.specs.Requests.OfRole.{At, is_plain, LeadsToPlain, IsOfRole}
use Rattle.hq_laws_renumbered.proofs.Requests.Arguments.{introspection_over}
use Rattle.hq_laws_renumbered.proofs.Requests.Found.{Found, own, of_type_name, of_schema, of_type, root_is}
use Rattle.hq_laws_renumbered.proofs.Requests.Given.{context}
use Rattle.hq_laws_renumbered.proofs.Requests.Known.{argued_by, known_over}
use Rattle.hq_laws_renumbered.proofs.Requests.Steps.{mapped_itself, mapped_same}

module _ (s z : Schema) (n : Renumbering) (a : Access) (r : SchemaTree) (of_role : IsOfRole s a r) (alike : TablesAlike s z n a) (vars : List VarTree) where
  abbrev c : Context
  c = context vars r s

  abbrev d : Context
  d = context vars (schema_over n r) z

  -- a type of introspection or a scalar stands at the place
  abbrev PlainAt : ℕ → Type 0
  PlainAt place = option_map_or (λ (x : TypeTree). is_plain x.origin) (slice_get r.types place) false ≡ true

  record Plain (place : ℕ) : Type 0 where
    meaning : TypeOrigin
    here : At r.types place meaning
    plain : is_plain meaning ≡ true

  plain_is : (place : ℕ) → PlainAt place → Plain place
  plain_is place at = go (slice_get r.types place) refl at
    where
      go : (x : Option TypeTree) → slice_get r.types place ≡ x → option_map_or (λ (x : TypeTree). is_plain x.origin) x false ≡ true → Plain place
      go None is e = cc
      go (Some x) is e = record { meaning = x.origin; here = ap (option_map (λ (x : TypeTree). x.origin)) is; plain = e }

  module _ (h : FieldHead) (below : CollectedTrees) (inner : (place t u : ℕ) → PlainAt place → looks_due d place u below ≡ looks_due c place t below) (t u : ℕ) where
    -- what follows a field with its arguments
    abbrev Next : FieldTree → FieldTree → Type 0
    Next f g =
        and_then (λ x. look_of h (λ k. looks_due d (leads_to k) u below) (g, x)) (arguments_due d u g h)
        ≡ mapped (λ x. x) (and_then (λ x. look_of h (λ k. looks_due c (leads_to k) t below) (f, x)) (arguments_due c t f h))

    own_look : (f : FieldTree) (v w : ℕ) (o : FieldOrigin) → Reaches r.types f.ty (introspection_target o) → LeadsToPlain r.types f.ty
        → Next (record { name = f.name; args = f.args; ty = f.ty; origin = o }) (record { name = f.name; args = map (arg_over n v) f.args; ty = f.ty; origin = field_origin_over n w o })
    own_look f v w origin.Introspection at leads =
        argued_by (λ x. x) h.at (λ x. x) (introspection_due c f.args h.args) (introspection_due d (map (arg_over n v) f.args) h.args)
        (λ x. mapped (look h.name None (deprecated_of x)) (looks_due c (base f.ty) t below)) (λ x. mapped (look h.name None (deprecated_of x)) (looks_due d (base f.ty) u below))
        (introspection_over s z n a r of_role alike vars v f.args h.args ∙ sym (mapped_itself (introspection_due c f.args h.args)))
        (λ x. mapped_same (λ x. x) (look h.name None (deprecated_of x)) (look h.name None (deprecated_of x)) (λ l. refl)
        (looks_due c (base f.ty) t below) (looks_due d (base f.ty) u below) (inner (base f.ty) t u leads))
    own_look f v w o at leads = absurd at

    name_look : Next type_name_field type_name_field
    name_look =
        mapped_same (λ x. x) (look h.name None false) (look h.name None false) (λ l. refl) (looks_due c (base type_name_field.ty) t below) (looks_due d (base type_name_field.ty) u below)
        (inner (base type_name_field.ty) t u of_role.type_name_plain)

    one_look : (place : ℕ) (o : TypeOrigin) → At r.types place o → is_plain o ≡ true → (f : FieldTree) → Found s a r of_role place o f → Next f (field_over n (type_table o) f)
    one_look place type.Introspection at plain f (own i) = own_look f (keyed_table f.origin 0) 0 f.origin i.fits.reaches (i.introspects refl)
    one_look place (type.Scalar ty) at plain f (own i) = absurd i.fits.reaches
    one_look place o at plain f (own i) = cc
    one_look place o at plain f (of_type_name is) = subst (λ (x : FieldTree). Next x (field_over n (type_table o) x)) (sym is) name_look
    one_look place o at plain f (of_schema root is) = let no : type.Query ≡ o = root_is s a r of_role place o root at in let wrong : is_plain type.Query ≡ true = ap is_plain no ∙ plain in cc
    one_look place o at plain f (of_type root is) = let no : type.Query ≡ o = root_is s a r of_role place o root at in let wrong : is_plain type.Query ≡ true = ap is_plain no ∙ plain in cc

  pub looks_over : (trees : CollectedTrees) (place t u : ℕ) → PlainAt place → looks_due d place u trees ≡ looks_due c place t trees
  looks_over no_collected place t u at = refl
  looks_over (collected key h below others) place t u at =
      let p = plain_is place at in
      let one : (known_due d place u h (is_empty below) >>= look_of h (λ k. looks_due d (leads_to k) u below))
      ≡ (known_due c place t h (is_empty below) >>= look_of h (λ k. looks_due c (leads_to k) t below)) =
      known_over s z n a r of_role vars (λ x. x) place p.meaning p.here t u h (is_empty below) (look_of h (λ k. looks_due c (leads_to k) t below)) (look_of h (λ k. looks_due d (leads_to k) u below))
      (one_look h below (λ q x y at. looks_over below q x y at) t u place p.meaning p.here p.plain)
      ∙ mapped_itself (known_due c place t h (is_empty below) >>= look_of h (λ k. looks_due c (leads_to k) t below)) in
      ap₂ (λ x more. x >>= λ f. mapped (looks key f) more) one (looks_over others place t u at)
