-- One collected field, with its definition and its arguments, in other numbers.
use Rattle.std.proofs.Common.{◌≡◌, ◌∙◌, refl, sym, ap, ℕ, List, Bool, true, false, cond, Option, Some, None, Ok, Err, option_map}
use Rattle.hq_base.specs.Due.{mapped, and_then}
use Rattle.hq_model.specs.Schema.{Schema}
use Rattle.hq_gql_nodes.specs.Known.{known_field}
use Rattle.hq_gql_tree.specs.Selections.{FieldHead}
use Rattle.hq_gql_tree.specs.declared.rule.RuleId.TheVariants as rule
use Rattle.hq_schema.specs.Schema.{FieldTree, SchemaTree}
use Rattle.hq_schema.specs.declared.origin.TypeOrigin.{TypeOrigin}
use Rattle.hq_schema_roles.specs.Access.{Access}
use Rattle.hq_request_arguments.specs.Context.{Context}
use Rattle.hq_request_arguments.specs.Due.{at_field, arguments_due}
use Rattle.hq_request_arguments.specs.FieldArguments.{FieldArguments}
use Rattle.hq_request_arguments.specs.Reading.{Read}
use Rattle.hq_request_build.specs.KnownField.{Due, refused, is_complete, KnownField, known_of, known_due}
use Rattle.hq_request_coerce.specs.Variables.{VarTree}
use Rattle.hq_laws_renumbered.specs.Resolving.Renumbering.{Renumbering}
use Rattle.hq_laws_renumbered.specs.Schemas.SchemaOver.{field_over, type_table, schema_over}
use Rattle.hq_laws_renumbered.specs.Requests.OfRole.{At, IsOfRole}
use Rattle.hq_laws_renumbered.proofs.Requests.Found.{complete_over, field_found_over, Found, field_found}
use Rattle.hq_laws_renumbered.proofs.Requests.Given.{context}
use Rattle.hq_laws_renumbered.proofs.Requests.Steps.{then_mapped}

-- what follows arguments that are read under w, and in other numbers under v
pub argued : {A V B C : Type 0} (H : B → C) (at : ℕ) (w : A → FieldArguments) (v : V → FieldArguments) (g : A → V) (x : Read A) (y : Read V)
    (next : FieldArguments → Due B) (over : FieldArguments → Due C)
    → y ≡ mapped g x → ((k : A) → over (v (g k)) ≡ mapped H (next (w k))) → and_then over (at_field at (mapped v y)) ≡ mapped H (and_then next (at_field at (mapped w x)))
argued H at w v g (Ok k) y next over e step = ap (λ o. and_then over (at_field at (mapped v o))) e ∙ step k
argued H at w v g (Err f) y next over e step = ap (λ o. and_then over (at_field at (mapped v o))) e

-- what follows arguments
pub argued_by : {B C : Type 0} (H : B → C) (at : ℕ) (g : FieldArguments → FieldArguments) (x y : Read FieldArguments) (next : FieldArguments → Due B) (over : FieldArguments → Due C)
    → y ≡ mapped g x → ((k : FieldArguments) → over (g k) ≡ mapped H (next k)) → and_then over (at_field at y) ≡ mapped H (and_then next (at_field at x))
argued_by H at g (Ok k) y next over e step = ap (λ o. and_then over (at_field at o)) e ∙ step k
argued_by H at g (Err f) y next over e step = ap (λ o. and_then over (at_field at o)) e

module _ (s z : Schema) (n : Renumbering) (a : Access) (r : SchemaTree) (of_role : IsOfRole s a r) (vars : List VarTree) where
  abbrev c : Context
  c = context vars r s

  abbrev d : Context
  d = context vars (schema_over n r) z

  -- what follows a field that is found, with its arguments
  pub known_over : {B C : Type 0} (H : B → C) (place : ℕ) (o : TypeOrigin) → At r.types place o → (t u : ℕ) (h : FieldHead) (empty : Bool) (next : KnownField → Due B) (over : KnownField → Due C)
      → ((f : FieldTree) → Found s a r of_role place o f
      → and_then (λ g. over (field_over n (type_table o) f, g)) (arguments_due d u (field_over n (type_table o) f) h) ≡ mapped H (and_then (λ g. next (f, g)) (arguments_due c t f h)))
      → and_then over (known_due d place u h empty) ≡ mapped H (and_then next (known_due c place t h empty))
  known_over H place o at t u h empty next over step =
      ap (λ x. and_then over (known_of d u h empty x)) (field_found_over n r s a of_role place o at h.name) ∙ go (known_field r (Some place) h.name) refl
    where
      complete : (f : FieldTree) → Found s a r of_role place o f → (b : Bool)
          → and_then over (cond b (mapped (λ g. (field_over n (type_table o) f, g)) (arguments_due d u (field_over n (type_table o) f) h)) (refused rule.LeafFieldSelections h))
          ≡ mapped H (and_then next (cond b (mapped (λ g. (f, g)) (arguments_due c t f h)) (refused rule.LeafFieldSelections h)))
      complete f found true =
          then_mapped over (λ g. (field_over n (type_table o) f, g)) (arguments_due d u (field_over n (type_table o) f) h) ∙ step f found
          ∙ ap (mapped H) (sym (then_mapped next (λ g. (f, g)) (arguments_due c t f h)))
      complete f found false = refl

      go : (x : Option FieldTree) → known_field r (Some place) h.name ≡ x
          → and_then over (known_of d u h empty (option_map (field_over n (type_table o)) x))
          ≡ mapped H (and_then next (known_of c t h empty x))
      go None is = refl
      go (Some f) is =
          ap (λ b. and_then over (cond b (mapped (λ g. (field_over n (type_table o) f, g)) (arguments_due d u (field_over n (type_table o) f) h)) (refused rule.LeafFieldSelections h)))
          (complete_over n r (type_table o) f empty)
          ∙ complete f (field_found s a r of_role place o h.name f at is) (is_complete r f empty)
