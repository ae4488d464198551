-- A field that is known: its definition is found at its place, it has fields below it only where its type has fields, and its
-- arguments are those of what it stands for.
use Rattle.std.proofs.Common.{◌≡◌, refl, ap, subst, ℕ, Bool, true, Option, Some, None, Ok, Err}
use Rattle.hq_base.specs.Due.{mapped}
use Rattle.hq_gql_nodes.specs.Known.{known_field}
use Rattle.hq_gql_tree.specs.Selections.{FieldHead}
use Rattle.hq_schema.specs.Schema.{FieldTree}
use Rattle.hq_request_arguments.specs.Context.{Context}
use Rattle.hq_request_arguments.specs.Due.{by_origin, at_field, arguments_due}
use Rattle.hq_request_arguments.specs.FieldArguments.{FieldArguments}
use Rattle.hq_request_arguments.specs.Reading.{Read}
use Rattle.hq_request_build.specs.KnownField.{is_complete, KnownField, known_of, known_due, fault_at}
use Rattle.hq_gql_tree.specs.declared.rule.RuleId.TheVariants as rule
use Rattle.hq_laws_request.proofs.Formed.BuildingSteps.{mapped_ok, cond_ok}

pub record KnownIs (c : Context) (place t : ℕ) (h : FieldHead) (empty : Bool) (k : KnownField) : Type 0 where
  pub found : known_field c.schema (Some place) h.name ≡ Some k.0
  pub complete : is_complete c.schema k.0 empty ≡ true
  pub arguments : by_origin c t k.0.args h.args k.0.origin ≡ Ok k.1

placed_ok : {A : Type 0} (at : ℕ) (r : Read A) (x : A) → at_field at r ≡ Ok x → r ≡ Ok x
placed_ok at (Ok y) x e = let same : y ≡ x = cc in ap Ok same
placed_ok at (Err z) x e = cc

pub known_is : (c : Context) (place t : ℕ) (h : FieldHead) (empty : Bool) (k : KnownField) → known_due c place t h empty ≡ Ok k → KnownIs c place t h empty k
known_is c place t h empty k e = by (known_field c.schema (Some place) h.name) refl e
  where
    by : (o : Option FieldTree) → known_field c.schema (Some place) h.name ≡ o → known_of c t h empty o ≡ Ok k → KnownIs c place t h empty k
    by None is e = cc
    by (Some f) is e =
        let both = cond_ok (is_complete c.schema f empty) (mapped (λ (x : FieldArguments). let r : KnownField = (f, x) in r) (arguments_due c t f h)) (fault_at rule.LeafFieldSelections h) k e in
        let one = mapped_ok (λ (x : FieldArguments). let r : KnownField = (f, x) in r) (arguments_due c t f h) k both.1 in
        let due = placed_ok h.at (by_origin c t f.args h.args f.origin) one.0 one.1 in
        subst (KnownIs c place t h empty) one.2 (record { found = is; complete = both.0; arguments = due })
