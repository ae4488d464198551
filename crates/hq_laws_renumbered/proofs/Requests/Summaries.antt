-- The fields of aggregates, in other numbers.
use Rattle.std.proofs.Common.{◌≡◌, ◌∙◌, refl, sym, ap, subst, ℕ, List, [], map, Ok, Err}
use Rattle.hq_base.specs.Due.{mapped, and_then, ◌>>=◌}
use Rattle.hq_base.specs.Lists.{Each}
use Rattle.hq_model.specs.Schema.{Schema}
use Rattle.hq_gql_tree.specs.Selections.{FieldHead}
use Rattle.hq_schema.specs.Schema.{base, ArgTree, FieldTree, TypeRefTree, SchemaTree}
use Rattle.hq_schema.specs.declared.origin.FieldOrigin.{FieldOrigin}
use Rattle.hq_schema.specs.declared.origin.FieldOrigin.TheVariants as origin
use Rattle.hq_schema.specs.declared.origin.TypeOrigin.TheVariants as type
use Rattle.hq_schema_of_role.specs.Root.{type_name_field}
use Rattle.hq_schema_roles.specs.Access.{Access}
use Rattle.hq_schema_roles.specs.Leads.{Reaches, ArgFits, column_target, over_target, over_args}
use Rattle.hq_request_arguments.specs.Context.{Context}
use Rattle.hq_request_arguments.specs.Due.{at_field, by_origin, count_due}
use Rattle.hq_request_arguments.specs.FieldArguments.{FieldArguments}
use Rattle.hq_request_arguments.specs.FieldArguments as given
use Rattle.hq_request_build.specs.KnownField.{Due, KnownField, known_due, leads_to, type_name_due}
use Rattle.hq_request_build.specs.Summaries.{taken_by, with_taken, taken_due, summary_by, with_summary, summaries_due}
use Rattle.hq_request_tree.specs.declared.aggregate.AggCol.TheVariants as of
use Rattle.hq_request_tree.specs.declared.aggregate.AggField.{AggField}
use Rattle.hq_request_tree.specs.declared.aggregate.AggField.TheVariants as take
use Rattle.hq_base.specs.declared.aggregate.Aggregate.{Aggregate}
use Rattle.hq_request_coerce.specs.Variables.{VarTree}
use Rattle.hq_request_collect.specs.Tree.{CollectedTrees, no_collected, collected, is_empty}
use Rattle.hq_laws_renumbered.specs.Resolving.Renumbering.{Renumbering, taken_over, keyed_taken_over, summary_over, keyed_summary_over}
use Rattle.hq_laws_renumbered.specs.Schemas.SchemaOver.{arg_over, field_origin_over, field_over, keyed_table, schema_over}
use Rattle.hq_laws_renumbered.specs.Requests.Alike.{TablesAlike}
use Rattle.hq_laws_renumbered.specs.Requests.OfRole.{At, IsOfRole}
use Rattle.hq_laws_renumbered.proofs.Requests.Arguments.{count_over, count_due_over}
use Rattle.hq_laws_renumbered.proofs.Requests.Found.{name_over, Found, own, of_type_name, of_schema, of_type, root_is}
use Rattle.hq_laws_renumbered.proofs.Requests.Given.{context}
use Rattle.hq_laws_renumbered.proofs.Requests.Known.{argued_by, known_over}
use Rattle.hq_laws_renumbered.proofs.Requests.Steps.{then_over, mapped_over}

-- the name of a type is the same
pub named_by : {B C : Type 0} (H : B → C) (f : List ℕ → B) (k : List ℕ → C) → ((name : List ℕ) → k name ≡ H (f name)) → (x y : Due (List ℕ)) → y ≡ x → mapped k y ≡ mapped H (mapped f x)
named_by H f k same (Ok name) y e = ap (mapped k) e ∙ ap Ok (same name)
named_by H f k same (Err z) y e = ap (mapped k) e

module _ (s z : Schema) (n : Renumbering) (a : Access) (r : SchemaTree) (of_role : IsOfRole s a r) (alike : TablesAlike s z n a) (vars : List VarTree) (u : ℕ) where
  abbrev c : Context
  c = context vars r s

  abbrev d : Context
  d = context vars (schema_over n r) z

  -- ---- what one aggregate gives

  module _ (place : ℕ) (h : FieldHead) where
    -- what follows a field with its arguments
    abbrev Taken : FieldTree → List ArgTree → List ArgTree → FieldOrigin → FieldOrigin → Type 0
    Taken f args more o q =
        and_then (λ x. taken_by d place h q) (at_field h.at (by_origin d (n.table u) more h.args q))
        ≡ mapped (taken_over n u) (and_then (λ x. taken_by c place h o) (at_field h.at (by_origin c u args h.args o)))

    own_taken : (f : FieldTree) (v : ℕ) (o : FieldOrigin) → Reaches r.types f.ty (column_target a u o) → Taken f f.args (map (arg_over n v) f.args) o (field_origin_over n u o)
    own_taken f v (origin.Column k) at = refl
    own_taken f v o at = absurd at

    name_taken : Taken type_name_field [] [] origin.TypeName origin.TypeName
    name_taken = named_by (taken_over n u) of.Typename of.Typename (λ name. refl) (type_name_due r place h) (type_name_due (schema_over n r) place h) (name_over n r place h)

    one_taken : (g : Aggregate) → At r.types place (type.Aggregated g u) → (f : FieldTree) → Found s a r of_role place (type.Aggregated g u) f
        → Taken f f.args (field_over n u f).args f.origin (field_over n u f).origin
    one_taken g at f (own i) = own_taken f (keyed_table f.origin u) f.origin i.fits.reaches
    one_taken g at f (of_type_name is) = subst (λ (x : FieldTree). Taken x x.args (field_over n u x).args x.origin (field_over n u x).origin) (sym is) name_taken
    one_taken g at f (of_schema root is) = let no : type.Query ≡ type.Aggregated g u = root_is s a r of_role place (type.Aggregated g u) root at in cc
    one_taken g at f (of_type root is) = let no : type.Query ≡ type.Aggregated g u = root_is s a r of_role place (type.Aggregated g u) root at in cc

  taken_due_over : (g : Aggregate) (trees : CollectedTrees) (place : ℕ) → At r.types place (type.Aggregated g u)
      → taken_due d place (n.table u) trees ≡ mapped (map (keyed_taken_over n u)) (taken_due c place u trees)
  taken_due_over g no_collected place at = refl
  taken_due_over g (collected key h below others) place at =
      then_over (taken_over n u) (map (keyed_taken_over n u)) (λ f. mapped (with_taken key f) (taken_due c place u others)) (λ f. mapped (with_taken key f) (taken_due d place (n.table u) others))
      (known_due c place u h (is_empty below) >>= λ (k : KnownField). taken_by c place h k.0.origin)
      (known_due d place (n.table u) h (is_empty below) >>= λ (k : KnownField). taken_by d place h k.0.origin)
      (known_over s z n a r of_role vars (taken_over n u) place (type.Aggregated g u) at u (n.table u) h (is_empty below)
      (λ (k : KnownField). taken_by c place h k.0.origin) (λ (k : KnownField). taken_by d place h k.0.origin) (one_taken place h g at))
      (λ f e. mapped_over (map (keyed_taken_over n u)) (map (keyed_taken_over n u)) (with_taken key f) (with_taken key (taken_over n u f))
      (λ fs. refl) (taken_due c place u others) (taken_due d place (n.table u) others)
      (taken_due_over g others place at))

  -- ---- aggregate

  module _ (place : ℕ) (h : FieldHead) (below : CollectedTrees) where
    abbrev Summed : FieldTree → FieldTree → List ArgTree → List ArgTree → FieldOrigin → FieldOrigin → Type 0
    Summed f g args more o q =
        and_then (λ x. summary_by d place h (g, x) (taken_due d (base g.ty) (n.table u) below) q) (at_field h.at (by_origin d (n.table u) more h.args q))
        ≡ mapped (summary_over n u) (and_then (λ x. summary_by c place h (f, x) (taken_due c (base f.ty) u below) o) (at_field h.at (by_origin c u args h.args o)))

    counted : (f g : FieldTree) (x : FieldArguments) → summary_by d place h (g, count_over n u x) (taken_due d (base g.ty) (n.table u) below) origin.Count
        ≡ mapped (summary_over n u) (summary_by c place h (f, x) (taken_due c (base f.ty) u below) origin.Count)
    counted f g (given.count col distinct) = refl
    counted f g (given.rows x) = refl
    counted f g (given.key x) = refl
    counted f g (given.type_name x) = refl
    counted f g (given.deprecated x) = refl
    counted f g given.nothing = refl

    own_summed : (f g : FieldTree) (v : ℕ) → g.ty ≡ f.ty → (o : FieldOrigin) → Reaches r.types f.ty (over_target u o)
        → Each (ArgFits r.types (over_args u o)) f.args → Summed f g f.args (map (arg_over n v) f.args) o (field_origin_over n u o)
    own_summed f g v ty origin.Count at args =
        argued_by (summary_over n u) h.at (count_over n u) (count_due c f.args h.args u)
        (count_due d (map (arg_over n v) f.args) h.args (n.table u))
        (λ x. summary_by c place h (f, x) (taken_due c (base f.ty) u below) origin.Count)
        (λ x. summary_by d place h (g, x) (taken_due d (base g.ty) (n.table u) below) origin.Count) (count_due_over s z n a r of_role alike vars u v f.args h.args args) (counted f g)
    own_summed f g v ty (origin.Aggregated x) at args =
        ap (λ (w : TypeRefTree). mapped (take.Columns x) (taken_due d (base w) (n.table u) below)) ty
        ∙ mapped_over (map (keyed_taken_over n u)) (summary_over n u) (take.Columns x) (take.Columns x) (λ fs. refl)
        (taken_due c (base f.ty) u below) (taken_due d (base f.ty) (n.table u) below) (taken_due_over x below (base f.ty) at)
    own_summed f g v ty o at args = absurd at

    name_summed : Summed type_name_field type_name_field [] [] origin.TypeName origin.TypeName
    name_summed = named_by (summary_over n u) take.Typename take.Typename (λ name. refl) (type_name_due r place h) (type_name_due (schema_over n r) place h) (name_over n r place h)

    one_summed : At r.types place (type.AggregateFields u) → (f : FieldTree) → Found s a r of_role place (type.AggregateFields u) f
        → Summed f (field_over n u f) f.args (field_over n u f).args f.origin (field_over n u f).origin
    one_summed at f (own i) = own_summed f (field_over n u f) (keyed_table f.origin u) refl f.origin i.fits.reaches i.fits.args
    one_summed at f (of_type_name is) = subst (λ (x : FieldTree). Summed x (field_over n u x) x.args (field_over n u x).args x.origin (field_over n u x).origin) (sym is) name_summed
    one_summed at f (of_schema root is) = let no : type.Query ≡ type.AggregateFields u = root_is s a r of_role place (type.AggregateFields u) root at in cc
    one_summed at f (of_type root is) = let no : type.Query ≡ type.AggregateFields u = root_is s a r of_role place (type.AggregateFields u) root at in cc

  pub summaries_over : (trees : CollectedTrees) (place : ℕ) → At r.types place (type.AggregateFields u)
      → summaries_due d place (n.table u) trees ≡ mapped (map (keyed_summary_over n u)) (summaries_due c place u trees)
  summaries_over no_collected place at = refl
  summaries_over (collected key h below others) place at =
      let next : KnownField → Due AggField = λ k. summary_by c place h k (taken_due c (leads_to k) u below) k.0.origin in
      let over : KnownField → Due AggField = λ k. summary_by d place h k (taken_due d (leads_to k) (n.table u) below) k.0.origin in
      then_over (summary_over n u) (map (keyed_summary_over n u)) (λ f. mapped (with_summary key f) (summaries_due c place u others))
      (λ f. mapped (with_summary key f) (summaries_due d place (n.table u) others))
      (known_due c place u h (is_empty below) >>= next) (known_due d place (n.table u) h (is_empty below) >>= over)
      (known_over s z n a r of_role vars (summary_over n u) place (type.AggregateFields u) at u (n.table u) h (is_empty below) next over (one_summed place h below at))
      (λ f e. mapped_over (map (keyed_summary_over n u)) (map (keyed_summary_over n u)) (with_summary key f) (with_summary key (summary_over n u f)) (λ fs. refl) (summaries_due c place u others)
      (summaries_due d place (n.table u) others) (summaries_over others place at))
