-- Fields at rows of a table and parts of aggregates, with all that stands below them, in other numbers.
use Rattle.std.proofs.Common.{◌≡◌, ◌∙◌, refl, sym, ap, ap₂, subst, ℕ, List, [], map, Bool, true, false, not, Option, Some, None}
use Rattle.hq_base.specs.Due.{mapped, and_then, ◌>>=◌}
use Rattle.hq_base.specs.Lists.{Each}
use Rattle.hq_model.specs.Schema.{Schema, rel}
use Rattle.hq_model.specs.declared.meta.Rel.{Rel}
use Rattle.hq_gql_tree.specs.Selections.{FieldHead}
use Rattle.hq_schema.specs.Schema.{base, ArgTree, TypeTree, TypeRefTree, SchemaTree}
use Rattle.hq_schema.specs.Schema as schema
use Rattle.hq_schema.specs.declared.origin.FieldOrigin.{FieldOrigin}
use Rattle.hq_schema.specs.declared.origin.FieldOrigin.TheVariants as origin
use Rattle.hq_schema.specs.declared.origin.TypeOrigin.TheVariants as type
use Rattle.hq_schema_of_role.specs.Root.{type_name_field}
use Rattle.hq_schema_roles.specs.Access.{Access}
use Rattle.hq_schema_roles.specs.Leads.{to, where_holds, behind_one, behind_many, aggregates_behind, Reaches, ArgFits, list_target, remote_of, row_target, row_args, aggregate_target}
use Rattle.hq_request_arguments.specs.Context.{Context}
use Rattle.hq_request_arguments.specs.Due.{at_field, by_origin, list_due}
use Rattle.hq_request_arguments.specs.FieldArguments.{FieldArguments, rows}
use Rattle.hq_request_build.specs.Asked.{Below, aggregate_by, field_by, list_by, part_by, fields_due, parts_due}
use Rattle.hq_request_build.specs.KnownField.{Due, KnownField, known_due, leads_to, type_name_due}
use Rattle.hq_request_build.specs.Looks.{looks_due}
use Rattle.hq_request_build.specs.Summaries.{summaries_due}
use Rattle.hq_request_tree.specs.Fields.{origin_of, field, FieldTree, typename, object, list, aggregate, part, PartTree, summary, nodes, part_typename}
use Rattle.hq_request_tree.specs.Resolve.{origin_table}
use Rattle.hq_request_coerce.specs.Variables.{VarTree}
use Rattle.hq_request_collect.specs.Tree.{CollectedTrees, no_collected, collected, is_empty}
use Rattle.hq_laws_renumbered.specs.Resolving.Renumbering.{Renumbering, arguments_over, origin_over, fields_over, field_over as asked_over, parts_over, part_over, keyed_summary_over}
use Rattle.hq_laws_renumbered.specs.Schemas.SchemaOver.{arg_over, field_origin_over, field_over, keyed_table, schema_over}
use Rattle.hq_laws_renumbered.specs.Requests.Alike.{TablesAlike}
use Rattle.hq_laws_renumbered.specs.Requests.OfRole.{At, IsOfRole}
use Rattle.hq_laws_renumbered.proofs.Requests.Arguments.{list_due_over}
use Rattle.hq_laws_renumbered.proofs.Requests.Found.{name_over, type_seen, Found, own, of_type_name, of_schema, of_type, root_is}
use Rattle.hq_laws_renumbered.proofs.Requests.Given.{context}
use Rattle.hq_laws_renumbered.proofs.Requests.Known.{argued, known_over}
use Rattle.hq_laws_renumbered.proofs.Requests.Steps.{then_over, mapped_over}
use Rattle.hq_laws_renumbered.proofs.Requests.Summaries.{named_by, summaries_over}

-- what stands below a field of this definition
abbrev pub below_at : Context → (t : ℕ) → CollectedTrees → schema.FieldTree → Below
below_at c t below f = record {
  fields = λ u. fields_due c (base f.ty) u below;
  parts = λ u. parts_due c (base f.ty) u below;
  looks = looks_due c (base f.ty) t below;
}

-- a field with these arguments, by what it stands for
abbrev pub asked : Context → (place t : ℕ) → FieldHead → CollectedTrees → schema.FieldTree → List ArgTree → FieldOrigin → Due FieldTree
asked c place t h below f args o =
    and_then (λ (x : FieldArguments). field_by c place t h (f, x) (below_at c t below f) o) (at_field h.at (by_origin c t args h.args o))

module _ (s z : Schema) (n : Renumbering) (a : Access) (r : SchemaTree) (of_role : IsOfRole s a r) (alike : TablesAlike s z n a) (vars : List VarTree) where
  abbrev c : Context
  c = context vars r s

  abbrev d : Context
  d = context vars (schema_over n r) z

  abbrev types : List TypeTree
  types = r.types

  -- what is known of the fields below one: as fields at rows of a table, and as parts of an aggregate
  pub record Inner (below : CollectedTrees) : Type 0 where
    pub rows : (place u : ℕ) → At types place (type.Rows u) → fields_due d place (n.table u) below ≡ mapped (λ fs. fields_over fs s n u) (fields_due c place u below)
    pub parts : (place u : ℕ) → At types place (type.Aggregate u) → parts_due d place (n.table u) below ≡ mapped (λ ps. parts_over ps s n u) (parts_due c place u below)

  module _ (h : FieldHead) (below : CollectedTrees) (inner : Inner below) (place t t_there : ℕ) (f : schema.FieldTree) (g : schema.FieldTree) (same : g.ty ≡ f.ty) (v : ℕ) where
    abbrev over : FieldTree → FieldTree
    over x = asked_over x s n t

    -- the fields below, at rows of table u
    pub rows_below : (u : ℕ) → At types (base f.ty) (type.Rows u) → fields_due d (base g.ty) (n.table u) below ≡ mapped (λ fs. fields_over fs s n u) (fields_due c (base f.ty) u below)
    rows_below u at = ap (λ (w : TypeRefTree). fields_due d (base w) (n.table u) below) same ∙ inner.rows (base f.ty) u at

    parts_below : (u : ℕ) → At types (base f.ty) (type.Aggregate u) → parts_due d (base g.ty) (n.table u) below ≡ mapped (λ ps. parts_over ps s n u) (parts_due c (base f.ty) u below)
    parts_below u at = ap (λ (w : TypeRefTree). parts_due d (base w) (n.table u) below) same ∙ inner.parts (base f.ty) u at

    -- a list of rows of table u, and the aggregates over one, that begin at an origin
    abbrev listed : Context → (t u : ℕ) → Option ℕ → schema.FieldTree → List ArgTree → Due FieldTree
    listed x w u o k args = and_then (λ (y : FieldArguments). list_by u o h (k, y) (below_at x w below k)) (at_field h.at (mapped rows (list_due x args h.args u)))

    abbrev totalled : Context → (t u : ℕ) → Option ℕ → schema.FieldTree → List ArgTree → Due FieldTree
    totalled x w u o k args =
        and_then (λ (y : FieldArguments). aggregate_by u o h (k, y) (below_at x w below k))
        (at_field h.at (mapped rows (list_due x args h.args u)))

    pub listed_over : (u : ℕ) (o q : Option ℕ) → origin_over (origin_of u o) n t ≡ origin_of (n.table u) q → origin_table (origin_of u o) s t ≡ u
        → At types (base f.ty) (type.Rows u) → Each (ArgFits types (list_target (Some u))) f.args
        → listed d t_there (n.table u) q g (map (arg_over n v) f.args) ≡ mapped over (listed c t u o f f.args)
    listed_over u o q begins starts at args =
        argued over h.at rows rows (λ x. arguments_over x s n u) (list_due c f.args h.args u) (list_due d (map (arg_over n v) f.args) h.args (n.table u))
        (λ y. list_by u o h (f, y) (below_at c t below f)) (λ y. list_by (n.table u) q h (g, y) (below_at d t_there below g))
        (list_due_over s z n a r of_role alike vars u v f.args h.args args)
        (λ x. mapped_over (λ fs. fields_over fs s n u) over (list (origin_of u o) x) (list (origin_of (n.table u) q) (arguments_over x s n u))
        (λ fs. ap₂ (λ w y. list w (arguments_over x s n y) (fields_over fs s n y)) (sym begins) (sym starts))
        (fields_due c (base f.ty) u below) (fields_due d (base g.ty) (n.table u) below) (rows_below u at))

    pub totalled_over : (u : ℕ) (o q : Option ℕ) → origin_over (origin_of u o) n t ≡ origin_of (n.table u) q → origin_table (origin_of u o) s t ≡ u
        → At types (base f.ty) (type.Aggregate u) → Each (ArgFits types (list_target (Some u))) f.args
        → totalled d t_there (n.table u) q g (map (arg_over n v) f.args) ≡ mapped over (totalled c t u o f f.args)
    totalled_over u o q begins starts at args =
        argued over h.at rows rows (λ x. arguments_over x s n u) (list_due c f.args h.args u) (list_due d (map (arg_over n v) f.args) h.args (n.table u))
        (λ y. aggregate_by u o h (f, y) (below_at c t below f)) (λ y. aggregate_by (n.table u) q h (g, y) (below_at d t_there below g))
        (list_due_over s z n a r of_role alike vars u v f.args h.args args)
        (λ x. mapped_over (λ ps. parts_over ps s n u) over (aggregate (origin_of u o) x) (aggregate (origin_of (n.table u) q) (arguments_over x s n u))
        (λ ps. ap₂ (λ w y. aggregate w (arguments_over x s n y) (parts_over ps s n y)) (sym begins) (sym starts))
        (parts_due c (base f.ty) u below) (parts_due d (base g.ty) (n.table u) below) (parts_below u at))

    -- the name of the type
    pub name_over_below : asked d place t_there h below g [] origin.TypeName ≡ mapped over (asked c place t h below f [] origin.TypeName)
    name_over_below = named_by over typename typename (λ name. refl) (type_name_due r place h) (type_name_due (schema_over n r) place h) (name_over n r place h)

  -- ---- one field at a row of table t

  module _ (h : FieldHead) (below : CollectedTrees) (inner : Inner below) (place t : ℕ) (f g : schema.FieldTree) (same : g.ty ≡ f.ty) (v : ℕ) (seen : a.seen t ≡ true) where
    abbrev row : FieldTree → FieldTree
    row x = asked_over x s n t

    object_row : (q : ℕ) (o : Option Rel) → a.rel t q ≡ o → Reaches types f.ty (behind_one o type.Rows)
        → mapped (object (n.relationship t q)) (fields_due d (base g.ty) (rel z (n.table t) (n.relationship t q)).remote below)
        ≡ mapped row (mapped (object q) (fields_due c (base f.ty) (rel s t q).remote below))
    object_row q None is at = absurd at
    object_row q (Some x) is at = go x.many refl at
      where
        go : (b : Bool) → x.many ≡ b → Reaches types f.ty (where_holds (not b) (to (type.Rows x.remote)))
            → mapped (object (n.relationship t q)) (fields_due d (base g.ty) (rel z (n.table t) (n.relationship t q)).remote below)
            ≡ mapped row (mapped (object q) (fields_due c (base f.ty) (rel s t q).remote below))
        go true many at = absurd at
        go false one at =
            let leads = alike.leads t q x seen is (type_seen s a r of_role (base f.ty) (type.Rows x.remote) at) in
            let u : ℕ = (rel s t q).remote in
            let there : (rel z (n.table t) (n.relationship t q)).remote ≡ n.table u = leads.1 ∙ ap n.table (sym leads.0) in
            mapped_over (λ fs. fields_over fs s n u) row (object q) (object (n.relationship t q)) (λ fs. refl)
            (fields_due c (base f.ty) u below) (fields_due d (base g.ty) (rel z (n.table t) (n.relationship t q)).remote below)
            (ap (λ w. fields_due d (base g.ty) w below) there ∙ rows_below h below inner place t (n.table t) f g same v u (subst (λ w. At types (base f.ty) (type.Rows w)) (sym leads.0) at))

    list_row : (q : ℕ) (o : Option Rel) → a.rel t q ≡ o → Reaches types f.ty (behind_many o type.Rows) → Each (ArgFits types (list_target (remote_of o))) f.args
        → asked d place (n.table t) h below g (map (arg_over n v) f.args) (origin.«List» (n.relationship t q)) ≡ mapped row (asked c place t h below f f.args (origin.«List» q))
    list_row q None is at args = absurd at
    list_row q (Some x) is at args = go x.many refl at
      where
        go : (b : Bool) → x.many ≡ b → Reaches types f.ty (where_holds b (to (type.Rows x.remote)))
            → asked d place (n.table t) h below g (map (arg_over n v) f.args) (origin.«List» (n.relationship t q)) ≡ mapped row (asked c place t h below f f.args (origin.«List» q))
        go false one at = absurd at
        go true many at =
            let leads = alike.leads t q x seen is (type_seen s a r of_role (base f.ty) (type.Rows x.remote) at) in
            let u : ℕ = (rel s t q).remote in
            let there : (rel z (n.table t) (n.relationship t q)).remote ≡ n.table u = leads.1 ∙ ap n.table (sym leads.0) in
            ap (λ w. listed h below inner place t (n.table t) f g same v d (n.table t) w (Some (n.relationship t q)) g (map (arg_over n v) f.args)) there
            ∙ listed_over h below inner place t (n.table t) f g same v u (Some q) (Some (n.relationship t q)) refl refl (subst (λ w. At types (base f.ty) (type.Rows w)) (sym leads.0) at)
            (subst (λ w. Each (ArgFits types (list_target (Some w))) f.args) (sym leads.0) args)

    aggregate_row : (q : ℕ) (o : Option Rel) → a.rel t q ≡ o → Reaches types f.ty (aggregates_behind a o) → Each (ArgFits types (list_target (remote_of o))) f.args
        → asked d place (n.table t) h below g (map (arg_over n v) f.args) (origin.ListAggregate (n.relationship t q)) ≡ mapped row (asked c place t h below f f.args (origin.ListAggregate q))
    aggregate_row q None is at args = absurd at
    aggregate_row q (Some x) is at args = go x.many (a.aggregates x.remote) at
      where
        go : (b e : Bool) → Reaches types f.ty (where_holds b (where_holds e (to (type.Aggregate x.remote))))
            → asked d place (n.table t) h below g (map (arg_over n v) f.args) (origin.ListAggregate (n.relationship t q)) ≡ mapped row (asked c place t h below f f.args (origin.ListAggregate q))
        go false e at = absurd at
        go true false at = absurd at
        go true true at =
            let leads = alike.leads t q x seen is (type_seen s a r of_role (base f.ty) (type.Aggregate x.remote) at) in
            let u : ℕ = (rel s t q).remote in
            let there : (rel z (n.table t) (n.relationship t q)).remote ≡ n.table u = leads.1 ∙ ap n.table (sym leads.0) in
            ap (λ w. totalled h below inner place t (n.table t) f g same v d (n.table t) w (Some (n.relationship t q)) g (map (arg_over n v) f.args)) there
            ∙ totalled_over h below inner place t (n.table t) f g same v u (Some q) (Some (n.relationship t q)) refl refl (subst (λ w. At types (base f.ty) (type.Aggregate w)) (sym leads.0) at)
            (subst (λ w. Each (ArgFits types (list_target (Some w))) f.args) (sym leads.0) args)

    own_row : (o : FieldOrigin) → Reaches types f.ty (row_target a t o) → Each (ArgFits types (row_args a t o)) f.args
        → asked d place (n.table t) h below g (map (arg_over n v) f.args) (field_origin_over n t o) ≡ mapped row (asked c place t h below f f.args o)
    own_row (origin.Column col) at args = refl
    own_row (origin.Object q) at args = object_row q (a.rel t q) refl at
    own_row (origin.«List» q) at args = list_row q (a.rel t q) refl at args
    own_row (origin.ListAggregate q) at args = aggregate_row q (a.rel t q) refl at args
    own_row o at args = absurd at

  one_row : (h : FieldHead) (below : CollectedTrees) → Inner below → (place t : ℕ) → At types place (type.Rows t) → (f : schema.FieldTree) → Found s a r of_role place (type.Rows t) f
      → asked d place (n.table t) h below (field_over n t f) (field_over n t f).args (field_over n t f).origin ≡ mapped (λ x. asked_over x s n t) (asked c place t h below f f.args f.origin)
  one_row h below inner place t at f (own i) =
      own_row h below inner place t f (field_over n t f) refl (keyed_table f.origin t) (type_seen s a r of_role place (type.Rows t) at) f.origin i.fits.reaches i.fits.args
  one_row h below inner place t at f (of_type_name is) =
      subst
      (λ (k : schema.FieldTree). asked d place (n.table t) h below (field_over n t k) (field_over n t k).args (field_over n t k).origin
      ≡ mapped (λ x. asked_over x s n t) (asked c place t h below k k.args k.origin))
      (sym is)
      (name_over_below h below inner place t (n.table t) type_name_field (field_over n t type_name_field) refl 0)
  one_row h below inner place t at f (of_schema root is) = let no : type.Query ≡ type.Rows t = root_is s a r of_role place (type.Rows t) root at in cc
  one_row h below inner place t at f (of_type root is) = let no : type.Query ≡ type.Rows t = root_is s a r of_role place (type.Rows t) root at in cc

  -- ---- one part of an aggregate over rows of table u

  module _ (h : FieldHead) (below : CollectedTrees) (inner : Inner below) (place u : ℕ) where
    abbrev part_asked : Context → ℕ → schema.FieldTree → List ArgTree → FieldOrigin → Due PartTree
    part_asked x w f args o =
        and_then (λ (y : FieldArguments). part_by x place h (summaries_due x (base f.ty) w below) (fields_due x (base f.ty) w below) o)
        (at_field h.at (by_origin x w args h.args o))

    abbrev parted : PartTree → PartTree
    parted p = part_over p s n u

    own_part : (f : schema.FieldTree) (v : ℕ) (o : FieldOrigin) → Reaches types f.ty (aggregate_target u o)
        → part_asked d (n.table u) (field_over n u f) (map (arg_over n v) f.args) (field_origin_over n u o) ≡ mapped parted (part_asked c u f f.args o)
    own_part f v origin.Aggregates at =
        mapped_over (map (keyed_summary_over n u)) parted summary summary (λ fs. refl) (summaries_due c (base f.ty) u below) (summaries_due d (base f.ty) (n.table u) below)
        (summaries_over s z n a r of_role alike vars u below (base f.ty) at)
    own_part f v origin.Nodes at =
        mapped_over (λ fs. fields_over fs s n u) parted nodes nodes (λ fs. refl) (fields_due c (base f.ty) u below) (fields_due d (base f.ty) (n.table u) below) (inner.rows (base f.ty) u at)
    own_part f v o at = absurd at

    name_part : part_asked d (n.table u) (field_over n u type_name_field) [] origin.TypeName ≡ mapped parted (part_asked c u type_name_field [] origin.TypeName)
    name_part = named_by parted part_typename part_typename (λ name. refl) (type_name_due r place h) (type_name_due (schema_over n r) place h) (name_over n r place h)

    one_part : At types place (type.Aggregate u) → (f : schema.FieldTree) → Found s a r of_role place (type.Aggregate u) f
        → part_asked d (n.table u) (field_over n u f) (field_over n u f).args (field_over n u f).origin ≡ mapped parted (part_asked c u f f.args f.origin)
    one_part at f (own i) = own_part f (keyed_table f.origin u) f.origin i.fits.reaches
    one_part at f (of_type_name is) =
        subst
        (λ (k : schema.FieldTree). part_asked d (n.table u) (field_over n u k) (field_over n u k).args (field_over n u k).origin
        ≡ mapped parted (part_asked c u k k.args k.origin))
        (sym is) name_part
    one_part at f (of_schema root is) = let no : type.Query ≡ type.Aggregate u = root_is s a r of_role place (type.Aggregate u) root at in cc
    one_part at f (of_type root is) = let no : type.Query ≡ type.Aggregate u = root_is s a r of_role place (type.Aggregate u) root at in cc

  -- ---- all

  rows_one : (key : List ℕ) (h : FieldHead) (below others : CollectedTrees) → Inner below → Inner others → (place t : ℕ) → At types place (type.Rows t)
      → fields_due d place (n.table t) (collected key h below others) ≡ mapped (λ fs. fields_over fs s n t) (fields_due c place t (collected key h below others))
  rows_one key h below others inner later place t at =
      let next : KnownField → Due FieldTree = λ k. field_by c place t h k (below_at c t below k.0) k.0.origin in
      let over : KnownField → Due FieldTree = λ k. field_by d place (n.table t) h k (below_at d (n.table t) below k.0) k.0.origin in
      then_over (λ x. asked_over x s n t) (λ fs. fields_over fs s n t) (λ f. mapped (field key f) (fields_due c place t others)) (λ f. mapped (field key f) (fields_due d place (n.table t) others))
      (known_due c place t h (is_empty below) >>= next) (known_due d place (n.table t) h (is_empty below) >>= over)
      (known_over s z n a r of_role vars (λ x. asked_over x s n t) place (type.Rows t) at t (n.table t) h (is_empty below) next over (one_row h below inner place t at))
      (λ f e. mapped_over (λ fs. fields_over fs s n t) (λ fs. fields_over fs s n t) (field key f) (field key (asked_over f s n t))
      (λ fs. refl) (fields_due c place t others) (fields_due d place (n.table t) others) (later.rows place t at))

  parts_one : (key : List ℕ) (h : FieldHead) (below others : CollectedTrees) → Inner below → Inner others → (place u : ℕ) → At types place (type.Aggregate u)
      → parts_due d place (n.table u) (collected key h below others) ≡ mapped (λ ps. parts_over ps s n u) (parts_due c place u (collected key h below others))
  parts_one key h below others inner later place u at =
      let next : KnownField → Due PartTree = λ k. part_by c place h (summaries_due c (leads_to k) u below) (fields_due c (leads_to k) u below) k.0.origin in
      let over : KnownField → Due PartTree = λ k. part_by d place h (summaries_due d (leads_to k) (n.table u) below) (fields_due d (leads_to k) (n.table u) below) k.0.origin in
      then_over (λ p. part_over p s n u) (λ ps. parts_over ps s n u) (λ p. mapped (part key p) (parts_due c place u others)) (λ p. mapped (part key p) (parts_due d place (n.table u) others))
      (known_due c place u h (is_empty below) >>= next) (known_due d place (n.table u) h (is_empty below) >>= over)
      (known_over s z n a r of_role vars (λ p. part_over p s n u) place (type.Aggregate u) at u (n.table u) h (is_empty below) next over (one_part h below inner place u at))
      (λ p e. mapped_over (λ ps. parts_over ps s n u) (λ ps. parts_over ps s n u) (part key p) (part key (part_over p s n u)) (λ ps. refl)
      (parts_due c place u others) (parts_due d place (n.table u) others) (later.parts place u at))

  pub all_over : (trees : CollectedTrees) → Inner trees
  all_over no_collected = record { rows = λ place u at. refl; parts = λ place u at. refl }
  all_over (collected key h below others) =
      let inner = all_over below in
      let later = all_over others in
      record { rows = rows_one key h below others inner later; parts = parts_one key h below others inner later }
