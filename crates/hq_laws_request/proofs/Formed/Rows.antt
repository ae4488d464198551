-- What the fields at rows of a table have, with all that stands below them.
use Rattle.std.proofs.Common.{◌≡◌, ◌∙◌, refl, sym, ap, subst, ℕ, suc, ◌≤◌, arith, List, ◌∷◌, ◌++◌, Bool, true, false, not, Option, Some, None, Ok, codes}
use Rattle.hq_base.specs.Due.{mapped, ◌>>=◌}
use Rattle.hq_base.specs.Lists.{Each}
use Rattle.hq_model.specs.Fits.{fits}
use Rattle.hq_model.specs.Meta.{MetaTree}
use Rattle.hq_model.specs.Schema.{Schema, schema_of, rel}
use Rattle.hq_model.specs.Selected.{ListArguments}
use Rattle.hq_model.specs.declared.meta.Rel.{Rel}
use Rattle.hq_model.specs.declared.role.Role.{Role}
use Rattle.hq_model.specs.declared.table.Table.{Table}
use Rattle.hq_gql_tree.specs.Nesting.{arguments_nest}
use Rattle.hq_gql_tree.specs.Selections.{FieldHead}
use Rattle.hq_schema.specs.Schema.{TypeTree, SchemaTree}
use Rattle.hq_schema.specs.Schema as schema
use Rattle.hq_schema.specs.declared.origin.FieldOrigin.{FieldOrigin}
use Rattle.hq_schema.specs.declared.origin.FieldOrigin.TheVariants as origin
use Rattle.hq_schema.specs.declared.origin.TypeOrigin.TheVariants as type
use Rattle.hq_schema_of_role.specs.RoleSchema.{role_schema}
use Rattle.hq_schema_roles.specs.Access.{Access, access_of}
use Rattle.hq_schema_roles.specs.Leads.{to, where_holds, plain, behind_one, behind_many, aggregates_behind, Reaches, ArgFits, list_target, remote_of, row_target, row_args, aggregate_target}
use Rattle.hq_request_coerce.specs.Variables.{VarTree}
use Rattle.hq_request_collect.specs.Keys.{levels_of}
use Rattle.hq_request_collect.specs.Keys as collect
use Rattle.hq_request_collect.specs.Tree.{CollectedTrees, no_collected, collected, is_empty}
use Rattle.hq_request_tree.specs.Fields.{Origin, along, FieldTrees, no_field, field, FieldTree, column, typename, object, list, aggregate, PartTrees, no_part, part, PartTree, summary, nodes, part_typename}
use Rattle.hq_request_tree.specs.Allowed.{Allowed, allowed_to}
use Rattle.hq_request_tree.specs.Conditions.{FieldFits, PartFits}
use Rattle.hq_request_tree.specs.Everywhere.{Everywhere, Below, EveryPart, BelowPart}
use Rattle.hq_request_tree.specs.Levels.{levels, field_levels, part_levels, one_part_levels}
use Rattle.hq_request_tree.specs.ResponseKeys.{are_keys, keys_of, part_keys, FieldKeys, PartKeys}
use Rattle.hq_request_tree.specs.Standing.{StandsBelow}
use Rattle.hq_request_tree.specs.TypeNames.{row_type_name, FieldNamed, PartNamed}
use Rattle.hq_request_tree.specs.Uses.{UsesHere, UsesPart}
use Rattle.hq_request_arguments.specs.Context.{Context}
use Rattle.hq_request_arguments.specs.Due.{list_due, by_origin}
use Rattle.hq_request_arguments.specs.FieldArguments.{FieldArguments, rows}
use Rattle.hq_request_build.specs.Asked.{below_of, field_by, part_by, fields_due, parts_due}
use Rattle.hq_request_build.specs.Asked as due
use Rattle.hq_request_build.specs.KnownField.{Due, KnownField, known_due, leads_to, rows_of, type_name_due}
use Rattle.hq_request_build.specs.Summaries.{summaries_due}
use Rattle.hq_laws_request.specs.Formed.ObjectsNest.{objects_nest}
use Rattle.hq_laws_request.proofs.Formed.Kept.{AreKept}
use Rattle.hq_laws_request.proofs.Formed.Knowing.{known_is}
use Rattle.hq_laws_request.proofs.Formed.Listing.{ListFits, list_fits}
use Rattle.hq_laws_request.proofs.Formed.Permitted.{column_allowed, aggregates_allowed, rel_at, rel_allowed}
use Rattle.hq_laws_request.proofs.Formed.Places.{At, Schemed, type_seen, Found, own, type_name, of_schema, of_type, field_found, type_named, root_is}
use Rattle.hq_laws_request.proofs.Formed.BuildingSteps.{mapped_ok, then_ok, equal_texts}
use Rattle.hq_laws_request.proofs.Formed.Summing.{summaries_fit}

-- what stands below a field
abbrev pub below_known : Context → (t : ℕ) → CollectedTrees → KnownField → due.Below
below_known c t below k = below_of c (leads_to k) t below

module _ (tables : List Table) (m : MetaTree) (metadata_fits : fits tables m ≡ true) (role : Role) (schemed : Schemed tables m role)
    (vars : List VarTree) (low : Each (λ v. objects_nest v.value ≤ 127) vars) where
  abbrev s : Schema
  s = schema_of tables m

  abbrev R : SchemaTree
  R = role_schema tables m role

  abbrev types : List TypeTree
  types = R.types

  abbrev a : Access
  a = access_of m role

  abbrev ok : Allowed
  ok = allowed_to role m s

  abbrev c : Context
  c = record { vars = vars; schema = R; tables = s }

  -- ---- what a field at a row of table t has, and a part of an aggregate over rows of table u

  pub record RowFacts (t : ℕ) (f : FieldTree) : Type 0 where
    pub uses : UsesHere s ok t f
    pub stand : StandsBelow s t f
    pub fit : FieldFits s t f
    pub keys : FieldKeys t f
    pub named : FieldNamed m t f

  pub record PartFacts (u : ℕ) (p : PartTree) : Type 0 where
    pub uses : UsesPart ok u p
    pub fit : PartFits s u p
    pub keys : PartKeys u p
    pub named : PartNamed m u p

  -- all fields, and all parts
  pub record AllRows (trees : CollectedTrees) (t : ℕ) (fs : FieldTrees) : Type 0 where
    pub every : Everywhere RowFacts PartFacts fs s t
    pub keys : keys_of fs ≡ collect.keys_of trees
    pub levels : levels fs ≤ levels_of trees

  pub record AllParts (trees : CollectedTrees) (u : ℕ) (ps : PartTrees) : Type 0 where
    pub every : EveryPart RowFacts PartFacts ps s u
    pub keys : part_keys ps ≡ collect.keys_of trees
    pub levels : part_levels ps ≤ levels_of trees

  -- what is known of the fields below one: as fields at rows of a table, and as parts of an aggregate
  pub record Inner (below : CollectedTrees) : Type 0 where
    pub rows : (place u : ℕ) → At types place (type.Rows u) → (fs : FieldTrees) → fields_due c place u below ≡ Ok fs → AllRows below u fs
    pub parts : (place u : ℕ) → At types place (type.Aggregate u) → (ps : PartTrees) → parts_due c place u below ≡ Ok ps → AllParts below u ps

  -- ---- one field

  pub record OneRow (below : CollectedTrees) (t : ℕ) (f : FieldTree) : Type 0 where
    pub here : RowFacts t f
    pub under : Below RowFacts PartFacts f s t
    pub levels : field_levels f ≤ suc (levels_of below)

  pub record OnePart (below : CollectedTrees) (u : ℕ) (p : PartTree) : Type 0 where
    pub here : PartFacts u p
    pub under : BelowPart RowFacts PartFacts p s u
    pub levels : one_part_levels p ≤ suc (levels_of below)

  -- a list of rows of table u, and the aggregates over one, with what stands below
  pub record IsList (below : CollectedTrees) (o : Origin) (u : ℕ) (f : FieldTree) : Type 0 where
    pub arguments : ListArguments
    pub fields : FieldTrees
    pub is : list o arguments fields ≡ f
    pub fit : ListFits tables m metadata_fits role schemed vars low u arguments
    pub all : AllRows below u fields
    pub apart : are_keys (keys_of fields) ≡ true

  pub record IsAggregate (below : CollectedTrees) (o : Origin) (u : ℕ) (f : FieldTree) : Type 0 where
    pub arguments : ListArguments
    pub parts : PartTrees
    pub is : aggregate o arguments parts ≡ f
    pub fit : ListFits tables m metadata_fits role schemed vars low u arguments
    pub all : AllParts below u parts
    pub apart : are_keys (part_keys parts) ≡ true

  module _ (h : FieldHead) (below : CollectedTrees) (shallow : arguments_nest h.args ≤ 50) (apart : are_keys (collect.keys_of below) ≡ true) (inner : Inner below) (k : KnownField) where
    -- the arguments of a list
    rows_are : (u : ℕ) → Each (ArgFits types (list_target (Some u))) k.0.args → mapped rows (list_due c k.0.args h.args u) ≡ Ok k.1
        → (la : ListArguments) × (rows la ≡ k.1) × ListFits tables m metadata_fits role schemed vars low u la
    rows_are u args due =
        let one = mapped_ok rows (list_due c k.0.args h.args u) k.1 due in
        (one.0, one.2, list_fits tables m metadata_fits role schemed vars low u k.0.args h.args args shallow one.0 one.1)

    pub list_is : (o : Origin) (u : ℕ) → At types (leads_to k) (type.Rows u) → Each (ArgFits types (list_target (Some u))) k.0.args → mapped rows (list_due c k.0.args h.args u) ≡ Ok k.1
        → (f : FieldTree) → (rows_of h k.1 >>= λ x. mapped (list o x) (fields_due c (leads_to k) u below)) ≡ Ok f → IsList below o u f
    list_is o u at args due f e =
        let r = rows_are u args due in
        let e' : mapped (list o r.0) (fields_due c (leads_to k) u below) ≡ Ok f =
        subst (λ (x : FieldArguments). (rows_of h x >>= λ y. mapped (list o y) (fields_due c (leads_to k) u below)) ≡ Ok f) (sym r.1) e in
        let one = mapped_ok (list o r.0) (fields_due c (leads_to k) u below) f e' in
        let all = inner.rows (leads_to k) u at one.0 one.1 in
        record { arguments = r.0; fields = one.0; is = one.2; fit = r.2; all = all; apart = ap are_keys all.keys ∙ apart }

    pub aggregate_is : (o : Origin) (u : ℕ) → At types (leads_to k) (type.Aggregate u)
        → Each (ArgFits types (list_target (Some u))) k.0.args → mapped rows (list_due c k.0.args h.args u) ≡ Ok k.1
        → (f : FieldTree) → (rows_of h k.1 >>= λ x. mapped (aggregate o x) (parts_due c (leads_to k) u below)) ≡ Ok f → IsAggregate below o u f
    aggregate_is o u at args due f e =
        let r = rows_are u args due in
        let e' : mapped (aggregate o r.0) (parts_due c (leads_to k) u below) ≡ Ok f =
        subst (λ (x : FieldArguments). (rows_of h x >>= λ y. mapped (aggregate o y) (parts_due c (leads_to k) u below)) ≡ Ok f) (sym r.1) e in
        let one = mapped_ok (aggregate o r.0) (parts_due c (leads_to k) u below) f e' in
        let all = inner.parts (leads_to k) u at one.0 one.1 in
        record { arguments = r.0; parts = one.0; is = one.2; fit = r.2; all = all; apart = ap are_keys all.keys ∙ apart }

    module _ (place t : ℕ) where
      abbrev Asked : FieldOrigin → FieldTree → Type 0
      Asked o f = field_by c place t h k (below_known c t below k) o ≡ Ok f

      object_row : (r : ℕ) (o : Option Rel) → a.rel t r ≡ o → Reaches types k.0.ty (behind_one o type.Rows) → (f : FieldTree)
          → mapped (object r) (fields_due c (leads_to k) (rel s t r).remote below) ≡ Ok f → OneRow below t f
      object_row r None is at f e = absurd at
      object_row r (Some q) is at f e = by q.many refl at
        where
          by : (b : Bool) → q.many ≡ b → Reaches types k.0.ty (where_holds (not b) (to (type.Rows q.remote))) → OneRow below t f
          by true many at = absurd at
          by false one at =
              let found = rel_at tables m metadata_fits role t r q is in
              let there : q.remote ≡ (rel s t r).remote = sym (ap (λ (x : Rel). x.remote) found.0) in
              let seen = type_seen tables m role schemed (leads_to k) (type.Rows q.remote) at in
              let got = mapped_ok (object r) (fields_due c (leads_to k) (rel s t r).remote below) f e in
              let all = inner.rows (leads_to k) (rel s t r).remote (subst (λ u. At types (leads_to k) (type.Rows u)) there at) got.0 got.1 in
              subst (OneRow below t) got.2 (record {
                here =
                    record {
                      uses = rel_allowed tables m metadata_fits role t r q is seen;
                      stand = ap (λ (x : Rel). x.many) found.0
                          ∙ one;
                      fit = tt;
                      keys = ap are_keys all.keys ∙ apart;
                      named = tt;
                    };
                under = all.every;
                levels = omega (arith, all.levels);
              })

      list_row : (r : ℕ) (o : Option Rel) → a.rel t r ≡ o → Reaches types k.0.ty (behind_many o type.Rows) → Each (ArgFits types (list_target (remote_of o))) k.0.args
          → mapped rows (list_due c k.0.args h.args (rel s t r).remote) ≡ Ok k.1 → (f : FieldTree) → Asked (origin.«List» r) f → OneRow below t f
      list_row r None is at args due f e = absurd at
      list_row r (Some q) is at args due f e = by q.many refl at
        where
          by : (b : Bool) → q.many ≡ b → Reaches types k.0.ty (where_holds b (to (type.Rows q.remote))) → OneRow below t f
          by false one at = absurd at
          by true many at =
              let found = rel_at tables m metadata_fits role t r q is in
              let there : q.remote ≡ (rel s t r).remote = sym (ap (λ (x : Rel). x.remote) found.0) in
              let seen = type_seen tables m role schemed (leads_to k) (type.Rows q.remote) at in
              let l =
              list_is (along r) (rel s t r).remote (subst (λ u. At types (leads_to k) (type.Rows u)) there at)
              (subst (λ u. Each (ArgFits types (list_target (Some u))) k.0.args) there args) due f e in
              subst (OneRow below t) l.is (record {
                here = record {
                  uses = (rel_allowed tables m metadata_fits role t r q is seen, l.fit.uses);
                  stand = (ap (λ (x : Rel). x.many) found.0 ∙ many, l.fit.stand);
                  fit = l.fit.fit;
                  keys = l.apart;
                  named = tt;
                };
                under = l.all.every;
                levels = omega (arith, l.all.levels);
              })

      aggregate_row : (r : ℕ) (o : Option Rel) → a.rel t r ≡ o → Reaches types k.0.ty (aggregates_behind a o) → Each (ArgFits types (list_target (remote_of o))) k.0.args
          → mapped rows (list_due c k.0.args h.args (rel s t r).remote) ≡ Ok k.1 → (f : FieldTree) → Asked (origin.ListAggregate r) f → OneRow below t f
      aggregate_row r None is at args due f e = absurd at
      aggregate_row r (Some q) is at args due f e = by q.many (a.aggregates q.remote) refl refl at
        where
          by : (b g : Bool) → q.many ≡ b → a.aggregates q.remote ≡ g → Reaches types k.0.ty (where_holds b (where_holds g (to (type.Aggregate q.remote)))) → OneRow below t f
          by false g one granted at = absurd at
          by true false many granted at = absurd at
          by true true many granted at =
              let found = rel_at tables m metadata_fits role t r q is in
              let there : q.remote ≡ (rel s t r).remote = sym (ap (λ (x : Rel). x.remote) found.0) in
              let seen = type_seen tables m role schemed (leads_to k) (type.Aggregate q.remote) at in
              let l =
              aggregate_is (along r) (rel s t r).remote (subst (λ u. At types (leads_to k) (type.Aggregate u)) there at)
              (subst (λ u. Each (ArgFits types (list_target (Some u))) k.0.args) there args) due f e in
              subst (OneRow below t) l.is (record {
                here = record {
                  uses = (
                    rel_allowed tables m metadata_fits role t r q is seen,
                    subst (λ u. ok.aggregates u ≡ true) there (aggregates_allowed tables m metadata_fits role q.remote granted),
                    l.fit.uses,
                  );
                  stand = (ap (λ (x : Rel). x.many) found.0 ∙ many, l.fit.stand);
                  fit = l.fit.fit;
                  keys = l.apart;
                  named = tt;
                };
                under = l.all.every;
                levels = omega (arith, l.all.levels);
              })

      own_row : (o : FieldOrigin) → Reaches types k.0.ty (row_target a t o) → Each (ArgFits types (row_args a t o)) k.0.args
          → by_origin c t k.0.args h.args o ≡ Ok k.1 → (f : FieldTree) → Asked o f → OneRow below t f
      own_row (origin.Column col) at args due f e = by (a.column t col) refl at
        where
          by : (b : Bool) → a.column t col ≡ b → Reaches types k.0.ty (where_holds b plain) → OneRow below t f
          by true permitted at =
              let same : column col ≡ f = cc in
              subst (OneRow below t) same (record {
                here = record { uses = column_allowed tables m metadata_fits role t col permitted; stand = tt; fit = tt; keys = tt; named = tt };
                under = tt;
                levels = omega arith;
              })
          by false permitted at = absurd at
      own_row (origin.Object r) at args due f e = object_row r (a.rel t r) refl at f e
      own_row (origin.«List» r) at args due f e = list_row r (a.rel t r) refl at args due f e
      own_row (origin.ListAggregate r) at args due f e = aggregate_row r (a.rel t r) refl at args due f e
      own_row o at args due f e = absurd at

      name_row : At types place (type.Rows t) → (f : FieldTree) → Asked origin.TypeName f → OneRow below t f
      name_row at f e =
          let one = mapped_ok typename (type_name_due R place h) f e in
          let is = type_named tables m role schemed place (type.Rows t) h one.0 at one.1 in
          subst (OneRow below t) one.2 (record {
            here = record { uses = tt; stand = tt; fit = tt; keys = tt; named = equal_texts one.0 (row_type_name m t) is };
            under = tt;
            levels = omega arith;
          })

      one_row : At types place (type.Rows t) → Found tables m role schemed place (type.Rows t) h.name k.0
          → by_origin c t k.0.args h.args k.0.origin ≡ Ok k.1 → (f : FieldTree) → Asked k.0.origin f → OneRow below t f
      one_row at (own i) due f e = own_row k.0.origin i.fits.reaches i.fits.args due f e
      one_row at (type_name is) due f e = name_row at f (subst (λ (x : schema.FieldTree). Asked x.origin f) is e)
      one_row at (of_schema root is n) due f e = let no : type.Query ≡ type.Rows t = root_is tables m role schemed (type.Rows t) (subst (λ p. At types p (type.Rows t)) root at) in cc
      one_row at (of_type root is n) due f e = let no : type.Query ≡ type.Rows t = root_is tables m role schemed (type.Rows t) (subst (λ p. At types p (type.Rows t)) root at) in cc

    -- ---- one part of an aggregate

    module _ (place u : ℕ) (kept : AreKept below) where
      abbrev Part : FieldOrigin → PartTree → Type 0
      Part o p = part_by c place h (summaries_due c (leads_to k) u below) (fields_due c (leads_to k) u below) o ≡ Ok p

      own_part : (o : FieldOrigin) → Reaches types k.0.ty (aggregate_target u o) → (p : PartTree) → Part o p → OnePart below u p
      own_part origin.Aggregates at p e =
          let one = mapped_ok summary (summaries_due c (leads_to k) u below) p e in
          let all = summaries_fit tables m metadata_fits role schemed vars low u below kept (leads_to k) at one.0 one.1 in
          subst (OnePart below u) one.2 (record {
            here = record { uses = all.uses; fit = all.fit; keys = (ap are_keys all.keys ∙ apart, all.each_keys); named = all.named };
            under = tt;
            levels = omega (arith, all.levels);
          })
      own_part origin.Nodes at p e =
          let one = mapped_ok nodes (fields_due c (leads_to k) u below) p e in
          let all = inner.rows (leads_to k) u at one.0 one.1 in
          subst (OnePart below u) one.2 (record {
            here = record { uses = tt; fit = tt; keys = ap are_keys all.keys ∙ apart; named = tt };
            under = all.every;
            levels = omega (arith, all.levels);
          })
      own_part o at p e = absurd at

      name_part : At types place (type.Aggregate u) → (p : PartTree) → Part origin.TypeName p → OnePart below u p
      name_part at p e =
          let one = mapped_ok part_typename (type_name_due R place h) p e in
          let is = type_named tables m role schemed place (type.Aggregate u) h one.0 at one.1 in
          subst (OnePart below u) one.2 (record {
            here = record { uses = tt; fit = tt; keys = tt; named = equal_texts one.0 (row_type_name m u ++ codes "_aggregate") is };
            under = tt;
            levels = omega arith;
          })

      one_part : At types place (type.Aggregate u) → Found tables m role schemed place (type.Aggregate u) h.name k.0 → (p : PartTree) → Part k.0.origin p → OnePart below u p
      one_part at (own i) p e = own_part k.0.origin i.fits.reaches p e
      one_part at (type_name is) p e = name_part at p (subst (λ (x : schema.FieldTree). Part x.origin p) is e)
      one_part at (of_schema root is n) p e = let no : type.Query ≡ type.Aggregate u = root_is tables m role schemed (type.Aggregate u) (subst (λ q. At types q (type.Aggregate u)) root at) in cc
      one_part at (of_type root is n) p e = let no : type.Query ≡ type.Aggregate u = root_is tables m role schemed (type.Aggregate u) (subst (λ q. At types q (type.Aggregate u)) root at) in cc

  -- ---- all

  rows_one : (key : List ℕ) (h : FieldHead) (below others : CollectedTrees) → AreKept (collected key h below others) → Inner below
      → Inner others → (place t : ℕ) → At types place (type.Rows t) → (fs : FieldTrees)
      → fields_due c place t (collected key h below others) ≡ Ok fs → AllRows (collected key h below others) t fs
  rows_one key h below others kept inner later place t at fs e =
      let next : KnownField → Due FieldTree = λ k. field_by c place t h k (below_known c t below k) k.0.origin in
      let due = known_due c place t h (is_empty below) >>= next in
      let one = then_ok (λ f. mapped (field key f) (fields_due c place t others)) due fs e in
      let two = mapped_ok (field key one.0) (fields_due c place t others) fs one.2 in
      let three = then_ok next (known_due c place t h (is_empty below)) one.0 one.1 in
      let known = known_is c place t h (is_empty below) three.0 three.1 in
      let found = field_found tables m role schemed place (type.Rows t) h.name three.0.0 at known.found in
      let f = one_row h below kept.0 kept.1 inner three.0 place t at found known.arguments one.0 three.2 in
      let rest = later.rows place t at two.0 two.1 in
      subst (AllRows (collected key h below others) t) two.2 (record {
        every = (f.here, f.under, rest.every);
        keys = ap (λ ks. key ∷ ks) rest.keys;
        levels = omega (arith, f.levels, rest.levels);
      })

  parts_one : (key : List ℕ) (h : FieldHead) (below others : CollectedTrees) → AreKept (collected key h below others) → Inner below
      → Inner others → (place u : ℕ) → At types place (type.Aggregate u) → (ps : PartTrees)
      → parts_due c place u (collected key h below others) ≡ Ok ps → AllParts (collected key h below others) u ps
  parts_one key h below others kept inner later place u at ps e =
      let next : KnownField → Due PartTree = λ k. part_by c place h (summaries_due c (leads_to k) u below) (fields_due c (leads_to k) u below) k.0.origin in
      let due = known_due c place u h (is_empty below) >>= next in
      let one = then_ok (λ p. mapped (part key p) (parts_due c place u others)) due ps e in
      let two = mapped_ok (part key one.0) (parts_due c place u others) ps one.2 in
      let three = then_ok next (known_due c place u h (is_empty below)) one.0 one.1 in
      let known = known_is c place u h (is_empty below) three.0 three.1 in
      let found = field_found tables m role schemed place (type.Aggregate u) h.name three.0.0 at known.found in
      let p = one_part h below kept.0 kept.1 inner three.0 place u kept.2 at found one.0 three.2 in
      let rest = later.parts place u at two.0 two.1 in
      subst (AllParts (collected key h below others) u) two.2 (record {
        every = (p.here, p.under, rest.every);
        keys = ap (λ ks. key ∷ ks) rest.keys;
        levels = omega (arith, p.levels, rest.levels);
      })

  pub all_fit : (trees : CollectedTrees) → AreKept trees → Inner trees
  all_fit no_collected kept = record {
    rows = λ place u at fs e. let same : no_field ≡ fs = cc in subst (AllRows no_collected u) same (record { every = tt; keys = refl; levels = omega arith });
    parts = λ place u at ps e. let same : no_part ≡ ps = cc in subst (AllParts no_collected u) same (record { every = tt; keys = refl; levels = omega arith });
  }
  all_fit (collected key h below others) kept =
      let inner = all_fit below kept.2 in
      let later = all_fit others kept.3 in
      record { rows = rows_one key h below others kept inner later; parts = parts_one key h below others kept inner later }
