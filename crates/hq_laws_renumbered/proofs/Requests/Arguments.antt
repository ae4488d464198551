-- The arguments of a list and of `count`, in other numbers.
use Rattle.std.proofs.Common.{◌≡◌, ◌∙◌, refl, ap, ℕ, List, [], ◌∷◌, map, Bool, true, false, cond, not, ◌||◌, Option, Some, None, IfSome, Ok, Err, option_map, codes}
use Rattle.hq_base.specs.Due.{mapped, ◌>>=◌}
use Rattle.hq_base.specs.Lists.{Each}
use Rattle.hq_model.specs.Bexp.{BexpTree}
use Rattle.hq_model.specs.Schema.{Schema}
use Rattle.hq_model.specs.Selected.{SortKey, ListArguments}
use Rattle.hq_gql_tree.specs.Values.{ArgumentTree}
use Rattle.hq_gql_tree.specs.declared.rule.RuleId.TheVariants.{UnorderedColumn}
use Rattle.hq_schema.specs.Schema.{ArgTree, TypeTree, SchemaTree}
use Rattle.hq_schema_roles.specs.Access.{Access}
use Rattle.hq_schema_roles.specs.Leads.{ArgFits, list_target, count_target}
use Rattle.hq_request_arguments.specs.Columns.{has_order, distinct_due, counted_due}
use Rattle.hq_request_arguments.specs.Context.{Context}
use Rattle.hq_request_arguments.specs.Due.{list_due, counting, count_due, introspection_due}
use Rattle.hq_request_arguments.specs.FieldArguments.{FieldArguments, count, deprecated}
use Rattle.hq_request_arguments.specs.Page.{rows_due}
use Rattle.hq_request_arguments.specs.Plain.{flag_due}
use Rattle.hq_request_arguments.specs.Reading.{Read, Given, given_named}
use Rattle.hq_request_arguments.specs.Sorts.{order_by_due}
use Rattle.hq_request_arguments.specs.Where.{where_due}
use Rattle.hq_request_arguments.specs.declared.refusal.ArgRefusal.TheVariants.{Rule}
use Rattle.hq_request_coerce.specs.Variables.{VarTree}
use Rattle.hq_laws_renumbered.specs.Resolving.Renumbering.{Renumbering, condition_over, sorts_over, arguments_over}
use Rattle.hq_laws_renumbered.specs.Schemas.SchemaOver.{arg_over, schema_over}
use Rattle.hq_laws_renumbered.specs.Requests.Alike.{TablesAlike}
use Rattle.hq_laws_renumbered.specs.Requests.OfRole.{IsOfRole}
use Rattle.hq_laws_renumbered.proofs.Requests.Columns.{order_over, distinct_over, counted_over, counted_permitted}
use Rattle.hq_laws_renumbered.proofs.Requests.Conditions.{where_over}
use Rattle.hq_laws_renumbered.proofs.Requests.Given.{given_over, context, named_given, given_each, flag_over, rows_over}
use Rattle.hq_laws_renumbered.proofs.Requests.Sorting.{PlainPermitted, SortsRead, order_by_read}
use Rattle.hq_laws_renumbered.proofs.Requests.Steps.{then_over, then_same}

-- what stands behind a step
abbrev after_offset : Context → List ArgTree → List ArgumentTree → (t : ℕ) → BexpTree → List SortKey → (limit offset : Option ℕ) → Read ListArguments
after_offset c args xs t wanted sorts limit offset =
    distinct_due c t sorts (given_named c args xs (codes "distinct_on")) >>= λ distinct. Ok (record { wanted = wanted; sorts = sorts; distinct = distinct; limit = limit; offset = offset })

abbrev after_limit : Context → List ArgTree → List ArgumentTree → (t : ℕ) → BexpTree → List SortKey → Option ℕ → Read ListArguments
after_limit c args xs t wanted sorts limit = rows_due (given_named c args xs (codes "offset")) >>= after_offset c args xs t wanted sorts limit

abbrev after_sorts : Context → List ArgTree → List ArgumentTree → (t : ℕ) → BexpTree → List SortKey → Read ListArguments
after_sorts c args xs t wanted sorts = rows_due (given_named c args xs (codes "limit")) >>= after_limit c args xs t wanted sorts

abbrev after_where : Context → List ArgTree → List ArgumentTree → (t : ℕ) → BexpTree → Read ListArguments
after_where c args xs t wanted = order_by_due c t (given_named c args xs (codes "order_by")) >>= after_sorts c args xs t wanted

-- the arguments of a count over rows of table u
abbrev pub count_over : Renumbering → ℕ → FieldArguments → FieldArguments
count_over n u (count col distinct) = count (option_map (n.column u) col) distinct
count_over n u x = x

module _ (s z : Schema) (n : Renumbering) (a : Access) (r : SchemaTree) (of_role : IsOfRole s a r) (alike : TablesAlike s z n a) (vars : List VarTree) where
  abbrev c : Context
  c = context vars r s

  abbrev d : Context
  d = context vars (schema_over n r) z

  abbrev types : List TypeTree
  types = r.types

  -- an argument that is read against the schema in other numbers
  of_name : (v : ℕ) (args : List ArgTree) (xs : List ArgumentTree) (name : List ℕ) → given_named d (map (arg_over n v) args) xs name ≡ option_map (given_over n v) (given_named c args xs name)
  of_name v args xs name = named_given n vars r (schema_over n r) s z v args xs name

  module _ (u v : ℕ) (args : List ArgTree) (xs : List ArgumentTree) (fit : Each (ArgFits types (list_target (Some u))) args) where
    here : (name : List ℕ) (g : Given) → given_named c args xs name ≡ Some g → ArgFits types (list_target (Some u)) g.arg
    here name g is = given_each (ArgFits types (list_target (Some u))) c args xs name g fit is

    rows_same : (name : List ℕ) → rows_due (given_named d (map (arg_over n v) args) xs name) ≡ rows_due (given_named c args xs name)
    rows_same name = ap rows_due (of_name v args xs name) ∙ rows_over n v (given_named c args xs name)

    abbrev list_over : ListArguments → ListArguments
    list_over x = arguments_over x s n u

    sorts_read : SortsRead s z n a r of_role alike vars u
        (order_by_due d (n.table u) (option_map (given_over n v) (given_named c args xs (codes "order_by"))))
        (order_by_due c u (given_named c args xs (codes "order_by")))
    sorts_read = order_by_read s z n a r of_role alike vars u v (given_named c args xs (codes "order_by")) (here (codes "order_by"))

    offset_over : (b : BexpTree) (ks : List SortKey) (limit offset : Option ℕ) → Each (PlainPermitted s z n a r of_role alike vars u) ks
        → after_offset d (map (arg_over n v) args) xs (n.table u) (condition_over b s n u) (sorts_over ks s n u) limit offset ≡ mapped list_over (after_offset c args xs u b ks limit offset)
    offset_over b ks limit offset p =
        then_over (map (n.column u)) list_over (λ distinct. Ok (record { wanted = b; sorts = ks; distinct = distinct; limit = limit; offset = offset }))
        (λ distinct. Ok (record { wanted = condition_over b s n u; sorts = sorts_over ks s n u; distinct = distinct; limit = limit; offset = offset }))
        (distinct_due c u ks (given_named c args xs (codes "distinct_on"))) (distinct_due d (n.table u) (sorts_over ks s n u) (given_named d (map (arg_over n v) args) xs (codes "distinct_on")))
        (ap (distinct_due d (n.table u) (sorts_over ks s n u)) (of_name v args xs (codes "distinct_on"))
        ∙ distinct_over s z n a r of_role alike vars u v (given_named c args xs (codes "distinct_on")) (here (codes "distinct_on")) ks p)
        (λ cs e. refl)

    limit_over : (b : BexpTree) (ks : List SortKey) (limit : Option ℕ) → Each (PlainPermitted s z n a r of_role alike vars u) ks
        → after_limit d (map (arg_over n v) args) xs (n.table u) (condition_over b s n u) (sorts_over ks s n u) limit ≡ mapped list_over (after_limit c args xs u b ks limit)
    limit_over b ks limit p =
        then_same list_over (after_offset c args xs u b ks limit) (after_offset d (map (arg_over n v) args) xs (n.table u) (condition_over b s n u) (sorts_over ks s n u) limit)
        (rows_due (given_named c args xs (codes "offset"))) (rows_due (given_named d (map (arg_over n v) args) xs (codes "offset")))
        (rows_same (codes "offset")) (λ offset e. offset_over b ks limit offset p)

    after_sorts_over : (b : BexpTree) (ks : List SortKey) → Each (PlainPermitted s z n a r of_role alike vars u) ks
        → after_sorts d (map (arg_over n v) args) xs (n.table u) (condition_over b s n u) (sorts_over ks s n u) ≡ mapped list_over (after_sorts c args xs u b ks)
    after_sorts_over b ks p =
        then_same list_over (after_limit c args xs u b ks) (after_limit d (map (arg_over n v) args) xs (n.table u) (condition_over b s n u) (sorts_over ks s n u))
        (rows_due (given_named c args xs (codes "limit"))) (rows_due (given_named d (map (arg_over n v) args) xs (codes "limit"))) (rows_same (codes "limit")) (λ limit e. limit_over b ks limit p)

    after_where_over : (b : BexpTree) → after_where d (map (arg_over n v) args) xs (n.table u) (condition_over b s n u) ≡ mapped list_over (after_where c args xs u b)
    after_where_over b =
        then_over (λ ks. sorts_over ks s n u) list_over (after_sorts c args xs u b) (after_sorts d (map (arg_over n v) args) xs (n.table u) (condition_over b s n u))
        (order_by_due c u (given_named c args xs (codes "order_by"))) (order_by_due d (n.table u) (given_named d (map (arg_over n v) args) xs (codes "order_by")))
        (ap (order_by_due d (n.table u)) (of_name v args xs (codes "order_by")) ∙ sorts_read.over) (λ ks e. after_sorts_over b ks (sorts_read.used ks e))

    pub list_due_over : list_due d (map (arg_over n v) args) xs (n.table u) ≡ mapped list_over (list_due c args xs u)
    list_due_over =
        then_over (λ b. condition_over b s n u) list_over (after_where c args xs u) (after_where d (map (arg_over n v) args) xs (n.table u))
        (where_due c u (given_named c args xs (codes "where"))) (where_due d (n.table u) (given_named d (map (arg_over n v) args) xs (codes "where")))
        (ap (where_due d (n.table u)) (of_name v args xs (codes "where"))
        ∙ where_over s z n a r of_role alike vars u v (given_named c args xs (codes "where")) (here (codes "where")))
        (λ b e. after_where_over b)

  -- ---- count

  counting_over : (u : ℕ) (col : Option ℕ) (distinct : Bool) → IfSome col (λ k. a.column u k ≡ true)
      → counting d (n.table u) (option_map (n.column u) col) distinct ≡ mapped (count_over n u) (counting c u col distinct)
  counting_over u None distinct p = refl
  counting_over u (Some k) distinct p =
      ap (λ b. cond (not distinct || b) (Ok (count (Some (n.column u k)) distinct)) (Err (Rule UnorderedColumn))) (order_over s z n a r of_role alike vars u k p) ∙ go (not distinct || has_order c u k)
    where
      go : (b : Bool) → cond b (Ok (count (Some (n.column u k)) distinct)) (Err (Rule UnorderedColumn)) ≡ mapped (count_over n u) (cond b (Ok (count (Some k) distinct)) (Err (Rule UnorderedColumn)))
      go true = refl
      go false = refl

  pub count_due_over : (u v : ℕ) (args : List ArgTree) (xs : List ArgumentTree) → Each (ArgFits types (count_target u)) args
      → count_due d (map (arg_over n v) args) xs (n.table u) ≡ mapped (count_over n u) (count_due c args xs u)
  count_due_over u v args xs fit =
      let here : (g : Given) → given_named c args xs (codes "columns") ≡ Some g → ArgFits types (count_target u) g.arg =
      λ g is. given_each (ArgFits types (count_target u)) c args xs (codes "columns") g fit is in
      let flag : flag_due (given_named d (map (arg_over n v) args) xs (codes "distinct")) ≡ flag_due (given_named c args xs (codes "distinct")) =
      ap flag_due (of_name v args xs (codes "distinct")) ∙ flag_over n v (given_named c args xs (codes "distinct")) in
      then_over (option_map (n.column u)) (count_over n u) (λ col. flag_due (given_named c args xs (codes "distinct")) >>= λ distinct. counting c u col distinct)
      (λ col. flag_due (given_named d (map (arg_over n v) args) xs (codes "distinct")) >>= λ distinct. counting d (n.table u) col distinct)
      (counted_due c (given_named c args xs (codes "columns"))) (counted_due d (given_named d (map (arg_over n v) args) xs (codes "columns")))
      (ap (counted_due d) (of_name v args xs (codes "columns")) ∙ counted_over s z n a r of_role alike vars u v (given_named c args xs (codes "columns")) here)
      (λ col e. then_same (count_over n u) (λ distinct. counting c u col distinct) (λ distinct. counting d (n.table u) (option_map (n.column u) col) distinct)
      (flag_due (given_named c args xs (codes "distinct"))) (flag_due (given_named d (map (arg_over n v) args) xs (codes "distinct"))) flag
      (λ distinct g. counting_over u col distinct (counted_permitted s z n a r of_role alike vars u (given_named c args xs (codes "columns")) here col e)))

  -- ---- introspection

  pub introspection_over : (v : ℕ) (args : List ArgTree) (xs : List ArgumentTree) → introspection_due d (map (arg_over n v) args) xs ≡ introspection_due c args xs
  introspection_over v [] xs = refl
  introspection_over v (x ∷ args) xs =
      ap (λ o. mapped deprecated (flag_due o)) (of_name v (x ∷ args) xs (codes "includeDeprecated")) ∙ ap (mapped deprecated) (flag_over n v (given_named c (x ∷ args) xs (codes "includeDeprecated")))
