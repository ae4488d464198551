-- Conjuncts that what a session is granted asks for: those of a table's filter and of a column's mask, and those of a relationship.
use Rattle.std.specs.Prelude.{ℕ, List, [], ◌∷◌, length, Bool, false, not, ◌&&◌, ◌==◌, Option, Some, None, is_none, bytes_eq}
use Rattle.std.specs.List.{list_all, list_any}
use Rattle.hq_model.specs.Grants.{Grants, grant}
use Rattle.hq_model.specs.Permission.{Permission}
use Rattle.hq_model.specs.Permitted.{mask_of}
use Rattle.hq_model.specs.Schema.{Schema, table}
use Rattle.hq_model.specs.declared.meta.Pair.{Pair}
use Rattle.hq_model.specs.declared.meta.Rel.{Rel}
use Rattle.hq_model.specs.declared.op.Op.TheVariants.{Eq}
use Rattle.hq_model.specs.declared.test.Test.TheVariants.{Compare}
use Rattle.hq_sql_tree.specs.Tree as tree
use Rattle.hq_sql_tree.specs.Tree.{ExprTree, OutTree, SelectTree, PredTree}
use Rattle.hq_sql_tree.specs.Form.{is_one, is_no_join}
use Rattle.hq_translation.specs.Names.{table_alias}
use Rattle.hq_translation.specs.Looks.{name_of}
use Rattle.hq_translation.specs.Predicates.{own_predicate}
use Rattle.hq_translation.specs.Masks.{filter_predicate}
use Rattle.hq_translation.specs.GrantedTables.{granted_of}
use Rattle.hq_confine_rules.specs.Conjuncts.{opened, conjuncts}
use Rattle.hq_confine_rules.specs.Origins.{Shape, scan, outputs, Shapes, shape_at, column_place}
use Rattle.hq_confine_rules.specs.Renamed.{alias_of, is_alike}

-- ---- filters

-- the conjuncts of a table's bound filter, as they are written at the alias of number 0
abbrev pub filter_conjuncts : Schema → Grants → (t : ℕ) → List PredTree
filter_conjuncts s g t = opened (filter_predicate s (granted_of g) t 0 1)

-- a conjunct is this one of a filter or mask, at an alias
abbrev pub is_written : List ℕ → PredTree → PredTree → Bool
is_written alias own p = is_alike ((table_alias 0, alias) ∷ []) own p

-- a conjunct is one of these at an alias
abbrev pub is_one_of : List PredTree → List ℕ → PredTree → Bool
is_one_of owns alias p = list_any (λ own. is_written alias own p) owns

-- these stand, at an alias, among the conjuncts
abbrev pub stand_among : List PredTree → (owns : List PredTree) → List ℕ → Bool
stand_among all owns alias = list_all (λ own. list_any (is_written alias own) all) owns

-- ---- links

-- an equation of two columns
pub record Equation : Type 0 where
  pub remote_alias : List ℕ
  pub remote_name : List ℕ
  pub own_alias : List ℕ
  pub own_name : List ℕ

abbrev pub equation_between : ExprTree → List ExprTree → Option Equation
equation_between (tree.column a n form) (tree.column b m other ∷ []) = Some (record { remote_alias = a; remote_name = n; own_alias = b; own_name = m })
equation_between _ _ = None

abbrev pub equation : PredTree → Option Equation
equation (tree.test e (Compare Eq) es) = equation_between e es
equation _ = None

-- the equation of a pair of columns of the tables t and u, at the aliases a and b
abbrev pub is_equation_of : Schema → (t u : ℕ) → (a b : List ℕ) → Pair → Equation → Bool
is_equation_of s t u a b p q =
    bytes_eq q.remote_alias a && bytes_eq q.own_alias b
    && bytes_eq (name_of (table s t).columns p.remote) q.remote_name && bytes_eq (name_of (table s u).columns p.own) q.own_name

abbrev pub is_for_pair : Schema → (t u : ℕ) → (a b : List ℕ) → Pair → Option Equation → Bool
is_for_pair s t u a b p None = false
is_for_pair s t u a b p (Some q) = is_equation_of s t u a b p q

-- a conjunct is an equation of a whole link by this relationship of table u: the conjuncts have one for each of its pairs, with the
-- remote column on the scan of t at the alias a, and the own one at the alias b
abbrev pub is_whole_link : Schema → (all : List PredTree) → (t u : ℕ) → (a b : List ℕ) → Equation → Rel → Bool
is_whole_link s all t u a b q r =
    (r.remote == t) && list_any (λ p. is_equation_of s t u a b p q) r.pairs
    && list_all (λ p. list_any (λ c. is_for_pair s t u a b p (equation c)) all) r.pairs

abbrev pub links_shape : Schema → (all : List PredTree) → (t : ℕ) → (a : List ℕ) → Equation → Shape → Bool
links_shape s all t a q (scan u) = list_any (is_whole_link s all t u a q.own_alias q) (table s u).rels
links_shape s all t a q (outputs os) = false

-- An equation stands in a whole link from another scan in scope. That both tables are permitted is asked of each scan.
abbrev pub is_linking : Schema → Shapes → (all : List PredTree) → (t : ℕ) → (a : List ℕ) → Option Equation → Bool
is_linking s scope all t a None = false
is_linking s scope all t a (Some q) = not (bytes_eq a q.own_alias) && links_shape s all t a q (shape_at scope q.own_alias)

-- ---- masks

-- the column has a mask
abbrev pub has_mask : Permission → (c : ℕ) → Bool
has_mask p c = list_any (λ m. m.column == c) p.masks

abbrev pub is_permitted : Permission → (c : ℕ) → Bool
is_permitted p c = list_any (λ d. d == c) p.columns

-- the conjuncts of a column's mask, as they are written at the alias of number 0
abbrev pub mask_conjuncts : Schema → Grants → (t c : ℕ) → List PredTree
mask_conjuncts s g t c = opened (own_predicate (mask_of (grant g t).masks c) s t 0 1)

-- these conjuncts are exactly those of the mask of a column of table t, where there is one
abbrev pub shows_masked : Schema → Grants → (alias : List ℕ) → (all : List PredTree) → (t : ℕ) → Option ℕ → Bool
shows_masked s g alias all t None = false
shows_masked s g alias all t (Some c) =
    is_permitted (grant g t) c && has_mask (grant g t) c && stand_among all (mask_conjuncts s g t c) alias && list_all (is_one_of (mask_conjuncts s g t c) alias) all

-- the column of this name of a scan
abbrev pub shows_in : Schema → Grants → (alias name : List ℕ) → (all : List PredTree) → Shape → Bool
shows_in s g alias name all (scan t) = shows_masked s g alias all t (column_place s t name)
shows_in s g alias name all (outputs os) = false

-- one output, which is a column
abbrev pub shows_one : Schema → Grants → Shapes → (all : List PredTree) → ExprTree → Bool
shows_one s g scope all (tree.column alias name form) = shows_in s g alias name all (shape_at scope alias)
shows_one s g scope all _ = false

abbrev pub shows_only : Schema → Grants → Shapes → (all : List PredTree) → List OutTree → Bool
shows_only s g scope all (o ∷ []) = shows_one s g scope all o.value
shows_only s g scope all _ = false

-- Rows over One whose one output is a masked column of a scan around it, without joins, DISTINCT ON, ORDER BY, LIMIT and OFFSET, with
-- exactly the conjuncts of its mask: as a lateral join they show the shown cell.
abbrev pub is_mask_join : Schema → Grants → Shapes → SelectTree → Bool
is_mask_join s g scope (tree.rows distinct outs from joins condition keys limit offset) =
    (length distinct == 0) && is_one from && is_no_join joins && (length keys == 0) && is_none limit && is_none offset
    && shows_only s g ((alias_of from, outputs []) ∷ scope) (conjuncts condition) outs
is_mask_join s g scope (tree.fold out inner alias) = false
