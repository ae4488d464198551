-- A request uses what is allowed, and no more: each column, relationship, table and aggregate of its fields, conditions,
-- sorts and keys (Hasura, Authorization: select permissions).
use Rattle.std.specs.Prelude.{◌≡◌, ℕ, List, [], ◌∷◌, true, Option, Some, None}
use Rattle.hq_model.specs.Bexp.{BexpTree, always, and_of, or_of, not_of, test, through, exists_in, two_columns, BexpTrees, no_bexp, bexp}
use Rattle.hq_model.specs.Schema.{Schema, table, rel}
use Rattle.hq_model.specs.Selected.{SortKey, ListArguments}
use Rattle.hq_request_tree.specs.Allowed.{Allowed}
use Rattle.hq_request_tree.specs.Everywhere.{Everywhere}
use Rattle.hq_request_tree.specs.Fields.{Origin, from_table, along, FieldTrees, FieldTree, column, typename, no_queries, object, list, by_key, aggregate, introspect, PartTree, summary, nodes, part_typename}
use Rattle.hq_request_tree.specs.Resolve.{origin_table}
use Rattle.hq_request_tree.specs.declared.aggregate.AggCol.{AggCol}
use Rattle.hq_request_tree.specs.declared.aggregate.AggCol.TheVariants as of
use Rattle.hq_request_tree.specs.declared.aggregate.AggField.{AggField}
use Rattle.hq_request_tree.specs.declared.aggregate.AggField.TheVariants as take
use Rattle.hq_request_tree.specs.declared.aggregate.KeyedAggCol.{KeyedAggCol}
use Rattle.hq_request_tree.specs.declared.aggregate.KeyedAggField.{KeyedAggField}

-- columns of table t
abbrev pub UsesColumns : List ℕ → Allowed → ℕ → Type 0
UsesColumns [] ok t = Unit {0}
UsesColumns (c ∷ cs) ok t = (ok.column t c ≡ true) × UsesColumns cs ok t

-- a condition over table t
abbrev mutual
  pub UsesCondition : BexpTree → Schema → Allowed → ℕ → Type 0
  UsesCondition always s ok t = Unit {0}
  UsesCondition (and_of bs) s ok t = UsesConditions bs s ok t
  UsesCondition (or_of bs) s ok t = UsesConditions bs s ok t
  UsesCondition (not_of b) s ok t = UsesCondition b s ok t
  UsesCondition (test c tested vs negated) s ok t = ok.column t c ≡ true
  UsesCondition (through r b) s ok t = (ok.relationship t r ≡ true) × UsesCondition b s ok (rel s t r).remote
  UsesCondition (exists_in u b) s ok t = (ok.rows u ≡ true) × UsesCondition b s ok u
  UsesCondition (two_columns l op r) s ok t = (ok.column t l ≡ true) × (ok.column t r ≡ true)

  pub UsesConditions : BexpTrees → Schema → Allowed → ℕ → Type 0
  UsesConditions no_bexp s ok t = Unit {0}
  UsesConditions (bexp b bs) s ok t = UsesCondition b s ok t × UsesConditions bs s ok t

-- a column at the end of relationships from table t on
abbrev pub UsesPath : (through : List ℕ) → Schema → Allowed → ℕ → (column : ℕ) → Type 0
UsesPath [] s ok t c = ok.column t c ≡ true
UsesPath (r ∷ rs) s ok t c = (ok.relationship t r ≡ true) × UsesPath rs s ok (rel s t r).remote c

-- sorts of rows of table t
abbrev pub UsesSorts : List SortKey → Schema → Allowed → ℕ → Type 0
UsesSorts [] s ok t = Unit {0}
UsesSorts (k ∷ ks) s ok t = UsesPath k.through s ok t k.column × UsesSorts ks s ok t

-- the arguments of a list of rows of table t
abbrev pub UsesArguments : ListArguments → Schema → Allowed → ℕ → Type 0
UsesArguments a s ok t = UsesCondition a.wanted s ok t × UsesSorts a.sorts s ok t × UsesColumns a.distinct ok t

-- where a list below a row of table t begins
abbrev pub UsesOrigin : Origin → Allowed → ℕ → Type 0
UsesOrigin (from_table u) ok t = ok.rows u ≡ true
UsesOrigin (along r) ok t = ok.relationship t r ≡ true

-- the columns of an aggregate over rows of table u
abbrev pub UsesOneTaken : AggCol → Allowed → ℕ → Type 0
UsesOneTaken (of.Column c) ok u = ok.column u c ≡ true
UsesOneTaken (of.Typename name) ok u = Unit {0}

abbrev pub UsesTaken : List KeyedAggCol → Allowed → ℕ → Type 0
UsesTaken [] ok u = Unit {0}
UsesTaken (c ∷ cs) ok u = UsesOneTaken c.field ok u × UsesTaken cs ok u

-- the column that is counted, where there is one
abbrev pub UsesCounted : Option ℕ → Allowed → ℕ → Type 0
UsesCounted None ok u = Unit {0}
UsesCounted (Some c) ok u = ok.column u c ≡ true

-- the fields of aggregate over rows of table u
abbrev pub UsesOneSummary : AggField → Allowed → ℕ → Type 0
UsesOneSummary (take.Count c distinct) ok u = UsesCounted c ok u
UsesOneSummary (take.Columns a cs) ok u = UsesTaken cs ok u
UsesOneSummary (take.Typename name) ok u = Unit {0}

abbrev pub UsesSummary : List KeyedAggField → Allowed → ℕ → Type 0
UsesSummary [] ok u = Unit {0}
UsesSummary (f ∷ fs) ok u = UsesOneSummary f.field ok u × UsesSummary fs ok u

-- a field at a row of table t, without what stands below it
abbrev pub UsesHere : Schema → Allowed → (t : ℕ) → FieldTree → Type 0
UsesHere s ok t (column c) = ok.column t c ≡ true
UsesHere s ok t (typename name) = Unit {0}
UsesHere s ok t no_queries = Unit {0}
UsesHere s ok t (object r fs) = ok.relationship t r ≡ true
UsesHere s ok t (list o a fs) = UsesOrigin o ok t × UsesArguments a s ok (origin_table o s t)
UsesHere s ok t (by_key u key fs) = (ok.rows u ≡ true) × UsesColumns (table s u).key ok u
UsesHere s ok t (aggregate o a ps) =
    UsesOrigin o ok t × (ok.aggregates (origin_table o s t) ≡ true) × UsesArguments a s ok (origin_table o s t)
UsesHere s ok t (introspect f) = Unit {0}

-- a part of an aggregate over rows of table u, without what stands below it
abbrev pub UsesPart : Allowed → (u : ℕ) → PartTree → Type 0
UsesPart ok u (summary fs) = UsesSummary fs ok u
UsesPart ok u (nodes fs) = Unit {0}
UsesPart ok u (part_typename name) = Unit {0}

-- all fields at a row of table t, and all below them
abbrev pub UsesAll : FieldTrees → Schema → Allowed → ℕ → Type 0
UsesAll fs s ok t = Everywhere (UsesHere s ok) (UsesPart ok) fs s t
