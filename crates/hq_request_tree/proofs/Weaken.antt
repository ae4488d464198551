-- What uses what is allowed uses what is allowed more widely.
use Rattle.std.proofs.Common.{◌≡◌, ℕ, List, [], ◌∷◌, true, Option, Some, None}
use Rattle.hq_model.specs.Bexp.{BexpTree, always, and_of, or_of, not_of, test, through, exists_in, two_columns, BexpTrees, no_bexp, bexp}
use Rattle.hq_model.specs.Schema.{Schema, table, rel}
use Rattle.hq_model.specs.Selected.{SortKey, ListArguments}
use Rattle.hq_request_tree.specs.Allowed.{Allowed}
use Rattle.hq_request_tree.specs.Everywhere.{Everywhere, Below, EveryPart, BelowPart}
use Rattle.hq_request_tree.specs.Fields.{Origin, from_table, along, FieldTrees, no_field, field, FieldTree, column, typename, no_queries, object, list, by_key, aggregate, introspect, PartTrees, no_part, part, PartTree, summary, nodes, part_typename}
use Rattle.hq_request_tree.specs.Resolve.{origin_table}
use Rattle.hq_request_tree.specs.Uses.{UsesColumns, UsesCondition, UsesConditions, UsesPath, UsesSorts, UsesArguments, UsesOrigin, UsesOneTaken, UsesTaken, UsesCounted, UsesOneSummary, UsesSummary, UsesHere, UsesPart, UsesAll}
use Rattle.hq_request_tree.specs.declared.aggregate.AggCol.{AggCol}
use Rattle.hq_request_tree.specs.declared.aggregate.AggCol.TheVariants as of
use Rattle.hq_request_tree.specs.declared.aggregate.AggField.{AggField}
use Rattle.hq_request_tree.specs.declared.aggregate.AggField.TheVariants as fold
use Rattle.hq_request_tree.specs.declared.aggregate.KeyedAggCol.{KeyedAggCol}
use Rattle.hq_request_tree.specs.declared.aggregate.KeyedAggField.{KeyedAggField}

-- a fact of fields and parts that follows from another one at each place
module _ (F G : ℕ → FieldTree → Type 0) (P Q : ℕ → PartTree → Type 0) (s : Schema) (field_step : (t : ℕ) (f : FieldTree) → F t f → G t f) (part_step : (u : ℕ) (p : PartTree) → P u p → Q u p) where
  mutual
    pub everywhere_weaken : (fs : FieldTrees) (t : ℕ) → Everywhere F P fs s t → Everywhere G Q fs s t
    everywhere_weaken no_field t h = tt
    everywhere_weaken (field key f fs) t h = (field_step t f h.0, below_weaken f t h.1, everywhere_weaken fs t h.2)

    below_weaken : (f : FieldTree) (t : ℕ) → Below F P f s t → Below G Q f s t
    below_weaken (column c) t h = tt
    below_weaken (typename name) t h = tt
    below_weaken no_queries t h = tt
    below_weaken (object r fs) t h = everywhere_weaken fs (rel s t r).remote h
    below_weaken (list o a fs) t h = everywhere_weaken fs (origin_table o s t) h
    below_weaken (by_key u key fs) t h = everywhere_weaken fs u h
    below_weaken (aggregate o a ps) t h = parts_weaken ps (origin_table o s t) h
    below_weaken (introspect f) t h = tt

    parts_weaken : (ps : PartTrees) (u : ℕ) → EveryPart F P ps s u → EveryPart G Q ps s u
    parts_weaken no_part u h = tt
    parts_weaken (part key p ps) u h = (part_step u p h.0, below_part_weaken p u h.1, parts_weaken ps u h.2)

    below_part_weaken : (p : PartTree) (u : ℕ) → BelowPart F P p s u → BelowPart G Q p s u
    below_part_weaken (summary fs) u h = tt
    below_part_weaken (nodes fs) u h = everywhere_weaken fs u h
    below_part_weaken (part_typename name) u h = tt

-- what is allowed is allowed more widely
pub record Wider (ok more : Allowed) : Type 0 where
  pub column : (t c : ℕ) → ok.column t c ≡ true → more.column t c ≡ true
  pub relationship : (t r : ℕ) → ok.relationship t r ≡ true → more.relationship t r ≡ true
  pub rows : (t : ℕ) → ok.rows t ≡ true → more.rows t ≡ true
  pub aggregates : (t : ℕ) → ok.aggregates t ≡ true → more.aggregates t ≡ true

module _ (s : Schema) (ok more : Allowed) (wider : Wider ok more) where
  columns_weaken : (cs : List ℕ) (t : ℕ) → UsesColumns cs ok t → UsesColumns cs more t
  columns_weaken [] t u = tt
  columns_weaken (c ∷ cs) t u = (wider.column t c u.0, columns_weaken cs t u.1)

  mutual
    condition_weaken : (b : BexpTree) (t : ℕ) → UsesCondition b s ok t → UsesCondition b s more t
    condition_weaken always t u = tt
    condition_weaken (and_of bs) t u = conditions_weaken bs t u
    condition_weaken (or_of bs) t u = conditions_weaken bs t u
    condition_weaken (not_of b) t u = condition_weaken b t u
    condition_weaken (test c tested vs negated) t u = wider.column t c u
    condition_weaken (through r b) t u = (wider.relationship t r u.0, condition_weaken b (rel s t r).remote u.1)
    condition_weaken (exists_in v b) t u = (wider.rows v u.0, condition_weaken b v u.1)
    condition_weaken (two_columns l op r) t u = (wider.column t l u.0, wider.column t r u.1)

    conditions_weaken : (bs : BexpTrees) (t : ℕ) → UsesConditions bs s ok t → UsesConditions bs s more t
    conditions_weaken no_bexp t u = tt
    conditions_weaken (bexp b bs) t u = (condition_weaken b t u.0, conditions_weaken bs t u.1)

  path_weaken : (rs : List ℕ) (t c : ℕ) → UsesPath rs s ok t c → UsesPath rs s more t c
  path_weaken [] t c u = wider.column t c u
  path_weaken (r ∷ rs) t c u = (wider.relationship t r u.0, path_weaken rs (rel s t r).remote c u.1)

  sorts_weaken : (ks : List SortKey) (t : ℕ) → UsesSorts ks s ok t → UsesSorts ks s more t
  sorts_weaken [] t u = tt
  sorts_weaken (k ∷ ks) t u = (path_weaken k.through t k.column u.0, sorts_weaken ks t u.1)

  arguments_weaken : (a : ListArguments) (t : ℕ) → UsesArguments a s ok t → UsesArguments a s more t
  arguments_weaken a t u = (condition_weaken a.wanted t u.0, sorts_weaken a.sorts t u.1, columns_weaken a.distinct t u.2)

  origin_weaken : (o : Origin) (t : ℕ) → UsesOrigin o ok t → UsesOrigin o more t
  origin_weaken (from_table u) t h = wider.rows u h
  origin_weaken (along r) t h = wider.relationship t r h

  taken_one_weaken : (c : AggCol) (u : ℕ) → UsesOneTaken c ok u → UsesOneTaken c more u
  taken_one_weaken (of.Column c) u h = wider.column u c h
  taken_one_weaken (of.Typename name) u h = tt

  taken_weaken : (cs : List KeyedAggCol) (u : ℕ) → UsesTaken cs ok u → UsesTaken cs more u
  taken_weaken [] u h = tt
  taken_weaken (c ∷ cs) u h = (taken_one_weaken c.field u h.0, taken_weaken cs u h.1)

  counted_weaken : (c : Option ℕ) (u : ℕ) → UsesCounted c ok u → UsesCounted c more u
  counted_weaken None u h = tt
  counted_weaken (Some c) u h = wider.column u c h

  summary_one_weaken : (f : AggField) (u : ℕ) → UsesOneSummary f ok u → UsesOneSummary f more u
  summary_one_weaken (fold.Count c distinct) u h = counted_weaken c u h
  summary_one_weaken (fold.Columns a cs) u h = taken_weaken cs u h
  summary_one_weaken (fold.Typename name) u h = tt

  summary_weaken : (fs : List KeyedAggField) (u : ℕ) → UsesSummary fs ok u → UsesSummary fs more u
  summary_weaken [] u h = tt
  summary_weaken (f ∷ fs) u h = (summary_one_weaken f.field u h.0, summary_weaken fs u h.1)

  here_weaken : (t : ℕ) (f : FieldTree) → UsesHere s ok t f → UsesHere s more t f
  here_weaken t (column c) u = wider.column t c u
  here_weaken t (typename name) u = tt
  here_weaken t no_queries u = tt
  here_weaken t (object r fs) u = wider.relationship t r u
  here_weaken t (list o a fs) u = (origin_weaken o t u.0, arguments_weaken a (origin_table o s t) u.1)
  here_weaken t (by_key v key fs) u = (wider.rows v u.0, columns_weaken (table s v).key v u.1)
  here_weaken t (aggregate o a ps) u = (origin_weaken o t u.0, wider.aggregates (origin_table o s t) u.1, arguments_weaken a (origin_table o s t) u.2)
  here_weaken t (introspect f) u = tt

  part_weaken : (u : ℕ) (p : PartTree) → UsesPart ok u p → UsesPart more u p
  part_weaken u (summary fs) h = summary_weaken fs u h
  part_weaken u (nodes fs) h = tt
  part_weaken u (part_typename name) h = tt

  pub uses_weaken : (fs : FieldTrees) (t : ℕ) → UsesAll fs s ok t → UsesAll fs s more t
  uses_weaken fs t = everywhere_weaken (UsesHere s ok) (UsesHere s more) (UsesPart ok) (UsesPart more) s here_weaken part_weaken fs t
