-- What uses what a role may use asks for what is granted, where what is touched is ready.
use Rattle.std.proofs.Common.{◌≡◌, ℕ, ◌<◌, ◌≤◌, ◌^◌, List, [], ◌∷◌, ◌++◌, flat_map, length, Bool, true, false, cond, ◌||◌, ◌==◌, Option, Some, None, refl, sym, subst}
use Rattle.std.proofs.lemmas.Bool.{eqb-true, false≢true}
use Rattle.hq_base.specs.Lists.{Each}
use Rattle.hq_model.specs.Bexp.{BexpTree, always, and_of, or_of, not_of, test, through, exists_in, two_columns, BexpTrees, no_bexp, bexp, operands_of}
use Rattle.hq_model.specs.Grants.{Grants, grant}
use Rattle.hq_model.specs.Tests.{is_of_nothing}
use Rattle.hq_model.specs.Schema.{Schema, table, rel}
use Rattle.hq_model.specs.Selected.{SortKey, ListArguments, ascending, sorts_or, entries}
use Rattle.hq_request_tree.specs.Allowed as ask
use Rattle.hq_request_tree.specs.Everywhere.{Below, EveryPart, BelowPart}
use Rattle.hq_request_tree.specs.Fields.{Origin, from_table, along, FieldTrees, no_field, field, FieldTree, column, typename, no_queries, object, list, by_key, aggregate, introspect, PartTrees, no_part, part, PartTree, summary, nodes, part_typename}
use Rattle.hq_request_tree.specs.Resolve.{origin_table}
use Rattle.hq_request_tree.specs.Touched.{condition_tables, conditions_tables, path_tables, list_tables, tables_of, field_tables, part_tables, one_part_tables}
use Rattle.hq_request_tree.specs.Uses.{UsesColumns, UsesCondition, UsesConditions, UsesPath, UsesSorts, UsesArguments, UsesOrigin, UsesOneTaken, UsesTaken, UsesCounted, UsesOneSummary, UsesSummary, UsesHere, UsesPart, UsesAll}
use Rattle.hq_request_tree.specs.declared.aggregate.AggCol.{AggCol}
use Rattle.hq_request_tree.specs.declared.aggregate.AggCol.TheVariants as of
use Rattle.hq_request_tree.specs.declared.aggregate.AggField.{AggField}
use Rattle.hq_request_tree.specs.declared.aggregate.AggField.TheVariants as take
use Rattle.hq_request_tree.specs.declared.aggregate.KeyedAggCol.{KeyedAggCol}
use Rattle.hq_request_tree.specs.declared.aggregate.KeyedAggField.{KeyedAggField}
use Rattle.hq_translation.specs.Aggregates.{needed, add_field, add_columns, add_column, add_counted}
use Rattle.hq_translation.specs.Correct.{AreFew, IsFew, AreFewParts, IsFewPart}
use Rattle.hq_translation.specs.Fields.{field_used, fields_used, key_used}
use Rattle.hq_translation.specs.Fine.{Has}
use Rattle.hq_translation.specs.Lists.{once, list_sorts, list_used}
use Rattle.hq_translation.specs.Looks.{is_used, add_new}
use Rattle.hq_translation.specs.Predicates.{columns_in, columns_in_all}
use Rattle.hq_translation.specs.Sorts.{last_used, used_sorts, shown_sorts, own_sorts}
use Rattle.hq_translation.proofs.Once.{each_once}
use Rattle.hq_confine_rules.specs.Members.{is_permitted}
use Rattle.hq_confine_rules.specs.Ready.{Ready, Permits, Leads, Allowed, AllAllowed, AllowedChain, AllowedSort, AllowedList, AllowedOrigin, AllowedFields, AllowedField, AllowedParts, AllowedPart}
use Rattle.hq_laws_confine.proofs.Own.Same.{first_each, second_each}

-- what holds of each item of two lists holds of both, one after the other
each_both : {A : Type 0} (P : A → Type 0) (xs ys : List A) → Each P xs → Each P ys → Each P (xs ++ ys)
each_both P [] ys h k = k
each_both P (x ∷ xs) ys h k = (h.0, each_both P xs ys h.1 k)

-- B holds of the tables that are touched. Of such a table, where its rows may be used, something is granted, and each column that may
-- be used is permitted; a relationship that may be used leads to rows that may be.
module _ (s : Schema) (g : Grants) (ok : ask.Allowed) (B : ℕ → Type 0) (ready : (t : ℕ) → ok.rows t ≡ true → B t → Ready s g t)
    (leads : (t r : ℕ) → ok.relationship t r ≡ true → (r < length (table s t).rels) × (ok.rows (rel s t r).remote ≡ true))
    (permits : (t c : ℕ) → ok.column t c ≡ true → B t → Has s t c × (is_permitted (grant g t) c ≡ true)) where
  -- columns that may be used
  abbrev May : ℕ → List ℕ → Type 0
  May t cs = Each (λ c. ok.column t c ≡ true) cs

  permitted : (t : ℕ) (cs : List ℕ) → B t → May t cs → Permits s g t cs
  permitted t [] b u c is = absurd (false≢true is)
  permitted t (d ∷ ds) b u c is =
      let go : (e : Bool) → (c == d) ≡ e → (e || is_used c ds) ≡ true → Has s t c × (is_permitted (grant g t) c ≡ true) =
      elim [ true ↦ λ same h. permits t c (subst (λ x. ok.column t x ≡ true) (sym (eqb-true c d same)) u.0) b | false ↦ λ other h. permitted t ds b u.1 c h ] in
      go (c == d) refl is

  led : (t r : ℕ) → ok.relationship t r ≡ true → B (rel s t r).remote → Leads s g t r
  led t r u b = let there = leads t r u in record { within = there.0; ready = ready (rel s t r).remote there.1 b }

  told : (cs : List ℕ) (t : ℕ) → UsesColumns cs ok t → May t cs
  told [] t u = tt
  told (c ∷ cs) t u = (u.0, told cs t u.1)

  -- ---- conditions

  mutual
    own_columns : (b : BexpTree) (t : ℕ) → UsesCondition b s ok t → May t (columns_in b)
    own_columns always t u = tt
    own_columns (and_of bs) t u = all_columns bs t u
    own_columns (or_of bs) t u = all_columns bs t u
    own_columns (not_of b) t u = own_columns b t u
    own_columns (test c tested vs negated) t u =
        let go : (e : Bool) → May t (cond e [] (c ∷ [])) = elim [ true ↦ tt | false ↦ (u, tt) ] in
        go (is_of_nothing tested (operands_of vs))
    own_columns (through r b) t u = tt
    own_columns (exists_in v b) t u = tt
    own_columns (two_columns l op r) t u = (u.0, (u.1, tt))

    all_columns : (bs : BexpTrees) (t : ℕ) → UsesConditions bs s ok t → May t (columns_in_all bs)
    all_columns no_bexp t u = tt
    all_columns (bexp b bs) t u = each_both (λ c. ok.column t c ≡ true) (columns_in b) (columns_in_all bs) (own_columns b t u.0) (all_columns bs t u.1)

  mutual
    allowed : (b : BexpTree) (t : ℕ) → UsesCondition b s ok t → Each B (condition_tables b s t) → Allowed b s g t
    allowed always t u e = tt
    allowed (and_of bs) t u e = all_allowed bs t u e
    allowed (or_of bs) t u e = all_allowed bs t u e
    allowed (not_of b) t u e = allowed b t u e
    allowed (test c tested vs negated) t u e = tt
    allowed (through r b) t u e =
        let far : ℕ = (rel s t r).remote in
        (led t r u.0 e.0, permitted far (columns_in b) e.0 (own_columns b far u.1), allowed b far u.1 e.1)
    allowed (exists_in v b) t u e = (ready v u.0 e.0, permitted v (columns_in b) e.0 (own_columns b v u.1), allowed b v u.1 e.1)
    allowed (two_columns l op r) t u e = tt

    all_allowed : (bs : BexpTrees) (t : ℕ) → UsesConditions bs s ok t → Each B (conditions_tables bs s t) → AllAllowed bs s g t
    all_allowed no_bexp t u e = tt
    all_allowed (bexp b bs) t u e =
        (allowed b t u.0 (first_each B (condition_tables b s t) (conditions_tables bs s t) e), all_allowed bs t u.1 (second_each B (condition_tables b s t) (conditions_tables bs s t) e))

  -- ---- sort keys

  last_column : (rs : List ℕ) (t c : ℕ) → UsesPath rs s ok t c → May t (last_used rs c)
  last_column [] t c u = (u, tt)
  last_column (r ∷ rs) t c u = tt

  chain : (rs : List ℕ) (t c : ℕ) → UsesPath rs s ok t c → Each B (path_tables rs s t) → AllowedChain rs s g t c
  chain [] t c u e = tt
  chain (r ∷ rs) t c u e =
      let far : ℕ = (rel s t r).remote in
      (led t r u.0 e.0, permitted far (last_used rs c) e.0 (last_column rs far c u.1), chain rs far c u.1 e.1)

  -- entries of table t: each is used, and what it touches is ready
  abbrev Entry : ℕ → SortKey → Type 0
  Entry t k = UsesPath k.through s ok t k.column × Each B (path_tables k.through s t)

  plain_entries : (cs : List ℕ) (t : ℕ) → May t cs → Each (Entry t) (ascending cs)
  plain_entries [] t u = tt
  plain_entries (c ∷ cs) t u = ((u.0, tt), plain_entries cs t u.1)

  told_entries : (ks : List SortKey) (t : ℕ) → UsesSorts ks s ok t → Each B (flat_map (λ k. path_tables k.through s t) ks) → Each (Entry t) ks
  told_entries [] t u e = tt
  told_entries (k ∷ ks) t u e =
      let later : List ℕ = flat_map (λ j. path_tables j.through s t) ks in
      ((u.0, first_each B (path_tables k.through s t) later e), told_entries ks t u.1 (second_each B (path_tables k.through s t) later e))

  all_entries : (ks : List SortKey) (distinct : List ℕ) (t : ℕ) → UsesSorts ks s ok t → Each B (flat_map (λ k. path_tables k.through s t) ks) → May t distinct
      → Each (Entry t) (sorts_or ks (ascending distinct))
  all_entries [] distinct t u e d = plain_entries distinct t d
  all_entries (k ∷ ks) distinct t u e d = told_entries (k ∷ ks) t u e

  entry_columns : (ks : List SortKey) (key : List ℕ) (t : ℕ) → Each (Entry t) ks → May t (used_sorts (shown_sorts ks (own_sorts key)))
  entry_columns [] key t e = own key
    where
      own : (cs : List ℕ) → May t (used_sorts (own_sorts cs))
      own [] = tt
      own (c ∷ cs) = own cs
  entry_columns (k ∷ ks) key t e =
      each_both (λ c. ok.column t c ≡ true) (last_used k.through k.column) (used_sorts (shown_sorts ks (own_sorts key))) (last_column k.through t k.column e.0.0) (entry_columns ks key t e.1)

  sorted : (ks : List SortKey) (t : ℕ) → Each (Entry t) ks → Each (λ k. AllowedSort s g t (record { own = false; key = k })) ks
  sorted [] t e = tt
  sorted (k ∷ ks) t e = (chain k.through t k.column e.0.0 e.0.1, sorted ks t e.1)

  -- ---- lists

  list_allowed : (a : ListArguments) (u : ℕ) (more : List ℕ) → UsesArguments a s ok u → Each B (list_tables a s u) → May u more → length (list_sorts s u a) ≤ 2 ^ 64 → AllowedList s g u a more
  list_allowed a u more w e m few =
      let first : List ℕ = condition_tables a.wanted s u in
      let second : List ℕ = flat_map (λ k. path_tables k.through s u) a.sorts in
      let P : ℕ → Type 0 = λ c. ok.column u c ≡ true in
      let distinct : May u (once a).distinct = each_once P a.distinct (told a.distinct u w.2) in
      let es = all_entries a.sorts (once a).distinct u w.1 (second_each B first second e.1) distinct in
      let ks : List ℕ = used_sorts (list_sorts s u a) in
      record {
        permits = permitted u (list_used s u a more) e.0
            (each_both P (columns_in a.wanted) (ks ++ ((once a).distinct ++ more)) (own_columns a.wanted u w.0)
            (each_both P ks ((once a).distinct ++ more) (entry_columns (entries (once a)) (table s u).key u es) (each_both P (once a).distinct more distinct m)));
        wanted = allowed a.wanted u w.0 (first_each B first second e.1);
        sorted = sorted (entries (once a)) u es;
        few = few;
      }

  origin_allowed : (o : Origin) (t : ℕ) → UsesOrigin o ok t → B (origin_table o s t) → AllowedOrigin o s g t
  origin_allowed (from_table v) t u b = ready v u b
  origin_allowed (along r) t u b = led t r u b

  -- ---- aggregates

  added : (c : ℕ) (cs : List ℕ) (u : ℕ) → ok.column u c ≡ true → May u cs → May u (add_new c cs)
  added c cs u h k =
      let go : (e : Bool) → May u (cond e cs (cs ++ c ∷ [])) = elim [ true ↦ k | false ↦ each_both (λ d. ok.column u d ≡ true) cs (c ∷ []) k (h, tt) ] in
      go (is_used c cs)

  added_one : (c : AggCol) (cs : List ℕ) (u : ℕ) → UsesOneTaken c ok u → May u cs → May u (add_column c cs)
  added_one (of.Column c) cs u h k = added c cs u h k
  added_one (of.Typename name) cs u h k = k

  added_all : (ks : List KeyedAggCol) (cs : List ℕ) (u : ℕ) → UsesTaken ks ok u → May u cs → May u (add_columns ks cs)
  added_all [] cs u h k = k
  added_all (x ∷ ks) cs u h k = added_all ks (add_column x.field cs) u h.1 (added_one x.field cs u h.0 k)

  added_counted : (c : Option ℕ) (cs : List ℕ) (u : ℕ) → UsesCounted c ok u → May u cs → May u (add_counted c cs)
  added_counted None cs u h k = k
  added_counted (Some c) cs u h k = added c cs u h k

  added_field : (f : AggField) (cs : List ℕ) (u : ℕ) → UsesOneSummary f ok u → May u cs → May u (add_field f cs)
  added_field (take.Count c distinct) cs u h k = added_counted c cs u h k
  added_field (take.Columns a ks) cs u h k = added_all ks cs u h k
  added_field (take.Typename name) cs u h k = k

  needed_columns : (fs : List KeyedAggField) (cs : List ℕ) (u : ℕ) → UsesSummary fs ok u → May u cs → May u (needed fs cs)
  needed_columns [] cs u h k = k
  needed_columns (f ∷ fs) cs u h k = needed_columns fs (add_field f.field cs) u h.1 (added_field f.field cs u h.0 k)

  -- ---- fields

  one_used : (f : FieldTree) (t : ℕ) → UsesHere s ok t f → May t (field_used f)
  one_used (column c) t u = (u, tt)
  one_used (typename name) t u = tt
  one_used no_queries t u = tt
  one_used (object r fs) t u = tt
  one_used (list o a fs) t u = tt
  one_used (by_key v key fs) t u = tt
  one_used (aggregate o a ps) t u = tt
  one_used (introspect f) t u = tt

  all_used : (fs : FieldTrees) (t : ℕ) → UsesAll fs s ok t → May t (fields_used fs)
  all_used no_field t u = tt
  all_used (field key f fs) t u = each_both (λ c. ok.column t c ≡ true) (field_used f) (fields_used fs) (one_used f t u.0) (all_used fs t u.2)

  mutual
    pub fields_allowed : (fs : FieldTrees) (t : ℕ) → UsesAll fs s ok t → Each B (tables_of fs s t) → AreFew fs s t → AllowedFields fs s g t
    fields_allowed no_field t u e few = tt
    fields_allowed (field key f fs) t u e few =
        (field_allowed f t u.0 u.1 (first_each B (field_tables f s t) (tables_of fs s t) e) few.0, fields_allowed fs t u.2 (second_each B (field_tables f s t) (tables_of fs s t) e) few.1)

    field_allowed : (f : FieldTree) (t : ℕ) → UsesHere s ok t f → Below (UsesHere s ok) (UsesPart ok) f s t → Each B (field_tables f s t) → IsFew f s t → AllowedField f s g t
    field_allowed (column c) t u ub e few = tt
    field_allowed (typename name) t u ub e few = tt
    field_allowed no_queries t u ub e few = tt
    field_allowed (object r fs) t u ub e few =
        let far : ℕ = (rel s t r).remote in
        (led t r u e.0, permitted far (fields_used fs) e.0 (all_used fs far ub), fields_allowed fs far ub e.1 few)
    field_allowed (list o a fs) t u ub e few =
        let v : ℕ = origin_table o s t in
        let own = first_each B (list_tables a s v) (tables_of fs s v) e in
        (origin_allowed o t u.0 own.0, list_allowed a v (fields_used fs) u.1 own (all_used fs v ub) few.0, fields_allowed fs v ub (second_each B (list_tables a s v) (tables_of fs s v) e) few.1)
    field_allowed (by_key v key fs) t u ub e few =
        let used = each_both (λ c. ok.column v c ≡ true) (table s v).key (fields_used fs) (told (table s v).key v u.1) (all_used fs v ub) in
        (ready v u.0 e.0, permitted v (key_used s v fs) e.0 used, fields_allowed fs v ub e.1 few)
    field_allowed (aggregate o a ps) t u ub e few =
        let v : ℕ = origin_table o s t in
        let own = first_each B (list_tables a s v) (part_tables ps s v) e in
        (origin_allowed o t u.0 own.0, parts_allowed ps v a u.2 own ub (second_each B (list_tables a s v) (part_tables ps s v) e) few.0 few.1)
    field_allowed (introspect f) t u ub e few = tt

    parts_allowed : (ps : PartTrees) (u : ℕ) (a : ListArguments) → UsesArguments a s ok u → Each B (list_tables a s u) → EveryPart (UsesHere s ok) (UsesPart ok) ps s u → Each B (part_tables ps s u)
        → length (list_sorts s u a) ≤ 2 ^ 64 → AreFewParts ps s u → AllowedParts ps s g u a
    parts_allowed no_part u a w own h e sorts few = tt
    parts_allowed (part key p ps) u a w own h e sorts few = (
      part_allowed p u a w own h.0 h.1 (first_each B (one_part_tables p s u) (part_tables ps s u) e) sorts few.0,
      parts_allowed ps u a w own h.2 (second_each B (one_part_tables p s u) (part_tables ps s u) e) sorts few.1,
    )

    part_allowed : (p : PartTree) (u : ℕ) (a : ListArguments) → UsesArguments a s ok u → Each B (list_tables a s u) → UsesPart ok u p → BelowPart (UsesHere s ok) (UsesPart ok) p s u
        → Each B (one_part_tables p s u)
        → length (list_sorts s u a) ≤ 2 ^ 64 → IsFewPart p s u → AllowedPart p s g u a
    part_allowed (summary fs) u a w own h hb e sorts few = list_allowed a u (needed fs []) w own (needed_columns fs [] u h tt) sorts
    part_allowed (nodes fs) u a w own h hb e sorts few = (list_allowed a u (fields_used fs) w own (all_used fs u hb) sorts, fields_allowed fs u hb e few)
    part_allowed (part_typename name) u a w own h hb e sorts few = tt
