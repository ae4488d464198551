-- What a request gives depends on what is granted of the tables that it touches alone.
use Rattle.std.proofs.Common.{◌≡◌, ◌⊎◌, inl, inr, ⊎_elim, ℕ, List, [], ◌∷◌, ◌++◌, flat_map, length, Bool, true, false, cond, ◌==◌, Option, Some, None, refl, sym, ap, ap₂, subst, ◌∙◌}
use Rattle.std.specs.List.{list_any}
use Rattle.hq_base.specs.Cells.{null}
use Rattle.hq_base.specs.Json.{obj}
use Rattle.hq_base.specs.Lists.{Each, Zip}
use Rattle.hq_base.proofs.Lists.{each_all}
use Rattle.hq_base.proofs.Zips.{zip_same}
use Rattle.hq_model.specs.Bexp.{BexpTree, always, and_of, or_of, not_of, test, through, exists_in, two_columns, BexpTrees, no_bexp, bexp}
use Rattle.hq_model.specs.Database.{Row}
use Rattle.hq_model.specs.Grants.{Grants, grant, limits}
use Rattle.hq_model.specs.Permission.{Permission}
use Rattle.hq_model.specs.Permitted.{permitted, permitted_under, shown, shown_under, seen_by, mask_of}
use Rattle.hq_model.specs.Schema.{Schema, table, rel}
use Rattle.hq_model.specs.Seen.{all_of, linked_by}
use Rattle.hq_model.specs.Selected.{SortKey, ListArguments}
use Rattle.hq_model.specs.Truth.{keeps}
use Rattle.hq_request_tree.specs.Allowed.{Allowed}
use Rattle.hq_request_tree.specs.Everywhere.{Below, EveryPart, BelowPart}
use Rattle.hq_request_tree.specs.Fields.{Origin, from_table, along, FieldTrees, no_field, field, FieldTree, column, typename, no_queries, object, list, by_key, aggregate, introspect, PartTrees, no_part, part, PartTree, summary, nodes, part_typename}
use Rattle.hq_request_tree.specs.Laws.{TouchedDecide}
use Rattle.hq_request_tree.specs.Resolve.{origin_table}
use Rattle.hq_request_tree.specs.Touched.{condition_tables, conditions_tables, path_tables, list_tables, tables_of, field_tables, part_tables, one_part_tables}
use Rattle.hq_request_tree.specs.Uses.{UsesColumns, UsesCondition, UsesConditions, UsesPath, UsesSorts, UsesArguments, UsesOrigin, UsesOneTaken, UsesTaken, UsesCounted, UsesOneSummary, UsesSummary, UsesHere, UsesPart, UsesAll}
use Rattle.hq_request_tree.specs.declared.aggregate.AggCol.{AggCol}
use Rattle.hq_request_tree.specs.declared.aggregate.AggCol.TheVariants as of
use Rattle.hq_request_tree.specs.declared.aggregate.AggField.{AggField}
use Rattle.hq_request_tree.specs.declared.aggregate.AggField.TheVariants as fold
use Rattle.hq_request_tree.specs.declared.aggregate.KeyedAggCol.{KeyedAggCol}
use Rattle.hq_request_tree.specs.declared.aggregate.KeyedAggField.{KeyedAggField}
use Rattle.hq_request_tree.proofs.Alike.{Alike, all_alike}
use Rattle.hq_request_tree.proofs.Among.{among_itself, holds_among}

-- what holds of each item of two lists, one after the other, holds of each item of both
first_each : {A : Type 0} (P : A → Type 0) (xs ys : List A) → Each P (xs ++ ys) → Each P xs
first_each P [] ys h = tt
first_each P (x ∷ xs) ys h = (h.0, first_each P xs ys h.1)

second_each : {A : Type 0} (P : A → Type 0) (xs ys : List A) → Each P (xs ++ ys) → Each P ys
second_each P [] ys h = h
second_each P (x ∷ xs) ys h = second_each P xs ys h.1

-- tables may be used, with all that they have, where a test is true of them
abbrev used_tables : Schema → (ℕ → Bool) → Allowed
used_tables s is = record { column = λ t c. true; relationship = λ t r. is (rel s t r).remote; rows = is; aggregates = λ t. true }

-- where the test is true of all tables that a request touches, it uses what may be used
module _ (s : Schema) (is : ℕ → Bool) where
  abbrev ok : Allowed
  ok = used_tables s is

  abbrev Are : List ℕ → Type 0
  Are = Each (λ t. is t ≡ true)

  columns_used : (cs : List ℕ) (t : ℕ) → UsesColumns cs ok t
  columns_used [] t = tt
  columns_used (c ∷ cs) t = (refl, columns_used cs t)

  mutual
    condition_used : (b : BexpTree) (t : ℕ) → Are (condition_tables b s t) → UsesCondition b s ok t
    condition_used always t h = tt
    condition_used (and_of bs) t h = conditions_used bs t h
    condition_used (or_of bs) t h = conditions_used bs t h
    condition_used (not_of b) t h = condition_used b t h
    condition_used (test c tested vs negated) t h = refl
    condition_used (through r b) t h = (h.0, condition_used b (rel s t r).remote h.1)
    condition_used (exists_in u b) t h = (h.0, condition_used b u h.1)
    condition_used (two_columns l op r) t h = (refl, refl)

    conditions_used : (bs : BexpTrees) (t : ℕ) → Are (conditions_tables bs s t) → UsesConditions bs s ok t
    conditions_used no_bexp t h = tt
    conditions_used (bexp b bs) t h =
        (condition_used b t (first_each _ (condition_tables b s t) (conditions_tables bs s t) h), conditions_used bs t (second_each _ (condition_tables b s t) (conditions_tables bs s t) h))

  path_used : (rs : List ℕ) (t c : ℕ) → Are (path_tables rs s t) → UsesPath rs s ok t c
  path_used [] t c h = refl
  path_used (r ∷ rs) t c h = (h.0, path_used rs (rel s t r).remote c h.1)

  sorts_used : (ks : List SortKey) (t : ℕ) → Are (flat_map (λ k. path_tables k.through s t) ks) → UsesSorts ks s ok t
  sorts_used [] t h = tt
  sorts_used (k ∷ ks) t h =
      let later = flat_map (λ j. path_tables j.through s t) ks in
      (path_used k.through t k.column (first_each _ (path_tables k.through s t) later h), sorts_used ks t (second_each _ (path_tables k.through s t) later h))

  arguments_used : (a : ListArguments) (t : ℕ) → Are (list_tables a s t) → UsesArguments a s ok t
  arguments_used a t h =
      let first = condition_tables a.wanted s t in
      let second = flat_map (λ k. path_tables k.through s t) a.sorts in
      (condition_used a.wanted t (first_each _ first second h.1), sorts_used a.sorts t (second_each _ first second h.1), columns_used a.distinct t)

  origin_used : (o : Origin) (t : ℕ) → is (origin_table o s t) ≡ true → UsesOrigin o ok t
  origin_used (from_table u) t h = h
  origin_used (along r) t h = h

  taken_one_used : (c : AggCol) (u : ℕ) → UsesOneTaken c ok u
  taken_one_used (of.Column c) u = refl
  taken_one_used (of.Typename name) u = tt

  taken_used : (cs : List KeyedAggCol) (u : ℕ) → UsesTaken cs ok u
  taken_used [] u = tt
  taken_used (c ∷ cs) u = (taken_one_used c.field u, taken_used cs u)

  counted_used : (c : Option ℕ) (u : ℕ) → UsesCounted c ok u
  counted_used None u = tt
  counted_used (Some c) u = refl

  summary_one_used : (f : AggField) (u : ℕ) → UsesOneSummary f ok u
  summary_one_used (fold.Count c distinct) u = counted_used c u
  summary_one_used (fold.Columns a cs) u = taken_used cs u
  summary_one_used (fold.Typename name) u = tt

  summary_used : (fs : List KeyedAggField) (u : ℕ) → UsesSummary fs ok u
  summary_used [] u = tt
  summary_used (f ∷ fs) u = (summary_one_used f.field u, summary_used fs u)

  part_used : (p : PartTree) (u : ℕ) → UsesPart ok u p
  part_used (summary fs) u = summary_used fs u
  part_used (nodes fs) u = tt
  part_used (part_typename name) u = tt

  mutual
    all_used : (fs : FieldTrees) (t : ℕ) → Are (tables_of fs s t) → UsesAll fs s ok t
    all_used no_field t h = tt
    all_used (field key f fs) t h =
        let here = first_each _ (field_tables f s t) (tables_of fs s t) h in
        (one_used f t here, below_used f t here, all_used fs t (second_each _ (field_tables f s t) (tables_of fs s t) h))

    one_used : (f : FieldTree) (t : ℕ) → Are (field_tables f s t) → UsesHere s ok t f
    one_used (column c) t h = refl
    one_used (typename name) t h = tt
    one_used no_queries t h = tt
    one_used (object r fs) t h = h.0
    one_used (list o a fs) t h =
        let own = first_each _ (list_tables a s (origin_table o s t)) (tables_of fs s (origin_table o s t)) h in
        (origin_used o t own.0, arguments_used a (origin_table o s t) own)
    one_used (by_key u key fs) t h = (h.0, columns_used (table s u).key u)
    one_used (aggregate o a ps) t h =
        let own = first_each _ (list_tables a s (origin_table o s t)) (part_tables ps s (origin_table o s t)) h in
        (origin_used o t own.0, refl, arguments_used a (origin_table o s t) own)
    one_used (introspect f) t h = tt

    below_used : (f : FieldTree) (t : ℕ) → Are (field_tables f s t) → Below (UsesHere s ok) (UsesPart ok) f s t
    below_used (column c) t h = tt
    below_used (typename name) t h = tt
    below_used no_queries t h = tt
    below_used (object r fs) t h = all_used fs (rel s t r).remote h.1
    below_used (list o a fs) t h = all_used fs (origin_table o s t) (second_each _ (list_tables a s (origin_table o s t)) (tables_of fs s (origin_table o s t)) h)
    below_used (by_key u key fs) t h = all_used fs u h.1
    below_used (aggregate o a ps) t h = parts_used ps (origin_table o s t) (second_each _ (list_tables a s (origin_table o s t)) (part_tables ps s (origin_table o s t)) h)
    below_used (introspect f) t h = tt

    parts_used : (ps : PartTrees) (u : ℕ) → Are (part_tables ps s u) → EveryPart (UsesHere s ok) (UsesPart ok) ps s u
    parts_used no_part u h = tt
    parts_used (part key p ps) u h =
        (part_used p u, below_part_used p u (first_each _ (one_part_tables p s u) (part_tables ps s u) h), parts_used ps u (second_each _ (one_part_tables p s u) (part_tables ps s u) h))

    below_part_used : (p : PartTree) (u : ℕ) → Are (one_part_tables p s u) → BelowPart (UsesHere s ok) (UsesPart ok) p s u
    below_part_used (summary fs) u h = tt
    below_part_used (nodes fs) u h = all_used fs u h
    below_part_used (part_typename name) u h = tt

-- ---- two grants that are the same on touched tables

module _ (s : Schema) (g h : Grants) (d : List (List Row)) (is : ℕ → Bool) (same : (t : ℕ) → is t ≡ true → grant g t ≡ grant h t) where
  -- a row of a touched table, or one without cells
  abbrev OneRow : ℕ → Row → Row → Type 0
  OneRow t x y = (x ≡ y) × ((x ≡ []) ⊎ (is t ≡ true))

  -- a row without cells shows none, whatever the mask
  empty_cell : (k : Grants) (t c : ℕ) → shown s k d t [] c ≡ null
  empty_cell k t c =
      let go : (b : Bool) → cond b null null ≡ null = elim [ true ↦ refl | false ↦ refl ] in
      go (keeps (mask_of (grant k t).masks c) s (all_of s d) t [])

  rows_same : (t : ℕ) → is t ≡ true → Zip (OneRow t) (permitted s g d t) (permitted s h d t)
  rows_same t touched =
      subst (λ (p : Permission). Zip (OneRow t) (permitted_under (grant g t) s d t) (permitted_under p s d t)) (same t touched)
      (zip_same (OneRow t) (permitted s g d t) (each_all (λ x. OneRow t x x) (λ x. (refl, inr touched)) (permitted s g d t)))

  cells_same : (t c : ℕ) (x y : Row) → OneRow t x y → shown s g d t x c ≡ shown s h d t y c
  cells_same t c x y q =
      ⊎_elim (λ e. ap (λ z. shown s g d t z c) e ∙ empty_cell g t c ∙ sym (empty_cell h t c) ∙ ap (λ z. shown s h d t z c) (sym e ∙ q.0))
      (λ touched. ap (λ (p : Permission). shown_under p s d t x c) (same t touched) ∙ ap (λ z. shown s h d t z c) q.0) q.1

  seen_alike : Alike s (seen_by s g d) (seen_by s h d) (used_tables s is) OneRow
  seen_alike = record {
    rows = rows_same;
    cells = λ t c x y u q. cells_same t c x y q;
    links = λ t r x y u v w q q'. ap₂ (linked_by (rel s t r).pairs) q.0 q'.0;
    remotes = λ t r w. w;
  }

-- what a request gives depends on what is granted of the tables that it touches alone
pub touched_decide : (fs : FieldTrees) (s : Schema) (g h : Grants) (d : List (List Row)) → TouchedDecide fs s g h d
touched_decide fs s g h d alike =
    let ts : List ℕ = tables_of fs s (length s) in
    let is : ℕ → Bool = λ t. list_any (λ u. u == t) ts in
    let same : (t : ℕ) → is t ≡ true → grant g t ≡ grant h t = λ t touched. holds_among (λ u. grant g u ≡ grant h u) ts t alike touched in
    ap obj (all_alike (seen_alike s g h d is same) (limits g) (limits h) (λ t touched. ap (λ (p : Permission). p.limit) (same t touched)) fs (length s) [] []
    (all_used s is fs (length s) (among_itself ts)) (refl, inl refl))
