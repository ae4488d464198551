-- Scans in the order of an index that look at the range that WHERE asks for.
use Rattle.std.proofs.Common.{◌≡◌, ◌∙◌, ◌<◌, ◌++◌, ℕ, List, [], ◌∷◌, filter, length, map, reverse, Bool, true, false, cond, bytes_eq, Some, refl, sym, ap, ap₂}
use Rattle.std.specs.Borrow.{Bor}
use Rattle.std.specs.List.{position}
use Rattle.std.proofs.lemmas.List.{append-nil, reverse-append}
use Rattle.std.proofs.lemmas.List.Elements.{filter-append}
use Rattle.hq_base.specs.declared.value.Val.{Val}
use Rattle.hq_load_index.specs.Indexes.{entries_of}
use Rattle.hq_load_index.specs.declared.index.Index.{Index}
use Rattle.hq_model.specs.Database.{Row}
use Rattle.hq_model.specs.declared.table.Column.{Column}
use Rattle.hq_sql_access.specs.Equations.{is_joined}
use Rattle.hq_sql_access.specs.Lent.{rows_lent}
use Rattle.hq_sql_access.specs.declared.scope.Source.{Source}
use Rattle.hq_sql_access.specs.declared.scope.Source.TheVariants as source
use Rattle.hq_sql_access.specs.declared.stored.Stored.{Stored}
use Rattle.hq_sql_scans.specs.Positions.{positions_of}
use Rattle.hq_sql_scans.specs.declared.positions.Positions.{Positions}
use Rattle.hq_sql_scans.specs.declared.positions.Positions.TheVariants.{Entries, Ordered, Backward, Reversed}
use Rattle.hq_sql_tree.specs.Tree as tree
use Rattle.hq_sql_tree.specs.Tree.{FilterTree, PredTree, joins_of}
use Rattle.hq_sql_tree.specs.View.{join_view}
use Rattle.hq_sql_tree.specs.declared.select.Join.{Join}
use Rattle.hq_sql_constants.specs.Ranged.{AsksAll, AsksRange, HaveSame, StandsBetween, row_meets}
use Rattle.hq_sql_constants.specs.Walked.{HasRange, KeepsAlike}
use Rattle.hq_sql_constants.specs.declared.ranged.Bound.{Bound}
use Rattle.hq_sql_constants.specs.declared.spans.Between.{Between}
use Rattle.hq_sql_constants.proofs.Chosen.{ranged_at}

-- ---- from the last one on

turned_cons : {A : Type 0} (x : A) (xs : List A) → reverse (x ∷ xs) ≡ reverse xs ++ (x ∷ [])
turned_cons x xs = reverse-append (x ∷ []) xs

filter_turned : {A : Type 0} (q : A → Bool) (xs : List A) → filter q (reverse xs) ≡ reverse (filter q xs)
filter_turned q [] = refl
filter_turned q (x ∷ xs) =
    let go : (b : Bool) → reverse (filter q xs) ++ cond b (x ∷ []) [] ≡ reverse (cond b (x ∷ filter q xs) (filter q xs)) =
    elim [ true ↦ sym (turned_cons x (filter q xs)) | false ↦ append-nil (reverse (filter q xs)) ] in
    ap (filter q) (turned_cons x xs) ∙ filter-append q (reverse xs) (x ∷ []) ∙ ap (λ l. l ++ filter q (x ∷ [])) (filter_turned q xs) ∙ go (q x)

-- ---- places of a table

-- where of the rows in the range places have the same, WHERE keeps the same at both
module _ (stored : Bor Stored) (rows : List Row) (joins : List Join) (alias : List ℕ) (p : PredTree) (all some : List ℕ) where
  abbrev Alike : Positions → Positions → Type 0
  Alike positions again = KeepsAlike joins alias (tree.filter p) (source.Stored stored) positions again

  alike_at : (positions again : Positions) → rows_lent stored.now.rows ≡ rows → is_joined (joins_of (map join_view joins)) alias ≡ false
      → (h : HasRange p alias stored.now.table.now.columns rows all some) → HaveSame h.column rows h.bounds (positions_of again) (positions_of positions) → Alike positions again
  alike_at positions again lent alone h same =
      λ w. ranged_at w (joins_of (map join_view joins)) alias h.name p stored positions rows h.column (positions_of again) h.bounds lent h.asks h.first alone same

  -- in the order of the index
  pub range_forward : (index : Bor Index) (entries : Bor (List ℕ)) → entries_of index.now ≡ all → entries.now ≡ some → rows_lent stored.now.rows ≡ rows
      → is_joined (joins_of (map join_view joins)) alias ≡ false → HasRange p alias stored.now.table.now.columns rows all some → Alike (Ordered index) (Entries entries)
  range_forward index entries whole part lent alone h =
      alike_at (Ordered index) (Entries entries) lent alone h
      (ap (filter (row_meets h.column rows h.bounds)) part ∙ h.same ∙ ap (filter (row_meets h.column rows h.bounds)) (sym whole))

  -- against it
  pub range_backward : (index : Bor Index) (entries : Bor (List ℕ)) → entries_of index.now ≡ all → entries.now ≡ some → rows_lent stored.now.rows ≡ rows
      → is_joined (joins_of (map join_view joins)) alias ≡ false → HasRange p alias stored.now.table.now.columns rows all some → Alike (Backward index) (Reversed entries)
  range_backward index entries whole part lent alone h =
      let q = row_meets h.column rows h.bounds in
      alike_at (Backward index) (Reversed entries) lent alone h
      (ap (λ l. filter q (reverse l)) part ∙ filter_turned q some ∙ ap reverse h.same ∙ sym (filter_turned q all) ∙ ap (λ l. filter q (reverse l)) (sym whole))

-- the same places
pub alike_itself : (joins : List Join) (alias : List ℕ) (f : FilterTree) (from : Source) (positions : Positions) → KeepsAlike joins alias f from positions positions
alike_itself joins alias f from positions w = record { same = λ n. refl }
