-- What is in scope beside joins: the last one of them is the innermost.
use Rattle.std.proofs.Common.{rules, ◌≡◌, ◌∙◌, ◌+◌, ◌<◌, ◌≤◌, ℕ, zero, suc, List, [], ◌∷◌, ◌++◌, map, length, true, false, cond, Option, Some, None, unwrap_or, option_map, bytes_eq, get_or, set, take, refl, sym, ap, ap₂, arith}
use Rattle.std.proofs.lemmas.List.{map-append, length-map, take-map, get_or-map}
use Rattle.hq_sql_conjuncts.specs.Weight.{total, join_weight, select_weight}
use Rattle.hq_sql_tree.specs.Tree.{JoinTree, joins_of}
use Rattle.hq_sql_tree.specs.View.{join_view, select_view}
use Rattle.hq_sql_tree.specs.declared.select.Join.{Join, the_lemmas as join_lemmas}
use Rattle.hq_sql_tree.specs.Meaning.{NamedRow, Scope as Names, World, rows_of, with_alias}
use Rattle.hq_sql_access.specs.Joined.{joined_at, put_joined}
use Rattle.hq_sql_access.specs.View.{beside, first_row, made_view}
use Rattle.hq_sql_access.specs.declared.row.Made.{Made}

-- the row of a join, where it has one
pub joined_there : (rows : List (Option Made)) (at : ℕ) (row : Option Made) → at < length rows → row ≡ get_or rows at row → option_map made_view row ≡ joined_at (map (option_map made_view) rows) at
joined_there [] at row lt is = absurd (omega arith)
joined_there (r ∷ rows) zero row lt is = ap (option_map made_view) is
joined_there (r ∷ rows) (suc at) row lt is = joined_there rows at row (omega arith) is

-- none behind the last one
pub joined_past : (rows : List (Option Made)) (at : ℕ) → length rows ≤ at → None ≡ joined_at (map (option_map made_view) rows) at
joined_past [] at past = refl
joined_past (r ∷ rows) zero past = absurd (omega arith)
joined_past (r ∷ rows) (suc at) past = joined_past rows at (omega arith)

-- one more join behind the others
beside_last : (js : List JoinTree) (j : JoinTree) (w : World) (n : Names) (rs : List (Option NamedRow))
    → beside (joins_of (js ++ j ∷ [])) w n rs ≡ with_alias (beside (joins_of js) w n rs) j.alias (unwrap_or (joined_at rs (length js)) (first_row (rows_of j.select w (beside (joins_of js) w n rs))))
beside_last [] j w n [] = refl
beside_last [] j w n (None ∷ rs) = refl
beside_last [] j w n (Some r ∷ rs) = refl
beside_last (k ∷ js) j w n [] = beside_last js j w (with_alias n k.alias (first_row (rows_of k.select w n))) []
beside_last (k ∷ js) j w n (None ∷ rs) = beside_last js j w (with_alias n k.alias (first_row (rows_of k.select w n))) rs
beside_last (k ∷ js) j w n (Some r ∷ rs) = beside_last js j w (with_alias n k.alias r) rs

module _ (all before : List Join) (join : Join) (w : World) (n : Names) (rs : List (Option NamedRow)) (is : all ≡ before ++ join ∷ []) where
  -- what is in scope at an alias: the last join decides where it has that name
  beside_at : (alias : List ℕ) → beside (joins_of (map join_view all)) w n rs alias
      ≡ cond (bytes_eq (join_view join).alias alias)
      (unwrap_or (joined_at rs (length before))
      (first_row (rows_of (join_view join).select w (beside (joins_of (map join_view before)) w n rs))))
      (beside (joins_of (map join_view before)) w n rs alias)
  beside_at alias =
      ap (λ js. beside (joins_of (map join_view js)) w n rs alias) is
      ∙ ap (λ js. beside (joins_of js) w n rs alias) (map-append join_view before (join ∷ []))
      ∙ ap (λ scope. scope alias) (beside_last (map join_view before) (join_view join) w n rs)
      ∙ ap
      (λ k. cond (bytes_eq (join_view join).alias alias)
      (unwrap_or (joined_at rs k) (first_row (rows_of (join_view join).select w (beside (joins_of (map join_view before)) w n rs))))
      (beside (joins_of (map join_view before)) w n rs alias))
      (length-map before join_view)

  -- another one
  pub beside_other : (alias : List ℕ) → bytes_eq (join_view join).alias alias ≡ false → beside (joins_of (map join_view all)) w n rs alias ≡ beside (joins_of (map join_view before)) w n rs alias
  beside_other alias e =
      beside_at alias
      ∙ ap
      (λ b. cond b
      (unwrap_or (joined_at rs (length before))
      (first_row (rows_of (join_view join).select w (beside (joins_of (map join_view before)) w n rs))))
      (beside (joins_of (map join_view before)) w n rs alias))
      e

  -- this one
  pub beside_own : (alias : List ℕ) → bytes_eq (join_view join).alias alias ≡ true
      → beside (joins_of (map join_view all)) w n rs alias ≡ unwrap_or (joined_at rs (length before)) (first_row (rows_of (join_view join).select w (beside (joins_of (map join_view before)) w n rs)))
  beside_own alias e =
      beside_at alias
      ∙ ap
      (λ b. cond b
      (unwrap_or (joined_at rs (length before))
      (first_row (rows_of (join_view join).select w (beside (joins_of (map join_view before)) w n rs))))
      (beside (joins_of (map join_view before)) w n rs alias))
      e

-- ---- a join that is put off is given the row that it stands for

-- a place that is added for it changes nothing of that
put_padded : (rs : List (Option NamedRow)) (at : ℕ) (row : NamedRow) → length rs ≤ at → put_joined (rs ++ None ∷ []) at row ≡ put_joined rs at row
put_padded [] zero row h = refl
put_padded [] (suc at) row h = refl
put_padded (r ∷ rs) zero row h = absurd (omega arith)
put_padded (r ∷ rs) (suc at) row h = ap (λ l. r ∷ l) (put_padded rs at row (omega arith))

pub put_longer : (rows more : List (Option Made)) (at : ℕ) (row : NamedRow) → more ≡ rows ++ None ∷ [] → length rows ≤ at
    → put_joined (map (option_map made_view) more) at row ≡ put_joined (map (option_map made_view) rows) at row
put_longer rows more at row grows short =
    let same = length-map rows (option_map made_view) in
    ap (λ l. put_joined (map (option_map made_view) l) at row) grows ∙ ap (λ l. put_joined l at row) (map-append (option_map made_view) rows (None ∷ []))
    ∙ put_padded (map (option_map made_view) rows) at row (omega (arith, same))

-- where it has a place, that is taken
pub put_set : (rows : List (Option Made)) (at : ℕ) (row : Made) → at < length rows
    → map (option_map made_view) (set rows at (Some row)) ≡ put_joined (map (option_map made_view) rows) at (made_view row)
put_set [] at row lt = absurd (omega arith)
put_set (r ∷ rows) zero row lt = refl
put_set (r ∷ rows) (suc at) row lt = ap (λ l. option_map made_view r ∷ l) (put_set rows at row (omega arith))

-- what is in scope stays the same
beside_put : (js : List JoinTree) (at : ℕ) (d : JoinTree) (w : World) (n : Names) (rs : List (Option NamedRow)) (row : NamedRow)
    → at < length js → joined_at rs at ≡ None → row ≡ first_row (rows_of (get_or js at d).select w (beside (joins_of (take at js)) w n rs))
    → beside (joins_of js) w n (put_joined rs at row) ≡ beside (joins_of js) w n rs
beside_put [] at d w n rs row lt off is = absurd (omega arith)
beside_put (j ∷ js) zero d w n [] row lt off is = ap (λ r. beside (joins_of js) w (with_alias n j.alias r) []) is
beside_put (j ∷ js) zero d w n (None ∷ rs) row lt off is = ap (λ r. beside (joins_of js) w (with_alias n j.alias r) rs) is
beside_put (j ∷ js) zero d w n (Some r ∷ rs) row lt off is = cc
beside_put (j ∷ js) (suc at) d w n [] row lt off is = beside_put js at d w (with_alias n j.alias (first_row (rows_of j.select w n))) [] row (omega arith) off is
beside_put (j ∷ js) (suc at) d w n (None ∷ rs) row lt off is = beside_put js at d w (with_alias n j.alias (first_row (rows_of j.select w n))) rs row (omega arith) off is
beside_put (j ∷ js) (suc at) d w n (Some r ∷ rs) row lt off is = beside_put js at d w (with_alias n j.alias r) rs row (omega arith) off is

-- the same among joins as they lie in memory
pub beside_filled : (joins : List Join) (at : ℕ) (join : Join) (w : World) (n : Names) (rs : List (Option NamedRow)) (row : NamedRow)
    → at < length joins → join ≡ get_or joins at join → joined_at rs at ≡ None
    → row ≡ first_row (rows_of (join_view join).select w (beside (joins_of (map join_view (take at joins))) w n rs))
    → beside (joins_of (map join_view joins)) w n (put_joined rs at row) ≡ beside (joins_of (map join_view joins)) w n rs
beside_filled joins at join w n rs row lt item off is =
    let long = length-map joins join_view in
    beside_put (map join_view joins) at (join_view join) w n rs row (omega (arith, long)) off
    (is
    ∙ ap₂ (λ j js. first_row (rows_of j.select w (beside (joins_of js) w n rs)))
    (ap join_view item ∙ sym (get_or-map join_view joins at join (join_view join) lt)) (sym (take-map join_view at joins)))

total_append : (ms ns : List ℕ) → total (ms ++ ns) ≡ total ms + total ns
total_append [] ns = omega arith
total_append (m ∷ ms) ns = let later = total_append ms ns in omega (arith, later)

-- a join weighs more than its select
pub join_weighs : (join : Join) → join_weight join ≡ 8 + select_weight join.select.value
join_weighs join = search (rules, join_lemmas)

-- its alias and its select
pub join_alias : (join : Join) → (join_view join).alias ≡ join.alias
join_alias join = search (rules, join_lemmas)

pub join_select : (join : Join) → (join_view join).select ≡ select_view join.select.value
join_select join = search (rules, join_lemmas)

-- joins weigh as much as the last one and those before it
pub weight_last : (all before : List Join) (join : Join) → all ≡ before ++ join ∷ [] → total (map join_weight all) ≡ total (map join_weight before) + join_weight join
weight_last all before join is =
    let last = total_append (map join_weight before) (join_weight join ∷ []) in
    ap (λ js. total (map join_weight js)) is ∙ ap total (map-append join_weight before (join ∷ [])) ∙ (omega (arith, last))

-- as much as one of them and those before it, at least
pub weight_before : (joins : List Join) (at : ℕ) (join : Join) → at < length joins → join ≡ get_or joins at join
    → total (map join_weight (take at joins)) + join_weight join ≤ total (map join_weight joins)
weight_before [] at join lt is = absurd (omega arith)
weight_before (j ∷ joins) zero join lt is = let same = ap join_weight is in omega (arith, same)
weight_before (j ∷ joins) (suc at) join lt is = let later = weight_before joins at join (omega arith) is in omega (arith, later)
