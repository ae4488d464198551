-- What is used of a statement's being well-formed: no join takes the alias of its scan, and the output of a fold has no column
-- but inside aggregates.
use Rattle.std.proofs.Common.{◌≡◌, ℕ, List, [], ◌∷◌, Bool, true, false, not, ◌&&◌, ◌||◌, bytes_eq, refl, sym, ◌∙◌}
use Rattle.std.specs.List.{list_any}
use Rattle.std.proofs.lemmas.Slice.Eq.{bytes_eq-Decides}
use Rattle.hq_base.specs.Lists.{all_differ}
use Rattle.hq_model.specs.declared.table.Table.{Table}
use Rattle.hq_sql_tree.specs.Tree as tree
use Rattle.hq_sql_tree.specs.Tree.{ExprTree, PairTrees, SelectTree, FromTree, JoinTrees, FilterTree, PredTree, PredTrees}
use Rattle.hq_sql_tree.specs.WellFormed.{Aliases, pair_names, is_folded, are_folded, are_parts, select_names, from_scope, joined_scope, is_typed, is_typed_from, are_typed_joins, is_typed_filter, is_typed_pred, are_typed_preds, aliases_in, aliases_in_from, aliases_in_joins, aliases_in_filter, aliases_in_pred, aliases_in_preds}
use Rattle.hq_translation.proofs.Sound.{both, negated}
use Rattle.hq_laws_confine.proofs.Meaning.Lists.{bool_same}

-- no join takes the alias
abbrev pub Fresh : List ℕ → JoinTrees → Type 0
Fresh a tree.no_join = Unit {0}
Fresh a (tree.join q b js) = (bytes_eq b a ≡ false) × Fresh a js

-- no column stands outside aggregates
abbrev mutual
  pub Folded : ExprTree → Type 0
  Folded (tree.column alias name form) = ⊥
  Folded (tree.object ps) = AllFolded ps
  Folded _ = Unit {0}

  pub AllFolded : PairTrees → Type 0
  AllFolded tree.no_pair = Unit {0}
  AllFolded (tree.pair name e ps) = Folded e × AllFolded ps

abbrev mutual
  pub Formed : SelectTree → Type 0
  Formed (tree.rows distinct outs from joins condition keys limit offset) = FormedFrom from joins × FormedJoins joins × FormedFilter condition
  Formed (tree.fold out inner alias) = Formed inner × Folded out.value

  pub FormedFrom : FromTree → JoinTrees → Type 0
  FormedFrom (tree.table schema name alias) joins = Fresh alias joins
  FormedFrom (tree.sub q alias) joins = Formed q
  FormedFrom (tree.one alias) joins = Unit {0}

  pub FormedJoins : JoinTrees → Type 0
  FormedJoins tree.no_join = Unit {0}
  FormedJoins (tree.join q alias js) = Formed q × FormedJoins js

  pub FormedFilter : FilterTree → Type 0
  FormedFilter tree.no_filter = Unit {0}
  FormedFilter (tree.filter p) = FormedPred p

  pub FormedPred : PredTree → Type 0
  FormedPred tree.always = Unit {0}
  FormedPred tree.never = Unit {0}
  FormedPred (tree.test e t es) = Unit {0}
  FormedPred (tree.negation p) = FormedPred p
  FormedPred (tree.all_of ps) = FormedPreds ps
  FormedPred (tree.any_of ps) = FormedPreds ps
  FormedPred (tree.exists q) = Formed q

  pub FormedPreds : PredTrees → Type 0
  FormedPreds tree.no_pred = Unit {0}
  FormedPreds (tree.pred p ps) = FormedPred p × FormedPreds ps

-- ---- outputs of folds

mutual
  folded_of : (e : ExprTree) (scope : Aliases) → is_folded scope e ≡ true → Folded e
  folded_of (tree.column alias name form) scope h = cc
  folded_of (tree.int n) scope h = tt
  folded_of (tree.text t) scope h = tt
  folded_of (tree.uuid t) scope h = tt
  folded_of (tree.bool b) scope h = tt
  folded_of (tree.object ps) scope h = all_folded_of ps scope (both (all_differ bytes_eq (pair_names ps)) (are_folded scope ps) h).1
  folded_of (tree.aggregate a) scope h = tt

  all_folded_of : (ps : PairTrees) (scope : Aliases) → are_folded scope ps ≡ true → AllFolded ps
  all_folded_of tree.no_pair scope h = tt
  all_folded_of (tree.pair name e ps) scope h = let parts = both (is_folded scope e) (are_folded scope ps) h in (folded_of e scope parts.0, all_folded_of ps scope parts.1)

-- ---- aliases

neither : (a b : Bool) → (a || b) ≡ false → (a ≡ false) × (b ≡ false)
neither true b h = absurd cc
neither false b h = (refl, h)

module _ (p : List ℕ → Bool) where
  -- what no alias of a tree and of others passes, none of the others does
  mutual
    past_select : (q : SelectTree) (others : List (List ℕ)) → list_any p (aliases_in q others) ≡ false → list_any p others ≡ false
    past_select (tree.rows distinct outs from joins condition keys limit offset) others h =
        past_filter condition others (past_joins joins (aliases_in_filter condition others) (past_from from (aliases_in_joins joins (aliases_in_filter condition others)) h))
    past_select (tree.fold out inner alias) others h = past_select inner others (neither (p alias) (list_any p (aliases_in inner others)) h).1

    past_from : (from : FromTree) (others : List (List ℕ)) → list_any p (aliases_in_from from others) ≡ false → list_any p others ≡ false
    past_from (tree.table schema name alias) others h = (neither (p alias) (list_any p others) h).1
    past_from (tree.sub q alias) others h = past_select q others (neither (p alias) (list_any p (aliases_in q others)) h).1
    past_from (tree.one alias) others h = (neither (p alias) (list_any p others) h).1

    past_joins : (js : JoinTrees) (others : List (List ℕ)) → list_any p (aliases_in_joins js others) ≡ false → list_any p others ≡ false
    past_joins tree.no_join others h = h
    past_joins (tree.join q alias js) others h = past_joins js others (past_select q (aliases_in_joins js others) (neither (p alias) (list_any p (aliases_in q (aliases_in_joins js others))) h).1)

    past_filter : (c : FilterTree) (others : List (List ℕ)) → list_any p (aliases_in_filter c others) ≡ false → list_any p others ≡ false
    past_filter tree.no_filter others h = h
    past_filter (tree.filter q) others h = past_pred q others h

    past_pred : (q : PredTree) (others : List (List ℕ)) → list_any p (aliases_in_pred q others) ≡ false → list_any p others ≡ false
    past_pred tree.always others h = h
    past_pred tree.never others h = h
    past_pred (tree.test e t es) others h = h
    past_pred (tree.negation q) others h = past_pred q others h
    past_pred (tree.all_of qs) others h = past_preds qs others h
    past_pred (tree.any_of qs) others h = past_preds qs others h
    past_pred (tree.exists q) others h = past_select q others h

    past_preds : (qs : PredTrees) (others : List (List ℕ)) → list_any p (aliases_in_preds qs others) ≡ false → list_any p others ≡ false
    past_preds tree.no_pred others h = h
    past_preds (tree.pred q qs) others h = past_preds qs others (past_pred q (aliases_in_preds qs others) h)

fresh_of : (a : List ℕ) (js : JoinTrees) (others : List (List ℕ)) → list_any (λ b. bytes_eq b a) (aliases_in_joins js others) ≡ false → Fresh a js
fresh_of a tree.no_join others h = tt
fresh_of a (tree.join q b js) others h =
    let parts = neither (bytes_eq b a) (list_any (λ x. bytes_eq x a) (aliases_in q (aliases_in_joins js others))) h in
    (parts.0, fresh_of a js others (past_select (λ x. bytes_eq x a) q (aliases_in_joins js others) parts.1))

-- ---- statements

turned : (a b : List ℕ) → bytes_eq a b ≡ bytes_eq b a
turned a b = bool_same (bytes_eq a b) (bytes_eq b a) (λ e. (bytes_eq-Decides b a).1 (sym ((bytes_eq-Decides a b).0 e))) (λ e. (bytes_eq-Decides a b).1 (sym ((bytes_eq-Decides b a).0 e)))

unlike : (a : List ℕ) (others : List (List ℕ)) → list_any (bytes_eq a) others ≡ false → list_any (λ b. bytes_eq b a) others ≡ false
unlike a [] h = refl
unlike a (b ∷ others) h =
    let parts = neither (bytes_eq a b) (list_any (bytes_eq a) others) h in
    rw (sym (turned a b) ∙ parts.0, unlike a others parts.1) refl

-- aliases that differ
abbrev pub Apart : List (List ℕ) → Type 0
Apart others = all_differ bytes_eq others ≡ true

first_apart : (a : List ℕ) (others : List (List ℕ)) → Apart (a ∷ others) → (list_any (bytes_eq a) others ≡ false) × Apart others
first_apart a others h = let parts = both (not (list_any (bytes_eq a) others)) (all_differ bytes_eq others) h in (negated _ parts.0, parts.1)

mutual
  pub formed_of : (q : SelectTree) (others : List (List ℕ)) (tables : List Table) (around : Aliases) → Apart (aliases_in q others) → is_typed q tables around ≡ true → Formed q × Apart others
  formed_of (tree.rows distinct outs from joins condition keys limit offset) others tables around a h =
      let scope : Aliases = from_scope from tables around in
      let inside : Aliases = joined_scope joins tables scope in
      let three = both (is_typed_from from tables around && are_typed_joins joins tables scope && is_typed_filter condition tables inside) (are_parts inside distinct outs keys) h in
      let two = both (is_typed_from from tables around && are_typed_joins joins tables scope) (is_typed_filter condition tables inside) three.0 in
      let one = both (is_typed_from from tables around) (are_typed_joins joins tables scope) two.0 in
      let f = from_of from joins (aliases_in_filter condition others) tables around a one.0 in
      let j = joins_of joins (aliases_in_filter condition others) tables scope f.1 one.1 in
      let c = filter_of condition others tables inside j.1 two.1 in
      ((f.0, j.0, c.0), c.1)
  formed_of (tree.fold out inner alias) others tables around a h =
      let parts = both (is_typed inner tables around) (is_folded ((alias, select_names inner tables around) ∷ []) out.value) h in
      let rest = formed_of inner others tables around (first_apart alias (aliases_in inner others) a).1 parts.0 in
      ((rest.0, folded_of out.value ((alias, select_names inner tables around) ∷ []) parts.1), rest.1)

  from_of : (from : FromTree) (js : JoinTrees) (others : List (List ℕ)) (tables : List Table) (around : Aliases)
      → Apart (aliases_in_from from (aliases_in_joins js others)) → is_typed_from from tables around ≡ true
      → FormedFrom from js × Apart (aliases_in_joins js others)
  from_of (tree.table schema name alias) js others tables around a h =
      let parts = first_apart alias (aliases_in_joins js others) a in
      (fresh_of alias js others (unlike alias (aliases_in_joins js others) parts.0), parts.1)
  from_of (tree.sub q alias) js others tables around a h = formed_of q (aliases_in_joins js others) tables around (first_apart alias (aliases_in q (aliases_in_joins js others)) a).1 h
  from_of (tree.one alias) js others tables around a h = (tt, (first_apart alias (aliases_in_joins js others) a).1)

  joins_of : (js : JoinTrees) (others : List (List ℕ)) (tables : List Table) (scope : Aliases) → Apart (aliases_in_joins js others)
      → are_typed_joins js tables scope ≡ true → FormedJoins js × Apart others
  joins_of tree.no_join others tables scope a h = (tt, a)
  joins_of (tree.join q alias js) others tables scope a h =
      let parts = both (is_typed q tables scope) (are_typed_joins js tables ((alias, select_names q tables scope) ∷ scope)) h in
      let first = formed_of q (aliases_in_joins js others) tables scope (first_apart alias (aliases_in q (aliases_in_joins js others)) a).1 parts.0 in
      let rest = joins_of js others tables ((alias, select_names q tables scope) ∷ scope) first.1 parts.1 in
      ((first.0, rest.0), rest.1)

  filter_of : (c : FilterTree) (others : List (List ℕ)) (tables : List Table) (scope : Aliases) → Apart (aliases_in_filter c others)
      → is_typed_filter c tables scope ≡ true → FormedFilter c × Apart others
  filter_of tree.no_filter others tables scope a h = (tt, a)
  filter_of (tree.filter p) others tables scope a h = pred_of p others tables scope a h

  pred_of : (p : PredTree) (others : List (List ℕ)) (tables : List Table) (scope : Aliases) → Apart (aliases_in_pred p others) → is_typed_pred p tables scope ≡ true → FormedPred p × Apart others
  pred_of tree.always others tables scope a h = (tt, a)
  pred_of tree.never others tables scope a h = (tt, a)
  pred_of (tree.test e t es) others tables scope a h = (tt, a)
  pred_of (tree.negation p) others tables scope a h = pred_of p others tables scope a h
  pred_of (tree.all_of ps) others tables scope a h = preds_of ps others tables scope a h
  pred_of (tree.any_of ps) others tables scope a h = preds_of ps others tables scope a h
  pred_of (tree.exists q) others tables scope a h = formed_of q others tables scope a h

  preds_of : (ps : PredTrees) (others : List (List ℕ)) (tables : List Table) (scope : Aliases) → Apart (aliases_in_preds ps others)
      → are_typed_preds ps tables scope ≡ true → FormedPreds ps × Apart others
  preds_of tree.no_pred others tables scope a h = (tt, a)
  preds_of (tree.pred p ps) others tables scope a h =
      let parts = both (is_typed_pred p tables scope) (are_typed_preds ps tables scope) h in
      let first = pred_of p (aliases_in_preds ps others) tables scope a parts.0 in
      let rest = preds_of ps others tables scope first.1 parts.1 in
      ((first.0, rest.0), rest.1)
