-- Sort keys that are plain, in front of the run of a scan's own key, have no faults.
use Rattle.std.proofs.Common.{◌≡◌, ℕ, zero, suc, ◌+◌, ◌≤◌, List, [], ◌∷◌, ◌++◌, length, Bool, true, false, cond, not, ◌&&◌, ◌||◌, ◌==◌, bytes_eq, refl, sym, ap, ◌∙◌, arith, eqb-true, eq-eqb}
use Rattle.std.specs.List.{list_any}
use Rattle.std.proofs.lemmas.Bool.{and_parts, ne_eqb}
use Rattle.std.proofs.lemmas.Slice.Eq.{bytes_eq-Decides}
use Rattle.hq_base.specs.Lists.{Each}
use Rattle.hq_model.specs.Grants.{Grants}
use Rattle.hq_model.specs.Schema.{Schema, table}
use Rattle.hq_sql_tree.specs.Tree as tree
use Rattle.hq_sql_tree.specs.Tree.{ExprTree, OrderTree, OrderTrees, orders_of}
use Rattle.hq_confine_rules.specs.Origins.{Origin, made, of, Shapes, origin, same_path, is_of}
use Rattle.hq_confine_rules.specs.Uses.{is_key_sort, is_run, run_from, has_run, less_one, expr_faults, orders_faults}
use Rattle.hq_confine_rules.proofs.Clean.{none}

abbrev pub size : OrderTrees → ℕ
size tree.no_order = 0
size (tree.order e desc nulls_first os) = suc (size os)

-- sort keys in front of others
abbrev pub in_front : List OrderTree → OrderTrees → OrderTrees
in_front [] os = os
in_front (x ∷ xs) os = tree.order x.value x.desc x.nulls_first (in_front xs os)

pub orders_append : (xs ys : List OrderTree) → orders_of (xs ++ ys) ≡ in_front xs (orders_of ys)
orders_append [] ys = refl
orders_append (x ∷ xs) ys = ap (tree.order x.value x.desc x.nulls_first) (orders_append xs ys)

-- ---- what a recognised column is

path_is : (p q : List (List ℕ)) → same_path p q ≡ true → p ≡ q
path_is [] [] h = refl
path_is [] (b ∷ q) h = cc
path_is (a ∷ p) [] h = cc
path_is (a ∷ p) (b ∷ q) h =
    let parts = and_parts (bytes_eq a b) (same_path p q) h in
    let e = (bytes_eq-Decides a b).0 parts.0 in
    let f = path_is p q parts.1 in
    cc

pub of_is : (t : ℕ) (path : List (List ℕ)) (c : ℕ) (o : Origin) → is_of t path c o ≡ true → o ≡ of t path c
of_is t path c made h = cc
of_is t path c (of u other d) h =
    let parts = and_parts ((u == t) && (d == c)) (same_path other path) h in
    let rest = and_parts (u == t) (d == c) parts.0 in
    let a : u ≡ t = eqb-true u t rest.0 in
    let b : d ≡ c = eqb-true d c rest.1 in
    let e : other ≡ path = path_is other path parts.1 in
    cc

self_eq : (n : ℕ) → (n == n) ≡ true
self_eq n = let e = eq-eqb n n refl in rw e refl

pub suc_not : (n : ℕ) → (suc n == 0) ≡ false
suc_not n = ne_eqb (suc n) 0 (λ e. absurd (omega arith))

or_true : (b : Bool) → (b || true) ≡ true
or_true true = refl
or_true false = refl

abbrev tail : List ℕ → List ℕ
tail [] = []
tail (x ∷ xs) = xs

abbrev table_of : Origin → ℕ
table_of made = 0
table_of (of t path c) = t

abbrev column_of : Origin → ℕ
column_of made = 0
column_of (of t path c) = c

module _ (s : Schema) (g : Grants) (scope : Shapes) where
  found : (t : ℕ) (path : List (List ℕ)) (c : ℕ) (e : ExprTree) (desc nulls_first : Bool) → is_key_sort s scope t path c e desc nulls_first ≡ true → is_of t path c (origin s scope e) ≡ true
  found t path c e desc nulls_first h = (and_parts (is_of t path c (origin s scope e)) (not desc) (and_parts (is_of t path c (origin s scope e) && not desc) (not nulls_first) h).0).0

  -- a recognised sort key is by that column
  key_is : (t : ℕ) (path : List (List ℕ)) (c : ℕ) (e : ExprTree) (desc nulls_first : Bool) → is_key_sort s scope t path c e desc nulls_first ≡ true → origin s scope e ≡ of t path c
  key_is t path c e desc nulls_first h = of_is t path c (origin s scope e) (found t path c e desc nulls_first h)

  -- no more keys are left than belong to the run
  skipped : (m : ℕ) (os : OrderTrees) → size os ≤ m → orders_faults s g scope m os ≡ []
  skipped zero tree.no_order h = refl
  skipped (suc m) tree.no_order h = refl
  skipped (suc m) (tree.order e desc nulls_first os) h = skipped m os (omega arith)
  skipped zero (tree.order e desc nulls_first os) h = absurd (omega arith)

  -- the run K of the key of table t, from one path
  pub record Run (t : ℕ) (path : List (List ℕ)) (K : OrderTrees) : Type 0 where
    pub first : ℕ
    pub rest : List ℕ
    pub key : (table s t).key ≡ first ∷ rest
    pub differ : list_any (λ d. d == first) rest ≡ false
    pub run : is_run s scope t path (first ∷ rest) K ≡ true
    pub whole : size K ≡ suc (length rest)

  module _ (t : ℕ) (path : List (List ℕ)) (K : OrderTrees) (r : Run t path K) where
    -- the first key of the run, recognised as a later column of another, would be the same column
    same_first : (u : ℕ) (other : List (List ℕ)) (c : ℕ) (o : Origin) → o ≡ of t path r.first → is_of u other c o ≡ true → (u ≡ t) × (c ≡ r.first)
    same_first u other c o e h = let f : of u other c ≡ of t path r.first = sym (of_is u other c o h) ∙ e in (ap table_of f, ap column_of f)

    -- a run that begins in front of K ends there
    run_ends : (u : ℕ) (other : List (List ℕ)) (cs : List ℕ) (xs : List OrderTree) → (u ≡ t → list_any (λ d. d == r.first) cs ≡ false)
        → is_run s scope u other cs (in_front xs K) ≡ true → length cs ≤ length xs
    run_ends u other [] xs d h = omega arith
    run_ends u other (c ∷ cs) (x ∷ xs) d h =
        let parts = and_parts (is_key_sort s scope u other c x.value x.desc x.nulls_first) (is_run s scope u other cs (in_front xs K)) h in
        let later : u ≡ t → list_any (λ d. d == r.first) cs ≡ false =
        λ e.
        (let go : (b : Bool) → (b || list_any (λ d. d == r.first) cs) ≡ false
        → list_any (λ d. d == r.first) cs ≡ false = elim [ true ↦ λ k. cc | false ↦ λ k. k ] in go (c == r.first) (d e)) in
        let ih = run_ends u other cs xs later parts.1 in
        omega arith
    run_ends u other (c ∷ cs) [] d h =
        let go : (k : OrderTrees) → is_run s scope t path (r.first ∷ r.rest) k ≡ true → is_run s scope u other (c ∷ cs) k ≡ true → suc (length cs) ≤ 0 =
        elim [
          | tree.no_order ↦ λ a b. cc
          | tree.order e desc nulls_first os ↦ λ a b.
              let own = key_is t path r.first e desc nulls_first (and_parts (is_key_sort s scope t path r.first e desc nulls_first) (is_run s scope t path r.rest os) a).0 in
              let same =
              same_first u other c (origin s scope e) own
              (found u other c e desc nulls_first
              (and_parts (is_key_sort s scope u other c e desc nulls_first) (is_run s scope u other cs os) b).0) in
              let hit : (c == r.first) ≡ true = ap (λ n. n == r.first) same.1 ∙ self_eq r.first in
              let no : (true || list_any (λ d. d == r.first) cs) ≡ false = ap (λ b. b || list_any (λ d. d == r.first) cs) (sym hit) ∙ d same.0 in
              cc
        ] in
        go K r.run h

    pub covered : (left : ℕ) (xs : List OrderTree) → left ≤ length xs → Each (λ x. expr_faults s g scope x.value ≡ []) xs → orders_faults s g scope left (in_front xs K) ≡ []
    covered (suc left) [] h plain = absurd (omega arith)
    covered (suc left) (x ∷ xs) h plain = covered left xs (omega arith) plain.1
    covered zero [] h plain =
        let go : (k : OrderTrees) → is_run s scope t path (r.first ∷ r.rest) k ≡ true → size k ≡ suc (length r.rest) → orders_faults s g scope 0 k ≡ [] =
        elim [
          | tree.no_order ↦ λ a b. cc
          | tree.order e desc nulls_first os ↦ λ a b.
              let own = key_is t path r.first e desc nulls_first (and_parts (is_key_sort s scope t path r.first e desc nulls_first) (is_run s scope t path r.rest os) a).0 in
              let from : run_from s scope (origin s scope e) (tree.order e desc nulls_first os) ≡ suc (length r.rest) =
              ap (λ o. run_from s scope o (tree.order e desc nulls_first os)) own
              ∙ ap (λ cs. cond (is_run s scope t path cs (tree.order e desc nulls_first os)) (length cs) 0) r.key
              ∙ ap (λ b. cond b (suc (length r.rest)) 0) a in
              let sized : size os ≡ length r.rest = omega arith in
              rw (from, suc_not (length r.rest)) (skipped (length r.rest) os (omega arith))
        ] in
        go K r.run r.whole
    covered zero (x ∷ xs) h plain =
        let all : OrderTrees = tree.order x.value x.desc x.nulls_first (in_front xs K) in
        let step : (n : ℕ) → n ≤ suc (length xs)
        → cond (n == 0) (expr_faults s g scope x.value ++ orders_faults s g scope 0 (in_front xs K))
        (orders_faults s g scope (less_one n) (in_front xs K))
        ≡ [] =
        elim [
          | zero ↦ λ le. none _ _ plain.0 (covered zero xs (omega arith) plain.1)
          | suc n ↦ λ le. rw (suc_not n) (covered n xs (omega arith) plain.1)
        ] in
        let bound : (o : Origin) → run_from s scope o all ≤ suc (length xs) =
        elim [
          | made ↦ omega arith
          | of u other c ↦
              (let inner : (cs : List ℕ) → (table s u).key ≡ cs → (b : Bool) → is_run s scope u other cs all ≡ b → cond b (length cs) 0 ≤ suc (length xs) =
              elim [
                | [] ↦ λ e. elim [ true ↦ λ k. omega arith | false ↦ λ k. omega arith ]
                | d ∷ ds ↦ λ e. elim [
                  | true ↦ λ k.
                      let behind = (and_parts (is_key_sort s scope u other d x.value x.desc x.nulls_first) (is_run s scope u other ds (in_front xs K)) k).1 in
                      let apart : u ≡ t → list_any (λ d. d == r.first) ds ≡ false =
                      λ same.
                      (let tails : d ∷ ds ≡ r.first ∷ r.rest = sym e ∙ ap (λ n. (table s n).key) same
                      ∙ r.key in ap (λ l. list_any (λ d. d == r.first) (tail l)) tails ∙ r.differ) in
                      let le = run_ends u other ds xs apart behind in
                      omega arith
                  | false ↦ λ k. omega arith
                ]
              ] in
              inner (table s u).key refl (is_run s scope u other (table s u).key all) refl)
        ] in
        step (run_from s scope (origin s scope x.value) all) (bound (origin s scope x.value))

    -- and the run stands among them
    pub stands : (alias : List ℕ) → path ≡ alias ∷ [] → (xs : List OrderTree) → has_run s scope t alias (in_front xs K) ≡ true
    stands alias p (x ∷ xs) = rw (stands alias p xs) (or_true (is_run s scope t (alias ∷ []) (table s t).key (in_front (x ∷ xs) K)))
    stands alias p [] =
        let go : (k : OrderTrees) → is_run s scope t path (r.first ∷ r.rest) k ≡ true → has_run s scope t alias k ≡ true =
        elim [
          | tree.no_order ↦ λ a. cc
          | tree.order e desc nulls_first os ↦ λ a.
              let here : is_run s scope t (alias ∷ []) (table s t).key (tree.order e desc nulls_first os) ≡ true =
              ap (λ cs. is_run s scope t (alias ∷ []) cs (tree.order e desc nulls_first os)) r.key
              ∙ ap (λ q. is_run s scope t q (r.first ∷ r.rest) (tree.order e desc nulls_first os)) (sym p) ∙ a in
              rw here refl
        ] in
        go K r.run
