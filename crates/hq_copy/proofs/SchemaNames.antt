-- The names of a copy's schema: which columns have GraphQL names, and steps of loops over names and causes.
use Rattle.std.proofs.Common.{◌≡◌, ◌∙◌, ℕ, zero, suc, ◌+◌, ◌<◌, List, [], ◌∷◌, ◌++◌, length, drop, get_or, Bool, true, false, cond, ◌||◌, Option, Some, None, Result, Ok, Err, IsErrAnd, inl, inr, refl, sym, ap, subst, append_assoc, arith, map, filter}
use Rattle.std.specs.Prelude.{◌⊎◌, ◌==◌, slice_get}
use Rattle.std.specs.List.{list_any}
use Rattle.std.proofs.lemmas.Bool.{eq-eqb, ne_eqb}
use Rattle.std.proofs.lemmas.List.{drop_more}
use Rattle.hq_base.proofs.Loops.{next_item, piece_more}
use Rattle.hq_copy_definition.specs.Refusals.{first_of, or_else}
use Rattle.hq_copy_definition.specs.declared.refusal.CopyRefusal.{CopyRefusal}
use Rattle.hq_copy_definition.specs.declared.refusal.CopyRefusal.TheVariants.{Memory}
use Rattle.hq_model.specs.Meta.{MetaTree}
use Rattle.hq_model.specs.Names.{is_free_name}
use Rattle.hq_model.specs.Permission.{named_from}
use Rattle.hq_model.specs.Schema.{SchemaTable, column, no_column, schema_of}
use Rattle.hq_model.specs.declared.table.Column.{Column}
use Rattle.hq_model.specs.declared.table.Table.{Table}
use Rattle.hq_model.proofs.Places.{absent, present, table_absent, table_present}
use Rattle.hq_copy.specs.Refused.{Refuses}

-- ---- columns with GraphQL names

-- no place before the first is among them
named_before : (k i : ℕ) (names : List (List ℕ)) → i < k → list_any (λ d. d == i) (named_from k names) ≡ false
named_before k i [] lt = refl
named_before k i (n ∷ ns) lt =
    let rest : list_any (λ d. d == i) (named_from (suc k) ns) ≡ false = named_before (suc k) i ns (omega arith) in
    let other : (k == i) ≡ false = ne_eqb k i (omega arith) in
    let go : (b : Bool) → list_any (λ d. d == i) (cond b (k ∷ named_from (suc k) ns) (named_from (suc k) ns)) ≡ false =
    elim [ true ↦ ap (λ b. b || list_any (λ d. d == i) (named_from (suc k) ns)) other ∙ rest | false ↦ rest ] in
    go (is_free_name n)

-- a name is there, and a schema may give it
abbrev pub is_free : Option (List ℕ) → Bool
is_free None = false
is_free (Some n) = is_free_name n

named_far : (k i : ℕ) (names : List (List ℕ)) → list_any (λ d. d == (k + i)) (named_from k names) ≡ is_free (slice_get names i)
named_far k i [] = refl
named_far k zero (n ∷ ns) =
    let rest : list_any (λ d. d == (k + 0)) (named_from (suc k) ns) ≡ false = named_before (suc k) (k + 0) ns (omega arith) in
    let here : (k == (k + 0)) ≡ true = eq-eqb k (k + 0) (omega arith) in
    let go : (b : Bool) → list_any (λ d. d == (k + 0)) (cond b (k ∷ named_from (suc k) ns) (named_from (suc k) ns)) ≡ b =
    elim [ true ↦ ap (λ b. b || list_any (λ d. d == (k + 0)) (named_from (suc k) ns)) here | false ↦ rest ] in
    go (is_free_name n)
named_far k (suc i) (n ∷ ns) =
    let same : k + suc i ≡ suc k + i = omega arith in
    let rest : list_any (λ d. d == (k + suc i)) (named_from (suc k) ns) ≡ is_free (slice_get ns i) =
    ap (λ j. list_any (λ d. d == j) (named_from (suc k) ns)) same ∙ named_far (suc k) i ns in
    let other : (k == (k + suc i)) ≡ false = ne_eqb k (k + suc i) (omega arith) in
    let go : (b : Bool) → list_any (λ d. d == (k + suc i)) (cond b (k ∷ named_from (suc k) ns) (named_from (suc k) ns)) ≡ is_free (slice_get ns i) =
    elim [ true ↦ ap (λ b. b || list_any (λ d. d == (k + suc i)) (named_from (suc k) ns)) other ∙ rest | false ↦ rest ] in
    go (is_free_name n)

-- a column is among them where its name is free
pub named_at : (names : List (List ℕ)) (i : ℕ) → list_any (λ d. d == i) (named_from 0 names) ≡ is_free (slice_get names i)
named_at names i = let same : i ≡ 0 + i = omega arith in ap (λ j. list_any (λ d. d == j) (named_from 0 names)) same ∙ named_far 0 i names

-- some column is named where some name is free
pub some_named : (k : ℕ) (names : List (List ℕ)) → list_any (λ c. true) (named_from k names) ≡ list_any is_free_name names
some_named k [] = refl
some_named k (n ∷ ns) = by (is_free_name n) (some_named (suc k) ns)
  where
    by : (b : Bool) → list_any (λ c. true) (named_from (suc k) ns) ≡ list_any is_free_name ns
        → list_any (λ c. true) (cond b (k ∷ named_from (suc k) ns) (named_from (suc k) ns)) ≡ (b || list_any is_free_name ns)
    by true rest = refl
    by false rest = rest

-- the next name, and those that are left
pub named_next : (names : List (List ℕ)) (i : ℕ) (n : List ℕ) → i < length names → n ≡ get_or names i n
    → named_from i (drop i names) ≡ cond (is_free_name n) (i ∷ named_from (i + 1) (drop (i + 1) names)) (named_from (i + 1) (drop (i + 1) names))
named_next names i n lt is =
    let one : suc i ≡ i + 1 = omega arith in
    let rest = drop (i + 1) names in
    ap (named_from i) (next_item names i n lt is) ∙ ap (λ j. cond (is_free_name n) (i ∷ named_from j rest) (named_from j rest)) one

-- ---- whether some column with a GraphQL name passes a test

module _ (test : ℕ → Bool) (names : List (List ℕ)) (i : ℕ) (n : List ℕ) (lt : i < length names) (is : n ≡ get_or names i n) (whole : Bool)
    (so_far : list_any test (named_from i (drop i names)) ≡ whole) where
  -- the next one passes
  pub any_passes : is_free_name n ≡ true → test i ≡ true → true ≡ whole
  any_passes free passes =
      let rest = named_from (i + 1) (drop (i + 1) names) in
      sym (ap (list_any test) (named_next names i n lt is) ∙ ap (λ b. list_any test (cond b (i ∷ rest) rest)) free ∙ ap (λ b. b || list_any test rest) passes) ∙ so_far

  -- it has no such name
  pub any_hidden : is_free_name n ≡ false → list_any test (named_from (i + 1) (drop (i + 1) names)) ≡ whole
  any_hidden free =
      let rest = named_from (i + 1) (drop (i + 1) names) in
      sym (ap (list_any test) (named_next names i n lt is) ∙ ap (λ b. list_any test (cond b (i ∷ rest) rest)) free) ∙ so_far

  -- it does not pass
  pub any_fails : test i ≡ false → list_any test (named_from (i + 1) (drop (i + 1) names)) ≡ whole
  any_fails fails =
      let rest = named_from (i + 1) (drop (i + 1) names) in
      let go : (b : Bool) → list_any test (cond b (i ∷ rest) rest) ≡ list_any test rest = elim [ true ↦ ap (λ b. b || list_any test rest) fails | false ↦ refl ] in
      sym (ap (list_any test) (named_next names i n lt is) ∙ go (is_free_name n)) ∙ so_far

-- ---- the first cause

-- of the columns with GraphQL names that are left
pub first_next : (f : ℕ → Option CopyRefusal) (names : List (List ℕ)) (i : ℕ) (n : List ℕ) → i < length names → n ≡ get_or names i n
    → first_of f (named_from i (drop i names)) ≡ or_else (cond (is_free_name n) (f i) None) (first_of f (named_from (i + 1) (drop (i + 1) names)))
first_next f names i n lt is =
    let rest = named_from (i + 1) (drop (i + 1) names) in
    let go : (b : Bool) → first_of f (cond b (i ∷ rest) rest) ≡ or_else (cond b (f i) None) (first_of f rest) = elim [ true ↦ refl | false ↦ refl ] in
    ap (first_of f) (named_next names i n lt is) ∙ go (is_free_name n)

-- the next cause is the first of all
pub refused_next : {X : Type 0} (step rest left whole : Option CopyRefusal) (e : CopyRefusal) (r : Result X CopyRefusal)
    → left ≡ or_else step rest → left ≡ whole → (e ≡ Memory) ⊎ (step ≡ Some e) → IsErrAnd r (λ x. x ≡ e) → Refuses whole r
refused_next step rest left whole e (Ok x) split so_far given is = absurd is
refused_next step rest left whole e (Err x) split so_far given is =
    subst (λ y. (y ≡ Memory) ⊎ (whole ≡ Some y)) (sym is) (elim given [
      | inl m ↦ inl m
      | inr g ↦ inr (sym so_far ∙ split ∙ ap (λ o. or_else o rest) g)
    ])

-- or there is none, and those that are left tell
pub passed_next : (step rest left whole : Option CopyRefusal) → left ≡ or_else step rest → left ≡ whole → step ≡ None → rest ≡ whole
passed_next step rest left whole split so_far none = sym (split ∙ ap (λ o. or_else o rest) none) ∙ so_far

-- ---- a column of the schema of some tables

module _ (tables : List Table) (m : MetaTree) (t c : ℕ) where
  pub column_present : (found : Table) (x : Column) → slice_get tables t ≡ Some found → slice_get found.columns c ≡ Some x → column (schema_of tables m) t c ≡ x
  column_present found x here there =
      ap (λ (u : SchemaTable). get_or u.columns c no_column) (table_present tables m t found here) ∙ present found.columns c no_column x there

  pub column_absent : (found : Table) → slice_get tables t ≡ Some found → slice_get found.columns c ≡ None → column (schema_of tables m) t c ≡ no_column
  column_absent found here none =
      ap (λ (u : SchemaTable). get_or u.columns c no_column) (table_present tables m t found here) ∙ absent found.columns c no_column none

  pub column_nowhere : slice_get tables t ≡ None → column (schema_of tables m) t c ≡ no_column
  column_nowhere none = ap (λ (u : SchemaTable). get_or u.columns c no_column) (table_absent tables m t none)

-- ---- lists that grow

-- one behind the others for each item that passes a test: the next one does
module _ {A V : Type 0} (test : A → Bool) (f : A → V) (xs : List A) (i : ℕ) (d : A) (before after whole : List V) (lt : i < length xs) where
  pub filtered_kept : test (get_or xs i d) ≡ true → after ≡ before ++ f (get_or xs i d) ∷ [] → before ++ map f (filter test (drop i xs)) ≡ whole
      → after ++ map f (filter test (drop (i + 1) xs)) ≡ whole
  filtered_kept passes grows =
      let x = get_or xs i d in
      let rest = filter test (drop (i + 1) xs) in
      piece_more before after (f x ∷ []) (map f rest) (map f (filter test (drop i xs))) whole grows
      (ap (λ l. map f (filter test l)) (drop_more xs i d lt) ∙ ap (λ b. map f (cond b (x ∷ rest) rest)) passes)

  -- or it does not
  pub filtered_left : test (get_or xs i d) ≡ false → after ≡ before → before ++ map f (filter test (drop i xs)) ≡ whole
      → after ++ map f (filter test (drop (i + 1) xs)) ≡ whole
  filtered_left fails same so_far =
      let rest = filter test (drop (i + 1) xs) in
      ap (λ l. l ++ map f rest) same
      ∙ sym (ap (λ l. before ++ map f (filter test l)) (drop_more xs i d lt) ∙ ap (λ b. before ++ map f (cond b (get_or xs i d ∷ rest) rest)) fails)
      ∙ so_far

-- three pieces behind others
pub three_pieces : {V : Type 0} (none one two three a b c : List V) → one ≡ none ++ a → two ≡ one ++ b → three ≡ two ++ c → three ≡ none ++ (a ++ (b ++ c))
three_pieces none one two three a b c first second third =
    third ∙ ap (λ l. l ++ c) (second ∙ ap (λ l. l ++ b) first) ∙ append_assoc (none ++ a) b c ∙ append_assoc none a (b ++ c)
