-- A table of the catalog stands in its schema under its name, and its columns under theirs; its key is of different columns.
use Rattle.std.proofs.Common.{◌≡◌, ℕ, zero, suc, ◌<◌, List, [], ◌∷◌, length, Bool, true, false, cond, not, ◌||◌, ◌==◌, Some, None, bytes_eq, refl, sym, ap, subst, ◌∙◌, eqb-true, eq-eqb, arith}
use Rattle.std.specs.Prelude.{nat_lt, unwrap_or}
use Rattle.std.specs.List.{prefix_len, list_any, list_all}
use Rattle.std.proofs.lemmas.Bool.{lt-ltb, false≢true}
use Rattle.hq_base.specs.Lists.{Each, all_differ}
use Rattle.hq_model.specs.Catalog.{is_catalog, is_table}
use Rattle.hq_model.specs.Meta.{MetaTree}
use Rattle.hq_model.specs.Schema.{Schema, schema_table, numbered, schema_of, table}
use Rattle.hq_model.specs.declared.table.Column.{Column}
use Rattle.hq_model.specs.declared.table.Table.{Table}
use Rattle.hq_translation.specs.Fine.{Has}
use Rattle.hq_translation.specs.Looks.{name_of}
use Rattle.hq_translation.proofs.Names.{same_text, Differ}
use Rattle.hq_translation.proofs.Sound.{both, negated, table_at, schema_is, IsNamed, named_tables, same_full, other_table}
use Rattle.hq_confine_rules.specs.Origins.{is_named, table_place, column_place}

-- the place of the first item that passes
placed : {A : Type 0} (p : A → Bool) (xs : List A) (i : ℕ) → prefix_len (λ x. not (p x)) xs ≡ i → i < length xs
    → cond (nat_lt (prefix_len (λ x. not (p x)) xs) (length xs)) (Some (prefix_len (λ x. not (p x)) xs)) None ≡ Some i
placed p xs i is lt = ap (λ n. cond (nat_lt n (length xs)) (Some n) None) is ∙ ap (λ b. cond b (Some i) None) (lt-ltb i (length xs) lt)

-- ---- tables

table_first : (meta : MetaTree) (k : ℕ) (tables : List Table) (t : ℕ) → Each IsNamed tables → all_differ same_full tables ≡ true → t < length tables
    → prefix_len (λ x. not (is_named (table_at tables t).schema (table_at tables t).name x)) (numbered (schema_table meta) k tables) ≡ t
table_first meta k [] t n h lt = absurd (omega arith)
table_first meta k (x ∷ tables) zero n h lt = rw (same_text x.schema, same_text x.name) refl
table_first meta k (x ∷ tables) (suc t) n h lt =
    let parts = both (not (list_any (same_full x) tables)) (all_differ same_full tables) h in
    let later = table_first meta (suc k) tables t n.1 parts.1 (omega arith) in
    rw (other_table x tables t n.0 (negated _ parts.0)) (omega (arith, later))

-- ---- columns

column_first : (cs : List Column) (c : ℕ) → Differ cs → c < length cs → prefix_len (λ x. not (bytes_eq x.name (name_of cs c))) cs ≡ c
column_first [] c d lt = absurd (omega arith)
column_first (x ∷ cs) zero d lt = rw (same_text x.name) refl
column_first (x ∷ cs) (suc c) d lt =
    let later = column_first cs c d.1 (omega arith) in
    rw (d.0 c) (omega (arith, later))

-- ---- keys

turned : (c : ℕ) (ds : List ℕ) → list_any (λ d. c == d) ds ≡ false → list_any (λ d. d == c) ds ≡ false
turned c [] h = refl
turned c (d ∷ ds) h =
    let go : (a b : Bool) → (c == d) ≡ a → (d == c) ≡ b → (a || list_any (λ x. c == x) ds) ≡ false → (b || list_any (λ x. x == c) ds) ≡ false =
    elim [
      | true ↦ λ b e f g. absurd (false≢true (sym g))
      | false ↦ elim [ true ↦ λ e f g. absurd (false≢true (sym e ∙ eq-eqb c d (sym (eqb-true d c f)))) | false ↦ λ e f g. turned c ds g ]
    ] in
    go (c == d) (d == c) refl refl h

-- a key of different columns
pub record IsKey (key : List ℕ) : Type 0 where
  pub first : ℕ
  pub rest : List ℕ
  pub keyed : key ≡ first ∷ rest
  pub differ : list_any (λ d. d == first) rest ≡ false

key_is : (key : List ℕ) → 0 < length key → all_differ (λ c d. c == d) key ≡ true → IsKey key
key_is [] some differ = absurd (omega arith)
key_is (c ∷ cs) some differ =
    record { first = c; rest = cs; keyed = refl; differ = turned c cs (negated _ (both (not (list_any (λ d. c == d) cs)) (all_differ (λ a b. a == b) cs) differ).0) }

-- ---- the tables of a catalog

abbrev DifferentKey : Table → Type 0
DifferentKey t = all_differ (λ c d. c == d) t.key ≡ true

key_differs : (all : List Table) (t : Table) → is_table all t ≡ true → DifferentKey t
key_differs all t h = (both _ _ (both _ _ (both _ _ h).0).0).1

keys_differ : (all tables : List Table) → list_all (is_table all) tables ≡ true → Each DifferentKey tables
keys_differ all [] h = tt
keys_differ all (t ∷ ts) h = let parts = both (is_table all t) (list_all (is_table all) ts) h in (key_differs all t parts.0, keys_differ all ts parts.1)

each_at : (P : Table → Type 0) (tables : List Table) (t : ℕ) → Each P tables → t < length tables → P (table_at tables t)
each_at P [] t n lt = absurd (omega arith)
each_at P (x ∷ tables) zero n lt = n.0
each_at P (x ∷ tables) (suc t) n lt = each_at P tables t n.1 (omega arith)

pub numbered_length : {A B : Type 0} (f : ℕ → A → B) (k : ℕ) (xs : List A) → length (numbered f k xs) ≡ length xs
numbered_length f k [] = refl
numbered_length f k (x ∷ xs) = ap suc (numbered_length f (suc k) xs)

-- a table of the catalog
pub record Stands (s : Schema) (t : ℕ) : Type 0 where
  pub place : table_place s (table s t).schema (table s t).name ≡ t
  pub names : (c : ℕ) → Has s t c → column_place s t (name_of (table s t).columns c) ≡ Some c
  pub key : Each (Has s t) (table s t).key
  pub is_key : IsKey (table s t).key

pub stands : (tables : List Table) (meta : MetaTree) (t : ℕ) → is_catalog tables ≡ true → t < length (schema_of tables meta) → Stands (schema_of tables meta) t
stands tables meta t catalog lt =
    let s : Schema = schema_of tables meta in
    let parts = both _ _ catalog in
    let named = named_tables tables tables parts.1 in
    let apart = (both _ _ parts.0).1 in
    let long : length s ≡ length tables = numbered_length (schema_table meta) 0 tables in
    let below : t < length tables = omega (arith, lt, long) in
    let alike = schema_is meta 0 tables t in
    let is = each_at IsNamed tables t named below in
    let differ = each_at DifferentKey tables t (keys_differ tables tables parts.1) below in
    let first : prefix_len (λ x. not (is_named (table s t).schema (table s t).name x)) s ≡ t = rw (alike.schema, alike.name) (table_first meta 0 tables t named apart below) in
    let columns : Differ (table s t).columns = rw alike.columns is.columns in
    let key : Each (λ c. c < length (table_at tables t).columns) (table_at tables t).key = is.key in
    record {
      place = ap (λ o. unwrap_or o (length s)) (placed (is_named (table s t).schema (table s t).name) s t first lt);
      names = λ c has. placed (λ x. bytes_eq x.name (name_of (table s t).columns c)) (table s t).columns c (column_first (table s t).columns c columns has) has;
      key = subst (λ (k : List ℕ). Each (Has s t) k) (sym alike.key) (subst (λ (cs : List Column). Each (λ c. c < length cs) (table_at tables t).key) (sym alike.columns) key);
      is_key = subst IsKey (sym alike.key) (key_is (table_at tables t).key is.keyed differ);
    }
