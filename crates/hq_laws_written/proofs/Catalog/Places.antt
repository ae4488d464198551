-- Columns under their names: a name that stands for a place is read as that place.
use Rattle.std.proofs.Common.{◌≡◌, ◌∙◌, ℕ, suc, ◌&&◌, List, [], ◌∷◌, length, map, Bool, true, false, not, Option, Some, None, Ok, slice_get, position, bytes_eq, refl, sym, ap}
use Rattle.std.specs.List.{list_all, list_any, zip}
use Rattle.std.specs.Cmp.Lexicographic.{bytes_decides}
use Rattle.std.proofs.lemmas.Bool.{and_from, and_parts}
use Rattle.hq_base.specs.Lists.{Each, all_differ}
use Rattle.hq_base.specs.Types.{is_ordered}
use Rattle.hq_model.specs.Catalog.{type_of, can_pair, pairs_fit, is_key_column}
use Rattle.hq_model.specs.declared.table.Column.{Column}
use Rattle.hq_model.specs.declared.table.Table.{Table}
use Rattle.hq_load_catalog.specs.Resolved.{column_named, key_column_named, settled}
use Rattle.hq_laws_written.specs.Catalog.Written.{name_in, name_at}
use Rattle.hq_laws_written.proofs.Catalog.Lists.{not_true, position_of, each_at, map_each}

pub same_name : (name : List ℕ) → bytes_eq name name ≡ true
same_name name = (bytes_decides name name).1 refl

-- the columns have different names
abbrev pub differ : List Column → Bool
differ = all_differ (λ (c d : Column). bytes_eq c.name d.name)

-- the place is one of the columns'
abbrev pub IsPlace : List Column → ℕ → Type 0
IsPlace columns k = (c : Column) × (slice_get columns k ≡ Some c)

-- the column at a place is found under its name
pub place_found : (columns : List Column) (k : ℕ) → differ columns ≡ true → IsPlace columns k → position (λ c. bytes_eq c.name (name_at columns k)) columns ≡ Some k
place_found columns k h is =
    ap (λ o. position (λ c. bytes_eq c.name (name_in o)) columns) is.1 ∙ position_of (λ (c d : Column). bytes_eq c.name d.name) columns k is.0 h (same_name is.0.name) is.1

pub named_place : (columns : List Column) (k : ℕ) (path : List ℕ) → differ columns ≡ true → IsPlace columns k → column_named columns path (name_at columns k) ≡ Ok k
unfolding column_named
named_place columns k path h is = rw (place_found columns k h is) refl

-- the same of a column whose values are compared
abbrev pub IsKeyPlace : List Column → ℕ → Type 0
IsKeyPlace columns k = (c : Column) × (slice_get columns k ≡ Some c) × (is_ordered c.ty ≡ true)

pub key_place : (columns : List Column) (k : ℕ) → IsKeyPlace columns k → IsPlace columns k
key_place columns k is = (is.0, is.1)

pub named_key : (columns : List Column) (k : ℕ) (path : List ℕ) → differ columns ≡ true → IsKeyPlace columns k → key_column_named columns path (name_at columns k) ≡ Ok k
unfolding key_column_named
named_key columns k path h is = rw (place_found columns k h (key_place columns k is), is.1, is.2) refl

some_place : (columns : List Column) (k : ℕ) (o : Option Column) → slice_get columns k ≡ o → is_key_column o ≡ true → IsKeyPlace columns k
some_place columns k None e h = cc
some_place columns k (Some c) e h = (c, e, (and_parts (not c.nullable) (is_ordered c.ty) h).1)

-- a column that a key may have is there
pub key_places : (columns : List Column) (key : List ℕ) → list_all (λ c. is_key_column (slice_get columns c)) key ≡ true → Each (IsKeyPlace columns) key
key_places columns [] h = tt
key_places columns (k ∷ ks) h = let p = and_parts _ _ h in (some_place columns k (slice_get columns k) refl p.0, key_places columns ks p.1)

-- two places with one name are one
pub one_place : (columns : List Column) (j k : ℕ) → differ columns ≡ true → IsPlace columns j → IsPlace columns k → bytes_eq (name_at columns j) (name_at columns k) ≡ true → j ≡ k
one_place columns j k h a b e =
    let same : name_at columns j ≡ name_at columns k = (bytes_decides (name_at columns j) (name_at columns k)).0 e in
    let found : ◌≡◌ {A = Option ℕ} (Some j) (Some k) = sym (place_found columns j h a) ∙ ap (λ n. position (λ c. bytes_eq c.name n) columns) same ∙ place_found columns k h b in
    cc

-- a name of the key is that of a column that holds no NULL
not_null : (columns : List Column) (k : ℕ) (c : Column) (key : List ℕ) → differ columns ≡ true → slice_get columns k ≡ Some c → list_all (λ p. is_key_column (slice_get columns p)) key ≡ true
    → list_any (λ name. bytes_eq name c.name) (map (name_at columns) key) ≡ true → c.nullable ≡ false
not_null columns k c [] h at keyed e = cc
not_null columns k c (p ∷ ps) h at keyed e =
    let parts = and_parts _ _ keyed in
    let there = key_place columns p (some_place columns p (slice_get columns p) refl parts.0) in
    let go : (b : Bool) → bytes_eq (name_at columns p) c.name ≡ b → c.nullable ≡ false = elim [
      | true ↦ λ same.
          let named : name_at columns k ≡ c.name = ap name_in at in
          let is = one_place columns p k h there (c, at) (ap (bytes_eq (name_at columns p)) named ∙ same) in
          not_true c.nullable (and_parts (not c.nullable) (is_ordered c.ty) (ap is_key_column (sym at ∙ ap (slice_get columns) (sym is)) ∙ parts.0)).0
      | false ↦ λ same. not_null columns k c ps h at parts.1 (rw same at e)
    ] in
    go (bytes_eq (name_at columns p) c.name) refl

not_in_key : (b : Bool) → (b && not false) ≡ b
not_in_key true = refl
not_in_key false = refl

settled_same : (columns : List Column) (key : List ℕ) (k : ℕ) (c : Column) → differ columns ≡ true → list_all (λ p. is_key_column (slice_get columns p)) key ≡ true → slice_get columns k ≡ Some c
    → settled (map (name_at columns) key) c ≡ c
settled_same columns key k c h keyed at =
    let among = list_any (λ name. bytes_eq name c.name) (map (name_at columns) key) in
    let go : (b : Bool) → among ≡ b → (c.nullable && not b) ≡ c.nullable = elim [
      | true ↦ λ e. rw (not_null columns k c key h at keyed e) refl
      | false ↦ λ e. not_in_key c.nullable
    ] in
    ap (λ (b : Bool). record c { nullable = b }) (go among refl)

-- a column that the key names is as nullable as before
pub settled_all : (columns : List Column) (key : List ℕ) → differ columns ≡ true
    → list_all (λ p. is_key_column (slice_get columns p)) key ≡ true → map (settled (map (name_at columns) key)) columns ≡ columns
settled_all columns key h keyed =
    map_each (settled (map (name_at columns) key)) columns
    (each_at (λ c. settled (map (name_at columns) key) c ≡ c) columns (λ k c at. settled_same columns key k c h keyed at))

-- ---- pairs of columns

paired_place : (columns : List Column) (k : ℕ) (o p : Option Column) → slice_get columns k ≡ o → can_pair (type_of o) (type_of p) ≡ true → IsPlace columns k
paired_place columns k None p e h = cc
paired_place columns k (Some c) p e h = (c, e)

paired_other : (columns : List Column) (k : ℕ) (o p : Option Column) → slice_get columns k ≡ p → can_pair (type_of o) (type_of p) ≡ true → IsPlace columns k
paired_other columns k None p e h = cc
paired_other columns k (Some c) None e h = cc
paired_other columns k (Some c) (Some d) e h = (d, e)

-- columns that go together are there
pub own_places : (t u : Table) (cs ds : List ℕ) → pairs_fit t u cs ds ≡ true → Each (IsPlace t.columns) cs
own_places t u [] ds h = tt
own_places t u (c ∷ cs) [] h = cc
own_places t u (c ∷ cs) (d ∷ ds) h = let p = and_parts _ _ h in (paired_place t.columns c (slice_get t.columns c) (slice_get u.columns d) refl p.0, own_places t u cs ds p.1)

pub remote_places : (t u : Table) (cs ds : List ℕ) → pairs_fit t u cs ds ≡ true → Each (IsPlace u.columns) ds
remote_places t u cs [] h = tt
remote_places t u [] (d ∷ ds) h = cc
remote_places t u (c ∷ cs) (d ∷ ds) h = let p = and_parts _ _ h in (paired_other u.columns d (slice_get t.columns c) (slice_get u.columns d) refl p.0, remote_places t u cs ds p.1)

pub as_many : (t u : Table) (cs ds : List ℕ) → pairs_fit t u cs ds ≡ true → length cs ≡ length ds
as_many t u [] [] h = refl
as_many t u [] (d ∷ ds) h = cc
as_many t u (c ∷ cs) [] h = cc
as_many t u (c ∷ cs) (d ∷ ds) h = ap suc (as_many t u cs ds (and_parts _ _ h).1)

pub zipped : (t u : Table) (cs ds : List ℕ) → pairs_fit t u cs ds ≡ true → list_all (λ p. can_pair (type_of (slice_get t.columns p.0)) (type_of (slice_get u.columns p.1))) (zip cs ds) ≡ true
zipped t u [] [] h = refl
zipped t u [] (d ∷ ds) h = cc
zipped t u (c ∷ cs) [] h = cc
zipped t u (c ∷ cs) (d ∷ ds) h = let p = and_parts _ _ h in and_from _ _ p.0 (zipped t u cs ds p.1)
