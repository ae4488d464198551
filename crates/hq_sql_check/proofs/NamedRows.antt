-- The rows of a table by its name, over two databases.
use Rattle.std.proofs.Common.{◌≡◌, ℕ, zero, suc, ◌<◌, List, [], ◌∷◌, map, length, Bool, true, false, cond, Option, Some, refl, sym, ap, subst, ◌∙◌, arith}
use Rattle.std.specs.Prelude.{slice_index_or}
use Rattle.std.specs.List.{position}
use Rattle.std.proofs.lemmas.Bool.{lt-ltb}
use Rattle.std.proofs.lemmas.List.Sums.{position_or_len_is}
use Rattle.hq_base.specs.Lists.{Each}
use Rattle.hq_terms.specs.Database.{Row}
use Rattle.hq_terms.specs.declared.table.Table.{Table}
use Rattle.hq_sql_tree.specs.Meaning.{named_row, first_rows, other_rows, rows_named}
use Rattle.hq_sql_tree.specs.WellFormed.{is_table}
use Rattle.hq_sql_check.specs.Scans.{listed, place_named}

no_table : Table
no_table = record { schema = []; name = []; columns = []; key = []; foreign = [] }

-- the first place at which a test holds
position_is : {A : Type 0} (p : A → Bool) (xs : List A) (i : ℕ) (d : A) → i < length xs → p (slice_index_or xs i d) ≡ true
    → ((k : ℕ) → k < i → p (slice_index_or xs k d) ≡ false) → position p xs ≡ Some i
position_is p xs i d lt here before =
    rw (position_or_len_is p xs i d (omega arith) before (λ w. here), lt-ltb i (length xs) lt) refl

first_is : (d : List (List Row)) → first_rows d ≡ slice_index_or d 0 []
first_is [] = refl
first_is (rs ∷ d) = refl

rest_is : (d : List (List Row)) (t : ℕ) → slice_index_or (other_rows d) t [] ≡ slice_index_or d (suc t) []
rest_is [] t = refl
rest_is (rs ∷ d) t = refl

-- the rows are alike where those of the first table of the name are
alike_at : (tables : List Table) (d e : List (List Row)) (schema name : List ℕ)
    →
    ((t : ℕ) → t < length tables → is_table schema name (slice_index_or tables t no_table) ≡ true
    → ((k : ℕ) → k < t → is_table schema name (slice_index_or tables k no_table) ≡ false)
    → slice_index_or d t [] ≡ slice_index_or e t [])
    → rows_named tables d schema name ≡ rows_named tables e schema name
alike_at [] d e schema name same = refl
alike_at (x ∷ xs) d e schema name same =
    let go : (b : Bool) → is_table schema name x ≡ b
    → cond b (map (named_row x.columns) (first_rows d)) (rows_named xs (other_rows d) schema name) ≡ cond b (map (named_row x.columns) (first_rows e)) (rows_named xs (other_rows e) schema name) =
    elim [
      | true ↦ λ h. ap (map (named_row x.columns)) (first_is d ∙ same 0 (omega arith) h (λ k lt. absurd (omega arith)) ∙ sym (first_is e))
      | false ↦ λ h. alike_at xs (other_rows d) (other_rows e) schema name
          (λ t lt here before.
          let earlier : (k : ℕ) → k < suc t → is_table schema name (slice_index_or (x ∷ xs) k no_table) ≡ false = elim [ zero ↦ λ l. h | suc k ↦ λ l. before k (omega arith) ] in
          rest_is d t ∙ same (suc t) (omega arith) here earlier ∙ sym (rest_is e t))
    ] in
    go (is_table schema name x) refl

-- the rows are alike where those of the places of the name are
pub named_alike : (tables : List Table) (d e : List (List Row)) (schema name : List ℕ) → Each (λ t. slice_index_or d t [] ≡ slice_index_or e t []) (place_named tables schema name)
    → rows_named tables d schema name ≡ rows_named tables e schema name
named_alike tables d e schema name h =
    alike_at tables d e schema name
    (λ t lt here before. (subst (λ (o : Option ℕ). Each (λ u. slice_index_or d u [] ≡ slice_index_or e u []) (listed o)) (position_is (is_table schema name) tables t no_table lt here before) h).0)
