-- Look-ups by place.
use Rattle.std.proofs.Common.{◌≡◌, refl, ◌∙◌, ap, sym, ℕ, zero, suc, ◌+◌, List, [], ◌∷◌, Some, None, get_or, arith}
use Rattle.std.specs.Prelude.{option_map, unwrap_or, slice_get}
use Rattle.std.proofs.lemmas.Option.{get_or_from_slice_get, unwrap_or-slice_get}
use Rattle.hq_model.specs.Meta.{MetaTree}
use Rattle.hq_model.specs.Schema.{numbered, schema_of, schema_table, no_table, table}
use Rattle.hq_model.specs.declared.table.Table.{Table}

-- an item that is there
pub present : {A : Type 0} (xs : List A) (i : ℕ) (d x : A) → slice_get xs i ≡ Some x → get_or xs i d ≡ x
present xs i d x here = get_or_from_slice_get xs i x d here

-- the default where none is
pub absent : {A : Type 0} (xs : List A) (i : ℕ) (d : A) → slice_get xs i ≡ None → get_or xs i d ≡ d
absent xs i d none = sym (unwrap_or-slice_get xs i d) ∙ ap (λ o. unwrap_or o d) none

-- an item of a numbered list
pub numbered-get : {A B : Type 0} (f : ℕ → A → B) (k : ℕ) (xs : List A) (i : ℕ) → slice_get (numbered f k xs) i ≡ option_map (f (k + i)) (slice_get xs i)
numbered-get f k [] i = refl
numbered-get f k (x ∷ xs) zero = let e : k ≡ k + 0 = omega arith in ap (λ n. Some (f n x)) e
numbered-get f k (x ∷ xs) (suc i) =
    let e : suc k + i ≡ k + suc i = omega arith in
    numbered-get f (suc k) xs i ∙ ap (λ n. option_map (f n) (slice_get xs i)) e

-- an item of a list that is numbered from 0
pub at_0 : {A B : Type 0} (f : ℕ → A → B) (xs : List A) (i : ℕ) → slice_get (numbered f 0 xs) i ≡ option_map (f i) (slice_get xs i)
at_0 f xs i = let e : 0 + i ≡ i = omega arith in numbered-get f 0 xs i ∙ ap (λ n. option_map (f n) (slice_get xs i)) e

-- a table of the schema of a catalog that has it
pub table_present : (tables : List Table) (m : MetaTree) (t : ℕ) (x : Table) → slice_get tables t ≡ Some x → table (schema_of tables m) t ≡ schema_table m t x
table_present tables m t x here =
    present (schema_of tables m) t no_table (schema_table m t x) (at_0 (schema_table m) tables t ∙ ap (option_map (schema_table m t)) here)

-- a table beyond the catalog
pub table_absent : (tables : List Table) (m : MetaTree) (t : ℕ) → slice_get tables t ≡ None → table (schema_of tables m) t ≡ no_table
table_absent tables m t none =
    absent (schema_of tables m) t no_table (at_0 (schema_table m) tables t ∙ ap (option_map (schema_table m t)) none)
