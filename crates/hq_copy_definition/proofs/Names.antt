-- The GraphQL names of a copy's columns may all stand in a schema.
use Rattle.std.proofs.Common.{◌≡◌, ℕ, zero, suc, ◌+◌, ◌<◌, List, [], ◌∷◌, ◌++◌, filter, Bool, true, false, cond, ◌&&◌, Option, Some, None, refl, sym, ap, ap₂, ◌∙◌, subst, arith}
use Rattle.std.proofs.lemmas.Bool.{and_from, or_left, false≢true, lt-ltb, le-leb}
use Rattle.std.proofs.lemmas.List.Folds.{list_all-append}
use Rattle.std.specs.Char.{is_ascii_alphanumeric}
use Rattle.std.specs.Fmt.{decimal, digits, digits_onto, digit_glyph}
use Rattle.std.specs.List.{list_all, list_any}
use Rattle.std.specs.Prelude.{codes, slice_index_or, find, option_and_then, nat_lt, bytes_eq, ◌==◌, ◌≤◌, ◌/◌, ◌%◌}
use Rattle.hq_base.specs.Lists.{Each}
use Rattle.hq_base.proofs.Lists.{each_filter}
use Rattle.hq_model.specs.Bexp.{always}
use Rattle.hq_model.specs.Meta.{PermTree, TrackedTree}
use Rattle.hq_model.specs.Names.{continues_name, is_free_name}
use Rattle.hq_model.specs.Permission.{Permission, with_columns, named_from, named_columns, told_permission, own_permission, permissions_of, combined, set_of, or_inherited, permission_in, permits, either, filters_of, limit_of, some_aggregate, masks_for, columns_of_any}
use Rattle.hq_model.specs.declared.meta.Inherited.{Inherited}
use Rattle.hq_model.specs.declared.role.Role.{Role}
use Rattle.hq_model.specs.declared.role.Role.TheVariants.{Admin, Named}
use Rattle.hq_copy_definition.specs.Extras.{Extra, from_end, to_end, row_position, extra_name}
use Rattle.hq_copy_definition.specs.Metadata.{places}

-- ---- permitted columns

-- the GraphQL name of a column is one that a schema may give
abbrev pub IsFree : TrackedTree → ℕ → Type 0
IsFree k c = is_free_name (slice_index_or k.column_names c []) ≡ true

named_free : (g : ℕ → List ℕ) (k : ℕ) (names : List (List ℕ)) → ((j : ℕ) → slice_index_or names j [] ≡ g (k + j)) → Each (λ c. is_free_name (g c) ≡ true) (named_from k names)
named_free g k [] at = tt
named_free g k (n ∷ ns) at =
    let rest = named_free g (suc k) ns (λ j. let next : k + suc j ≡ suc k + j = omega arith in at (suc j) ∙ ap g next) in
    let here : n ≡ g k = let same : k + 0 ≡ k = omega arith in at 0 ∙ ap g same in
    let go : (b : Bool) → is_free_name n ≡ b → Each (λ c. is_free_name (g c) ≡ true) (cond b (k ∷ named_from (suc k) ns) (named_from (suc k) ns)) =
    elim [ true ↦ λ e. (ap is_free_name (sym here) ∙ e, rest) | false ↦ λ e. rest ] in
    go (is_free_name n) refl

columns_named : (k : TrackedTree) → Each (IsFree k) (named_columns k)
columns_named k = named_free (λ c. slice_index_or k.column_names c []) 0 k.column_names (λ j. let zeroth : j ≡ 0 + j = omega arith in ap (λ i. slice_index_or k.column_names i []) zeroth)

-- a permission has a first column, and each of its columns has a GraphQL name
pub record HasColumns (k : TrackedTree) (p : Permission) : Type 0 where
  pub free : Each (IsFree k) p.columns
  pub first : ℕ
  pub rest : List ℕ
  pub columns : p.columns ≡ first ∷ rest

columns_given : (k : TrackedTree) (q : Permission) (cs : List ℕ) (p : Permission) → Each (IsFree k) cs → with_columns q cs ≡ Some p → HasColumns k p
columns_given k q [] p h e = cc
columns_given k q (c ∷ cs) p h e =
    let same : p.columns ≡ c ∷ cs = cc in
    record { free = subst (Each (IsFree k)) (sym same) h; first = c; rest = cs; columns = same }

own_columns : (k : TrackedTree) (name : List ℕ) (p : Permission) → own_permission k name ≡ Some p → HasColumns k p
own_columns k name p e =
    let go : (o : Option PermTree) → option_and_then (told_permission k) o ≡ Some p → HasColumns k p =
    elim [
      | None ↦ λ g. cc
      | Some q ↦ λ g. columns_given k (record { columns = []; filter = q.filter; limit = q.limit; aggregations = q.aggregations; masks = [] })
          (filter (λ c. list_any (λ d. d == c) q.cols) (named_columns k)) p (each_filter (IsFree k) (λ c. list_any (λ d. d == c) q.cols) (named_columns k) (columns_named k)) g
    ] in
    go (find (λ q. bytes_eq q.role name) k.perms) e

combined_columns : (k : TrackedTree) (ps : List Permission) (p : Permission) → combined k ps ≡ Some p → HasColumns k p
combined_columns k ps p e =
    columns_given k (record { columns = []; filter = either (filters_of ps); limit = limit_of ps; aggregations = some_aggregate ps; masks = masks_for ps (columns_of_any k ps) })
    (columns_of_any k ps) p
    (each_filter (IsFree k) (λ c. list_any (permits c) ps) (named_columns k) (columns_named k)) e

pub has_columns : (role : Role) (is : List Inherited) (k : TrackedTree) (p : Permission) → permission_in role is k ≡ Some p → HasColumns k p
has_columns Admin is k p e = columns_given k (record { columns = []; filter = always; limit = None; aggregations = true; masks = [] }) (named_columns k) p (columns_named k) e
has_columns (Named name) is k p e =
    let go : (o : Option Permission) → own_permission k name ≡ o → or_inherited o k (set_of is name) ≡ Some p → HasColumns k p =
    elim [
      | None ↦ λ f g. combined_columns k (permissions_of k (set_of is name)) p g
      | Some q ↦ λ f g. own_columns k name p (f ∙ g)
    ] in
    go (own_permission k name) refl e

-- ---- added columns

digit_continues : (d : ℕ) → d < 10 → continues_name (digit_glyph false d) ≡ true
digit_continues d small =
    let go : (b : Bool) → nat_lt d 10 ≡ b → continues_name (cond b (48 + d) (87 + d)) ≡ true =
    elim [
      | true ↦ λ e. digit_is (48 + d) (omega arith) (omega arith)
      | false ↦ λ e. absurd (false≢true (sym e ∙ lt-ltb d 10 small))
    ] in
    go (nat_lt d 10) refl
  where
    digit_is : (c : ℕ) → 48 ≤ c → c ≤ 57 → continues_name c ≡ true
    digit_is c low high = or_left (is_ascii_alphanumeric c) (c == 95) (or_left _ _ (or_left _ _ (and_from _ _ (le-leb 48 c low) (le-leb c 57 high))))

digits_continue : (k n : ℕ) (acc : List ℕ) → list_all continues_name acc ≡ true → list_all continues_name (digits_onto k 10 false n acc) ≡ true
digits_continue zero n acc h = h
digits_continue (suc k) n acc h =
    let more : list_all continues_name (digit_glyph false (n % 10) ∷ acc) ≡ true = and_from _ _ (digit_continues (n % 10) (omega arith)) h in
    let go : (b : Bool) → list_all continues_name (cond b (digit_glyph false (n % 10) ∷ acc) (digits_onto k 10 false (n / 10) (digit_glyph false (n % 10) ∷ acc))) ≡ true =
    elim [ true ↦ more | false ↦ digits_continue k (n / 10) (digit_glyph false (n % 10) ∷ acc) more ] in
    go ((n / 10) == 0)

decimal_continues : (n : ℕ) → list_all continues_name (decimal n) ≡ true
unfolding digits
decimal_continues n = digits_continue 64 n [] refl

numbered_continues : (n : ℕ) (rest : List ℕ) → list_all continues_name rest ≡ true → list_all continues_name (decimal n ++ rest) ≡ true
numbered_continues n rest h = list_all-append continues_name (decimal n) rest ∙ ap₂ (λ b c. b && c) (decimal_continues n) h

pub extra_free : (e : Extra) → is_free_name (extra_name e) ≡ true
extra_free (from_end k l) = ap (λ b. b && true) (numbered_continues k (codes "_from") refl)
extra_free (to_end k l) = ap (λ b. b && true) (numbered_continues k (codes "_to") refl)
extra_free row_position = refl

-- ---- all names

-- where all names are free, all columns are named
pub all_named : (k : ℕ) (names : List (List ℕ)) → Each (λ n. is_free_name n ≡ true) names → named_from k names ≡ places k names
all_named k [] h = refl
all_named k (n ∷ ns) h = ap (λ b. cond b (k ∷ named_from (suc k) ns) (named_from (suc k) ns)) h.0 ∙ ap (λ l. k ∷ l) (all_named (suc k) ns h.1)
