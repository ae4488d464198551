-- The expression of a filter is one over its table, and nests at most twice as deep as its JSON.
use Rattle.std.proofs.Common.{◌≡◌, ◌∙◌, refl, sym, ap, ℕ, suc, ◌+◌, ◌*◌, ◌≤◌, Bool, true, false, cond, List, [], ◌∷◌, Option, Some, None, Result, Ok, Err, arith}
use Rattle.std.specs.Prelude.{⊤, IfOk, length, is_some, not, ok_or, slice_get, option_map, ◌&&◌, bytes_eq, codes}
use Rattle.std.specs.List.{list_all}
use Rattle.std.proofs.lemmas.Option.{get_or_from_slice_get}
use Rattle.hq_base.specs.Due.{and_then, mapped}
use Rattle.hq_base.specs.Json.{JsonTree, null, bool, int, str, arr, obj, ElementTrees, no_element, element, MemberTrees, no_member, member}
use Rattle.hq_base.specs.Look.{str_in, array_in, member_list}
use Rattle.hq_base.specs.Path.{member_path, item_path}
use Rattle.hq_base.specs.declared.value.Ty.{Ty}
use Rattle.hq_model.specs.Bexp.{BexpTree, and_of, or_of, not_of, test, through, exists_in, two_columns, operands_of, bexps_of, conjunction, depth, depth_of_all}
use Rattle.hq_model.specs.Catalog.{can_pair, type_of}
use Rattle.hq_model.specs.Filters.{column_ty, is_filter, are_filters, operand_fits, are_taken, is_test, of_type}
use Rattle.hq_model.specs.Fits.{asks_tracked, all_ask_tracked}
use Rattle.hq_model.specs.Meta.{MetaTree}
use Rattle.hq_model.specs.Operators.{operator, column_operator_named}
use Rattle.hq_model.specs.Schema.{schema_of, table, column, rel, no_column}
use Rattle.hq_model.specs.Tests.{arity, has_arity, takes_many, applies}
use Rattle.hq_model.specs.declared.bexp.Operands.{Operands}
use Rattle.hq_model.specs.declared.bexp.Operands.TheVariants as operands
use Rattle.hq_model.specs.declared.op.Op.{Op}
use Rattle.hq_model.specs.declared.op.Op.TheVariants.{Eq}
use Rattle.hq_model.specs.declared.operator.Operator.{Operator}
use Rattle.hq_model.specs.declared.test.Arity.{Arity}
use Rattle.hq_model.specs.declared.test.Arity.TheVariants.{Nothing, One, Many}
use Rattle.hq_model.specs.declared.test.Test.{Test}
use Rattle.hq_model.specs.declared.test.Test.TheVariants.{Compare}
use Rattle.hq_model.specs.declared.table.Column.{Column as ColumnOf}
use Rattle.hq_model.specs.declared.table.Table.{Table}
use Rattle.hq_load_filter.specs.declared.named.Named.{Named}
use Rattle.hq_load_filter.specs.declared.named.Named.TheVariants.{And, Or, Not, Exists, Column, Relationship}
use Rattle.hq_load_filter.specs.declared.refusal.FilterRefusal.{FilterRefusal}
use Rattle.hq_load_filter.specs.declared.refusal.FilterRefusal.TheVariants.{Shape, UnknownColumn, BadOperand}
use Rattle.hq_load_filter.specs.Asked.{asked_due}
use Rattle.hq_load_filter.specs.Condition.{compared_due, told_due, single_due, operands_by, listed_due, tested_due, condition_due, named_due, written_on, column_due}
use Rattle.hq_load_filter.specs.Each.{each_member}
use Rattle.hq_load_filter.specs.Filter.{member_due, filter_due, filters_due, elements_due, members_due, exists_due, where_due, written}
use Rattle.hq_load_filter.specs.Named.{named, column_named}
use Rattle.hq_load_filter.specs.Nesting.{nesting, nesting_of_elements, nesting_of_members}
use Rattle.hq_load_filter.specs.Operand.{operand_at, operand_read, truth_in}
use Rattle.hq_load_filter.specs.Operator.{operator_named}
use Rattle.hq_load_filter.proofs.NamedParts.{IsThere, named_there}
use Rattle.hq_load_filter.proofs.Known.{Known, asked_known}
use Rattle.hq_load_filter.proofs.Operands.{operand_at_fits, operands_by_fit}
use Rattle.hq_load_filter.proofs.Results.{ok_always, ok_weaker, ok_mapped, ok_and_then}

-- a filter over table t that asks for tracked tables alone, nested at most n deep
pub record Good (n : ℕ) (tables : List Table) (d : MetaTree) (t : ℕ) (b : BexpTree) : Type 0 where
  pub is : is_filter b (schema_of tables d) t ≡ true
  pub tracked : asks_tracked d b ≡ true
  pub shallow : depth b ≤ n

-- filters over table t that ask for tracked tables alone, each nested at most n deep
pub record AllGood (n : ℕ) (tables : List Table) (d : MetaTree) (t : ℕ) (bs : List BexpTree) : Type 0 where
  pub are : are_filters (bexps_of bs) (schema_of tables d) t ≡ true
  pub tracked : all_ask_tracked d (bexps_of bs) ≡ true
  pub shallow : depth_of_all (bexps_of bs) ≤ n

both : (a b : Bool) → a ≡ true → b ≡ true → a && b ≡ true
both a b h k = rw (h, k) refl

good_more : (m n : ℕ) (tables : List Table) (d : MetaTree) (t : ℕ) (b : BexpTree) → m ≤ n → Good m tables d t b → Good n tables d t b
good_more m n tables d t b more h = record { is = h.is; tracked = h.tracked; shallow = omega (arith, h.shallow) }

good_first : (m k n : ℕ) (tables : List Table) (d : MetaTree) (t : ℕ) (b : BexpTree) (bs : List BexpTree) → m ≤ n → k ≤ n
    → Good m tables d t b → AllGood k tables d t bs → AllGood n tables d t (b ∷ bs)
good_first m k n tables d t b bs p q h hs = record { are = both _ _ h.is hs.are; tracked = both _ _ h.tracked hs.tracked; shallow = omega (arith, h.shallow, hs.shallow) }

none_good : (n : ℕ) (tables : List Table) (d : MetaTree) (t : ℕ) → AllGood n tables d t []
none_good n tables d t = record { are = refl; tracked = refl; shallow = omega arith }

-- all of a list
conjunction_good : (n : ℕ) (tables : List Table) (d : MetaTree) (t : ℕ) (bs : List BexpTree) → AllGood n tables d t bs → Good (suc n) tables d t (conjunction bs)
unfolding conjunction
conjunction_good n tables d t [] h = record { is = refl; tracked = refl; shallow = omega arith }
conjunction_good n tables d t (b ∷ []) h = record { is = only (is_filter b (schema_of tables d) t) h.are; tracked = only (asks_tracked d b) h.tracked; shallow = omega (arith, h.shallow) }
  where
    only : (x : Bool) → x && true ≡ true → x ≡ true
    only true e = refl
    only false e = e
conjunction_good n tables d t (b ∷ e ∷ bs) h = record { is = h.are; tracked = h.tracked; shallow = omega (arith, h.shallow) }

-- a test of a column that is there
tested : (holds : Ty → Bool) (tables : List Table) (d : MetaTree) (t c : ℕ) (ty : Ty) → column_ty (schema_of tables d) t c ≡ Some ty
    → holds ty ≡ true → of_type holds (column_ty (schema_of tables d) t c) ≡ true
tested holds tables d t c ty here h = ap (of_type holds) here ∙ h

-- a test of many operands takes as many as there are
many_taken : (t : Test) → arity t ≡ Many → (vs : Operands) → are_taken t vs ≡ true
many_taken t is (operands.List vs) = ap (λ n. has_arity n (length vs)) is
many_taken t is (operands.Session name) = ap takes_many is

-- the condition of an operator that is one of the column's type
module _ (tables : List Table) (d : MetaTree) (t c : ℕ) (ty : Ty) (here : column_ty (schema_of tables d) t c ≡ Some ty) (o : Operator) (is_of : applies o.test ty ≡ true) where
  test_good : (vs : Operands) (negated : Bool) → are_taken o.test vs ≡ true → list_all (operand_fits o.test ty) (operands_of vs) ≡ true → Good 1 tables d t (test c o.test vs negated)
  test_good vs negated counted fit = record { is = tested (is_test o.test vs) tables d t c ty here (both _ _ (both _ _ counted is_of) fit); tracked = refl; shallow = omega arith }

  pub tested_good : (path : List ℕ) (j : JsonTree) (n : Arity) → arity o.test ≡ n → IfOk (tested_due c ty o path j n) (Good 1 tables d t)
  unfolding told_due single_due listed_due
  tested_good path j Nothing is =
      ok_mapped (λ holds. test c o.test (operands.List []) (cond holds o.negated (not o.negated))) (Good 1 tables d t) (λ _. ⊤)
      (λ holds _. test_good (operands.List []) (cond holds o.negated (not o.negated)) (ap (λ n. has_arity n 0) is) refl)
      (operand_read path (truth_in j)) (ok_always (operand_read path (truth_in j)))
  tested_good path j One is =
      ok_mapped (λ v. test c o.test (operands.List (v ∷ [])) o.negated) (Good 1 tables d t) (λ v. operand_fits o.test ty v ≡ true)
      (λ v h. test_good (operands.List (v ∷ [])) o.negated (ap (λ n. has_arity n 1) is) (both _ _ h refl))
      (operand_at o.test ty path j) (operand_at_fits o.test ty is_of path j)
  tested_good path j Many is =
      ok_mapped (λ vs. test c o.test vs o.negated) (Good 1 tables d t) (λ vs. list_all (operand_fits o.test ty) (operands_of vs) ≡ true)
      (λ vs h. test_good vs o.negated (many_taken o.test is vs) h)
      (operands_by o.test ty path (str_in j) (array_in j)) (operands_by_fit o.test ty is_of path (str_in j) (array_in j))

-- a condition of a column that is there
condition_good : (tables : List Table) (d : MetaTree) (t c : ℕ) (ty : Ty) → column_ty (schema_of tables d) t c ≡ Some ty
    → (path : List ℕ) (operator : Option Operator) (j : JsonTree) → IfOk (condition_due c ty path operator j) (Good 1 tables d t)
condition_good tables d t c ty here path None j = tt
condition_good tables d t c ty here path (Some o) j = by (applies o.test ty) refl
  where
    by : (b : Bool) → applies o.test ty ≡ b → IfOk (cond b (tested_due c ty o path j (arity o.test)) (Err (BadOperand path))) (Good 1 tables d t)
    by true e = tested_good tables d t c ty here o e path j (arity o.test) refl
    by false e = tt

-- a comparison with another column
type_by : (o : Option ColumnOf) → option_map (λ x. x.ty) o ≡ type_of o
type_by None = refl
type_by (Some x) = refl

compared_good : (tables : List Table) (d : MetaTree) (t c : ℕ) (op : Op) (path : List ℕ) (j : JsonTree) → IfOk (compared_due (table (schema_of tables d) t) c op path j) (Good 1 tables d t)
unfolding compared_due
compared_good tables d t c op path j =
    let x = table (schema_of tables d) t in
    ok_and_then
    (λ name. and_then
    (λ e. cond (can_pair (type_of (slice_get x.columns c)) (type_of (slice_get x.columns e))) (Ok (two_columns c op e))
    (Err (BadOperand path)))
    (ok_or (column_named x name) (UnknownColumn path)))
    (Good 1 tables d t) (λ _. ⊤)
    (λ name _. ok_and_then (λ e. cond (can_pair (type_of (slice_get x.columns c)) (type_of (slice_get x.columns e))) (Ok (two_columns c op e)) (Err (BadOperand path))) (Good 1 tables d t) (λ _. ⊤)
    (λ e _. by e (can_pair (type_of (slice_get x.columns c)) (type_of (slice_get x.columns e))) refl)
    (ok_or (column_named x name) (UnknownColumn path)) (ok_always (ok_or (column_named x name) (UnknownColumn path))))
    (ok_or (str_in j) (Shape path)) (ok_always (ok_or (str_in j) (Shape path)))
  where
    pairs : (e : ℕ)
        → can_pair (column_ty (schema_of tables d) t c) (column_ty (schema_of tables d) t e)
        ≡ can_pair (type_of (slice_get (table (schema_of tables d) t).columns c))
        (type_of (slice_get (table (schema_of tables d) t).columns e))
    pairs e = rw (type_by (slice_get (table (schema_of tables d) t).columns c), type_by (slice_get (table (schema_of tables d) t).columns e)) refl

    by : (e : ℕ) (b : Bool)
        → can_pair (type_of (slice_get (table (schema_of tables d) t).columns c))
        (type_of (slice_get (table (schema_of tables d) t).columns e))
        ≡ b
        → IfOk (cond b (Ok (two_columns c op e)) (Err (BadOperand path))) (Good 1 tables d t)
    by e true is = record { is = pairs e ∙ is; tracked = refl; shallow = omega arith }
    by e false is = tt

-- the condition that a member of an object of operators writes
written_on_good : (tables : List Table) (d : MetaTree) (t c : ℕ) (ty : Ty) → column_ty (schema_of tables d) t c ≡ Some ty
    → (name path : List ℕ) (j : JsonTree) → IfOk (written_on (table (schema_of tables d) t) c ty name path j) (Good 1 tables d t)
written_on_good tables d t c ty here name path j = by (column_operator_named name)
  where
    by : (o : Option Op) → IfOk (named_due (table (schema_of tables d) t) c ty name path j o) (Good 1 tables d t)
    by (Some op) = compared_good tables d t c op path j
    by None = condition_good tables d t c ty here path (operator_named name) j

-- a value that a column is to equal
equals_good : (tables : List Table) (d : MetaTree) (t c : ℕ) (ty : Ty) → column_ty (schema_of tables d) t c ≡ Some ty
    → (path : List ℕ) (j : JsonTree) → IfOk (condition_due c ty path (Some (operator (Compare Eq) false)) j) (Good 1 tables d t)
equals_good tables d t c ty here path j = condition_good tables d t c ty here path (Some (operator (Compare Eq) false)) j

-- the conditions of members that are each read as a good one
each_good : (tables : List Table) (d : MetaTree) (t : ℕ) (read : List ℕ → List ℕ → JsonTree → Result BexpTree FilterRefusal)
    → ((name path : List ℕ) (j : JsonTree) → IfOk (read name path j) (Good 1 tables d t)) → (path : List ℕ) (ms : List (List ℕ × JsonTree))
    → IfOk (each_member read path ms) (AllGood 1 tables d t)
each_good tables d t read good path [] = none_good 1 tables d t
each_good tables d t read good path (m ∷ ms) =
    ok_and_then (λ b. mapped (λ bs. b ∷ bs) (each_member read path ms)) (AllGood 1 tables d t) (Good 1 tables d t)
    (λ b h. ok_mapped (λ bs. b ∷ bs) (AllGood 1 tables d t) (AllGood 1 tables d t)
    (λ bs hs. good_first 1 1 1 tables d t b bs (omega arith) (omega arith) h hs) (each_member read path ms)
    (each_good tables d t read good path ms))
    (read m.0 (member_path path m.0) m.1) (good m.0 (member_path path m.0) m.1)

-- the conditions on a column that is there
column_good : (tables : List Table) (d : MetaTree) (t c : ℕ) (ty : Ty) → column_ty (schema_of tables d) t c ≡ Some ty
    → (path : List ℕ) (j : JsonTree) → IfOk (column_due (table (schema_of tables d) t) c ty path j) (Good (suc (2 * nesting j)) tables d t)
column_good tables d t c ty here path (obj ms) =
    ok_mapped conjunction (Good (suc (2 * nesting (obj ms))) tables d t) (AllGood 1 tables d t)
    (λ bs h. good_more 2 (suc (2 * nesting (obj ms))) tables d t (conjunction bs) (omega arith) (conjunction_good 1 tables d t bs h))
    (each_member (written_on (table (schema_of tables d) t) c ty) path (member_list ms))
    (each_good tables d t (written_on (table (schema_of tables d) t) c ty) (written_on_good tables d t c ty here) path (member_list ms))
column_good tables d t c ty here path null = equals_good tables d t c ty here path null
column_good tables d t c ty here path (bool b) = equals_good tables d t c ty here path (bool b)
column_good tables d t c ty here path (int n) = equals_good tables d t c ty here path (int n)
column_good tables d t c ty here path (str x) = equals_good tables d t c ty here path (str x)
column_good tables d t c ty here path (arr js) =
    ok_weaker (condition_due c ty path (Some (operator (Compare Eq) false)) (arr js)) (Good 1 tables d t)
    (Good (suc (2 * nesting (arr js))) tables d t) (λ b h. good_more 1 (suc (2 * nesting (arr js))) tables d t b (omega arith) h)
    (equals_good tables d t c ty here path (arr js))

-- the type of a column that is there
type_there : (tables : List Table) (d : MetaTree) (t c : ℕ) → is_some (slice_get (table (schema_of tables d) t).columns c) ≡ true
    → column_ty (schema_of tables d) t c ≡ Some (column (schema_of tables d) t c).ty
type_there tables d t c h = by (slice_get (table (schema_of tables d) t).columns c) refl h
  where
    by : (o : Option ColumnOf) → slice_get (table (schema_of tables d) t).columns c ≡ o → is_some o ≡ true → column_ty (schema_of tables d) t c ≡ Some (column (schema_of tables d) t c).ty
    by None e k = cc
    by (Some x) e k = ap (option_map (λ y. y.ty)) e ∙ ap (λ y. Some y.ty) (sym (get_or_from_slice_get (table (schema_of tables d) t).columns c x no_column e))

-- a member whose value is good, as what it names
member_good : (filter : ℕ → Result BexpTree FilterRefusal) (list : Result (List BexpTree) FilterRefusal)
    (exists : Result BexpTree FilterRefusal) (j : JsonTree) (tables : List Table) (d : MetaTree) (t : ℕ) (path : List ℕ)
    → ((u : ℕ) → IfOk (filter u) (Good (2 * nesting j) tables d u)) → IfOk list (AllGood (2 * nesting j) tables d t)
    → IfOk exists (Good (suc (2 * nesting j)) tables d t) → (n : Option Named) → IsThere (table (schema_of tables d) t) n
    → IfOk (member_due filter list exists j tables d t path n) (Good (suc (2 * nesting j)) tables d t)
member_good filter list exists j tables d t path h hs he None there = tt
member_good filter list exists j tables d t path h hs he (Some And) there =
    ok_mapped (λ bs. and_of (bexps_of bs)) (Good (suc (2 * nesting j)) tables d t) (AllGood (2 * nesting j) tables d t)
    (λ bs k. record { is = k.are; tracked = k.tracked; shallow = omega (arith, k.shallow) }) list hs
member_good filter list exists j tables d t path h hs he (Some Or) there =
    ok_mapped (λ bs. or_of (bexps_of bs)) (Good (suc (2 * nesting j)) tables d t) (AllGood (2 * nesting j) tables d t)
    (λ bs k. record { is = k.are; tracked = k.tracked; shallow = omega (arith, k.shallow) }) list hs
member_good filter list exists j tables d t path h hs he (Some Not) there =
    ok_mapped not_of (Good (suc (2 * nesting j)) tables d t) (Good (2 * nesting j) tables d t) (λ b k. record { is = k.is; tracked = k.tracked; shallow = omega (arith, k.shallow) }) (filter t) (h t)
member_good filter list exists j tables d t path h hs he (Some Exists) there = he
member_good filter list exists j tables d t path h hs he (Some (Column c)) there = column_good tables d t c (column (schema_of tables d) t c).ty (type_there tables d t c there) path j
member_good filter list exists j tables d t path h hs he (Some (Relationship r)) there =
    let remote : ℕ = (rel (schema_of tables d) t r).remote in
    ok_mapped (through r) (Good (suc (2 * nesting j)) tables d t) (Good (2 * nesting j) tables d remote)
    (λ b k. record { is = both _ _ there k.is; tracked = k.tracked; shallow = omega (arith, k.shallow) }) (filter remote) (h remote)

if_either : {A E : Type 0} (b : Bool) (x y : Result A E) (P : A → Type 0) → IfOk x P → IfOk y P → IfOk (cond b x y) P
if_either true x y P h k = h
if_either false x y P h k = k

mutual
  -- what a filter gives
  pub filter_good : (j : JsonTree) (tables : List Table) (d : MetaTree) (t : ℕ) (path : List ℕ) → IfOk (filter_due j tables d t path) (Good (2 * nesting j) tables d t)
  filter_good null tables d t path = tt
  filter_good (bool b) tables d t path = tt
  filter_good (int n) tables d t path = tt
  filter_good (str x) tables d t path = tt
  filter_good (arr js) tables d t path = tt
  filter_good (obj ms) tables d t path =
      let n : ℕ = suc (2 * nesting_of_members ms) in
      ok_mapped conjunction (Good (2 * nesting (obj ms)) tables d t) (AllGood n tables d t)
      (λ bs h. good_more (suc n) (2 * nesting (obj ms)) tables d t (conjunction bs) (omega arith) (conjunction_good n tables d t bs h))
      (members_due ms tables d t path) (members_good ms tables d t path)

  filters_good : (j : JsonTree) (tables : List Table) (d : MetaTree) (t : ℕ) (path : List ℕ) → IfOk (filters_due j tables d t path) (AllGood (2 * nesting j) tables d t)
  filters_good null tables d t path = tt
  filters_good (bool b) tables d t path = tt
  filters_good (int n) tables d t path = tt
  filters_good (str x) tables d t path = tt
  filters_good (arr js) tables d t path =
      ok_weaker (elements_due js tables d t path 0) (AllGood (2 * nesting_of_elements js) tables d t) (AllGood (2 * nesting (arr js)) tables d t)
      (λ bs h. record { are = h.are; tracked = h.tracked; shallow = omega (arith, h.shallow) })
      (elements_good js tables d t path 0)
  filters_good (obj ms) tables d t path = tt

  elements_good : (js : ElementTrees) (tables : List Table) (d : MetaTree) (t : ℕ) (path : List ℕ) (place : ℕ)
      → IfOk (elements_due js tables d t path place) (AllGood (2 * nesting_of_elements js) tables d t)
  elements_good no_element tables d t path place = none_good 0 tables d t
  elements_good (element j js) tables d t path place =
      let n : ℕ = 2 * nesting_of_elements (element j js) in
      ok_and_then (λ b. mapped (λ bs. b ∷ bs) (elements_due js tables d t path (place + 1))) (AllGood n tables d t) (Good (2 * nesting j) tables d t)
      (λ b h. ok_mapped (λ bs. b ∷ bs) (AllGood n tables d t) (AllGood (2 * nesting_of_elements js) tables d t)
      (λ bs hs. good_first (2 * nesting j) (2 * nesting_of_elements js) n tables d t b bs (omega arith) (omega arith) h hs)
      (elements_due js tables d t path (place + 1)) (elements_good js tables d t path (place + 1)))
      (filter_due j tables d t (item_path path place)) (filter_good j tables d t (item_path path place))

  members_good : (ms : MemberTrees) (tables : List Table) (d : MetaTree) (t : ℕ) (path : List ℕ) → IfOk (members_due ms tables d t path) (AllGood (suc (2 * nesting_of_members ms)) tables d t)
  members_good no_member tables d t path = none_good 1 tables d t
  members_good (member name j ms) tables d t path =
      let n : ℕ = suc (2 * nesting_of_members (member name j ms)) in
      let here : List ℕ = member_path path name in
      ok_and_then (λ b. mapped (λ bs. b ∷ bs) (members_due ms tables d t path)) (AllGood n tables d t) (Good (suc (2 * nesting j)) tables d t)
      (λ b h. ok_mapped (λ bs. b ∷ bs) (AllGood n tables d t) (AllGood (suc (2 * nesting_of_members ms)) tables d t)
      (λ bs hs. good_first (suc (2 * nesting j)) (suc (2 * nesting_of_members ms)) n tables d t b bs (omega arith) (omega arith) h hs)
      (members_due ms tables d t path) (members_good ms tables d t path))
      (written tables d t here name j)
      (member_good (λ remote. filter_due j tables d remote here) (filters_due j tables d t here) (exists_due j tables d here) j tables d t
      here (λ u. filter_good j tables d u here) (filters_good j tables d t here) (exists_good j tables d t here)
      (named (table (schema_of tables d) t) name) (named_there (table (schema_of tables d) t) name))

  exists_good : (j : JsonTree) (tables : List Table) (d : MetaTree) (t : ℕ) (path : List ℕ) → IfOk (exists_due j tables d path) (Good (suc (2 * nesting j)) tables d t)
  exists_good null tables d t path = tt
  exists_good (bool b) tables d t path = tt
  exists_good (int n) tables d t path = tt
  exists_good (str x) tables d t path = tt
  exists_good (arr js) tables d t path = tt
  exists_good (obj ms) tables d t path =
      let here = member_path path (codes "_where") in
      ok_and_then (λ u. mapped (exists_in u) (where_due ms tables d u here)) (Good (suc (2 * nesting (obj ms))) tables d t) (Known tables d)
      (λ u k. ok_mapped (exists_in u) (Good (suc (2 * nesting (obj ms))) tables d t) (Good (2 * nesting_of_members ms) tables d u)
      (λ b g. record { is = both _ _ k.there g.is; tracked = both _ _ k.tracked g.tracked; shallow = omega (arith, g.shallow) })
      (where_due ms tables d u here) (where_good ms tables d u here))
      (asked_due tables d path (obj ms)) (asked_known tables d path (obj ms))

  where_good : (ms : MemberTrees) (tables : List Table) (d : MetaTree) (t : ℕ) (here : List ℕ) → IfOk (where_due ms tables d t here) (Good (2 * nesting_of_members ms) tables d t)
  where_good no_member tables d t here = tt
  where_good (member name j ms) tables d t here =
      let n : ℕ = 2 * nesting_of_members (member name j ms) in
      if_either (bytes_eq name (codes "_where")) (filter_due j tables d t here) (where_due ms tables d t here) (Good n tables d t)
      (ok_weaker (filter_due j tables d t here) (Good (2 * nesting j) tables d t) (Good n tables d t) (λ b g. good_more (2 * nesting j) n tables d t b (omega arith) g) (filter_good j tables d t here))
      (ok_weaker (where_due ms tables d t here) (Good (2 * nesting_of_members ms) tables d t) (Good n tables d t)
      (λ b g. good_more (2 * nesting_of_members ms) n tables d t b (omega arith) g) (where_good ms tables d t here))
