-- Tests that tell of a row of FROM whether WHERE keeps it.
use Rattle.std.proofs.Common.{◌≡◌, ◌∙◌, ◌<◌, ◌≤◌, ◌+◌, ℕ, zero, suc, List, [], ◌∷◌, ◌++◌, filter, length, get_or, take, drop, Bool, true, false, ◌&&◌, cond, refl, sym, ap, ap₂, subst, add-one, arith}
use Rattle.std.specs.Borrow.{Bor}
use Rattle.std.specs.Global.{Vec}
use Rattle.std.proofs.Math.Seq.{take-suc}
use Rattle.std.proofs.lemmas.Bool.{and_parts, false≢true}
use Rattle.std.proofs.lemmas.List.{at_drop_more, map-append, take_all}
use Rattle.hq_base.proofs.Lists.{each_weaken, filter_all}
use Rattle.hq_model.specs.Database.{Row}
use Rattle.hq_model.specs.declared.table.Column.{Column}
use Rattle.hq_sql_access.specs.Equations.{is_joined}
use Rattle.hq_sql_access.specs.Lent.{rows_lent}
use Rattle.hq_sql_access.specs.View.{row_in}
use Rattle.hq_sql_access.specs.declared.scope.Source.TheVariants as source
use Rattle.hq_sql_access.specs.declared.stored.Stored.{Stored}
use Rattle.hq_sql_access.proofs.NamedCells.{stored_row}
use Rattle.hq_sql_conjuncts.specs.Conjuncts.{all_kept, lent_views}
use Rattle.hq_sql_conjuncts.specs.Split.{IsSplit, kept_one}
use Rattle.hq_sql_conjuncts.proofs.Conjuncts.{all_append}
use Rattle.hq_sql_scans.proofs.Looked.{Keeps, joined_keeps, none_kept, same_bytes}
use Rattle.hq_sql_tree.specs.Meaning.{NamedRow, Scope as Names, World, joined, kept, named_row, with_alias}
use Rattle.hq_sql_tree.specs.Tree.{FilterTree, JoinTrees}
use Rattle.hq_sql_tree.specs.View.{pred_view}
use Rattle.hq_sql_tree.specs.declared.select.Pred.{Pred}
use Rattle.hq_sql_constants.specs.RowTests.{AreTests, one_holds}
use Rattle.hq_sql_constants.specs.Sieves.{IsSieve, all_hold}
use Rattle.hq_sql_constants.specs.declared.row_test.RowTest.{RowTest}
use Rattle.hq_sql_constants.specs.declared.sieve.Sieve.{Sieve}

-- ---- at a row

-- the tests that are left, from one on
pub hold_more : (tests : List (Vec RowTest)) (i : ℕ) (t : Vec RowTest) (row : Row) → i < length tests → t ≡ get_or tests i t
    → all_hold (drop i tests) row ≡ (one_holds t.items row && all_hold (drop (i + 1) tests) row)
hold_more tests i t row lt is =
    at_drop_more (λ l. all_hold l row) tests i t lt ∙ ap (λ u. one_holds u.items row && all_hold (drop (i + 1) tests) row) (sym is)

pub drop_past : {A : Type 0} (xs : List A) (i : ℕ) → length xs ≤ i → drop i xs ≡ []
drop_past [] zero le = refl
drop_past [] (suc i) le = refl
drop_past (x ∷ xs) zero le = absurd (omega arith)
drop_past (x ∷ xs) (suc i) le = drop_past xs i (omega arith)

pub hold_end : (tests : List (Vec RowTest)) (i : ℕ) (row : Row) → length tests ≤ i → all_hold (drop i tests) row ≡ true
hold_end tests i row le = ap (λ l. all_hold l row) (drop_past tests i le)

-- ---- the tests of conditions

one_more : (ps : List (Bor Pred)) (i : ℕ) (p : Bor Pred) (w : World) (m : Names) → i < length ps → p ≡ get_or ps i p
    → all_kept (lent_views (take (i + 1) ps)) w m ≡ (all_kept (lent_views (take i ps)) w m && kept_one (pred_view p.now) w m)
one_more ps i p w m lt is =
    let f : Bor Pred → _ = λ q. pred_view q.now in
    let longer : take (i + 1) ps ≡ take i ps ++ p ∷ [] = ap (λ n. take n ps) (add-one i) ∙ take-suc ps i p lt ∙ ap (λ d. take i ps ++ d ∷ []) (sym is) in
    ap (λ l. all_kept (lent_views l) w m) longer ∙ ap (λ l. all_kept l w m) (map-append f (take i ps) (p ∷ []))
    ∙ all_append (lent_views (take i ps)) (pred_view p.now ∷ []) w m ∙ ap (λ b. all_kept (lent_views (take i ps)) w m && b) (and_true (kept_one (pred_view p.now) w m))
  where
    and_true : (b : Bool) → (b && true) ≡ b
    and_true true = refl
    and_true false = refl

and_assoc : (a b c : Bool) → (a && (b && c)) ≡ ((a && b) && c)
and_assoc true b c = refl
and_assoc false b c = refl

and_last : (b : Bool) → (b && true) ≡ b
and_last true = refl
and_last false = refl

hold_last : (tests : List (Vec RowTest)) (ts : Vec RowTest) (row : Row) → all_hold (tests ++ ts ∷ []) row ≡ (all_hold tests row && one_holds ts.items row)
hold_last [] ts row = and_last (one_holds ts.items row)
hold_last (t ∷ tests) ts row = ap (λ b. one_holds t.items row && b) (hold_last tests ts row) ∙ and_assoc (one_holds t.items row) (all_hold tests row) (one_holds ts.items row)

-- of no condition there is no test
pub sieve_none : (w : World) (columns : List Column) (alias : List ℕ) (s : Sieve) (keeps : World → Names → Bool) → s.tests.items ≡ []
    → ((w : World) (m : Names) → keeps w m ≡ true) → IsSieve w columns alias keeps s
sieve_none w columns alias s keeps none all =
    record {
      drops = λ row m here k. ap (λ l. all_hold l row) none;
      decides = λ sure row m here k. all w m;
    }

-- the tests of one condition more
pub sieve_test : (w : World) (columns : List Column) (alias : List ℕ) (ps : List (Bor Pred)) (i : ℕ) (p : Bor Pred) (s more : Sieve) (ts : Vec RowTest)
    → i < length ps → p ≡ get_or ps i p → IsSieve w columns alias (all_kept (lent_views (take i ps))) s
    → AreTests w columns alias (pred_view p.now) ts.items → more.tests.items ≡ s.tests.items ++ ts ∷ [] → more.whole ≡ s.whole
    → IsSieve w columns alias (all_kept (lent_views (take (i + 1) ps))) more
sieve_test w columns alias ps i p s more ts lt is h are grown same =
    let holds : (row : Row) → all_hold more.tests.items row ≡ (all_hold s.tests.items row && one_holds ts.items row) =
    λ row. ap (λ l. all_hold l row) grown ∙ hold_last s.tests.items ts row in
    record {
      drops = λ row m here k.
          let parts = and_parts (all_kept (lent_views (take i ps)) w m) (kept_one (pred_view p.now) w m) (sym (one_more ps i p w m lt is) ∙ k) in
          holds row ∙ ap₂ (λ a b. a && b) (h.drops row m here parts.0) (sym (are.keeps row m here) ∙ parts.1);
      decides = λ sure row m here k.
          let parts = and_parts (all_hold s.tests.items row) (one_holds ts.items row) (sym (holds row) ∙ k) in
          one_more ps i p w m lt is ∙ ap₂ (λ a b. a && b) (h.decides (sym same ∙ sure) row m here parts.0) (are.keeps row m here ∙ parts.1);
    }

-- one condition more that is no test
pub sieve_other : (w : World) (columns : List Column) (alias : List ℕ) (ps : List (Bor Pred)) (i : ℕ) (p : Bor Pred) (s more : Sieve)
    → i < length ps → p ≡ get_or ps i p → IsSieve w columns alias (all_kept (lent_views (take i ps))) s
    → more.tests.items ≡ s.tests.items → more.whole ≡ false
    → IsSieve w columns alias (all_kept (lent_views (take (i + 1) ps))) more
sieve_other w columns alias ps i p s more lt is h same open_one =
    record {
      drops = λ row m here k.
          let parts = and_parts (all_kept (lent_views (take i ps)) w m) (kept_one (pred_view p.now) w m) (sym (one_more ps i p w m lt is) ∙ k) in
          ap (λ l. all_hold l row) same ∙ h.drops row m here parts.0;
      decides = λ sure. absurd (false≢true (sym open_one ∙ sure));
    }

-- the tests of all
pub sieve_end : (w : World) (columns : List Column) (alias : List ℕ) (ps : List (Bor Pred)) (i : ℕ) (s : Sieve) → length ps ≤ i
    → IsSieve w columns alias (all_kept (lent_views (take i ps))) s → IsSieve w columns alias (all_kept (lent_views ps)) s
sieve_end w columns alias ps i s le h = subst (λ l. IsSieve w columns alias (all_kept (lent_views l)) s) (take_all i ps le) h

-- the tests of the conjuncts that mention the alias alone are those of the condition
pub sieve_split : (w : World) (columns : List Column) (alias : List ℕ) (names : List (List ℕ)) (keeps : World → Names → Bool) (weight : ℕ)
    (closed rest : List (Bor Pred)) (s more : Sieve)
    → IsSplit names keeps weight [] [] closed rest → IsSieve w columns alias (all_kept (lent_views closed)) s
    → more.tests.items ≡ s.tests.items → (more.whole ≡ true → (s.whole ≡ true) × (rest ≡ []))
    → IsSieve w columns alias keeps more
sieve_split w columns alias names keeps weight closed rest s more parts h same alone =
    record {
      drops = λ row m here k.
          let both = and_parts (all_kept (lent_views closed) w m) (all_kept (lent_views rest) w m) (parts.same w m ∙ k) in
          ap (λ l. all_hold l row) same ∙ h.drops row m here both.0;
      decides = λ sure row m here k.
          let sides = alone sure in
          sym (parts.same w m)
          ∙ ap₂ (λ a b. a && b) (h.decides sides.0 row m here (ap (λ l. all_hold l row) (sym same) ∙ k)) (ap (λ l. all_kept (lent_views l) w m) sides.1);
    }

-- ---- what they tell

bound_here : (alias : List ℕ) (n : Names) (row : NamedRow) → with_alias n alias row alias ≡ row
bound_here alias n row = ap (λ b. cond b row (n alias)) (same_bytes alias)

-- where one is not true of the row WHERE keeps nothing of it
pub told_dropped : (w : World) (columns : List Column) (alias : List ℕ) (js : JoinTrees) (f : FilterTree) (s : Sieve) (row : Row) (named : NamedRow)
    → IsSieve w columns alias (kept f) s → is_joined js alias ≡ false → named ≡ named_row columns row → all_hold s.tests.items row ≡ false
    → (n : Names) → filter (kept f w) (joined js w (with_alias n alias named)) ≡ []
told_dropped w columns alias js f s row named h alone is out n =
    none_kept (kept f w) (joined js w (with_alias n alias named))
    (each_weaken (Keeps js (with_alias n alias named)) (λ m. kept f w m ≡ true → ⊥)
    (λ m around k. false≢true (sym out ∙ h.drops row m (around alias alone ∙ bound_here alias n named ∙ is) k))
    (joined js w (with_alias n alias named)) (joined_keeps js w (with_alias n alias named)))

-- where all are true, and no other thing is asked for, WHERE keeps each of them
pub told_kept : (w : World) (columns : List Column) (alias : List ℕ) (js : JoinTrees) (f : FilterTree) (s : Sieve) (row : Row) (named : NamedRow)
    → IsSieve w columns alias (kept f) s → is_joined js alias ≡ false → named ≡ named_row columns row → s.whole ≡ true → all_hold s.tests.items row ≡ true
    → (n : Names) → filter (kept f w) (joined js w (with_alias n alias named)) ≡ joined js w (with_alias n alias named)
told_kept w columns alias js f s row named h alone is sure holds n =
    filter_all (kept f w) (joined js w (with_alias n alias named))
    (each_weaken (Keeps js (with_alias n alias named)) (λ m. kept f w m ≡ true)
    (λ m around. h.decides sure row m (around alias alone ∙ bound_here alias n named ∙ is) holds)
    (joined js w (with_alias n alias named)) (joined_keeps js w (with_alias n alias named)))

-- the row at a place of a table
pub row_there : (stored : Bor Stored) (rows : List Row) (i : ℕ) → rows_lent stored.now.rows ≡ rows
    → row_in (source.Stored stored) i ≡ named_row stored.now.table.now.columns (get_or rows i [])
row_there stored rows i same =
    sym (stored_row stored.now.table.now.columns (rows_lent stored.now.rows) i) ∙ ap (λ rs. named_row stored.now.table.now.columns (get_or rs i [])) same
