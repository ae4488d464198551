-- The whole text.
use Rattle.std.proofs.Common.{◌≡◌, ℕ, eqb, Bool, true, false, cond, List, [], ◌++◌, length, Option, Some, None, Result, Ok, Err, inl, inr, refl, sym, ap, subst, ◌∙◌}
use Rattle.std.specs.Prelude.{IfOk}
use Rattle.std.proofs.lemmas.List.{append-nil, nil_from_length}
use Rattle.std.proofs.lemmas.Bool.{eqb-true}
use Rattle.hq_sql_tree.specs.declared.select.Select.{Select}
use Rattle.hq_sql_tree.specs.View.{select_view}
use Rattle.hq_sql_tree.specs.Tree.{SelectTree}
use Rattle.hq_sql_tree.specs.Spelling.{select_text}
use Rattle.hq_sql_expr.specs.declared.refusal.ReadRefusal.{ReadRefusal}
use Rattle.hq_sql_expr.specs.declared.refusal.ReadRefusal.TheVariants.{NotSql, Memory}
use Rattle.hq_sql_expr.specs.Reading.{◌>>=◌, Reads}
use Rattle.hq_sql_expr.proofs.Sound.{Taken}
use Rattle.hq_sql_text.specs.Reading.{select_at, whole}
use Rattle.hq_base.specs.Due.{Gives}
use Rattle.hq_sql_text.specs.Readable.{Spells}
use Rattle.hq_sql_text.proofs.Fits.{FitsSelect}
use Rattle.hq_sql_text.proofs.Takes.{OneSelect, select_takes}
use Rattle.hq_sql_text.proofs.ClausesAgain.{nothing_ends}
use Rattle.hq_sql_text.proofs.Again.{select_again}
use Rattle.hq_sql_text.proofs.Form.{readable_fits, fits_readable}

ended : (b : Bool) (x y : SelectTree) → cond b (Some x) None ≡ Some y → (b ≡ true) × (x ≡ y)
ended true x y e = (refl, cc)
ended false x y e = absurd cc

whole_by : (d : ℕ) (bytes : List ℕ) (s : SelectTree) (r : Option (SelectTree × List ℕ)) → Taken (OneSelect d) bytes r
    → (r >>= λ x. cond (eqb (length x.1) 0) (Some x.0) None) ≡ Some s → (bytes ≡ select_text s) × FitsSelect s d
whole_by d bytes s None taken e = absurd cc
whole_by d bytes s (Some (t, rest)) (front, is, r) e =
    let k = ended (eqb (length rest) 0) t s e in
    let nil = nil_from_length rest (eqb-true (length rest) 0 k.0) in
    let all : bytes ≡ select_text t = is ∙ ap (λ c. front ++ c) nil ∙ append-nil front ∙ r.0 in
    subst (λ u. (bytes ≡ select_text u) × FitsSelect u d) k.1 (all, r.1)

whole_takes : (d : ℕ) (bytes : List ℕ) (s : SelectTree) → whole d bytes ≡ Some s → (bytes ≡ select_text s) × FitsSelect s d
unfolding whole
whole_takes d bytes s e = whole_by d bytes s (select_at d bytes) ((select_takes d).takes bytes) e

whole_again : (d : ℕ) (s : SelectTree) → FitsSelect s d → whole d (select_text s) ≡ Some s
unfolding whole
whole_again d s fits =
    let read : select_at d (select_text s) ≡ Some (s, []) = ap (select_at d) (sym (append-nil (select_text s))) ∙ select_again d s [] fits nothing_ends in
    rw read refl

some_is : (a b : SelectTree) → ◌≡◌ {A = Option SelectTree} (Some a) (Some b) → a ≡ b
some_is a b e = cc

-- no two trees have one text
pub one_tree : (text : List ℕ) (a b : SelectTree) → Spells text a → Spells text b → a ≡ b
one_tree text a b is_a is_b = some_is a b (sym (whole_again 2000 a (readable_fits a is_a.0)) ∙ ap (whole 2000) (sym is_a.1 ∙ is_b.1) ∙ whole_again 2000 b (readable_fits b is_b.0))

pub is_found : (text : List ℕ) (r : Result Select ReadRefusal) → Reads select_view r (whole 2000 text) → IfOk r (λ s. Spells text (select_view s))
is_found text (Ok s) gives = let k = whole_takes 2000 text (select_view s) gives in (fits_readable (select_view s) k.1, k.0)
is_found text (Err e) gives = tt

given : (s : SelectTree) (r : Result Select ReadRefusal) → Reads select_view r (Some s) → Gives select_view Memory (Ok s) r
given s (Ok t) gives = let e : s ≡ select_view t = some_is s (select_view t) gives in ap (λ u. Ok u) e
given s (Err Memory) gives = inl refl
given s (Err NotSql) gives = absurd cc

pub is_only : (text : List ℕ) (r : Result Select ReadRefusal) → Reads select_view r (whole 2000 text) → (s : SelectTree) → Spells text s → Gives select_view Memory (Ok s) r
is_only text r gives s is = given s r (subst (Reads select_view r) (ap (whole 2000) is.1 ∙ whole_again 2000 s (readable_fits s is.0)) gives)

refused_no : (s : SelectTree) → Gives select_view Memory (Ok s) (Err NotSql) → ⊥
refused_no s (inl e) = absurd cc
refused_no s (inr e) = absurd cc

pub is_none : (text : List ℕ) (r : Result Select ReadRefusal) → Reads select_view r (whole 2000 text) → r ≡ Err NotSql → (s : SelectTree) → Spells text s → ⊥
is_none text r gives refused s is = refused_no s (subst (Gives select_view Memory (Ok s)) refused (is_only text r gives s is))
