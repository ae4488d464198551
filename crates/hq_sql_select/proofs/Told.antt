-- How what is known of a condition is used.
use Rattle.std.proofs.Common.{◌≡◌, ℕ, ◌<◌, List, [], ◌∷◌, filter, length, Bool, true, false, cond, ◌&&◌, refl, sym, ap, subst, ◌∙◌, arith}
use Rattle.hq_sql_tree.specs.Meaning.{NamedRow, Scope, World, with_alias, joined, kept}
use Rattle.hq_sql_tree.specs.Tree.{JoinTrees, no_join, FilterTree, FromTree}
use Rattle.hq_sql_access.specs.KnownRows.{Tells, IsKnown}
use Rattle.hq_sql_access.specs.Sources.{alias_in, rows_given, has_items}
use Rattle.hq_sql_access.specs.View.{source_view, row_in}
use Rattle.hq_sql_access.specs.declared.pinned.KnownRows.{KnownRows}
use Rattle.hq_sql_access.specs.declared.scope.Source.{Source}
use Rattle.hq_sql_access.proofs.RowsIn.{row_in_is}

-- without joins WHERE decides alone
pub alone_has : (js : JoinTrees) (f : FilterTree) (w : World) (n : Scope) → js ≡ no_join → has_items (filter (kept f w) (joined js w n)) ≡ kept f w n
alone_has js f w n e =
    let go : (b : Bool) → has_items (cond b (n ∷ []) []) ≡ b = elim [ true ↦ refl | false ↦ refl ] in
    ap (λ k. has_items (filter (kept f w) (joined k w n))) e ∙ go (kept f w n)

-- nothing is in a list that has no item
pub none_in : {A : Type 0} (xs : List A) → has_items xs ≡ false → xs ≡ []
none_in [] e = refl
none_in (x ∷ xs) e = cc

-- what is known of the rows of a source, at one of its positions
pub tells_at : (w : World) (from : Source) (alias : List ℕ) (js : JoinTrees) (f : FilterTree) (k : KnownRows) (n : Scope) (i : ℕ) (row : NamedRow)
    → IsKnown w (source_view from) alias js f k → row ≡ row_in from i → i < length k.truths.items → Tells f w k i (with_alias n alias row)
tells_at w from alias js f k n i row h e lt =
    let whole = h.knows.whole in
    let within : i < length (source_view from) = omega (arith, whole, lt) in
    subst (λ r. Tells f w k i (with_alias n alias r)) (row_in_is from i within ∙ sym e) (h.knows.tells n i lt)

-- at a row where it is known that a conjunct is not true, WHERE keeps nothing
pub known_out : (js : JoinTrees) (f : FilterTree) (w : World) (n : Scope) (b rest : Bool) → js ≡ no_join → kept f w n ≡ (b && rest) → b ≡ false → false ≡ has_items (filter (kept f w) (joined js w n))
known_out js f w n b rest e h k = sym (alone_has js f w n e ∙ h ∙ ap (λ t. t && rest) k)

-- at the others it keeps the row where the other conjuncts are true
pub known_in : (js : JoinTrees) (f : FilterTree) (w : World) (n : Scope) (b rest : Bool) → js ≡ no_join → kept f w n ≡ (b && rest) → b ≡ true → rest ≡ has_items (filter (kept f w) (joined js w n))
known_in js f w n b rest e h k = sym (alone_has js f w n e ∙ h ∙ ap (λ t. t && rest) k)

-- what is known of a FROM, over the rows that it gives
pub known_at : (w : World) (from : FromTree) (given rows : List NamedRow) (alias : List ℕ) (js : JoinTrees) (f : FilterTree) (k : KnownRows) → rows ≡ rows_given from w given → alias ≡ alias_in from
    → ((made : List NamedRow) → IsKnown w (rows_given from w made) (alias_in from) js f k) → IsKnown w rows alias js f k
known_at w from given rows alias js f k e a h = subst (λ r. IsKnown w r alias js f k) (sym e) (subst (λ b. IsKnown w (rows_given from w given) b js f k) (sym a) (h given))
