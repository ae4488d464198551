-- What a copy holds of a row, by its position in the view and by the row itself.
use Rattle.std.proofs.Common.{◌≡◌, ℕ, suc, ◌+◌, List, [], ◌∷◌, ◌++◌, map, Bool, true, false, cond, ◌&&◌, ◌==◌, Some, slice_get, refl, sym, ap, ap₂, ◌∙◌, subst, arith}
use Rattle.std.specs.List.{list_any}
use Rattle.hq_base.specs.Lists.{Each}
use Rattle.hq_base.proofs.Lists.{each_all, each_weaken}
use Rattle.hq_copy_definition.specs.Extras.{Extra, from_end, to_end, row_position, ends_of, extras_of}
use Rattle.hq_copy_definition.specs.Links.{first_from, from_number, to_number}
use Rattle.hq_copy_definition.specs.Metadata.{places}
use Rattle.hq_copy_definition.specs.Rows.{value_of, number_value, extra_value, copied_row}
use Rattle.hq_copy_definition.specs.Sources.{Source, keeps_key, Link, links, link_remote}
use Rattle.hq_copy_definition.proofs.Lists.{each_append, each_member}
use Rattle.hq_copy_definition.proofs.Numbers.{first_from_is}
use Rattle.hq_laws_copy.proofs.Views.Viewed.{seen_cell, seen_link, seen_positions}
use Rattle.hq_model.specs.Database.{Row}
use Rattle.hq_model.specs.Grants.{Grants, grant}
use Rattle.hq_model.specs.Meta.{MetaTree}
use Rattle.hq_model.specs.Permission.{Permission}
use Rattle.hq_model.specs.Permitted.{permitted, shown_under}
use Rattle.hq_model.specs.Schema.{Schema, table, rel, numbered}
use Rattle.hq_model.specs.Seen.{linked_by}
use Rattle.hq_model.specs.View.{view, seen_in}
use Rattle.hq_model.specs.declared.role.Role.{Role}
use Rattle.hq_copy.specs.Direct.{direct_value, direct_row, shown_values}
use Rattle.hq_copy.proofs.Links.{place_over, any_over, made_over, among_at, IsThere, IsEnd, links_there, ends_are}

-- functions that agree on each item
pub map_same : {A B : Type 0} (f g : A → B) (xs : List A) → Each (λ x. f x ≡ g x) xs → map f xs ≡ map g xs
map_same f g [] h = refl
map_same f g (x ∷ xs) h = ap₂ (λ y l. y ∷ l) h.0 (map_same f g xs h.1)

-- ---- what is made of lists that are equal

module _ (s : Schema) (P Q : ℕ → List Row) (same : (t : ℕ) → P t ≡ Q t) where
  value_over : (i : ℕ) (x : Row) (e : Extra) → direct_value s P i x e ≡ direct_value s Q i x e
  value_over i x (from_end k l) = ap (λ ys. number_value (from_number (linked_by (rel s l.table l.relationship).pairs) ys x)) (same (link_remote s l))
  value_over i x (to_end k l) = ap₂ (λ xs ys. number_value (first_from (linked_by (rel s l.table l.relationship).pairs) xs ys x)) (same l.table) (same (link_remote s l))
  value_over i x row_position = refl

  pub rows_over : (role : Role) (m : MetaTree) (d : List (List Row)) (q : Permission) (o : Source) (k : ℕ) (xs : List Row)
      → numbered (direct_row role m s d q P o) k xs ≡ numbered (direct_row role m s d q Q o) k xs
  rows_over role m d q o k [] = refl
  rows_over role m d q o k (x ∷ xs) =
      ap₂ (λ y l. y ∷ l)
      (ap (λ back. shown_values q s d o x ++ back)
      (map_same (direct_value s P k x) (direct_value s Q k x) (extras_of role m s o) (each_all _ (value_over k x) (extras_of role m s o))))
      (rows_over role m d q o (suc k) xs)

module _ (role : Role) (m : MetaTree) (s : Schema) (g : Grants) (d : List (List Row)) where
  abbrev P : ℕ → List Row
  P = permitted s g d

  -- the numbers of a link
  from_is : (l : Link) → IsThere role m s l → (i : ℕ) (x : Row) → slice_get (P l.table) i ≡ Some x
      → from_number ((seen_in (view s g d)).linked l.table l.relationship) ((seen_in (view s g d)).rows (link_remote s l)) i
      ≡ from_number (linked_by (rel s l.table l.relationship).pairs) (P (link_remote s l)) x
  from_is l there i x at =
      let S = seen_in (view s g d) in
      ap (λ ys. from_number (S.linked l.table l.relationship) ys i) (seen_positions s g d (link_remote s l))
      ∙ place_over (S.linked l.table l.relationship i) (linked_by (rel s l.table l.relationship).pairs x) 1 0 (P (link_remote s l))
      (λ j y e. let zeroth : 0 + j ≡ j = omega arith in ap (S.linked l.table l.relationship i) zeroth ∙ seen_link s g d l.table l.relationship i j x y there at e)

  to_is : (l : Link) → IsThere role m s l → (j : ℕ) (y : Row) → slice_get (P (link_remote s l)) j ≡ Some y
      → to_number ((seen_in (view s g d)).linked l.table l.relationship) ((seen_in (view s g d)).rows l.table) ((seen_in (view s g d)).rows (link_remote s l)) j
      ≡ first_from (linked_by (rel s l.table l.relationship).pairs) (P l.table) (P (link_remote s l)) y
  to_is l there j y at =
      let S = seen_in (view s g d) in
      let on = S.linked l.table l.relationship in
      let pairs = (rel s l.table l.relationship).pairs in
      ap₂ (λ xs ys. to_number on xs ys j) (seen_positions s g d l.table) (seen_positions s g d (link_remote s l))
      ∙ place_over (λ k. list_any (λ i. on i j && on i k) (places 0 (P l.table))) (λ z. list_any (λ x. linked_by pairs x y && linked_by pairs x z) (P l.table)) 1 0 (P (link_remote s l))
      (λ k z e. any_over (λ i. on i j && on i (0 + k)) (λ x. linked_by pairs x y && linked_by pairs x z) 0 (P l.table)
      (λ i x f. let zeroth : 0 + i ≡ i = omega arith in let here : 0 + k ≡ k = omega arith in
      ap₂ (λ a b. on a j && on a b) zeroth here
      ∙ ap₂ (λ a b. a && b) (seen_link s g d l.table l.relationship i j x y there f at) (seen_link s g d l.table l.relationship i k x z there f e)))
      ∙ first_from_is pairs (P l.table) (P (link_remote s l)) y (among_at (P (link_remote s l)) j y at)

  -- the value of an added column
  added_is : (t i : ℕ) (x : Row) → slice_get (P t) i ≡ Some x → (e : Extra) → IsEnd role m s t e → extra_value s (seen_in (view s g d)) i e ≡ direct_value s P i x e
  added_is t i x at (from_end k l) h = ap number_value (from_is l h.0 i x (ap (λ u. slice_get (P u) i) h.1 ∙ at))
  added_is t i x at (to_end k l) h = ap number_value (to_is l h.0 i x (ap (λ u. slice_get (P u) i) h.1 ∙ at))
  added_is t i x at row_position h = refl

  extras_are : (o : Source) → Each (IsEnd role m s o.entry.table) (extras_of role m s o)
  extras_are o =
      let t : ℕ = o.entry.table in
      let last : (b : Bool) → Each (IsEnd role m s t) (cond b [] (row_position ∷ [])) = elim [ true ↦ tt | false ↦ (tt, tt) ] in
      each_append (IsEnd role m s t) (ends_of role m s t) (cond (keeps_key o.permission (table s t).key) [] (row_position ∷ []))
      (ends_are role m s t 1 (links role m s) (links_there role m s)) (last (keeps_key o.permission (table s t).key))

  -- a row of the copy
  pub row_is : (o : Source) (q : Permission) → grant g o.entry.table ≡ q → q.columns ≡ o.permission.columns → (i : ℕ) (x : Row) → slice_get (P o.entry.table) i ≡ Some x
      → copied_row role m s (seen_in (view s g d)) o i ≡ direct_row role m s d q P o i x
  row_is o q granted columns i x at =
      let t : ℕ = o.entry.table in
      let S = seen_in (view s g d) in
      let member : Each (λ c. list_any (λ k. k == c) (grant g t).columns ≡ true) o.permission.columns =
      each_weaken _ _ (λ c a. ap (λ p. list_any (λ k. k == c) p.columns) granted ∙ ap (λ l. list_any (λ k. k == c) l) columns ∙ a) o.permission.columns (each_member o.permission.columns) in
      ap₂ (λ front back. front ++ back)
      (map_same (λ c. value_of (S.cell t i c)) (λ c. value_of (shown_under q s d t x c)) o.permission.columns
      (each_weaken _ _ (λ c a. ap value_of (seen_cell s g d t c i x a at ∙ ap (λ p. shown_under p s d t x c) granted)) o.permission.columns member))
      (map_same (extra_value s S i) (direct_value s P i x) (extras_of role m s o) (each_weaken _ _ (λ e h. added_is t i x at e h) (extras_of role m s o) (extras_are o)))

  -- the rows of a table of the copy
  pub rows_are : (o : Source) (q : Permission) → grant g o.entry.table ≡ q → q.columns ≡ o.permission.columns
      → map (copied_row role m s (seen_in (view s g d)) o) ((seen_in (view s g d)).rows o.entry.table) ≡ numbered (direct_row role m s d q P o) 0 (P o.entry.table)
  rows_are o q granted columns =
      ap (map (copied_row role m s (seen_in (view s g d)) o)) (seen_positions s g d o.entry.table)
      ∙ made_over (copied_row role m s (seen_in (view s g d)) o) (direct_row role m s d q P o) 0 (P o.entry.table)
      (λ j y e. let zeroth : 0 + j ≡ j = omega arith in subst (λ n. copied_row role m s (seen_in (view s g d)) o n ≡ direct_row role m s d q P o n y) (sym zeroth) (row_is o q granted columns j y e))
