-- The cells of a copied row: a permitted column's is the cell of the view, and those of a link's two ends are its numbers.
use Rattle.std.proofs.Common.{◌≡◌, ℕ, zero, suc, pos, ℤ, negsuc, ◌+◌, List, [], ◌∷◌, ◌++◌, map, flat_map, length, Bool, true, false, cond, ◌&&◌, ◌||◌, ◌==◌, Option, Some, None, refl, sym, ap, ap₂, ◌∙◌, subst, arith}
use Rattle.std.proofs.lemmas.Bool.{eq-eqb, eqb-true, false≢true, and_parts, or_left, or_right}
use Rattle.std.proofs.lemmas.Bool.Decides.{Decides-int_eq}
use Rattle.std.proofs.lemmas.List.Folds.{list_any-append, find_at}
use Rattle.std.specs.List.{list_any, position_or_len}
use Rattle.std.specs.Ordering.{int_eq}
use Rattle.std.specs.Prelude.{option_map, slice_get, slice_index_or, unwrap_or}
use Rattle.hq_base.specs.Cells.{null, int, cell_of}
use Rattle.hq_base.specs.declared.value.Val.{Val}
use Rattle.hq_base.specs.declared.value.Val.TheVariants as val
use Rattle.hq_base.proofs.Lists.{any_map_of}
use Rattle.hq_model.specs.Logic.{is_true, equal, truth_of}
use Rattle.hq_model.specs.Meta.{MetaTree}
use Rattle.hq_model.specs.Schema.{Schema, table, rel}
use Rattle.hq_model.specs.Seen.{Sees, row_cell, linked_by}
use Rattle.hq_model.specs.declared.role.Role.{Role}
use Rattle.hq_model.proofs.Places.{present}
use Rattle.hq_copy_definition.specs.Extras.{Extra, from_end, to_end, row_position, ends_at, ends_from, ends_of, extras_of, is_from_end, is_to_end}
use Rattle.hq_copy_definition.specs.Links.{from_number, to_number, same_number}
use Rattle.hq_copy_definition.specs.Metadata.{width, to_place, copied_pair}
use Rattle.hq_copy_definition.specs.Rows.{value_of, number_value, extra_value, copied_row}
use Rattle.hq_copy_definition.specs.Sources.{Source, sources, place_in, kept_relationships, keeps_key, Link, links, link_remote, same_link}
use Rattle.hq_copy_definition.proofs.BySource.{IsSource}
use Rattle.hq_copy_definition.proofs.Places.{place_holds}
use Rattle.hq_copy_definition.proofs.Lists.{got_map, found_passes, got_front, got_back, map_length, found_there}

-- ---- lists

-- a test that an item of a list passes, of the items that the list is made into
any_made : {A B : Type 0} (p : B → Bool) (f : A → List B) (xs : List A) (i : ℕ) (x : A) → slice_get xs i ≡ Some x → list_any p (f x) ≡ true → list_any p (flat_map f xs) ≡ true
any_made p f [] i x e h = cc
any_made p f (y ∷ ys) zero x e h =
    let same : y ≡ x = cc in
    list_any-append p (f y) (flat_map f ys) ∙ or_left (list_any p (f y)) (list_any p (flat_map f ys)) (ap (λ z. list_any p (f z)) same ∙ h)
any_made p f (y ∷ ys) (suc i) x e h =
    list_any-append p (f y) (flat_map f ys) ∙ or_right (list_any p (f y)) (list_any p (flat_map f ys)) (any_made p f ys i x e h)

-- ---- values as cells

-- a value that is perhaps not shown, made a value again
pub shown_value : (b : Bool) (v : Val) → cell_of (value_of (cond b (cell_of v) null)) ≡ cond b (cell_of v) null
shown_value false v = refl
shown_value true val.Null = refl
shown_value true (val.Int n) = refl
shown_value true (val.Text s) = refl
shown_value true (val.Bool b) = refl

whole_in : ℤ → ℕ
whole_in (pos n) = n
whole_in (negsuc n) = 0

pos_same : (m n : ℕ) → pos m ≡ pos n → m ≡ n
unfolding whole_in
pos_same m n e = ap whole_in e

-- numbers as cells are equal where they link
pub cells_link : (a b : Option ℕ) → is_true (equal (cell_of (number_value b)) (cell_of (number_value a))) ≡ same_number a b
cells_link None None = refl
cells_link None (Some n) = refl
cells_link (Some n) None = refl
cells_link (Some n) (Some m) =
    let go : (c : Bool) → (n == m) ≡ c → is_true (truth_of (int_eq (pos m) (pos n))) ≡ c =
    elim [
      | true ↦ λ e. ap (λ v. is_true (truth_of v)) ((Decides-int_eq (pos m) (pos n)).1 (ap pos (sym (eqb-true n m e))))
      | false ↦ λ e. let none : (c : Bool) → int_eq (pos m) (pos n) ≡ c → is_true (truth_of c) ≡ false =
          elim [
            | true ↦ λ h. absurd (false≢true (sym e ∙ eq-eqb n m (sym (pos_same m n ((Decides-int_eq (pos m) (pos n)).0 h)))))
            | false ↦ λ h. refl
          ] in none (int_eq (pos m) (pos n)) refl
    ] in
    go (n == m) refl

-- ---- a copied row

module _ (role : Role) (m : MetaTree) (s : Schema) (S : Sees ℕ) (o : Source) where
  abbrev cells_front : ℕ → List Val
  cells_front i = map (λ c. value_of (S.cell o.entry.table i c)) o.permission.columns

  -- the value of a permitted column
  pub permitted_value : (i c : ℕ) → list_any (λ d. d == c) o.permission.columns ≡ true
      → slice_index_or (copied_row role m s S o i) (place_in o.permission.columns c) val.Null ≡ value_of (S.cell o.entry.table i c)
  permitted_value i c h =
      present (copied_row role m s S o i) (place_in o.permission.columns c) val.Null (value_of (S.cell o.entry.table i c))
      (got_front (cells_front i) (map (extra_value s S i) (extras_of role m s o)) (place_in o.permission.columns c) (value_of (S.cell o.entry.table i c))
      (got_map (λ c. value_of (S.cell o.entry.table i c)) o.permission.columns (place_in o.permission.columns c)
      ∙ ap (option_map (λ c. value_of (S.cell o.entry.table i c))) (place_holds o.permission.columns c h)))

  pub permitted_cell : (i c : ℕ) → list_any (λ d. d == c) o.permission.columns ≡ true
      → row_cell (copied_row role m s S o i) (place_in o.permission.columns c) ≡ cell_of (value_of (S.cell o.entry.table i c))
  permitted_cell i c h = ap cell_of (permitted_value i c h)

  -- the value of an added one
  pub added_value : (i j : ℕ) (e : Extra) → slice_get (extras_of role m s o) j ≡ Some e
      → slice_index_or (copied_row role m s S o i) (length o.permission.columns + j) val.Null ≡ extra_value s S i e
  added_value i j e h =
      let long : length (cells_front i) ≡ length o.permission.columns = map_length _ o.permission.columns in
      present (copied_row role m s S o i) (length o.permission.columns + j) val.Null (extra_value s S i e)
      (ap (λ n. slice_get (copied_row role m s S o i) (n + j)) (sym long)
      ∙ got_back (cells_front i) (map (extra_value s S i) (extras_of role m s o)) j
      ∙ got_map (extra_value s S i) (extras_of role m s o) j
      ∙ ap (option_map (extra_value s S i)) h)

  pub extra_cell : (i j : ℕ) (e : Extra) → slice_get (extras_of role m s o) j ≡ Some e → row_cell (copied_row role m s S o i) (length o.permission.columns + j) ≡ cell_of (extra_value s S i e)
  extra_cell i j e h = ap cell_of (added_value i j e h)

  -- the position stands behind the ends of links
  pub position_value : (i : ℕ) → keeps_key o.permission (table s o.entry.table).key ≡ false
      → slice_index_or (copied_row role m s S o i) (length o.permission.columns + length (ends_of role m s o.entry.table)) val.Null ≡ val.Int (pos (suc i))
  position_value i h =
      let t : ℕ = o.entry.table in
      let zeroth : length (ends_of role m s t) ≡ length (ends_of role m s t) + 0 = omega arith in
      let at : slice_get (extras_of role m s o) (length (ends_of role m s t)) ≡ Some row_position =
      ap (slice_get (extras_of role m s o)) zeroth
      ∙ got_back (ends_of role m s t) (cond (keeps_key o.permission (table s t).key) [] (row_position ∷ [])) 0
      ∙ ap (λ b. slice_get (cond b [] (row_position ∷ [])) 0) h in
      added_value i (length (ends_of role m s t)) row_position at

  pub position_cell : (i : ℕ) → keeps_key o.permission (table s o.entry.table).key ≡ false
      → row_cell (copied_row role m s S o i) (length o.permission.columns + length (ends_of role m s o.entry.table)) ≡ int (pos (suc i))
  position_cell i h = ap cell_of (position_value i h)

-- ---- the ends of links

module _ (role : Role) (m : MetaTree) (s : Schema) where
  -- a link of a source stands among all
  pub link_there : (o : Source) → IsSource role m o → (r : ℕ) → list_any (λ q. q == r) (kept_relationships role m s o.entry.table) ≡ true
      → list_any (λ j. same_link j (record { table = o.entry.table; relationship = r })) (links role m s) ≡ true
  link_there o is r h =
      let l : Link = record { table = o.entry.table; relationship = r } in
      any_made (λ j. same_link j l) (λ u. map (λ q. record { table = u.entry.table; relationship = q }) (kept_relationships role m s u.entry.table)) (sources role m) _ o is.place
      (any_map_of (λ j. same_link j l) (λ q. record { table = o.entry.table; relationship = q }) (kept_relationships role m s o.entry.table)
      ∙ any_on (kept_relationships role m s o.entry.table) h)
    where
      any_on : (qs : List ℕ) → list_any (λ q. q == r) qs ≡ true → list_any (λ q. (o.entry.table == o.entry.table) && (q == r)) qs ≡ true
      any_on qs g = let same : (o.entry.table == o.entry.table) ≡ true = eq-eqb o.entry.table o.entry.table refl in subst (λ b. list_any (λ q. b && (q == r)) qs ≡ true) (sym same) g

  -- its own end stands in its table
  pub from_there : (t : ℕ) (l : Link) → l.table ≡ t → (k : ℕ) (ls : List Link) → list_any (λ j. same_link j l) ls ≡ true → list_any (is_from_end l) (ends_from s t k ls) ≡ true
  from_there t l at k [] h = absurd (false≢true h)
  from_there t l at k (j ∷ ls) h =
      let rest : List Extra = ends_from s t (suc k) ls in
      let go : (b : Bool) → same_link j l ≡ b → (b || list_any (λ i. same_link i l) ls) ≡ true → list_any (is_from_end l) (ends_at s t k j ++ rest) ≡ true =
      elim [
        | true ↦ λ e g.
            let own : (j.table == t) ≡ true = eq-eqb j.table t (eqb-true j.table l.table (and_parts (j.table == l.table) (j.relationship == l.relationship) e).0 ∙ at) in
            let here : list_any (is_from_end l) (ends_at s t k j) ≡ true =
            ap (λ b. list_any (is_from_end l) (cond b (from_end k j ∷ []) [] ++ cond (link_remote s j == t) (to_end k j ∷ []) [])) own ∙ or_left (same_link j l) _ e in
            list_any-append (is_from_end l) (ends_at s t k j) rest ∙ or_left (list_any (is_from_end l) (ends_at s t k j)) (list_any (is_from_end l) rest) here
        | false ↦ λ e g.
            list_any-append (is_from_end l) (ends_at s t k j) rest ∙ or_right (list_any (is_from_end l) (ends_at s t k j)) (list_any (is_from_end l) rest) (from_there t l at (suc k) ls g)
      ] in
      go (same_link j l) refl h

  -- two links that are one have one remote table
  one_remote : (j l : Link) → same_link j l ≡ true → link_remote s j ≡ link_remote s l
  one_remote j l e =
      let both = and_parts (j.table == l.table) (j.relationship == l.relationship) e in
      ap₂ (λ t r. (rel s t r).remote) (eqb-true j.table l.table both.0) (eqb-true j.relationship l.relationship both.1)

  -- its remote end stands in the remote table
  pub to_there : (t : ℕ) (l : Link) → link_remote s l ≡ t → (k : ℕ) (ls : List Link) → list_any (λ j. same_link j l) ls ≡ true → list_any (is_to_end l) (ends_from s t k ls) ≡ true
  to_there t l at k [] h = absurd (false≢true h)
  to_there t l at k (j ∷ ls) h =
      let rest : List Extra = ends_from s t (suc k) ls in
      let go : (b : Bool) → same_link j l ≡ b → (b || list_any (λ i. same_link i l) ls) ≡ true → list_any (is_to_end l) (ends_at s t k j ++ rest) ≡ true =
      elim [
        | true ↦ λ e g.
            let far : (link_remote s j == t) ≡ true = eq-eqb (link_remote s j) t (one_remote j l e ∙ at) in
            let own : List Extra = cond (j.table == t) (from_end k j ∷ []) [] in
            let end : list_any (is_to_end l) (cond (link_remote s j == t) (to_end k j ∷ []) []) ≡ true =
            ap (λ b. list_any (is_to_end l) (cond b (to_end k j ∷ []) [])) far ∙ or_left (same_link j l) _ e in
            let here : list_any (is_to_end l) (ends_at s t k j) ≡ true =
            list_any-append (is_to_end l) own (cond (link_remote s j == t) (to_end k j ∷ []) []) ∙ or_right (list_any (is_to_end l) own) _ end in
            list_any-append (is_to_end l) (ends_at s t k j) rest ∙ or_left (list_any (is_to_end l) (ends_at s t k j)) (list_any (is_to_end l) rest) here
        | false ↦ λ e g.
            list_any-append (is_to_end l) (ends_at s t k j) rest ∙ or_right (list_any (is_to_end l) (ends_at s t k j)) (list_any (is_to_end l) rest) (to_there t l at (suc k) ls g)
      ] in
      go (same_link j l) refl h

  -- an own end of a link has the number of the row, whichever end of the link it is
  from_value : (S : Sees ℕ) (i : ℕ) (l : Link) (e : Extra) → is_from_end l e ≡ true
      → extra_value s S i e ≡ number_value (from_number (S.linked l.table l.relationship) (S.rows (link_remote s l)) i)
  from_value S i l (from_end k j) h =
      let both = and_parts (j.table == l.table) (j.relationship == l.relationship) h in
      ap₂ (λ t r. number_value (from_number (S.linked t r) (S.rows (rel s t r).remote) i)) (eqb-true j.table l.table both.0) (eqb-true j.relationship l.relationship both.1)
  from_value S i l (to_end k j) h = absurd (false≢true h)
  from_value S i l row_position h = absurd (false≢true h)

  to_value : (S : Sees ℕ) (i : ℕ) (l : Link) (e : Extra) → is_to_end l e ≡ true
      → extra_value s S i e ≡ number_value (to_number (S.linked l.table l.relationship) (S.rows l.table) (S.rows (link_remote s l)) i)
  to_value S i l (from_end k j) h = absurd (false≢true h)
  to_value S i l (to_end k j) h =
      let both = and_parts (j.table == l.table) (j.relationship == l.relationship) h in
      ap₂ (λ t r. number_value (to_number (S.linked t r) (S.rows t) (S.rows (rel s t r).remote) i)) (eqb-true j.table l.table both.0) (eqb-true j.relationship l.relationship both.1)
  to_value S i l row_position h = absurd (false≢true h)

  pub width_is : (o : Source) → IsSource role m o → width role m o.entry.table ≡ length o.permission.columns
  width_is o is = ap (λ p. unwrap_or (option_map (λ q. length q.columns) p) 0) is.seen

  -- the cell of the own end of a kept relationship
  pub from_cell : (S : Sees ℕ) (o : Source) → IsSource role m o → (r i : ℕ) → list_any (λ q. q == r) (kept_relationships role m s o.entry.table) ≡ true
      → row_cell (copied_row role m s S o i) (copied_pair role m s o.entry.table r).own
      ≡ cell_of (number_value (from_number (S.linked o.entry.table r) (S.rows (rel s o.entry.table r).remote) i))
  from_cell S o is r i h =
      let t : ℕ = o.entry.table in
      let l : Link = record { table = t; relationship = r } in
      let found = found_there (is_from_end l) (ends_of role m s t) (from_there t l refl 1 (links role m s) (link_there o is r h)) in
      let at = position_or_len (is_from_end l) (ends_of role m s t) in
      ap (λ w. row_cell (copied_row role m s S o i) (w + at)) (width_is o is)
      ∙ extra_cell role m s S o i at found.0
      (got_front (ends_of role m s t) (cond (keeps_key o.permission (table s t).key) [] (row_position ∷ [])) at found.0 (sym (find_at (is_from_end l) (ends_of role m s t)) ∙ found.1))
      ∙ ap cell_of (from_value S i l found.0 (found_passes (is_from_end l) (ends_of role m s t) found.0 found.1))

  -- the cell of its remote end, in the table of another source
  pub to_cell : (S : Sees ℕ) (o : Source) → IsSource role m o → (r : ℕ) → list_any (λ q. q == r) (kept_relationships role m s o.entry.table) ≡ true
      → (w : Source) → IsSource role m w → (rel s o.entry.table r).remote ≡ w.entry.table → (j : ℕ)
      → row_cell (copied_row role m s S w j) (copied_pair role m s o.entry.table r).remote
      ≡ cell_of (number_value (to_number (S.linked o.entry.table r) (S.rows o.entry.table) (S.rows (rel s o.entry.table r).remote) j))
  to_cell S o is r h w isw far j =
      let t : ℕ = o.entry.table in
      let u : ℕ = w.entry.table in
      let l : Link = record { table = t; relationship = r } in
      let found = found_there (is_to_end l) (ends_of role m s u) (to_there u l far 1 (links role m s) (link_there o is r h)) in
      let at = position_or_len (is_to_end l) (ends_of role m s u) in
      ap (λ v. row_cell (copied_row role m s S w j) (to_place role m s v l)) far
      ∙ ap (λ v. row_cell (copied_row role m s S w j) (v + at)) (width_is w isw)
      ∙ extra_cell role m s S w j at found.0
      (got_front (ends_of role m s u) (cond (keeps_key w.permission (table s u).key) [] (row_position ∷ [])) at found.0 (sym (find_at (is_to_end l) (ends_of role m s u)) ∙ found.1))
      ∙ ap cell_of (to_value S j l found.0 (found_passes (is_to_end l) (ends_of role m s u) found.0 found.1))

  -- two rows of the copy are linked where their numbers link
  pub numbers_as_cells : (S : Sees ℕ) (o : Source) → IsSource role m o → (r : ℕ) → list_any (λ q. q == r) (kept_relationships role m s o.entry.table) ≡ true
      → (w : Source) → IsSource role m w → (rel s o.entry.table r).remote ≡ w.entry.table → (i j : ℕ)
      → linked_by (copied_pair role m s o.entry.table r ∷ []) (copied_row role m s S o i) (copied_row role m s S w j)
      ≡ same_number (from_number (S.linked o.entry.table r) (S.rows (rel s o.entry.table r).remote) i)
      (to_number (S.linked o.entry.table r) (S.rows o.entry.table) (S.rows (rel s o.entry.table r).remote) j)
  numbers_as_cells S o is r h w isw far i j =
      and_true _
      ∙ ap₂ (λ a b. is_true (equal a b)) (to_cell S o is r h w isw far j) (from_cell S o is r i h)
      ∙ cells_link (from_number (S.linked o.entry.table r) (S.rows (rel s o.entry.table r).remote) i)
      (to_number (S.linked o.entry.table r) (S.rows o.entry.table) (S.rows (rel s o.entry.table r).remote) j)
    where
      and_true : (b : Bool) → (b && true) ≡ b
      and_true true = refl
      and_true false = refl
