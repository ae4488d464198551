-- Two databases that agree show alike what stands at the places of permitted rows.
use Rattle.std.proofs.Common.{◌≡◌, ℕ, zero, suc, ◌+◌, ◌<◌, List, [], ◌∷◌, map, filter, length, Bool, true, false, cond, ◌||◌, ◌==◌, Option, Some, None, refl, sym, ap, ap₂, ◌∙◌, arith}
use Rattle.std.specs.Prelude.{slice_index_or, unwrap_or}
use Rattle.std.specs.List.{list_any}
use Rattle.std.proofs.lemmas.Bool.{eqb-true}
use Rattle.std.proofs.lemmas.List.{length-map}
use Rattle.hq_base.specs.Cells.{CellTree, null}
use Rattle.hq_base.specs.Lists.{Each}
use Rattle.hq_base.proofs.Lists.{each_filter, each_weaken}
use Rattle.hq_base.proofs.Sorts.{each_sort}
use Rattle.hq_model.specs.Bexp.{always}
use Rattle.hq_model.specs.Database.{Row}
use Rattle.hq_model.specs.Grants.{Grants, grant, no_grant}
use Rattle.hq_model.specs.Permission.{Mask, Permission}
use Rattle.hq_model.specs.Permitted.{columns_cmp, by_key, permitted, mask_of, shown_under, shown}
use Rattle.hq_model.specs.Schema.{Schema, table, no_table, numbered}
use Rattle.hq_model.specs.Seen.{linked_by, row_cell, all_of}
use Rattle.hq_model.specs.Truth.{keeps}
use Rattle.hq_model.specs.View.{cut, cut_rows, view_table, view_links, Agree}
use Rattle.hq_confine_rules.specs.Members.{has_mask, is_permitted}
use Rattle.hq_laws_confine.proofs.Meaning.Keys.{columns_total, Keyed, Full, same_order}
use Rattle.hq_laws_confine.proofs.Meaning.Lists.{images_at, images_each}
use Rattle.hq_laws_confine.proofs.Meaning.Orders.{Rising, rising_sort, rising_filter}
use Rattle.hq_laws_confine.proofs.Meaning.Pairs.{pairs_alike}

-- the permitted row at a place; where there is none, the row of no cell
abbrev pub row_at : Schema → Grants → List (List Row) → (t : ℕ) → Option ℕ → Row
row_at s g d t None = []
row_at s g d t (Some n) = slice_index_or (permitted s g d t) n []

-- what agreement gives
pub record Alike (s : Schema) (g : Grants) (d e : List (List Row)) : Type 0 where
  pub sizes : (t : ℕ) → length (permitted s g d t) ≡ length (permitted s g e t)
  pub shows : (t c : ℕ) → is_permitted (grant g t) c ≡ true → (n : ℕ) → shown s g d t (slice_index_or (permitted s g d t) n []) c ≡ shown s g e t (slice_index_or (permitted s g e t) n []) c
  pub cells : (t c : ℕ) → is_permitted (grant g t) c ≡ true → has_mask (grant g t) c ≡ false → (p : Option ℕ) → row_cell (row_at s g d t p) c ≡ row_cell (row_at s g e t p) c
  pub orders : (t : ℕ) (p q : Option ℕ) → columns_cmp (table s t).key (row_at s g d t p) (row_at s g d t q) ≡ columns_cmp (table s t).key (row_at s g e t p) (row_at s g e t q)
  pub links : (t : ℕ) → Each (λ r. (p q : ℕ) → p < length (permitted s g d t) → q < length (permitted s g d r.remote)
      → linked_by r.pairs (slice_index_or (permitted s g d t) p []) (slice_index_or (permitted s g d r.remote) q [])
      ≡ linked_by r.pairs (slice_index_or (permitted s g e t) p []) (slice_index_or (permitted s g e r.remote) q [])) (table s t).rels

got_numbered : {A B : Type 0} (f : ℕ → A → B) (xs : List A) (k i : ℕ) (d : A) (e : B) → ((j : ℕ) → f j d ≡ e) → slice_index_or (numbered f k xs) i e ≡ f (k + i) (slice_index_or xs i d)
got_numbered f [] k i d e h = sym (h (k + i))
got_numbered f (x ∷ xs) k zero d e h = let same : k + 0 ≡ k = omega arith in ap (λ j. f j x) (sym same)
got_numbered f (x ∷ xs) k (suc i) d e h = let same : suc k + i ≡ k + suc i = omega arith in got_numbered f xs (suc k) i d e h ∙ ap (λ j. f j (slice_index_or xs i d)) same

-- an item of a numbered list
got_at : {A B : Type 0} (f : ℕ → A → B) (xs : List A) (i : ℕ) (d : A) (e : B) → ((j : ℕ) → f j d ≡ e) → slice_index_or (numbered f 0 xs) i e ≡ f i (slice_index_or xs i d)
got_at f xs i d e h = let same : 0 + i ≡ i = omega arith in got_numbered f xs 0 i d e h ∙ ap (λ j. f j (slice_index_or xs i d)) same

none_kept : (rs : List Row) → filter (λ r. false) rs ≡ []
none_kept [] = refl
none_kept (r ∷ rs) = none_kept rs

-- cells of cut rows that are equal
same_cut : (cs : List ℕ) (f h : ℕ → CellTree) (c : ℕ) → cut cs f ≡ cut cs h → list_any (λ k. k == c) cs ≡ true → f c ≡ h c
same_cut [] f h c e used = cc
same_cut (k ∷ cs) f h c e used =
    let first : (k, f k) ≡ (k, h k) = cc in
    let here : f k ≡ h k = ap (λ (p : ℕ × CellTree). p.1) first in
    let later : cut cs f ≡ cut cs h = cc in
    let go : (b : Bool) → (k == c) ≡ b → (b || list_any (λ x. x == c) cs) ≡ true → f c ≡ h c =
    elim [ true ↦ λ q u. (let same = eqb-true k c q in ap f (sym same) ∙ here ∙ ap h same) | false ↦ λ q u. same_cut cs f h c later u ] in
    go (k == c) refl used

no_mask : (ms : List Mask) (c : ℕ) → list_any (λ m. m.column == c) ms ≡ false → mask_of ms c ≡ always
no_mask [] c h = refl
no_mask (m ∷ ms) c h =
    let go : (b : Bool) → (b || list_any (λ x. x.column == c) ms) ≡ false → cond b m.shown (mask_of ms c) ≡ always = elim [ true ↦ λ k. absurd cc | false ↦ λ k. no_mask ms c k ] in
    go (m.column == c) h

either_null : (b : Bool) → cond b null null ≡ null
either_null true = refl
either_null false = refl

beyond_end : (xs : List Row) → slice_index_or xs (length xs) [] ≡ []
beyond_end [] = refl
beyond_end (x ∷ xs) = beyond_end xs

-- a place, or the first one beyond
abbrev spot : ℕ → Option ℕ → ℕ
spot n None = n
spot n (Some p) = p

module _ (s : Schema) (g : Grants) where
  -- a column without a mask always shows
  pub bare_shown : (d : List (List Row)) (t c : ℕ) (row : Row) → has_mask (grant g t) c ≡ false → shown s g d t row c ≡ row_cell row c
  bare_shown d t c row h = ap (λ b. cond (keeps b s (all_of s d) t row) (row_cell row c) null) (no_mask (grant g t).masks c h)

  rising_of : (d : List (List Row)) (t : ℕ) → Keyed s d t → Rising (columns_cmp (table s t).key) (permitted s g d t)
  rising_of d t k = rising_filter (columns_cmp (table s t).key) (keeps (grant g t).filter s (all_of s d) t) (by_key s d t) (rising_sort (columns_total (table s t).key) _ k.apart)

  pub each_permitted : (P : Row → Type 0) (d : List (List Row)) (t : ℕ) → Each P (by_key s d t) → Each P (permitted s g d t)
  each_permitted P d t h = each_filter P (keeps (grant g t).filter s (all_of s d) t) (by_key s d t) h

  full_of : (d : List (List Row)) (t : ℕ) → Keyed s d t → Each (Full (table s t).key) (permitted s g d t)
  full_of d t k = each_permitted (Full (table s t).key) d t (each_sort (columns_cmp (table s t).key) (Full (table s t).key) _ k.full)

  module _ (d e : List (List Row)) (ag : Agree s g d e) where
    none_cut : (x : List (List Row)) (t : ℕ) → cut_rows no_grant s x t ≡ []
    none_cut x t = ap (map (λ row. cut no_grant.columns (shown_under no_grant s x t row))) (none_kept (by_key s x t))

    cuts_of : (t : ℕ) → cut_rows (grant g t) s d t ≡ cut_rows (grant g t) s e t
    cuts_of t =
        let tables : view_table s d t (slice_index_or g t None) ≡ view_table s e t (slice_index_or g t None) =
        sym (got_at (view_table s d) g t None None (λ j. refl)) ∙ ap (λ v. slice_index_or v.tables t None) ag ∙ got_at (view_table s e) g t None None (λ j. refl) in
        let go : (o : Option Permission) → view_table s d t o ≡ view_table s e t o → cut_rows (unwrap_or o no_grant) s d t ≡ cut_rows (unwrap_or o no_grant) s e t =
        elim [ None ↦ λ q. none_cut d t ∙ sym (none_cut e t) | Some p ↦ λ q. cc ] in
        go (slice_index_or g t None) tables

    sizes_of : (t : ℕ) → length (permitted s g d t) ≡ length (permitted s g e t)
    sizes_of t =
        sym (length-map (permitted s g d t) (λ row. cut (grant g t).columns (shown s g d t row))) ∙ ap length (cuts_of t)
        ∙ length-map (permitted s g e t) (λ row. cut (grant g t).columns (shown s g e t row))

    shows_of : (t c : ℕ) → is_permitted (grant g t) c ≡ true → (n : ℕ) → shown s g d t (slice_index_or (permitted s g d t) n []) c ≡ shown s g e t (slice_index_or (permitted s g e t) n []) c
    shows_of t c h n =
        images_at (λ row. cut (grant g t).columns (shown s g d t row)) (λ row. cut (grant g t).columns (shown s g e t row)) (λ row. shown s g d t row c) (λ row. shown s g e t row c) []
        (λ x y q. same_cut (grant g t).columns (shown s g d t x) (shown s g e t y) c q h)
        (either_null (keeps (mask_of (grant g t).masks c) s (all_of s d) t []) ∙ sym (either_null (keeps (mask_of (grant g t).masks c) s (all_of s e) t [])))
        (permitted s g d t) (permitted s g e t) (cuts_of t) n

    cells_of : (t c : ℕ) → is_permitted (grant g t) c ≡ true → has_mask (grant g t) c ≡ false → (p : Option ℕ) → row_cell (row_at s g d t p) c ≡ row_cell (row_at s g e t p) c
    cells_of t c h m None = refl
    cells_of t c h m (Some n) = sym (bare_shown d t c (slice_index_or (permitted s g d t) n []) m) ∙ shows_of t c h n ∙ bare_shown e t c (slice_index_or (permitted s g e t) n []) m

    links_of : (t : ℕ) → Each (λ r. view_links s g d t r ≡ view_links s g e t r) (table s t).rels
    links_of t =
        images_each (view_links s g d t) (view_links s g e t) (table s t).rels
        (sym (got_at (λ u x. map (view_links s g d u) x.rels) s t no_table [] (λ j. refl)) ∙ ap (λ v. slice_index_or v.links t []) ag
        ∙ got_at (λ u x. map (view_links s g e u) x.rels) s t no_table [] (λ j. refl))

    pub alike_of : ((t : ℕ) → Keyed s d t) → ((t : ℕ) → Keyed s e t) → Alike s g d e
    alike_of kd ke =
        let at_d : (t : ℕ) (p : Option ℕ) → row_at s g d t p ≡ slice_index_or (permitted s g d t) (spot (length (permitted s g d t)) p) [] =
        λ t. elim [ None ↦ sym (beyond_end (permitted s g d t)) | Some n ↦ refl ] in
        let at_e : (t : ℕ) (p : Option ℕ) → row_at s g e t p ≡ slice_index_or (permitted s g e t) (spot (length (permitted s g d t)) p) [] =
        λ t. elim [ None ↦ sym (beyond_end (permitted s g e t)) ∙ ap (λ n. slice_index_or (permitted s g e t) n []) (sym (sizes_of t)) | Some n ↦ refl ] in
        record {
          sizes = sizes_of;
          shows = shows_of;
          cells = cells_of;
          orders = λ t p q.
              ap₂ (columns_cmp (table s t).key) (at_d t p) (at_d t q)
              ∙ same_order (table s t).key (permitted s g d t) (permitted s g e t) (sizes_of t) (rising_of d t (kd t))
              (rising_of e t (ke t)) (full_of d t (kd t)) (full_of e t (ke t)) (spot (length (permitted s g d t)) p)
              (spot (length (permitted s g d t)) q)
              ∙ sym (ap₂ (columns_cmp (table s t).key) (at_e t p) (at_e t q));
          links = λ t.
              each_weaken (λ r. view_links s g d t r ≡ view_links s g e t r) _
              (λ r q p far lp lf. pairs_alike (linked_by r.pairs) (permitted s g d t) (permitted s g e t) (permitted s g d r.remote)
              (permitted s g e r.remote) [] [] (sizes_of t) (sizes_of r.remote) q p far lp lf)
              (table s t).rels (links_of t);
        }
