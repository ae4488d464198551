-- The columns of a copied table by their places.
use Rattle.std.proofs.Common.{◌≡◌, ℕ, ◌+◌, [], ◌∷◌, map, length, true, false, cond, ◌==◌, Option, Some, None, refl, sym, ap, ◌∙◌, arith, is_some, slice_get}
use Rattle.std.proofs.lemmas.Bool.{false≢true}
use Rattle.std.specs.List.{list_any}
use Rattle.std.specs.Prelude.{option_map}
use Rattle.hq_model.specs.Laws.{HasColumn}
use Rattle.hq_model.specs.Meta.{MetaTree}
use Rattle.hq_model.specs.Permission.{Permission}
use Rattle.hq_model.specs.Schema.{Schema, table, column, no_column}
use Rattle.hq_model.specs.declared.role.Role.{Role}
use Rattle.hq_model.specs.declared.table.Column.{Column}
use Rattle.hq_model.proofs.Places.{present}
use Rattle.hq_copy_definition.specs.Extras.{Extra, row_position, ends_of, extras_of, extra_column}
use Rattle.hq_copy_definition.specs.Sources.{Source, place_in, keeps_key}
use Rattle.hq_copy_definition.specs.Tables.{copied_column, copied_columns}
use Rattle.hq_copy_definition.proofs.Places.{place_holds}
use Rattle.hq_copy_definition.proofs.Lists.{got_map, got_front, got_back, map_length}

-- the column of a number that is there
pub column_there : (s : Schema) (t c : ℕ) → HasColumn s t c → slice_get (table s t).columns c ≡ Some (column s t c)
column_there s t c h =
    let go : (o : Option Column) → slice_get (table s t).columns c ≡ o → is_some (option_map (λ (x : Column). x.ty) o) ≡ true → o ≡ Some (column s t c) =
    elim [ None ↦ λ e g. absurd (false≢true g) | Some x ↦ λ e g. ap Some (sym (present (table s t).columns c no_column x e)) ] in
    go (slice_get (table s t).columns c) refl h

module _ (role : Role) (m : MetaTree) (s : Schema) where
  -- the column at the place of a permitted one
  pub column_at : (o : Source) (c : ℕ) → list_any (λ d. d == c) o.permission.columns ≡ true
      → slice_get (copied_columns role m s o) (place_in o.permission.columns c) ≡ Some (copied_column s o.permission o.entry.table c)
  column_at o c a =
      let p : Permission = o.permission in
      let t : ℕ = o.entry.table in
      got_front (map (copied_column s p t) p.columns) (map extra_column (extras_of role m s o)) (place_in p.columns c) (copied_column s p t c)
      (got_map (copied_column s p t) p.columns (place_in p.columns c) ∙ ap (option_map (copied_column s p t)) (place_holds p.columns c a))

  -- and the added ones behind them
  pub extra_at : (o : Source) (j : ℕ) (e : Extra) → slice_get (extras_of role m s o) j ≡ Some e → slice_get (copied_columns role m s o) (length o.permission.columns + j) ≡ Some (extra_column e)
  extra_at o j e a =
      let p : Permission = o.permission in
      let t : ℕ = o.entry.table in
      let long : length (map (copied_column s p t) p.columns) ≡ length p.columns = map_length (copied_column s p t) p.columns in
      ap (λ n. slice_get (copied_columns role m s o) (n + j)) (sym long)
      ∙ got_back (map (copied_column s p t) p.columns) (map extra_column (extras_of role m s o)) j
      ∙ got_map extra_column (extras_of role m s o) j
      ∙ ap (option_map extra_column) a

  -- the position stands last, where the key is not kept
  pub position_at : (o : Source) → keeps_key o.permission (table s o.entry.table).key ≡ false → slice_get (extras_of role m s o) (length (ends_of role m s o.entry.table)) ≡ Some row_position
  position_at o lost =
      let t : ℕ = o.entry.table in
      let zeroth : length (ends_of role m s t) ≡ length (ends_of role m s t) + 0 = omega arith in
      ap (slice_get (extras_of role m s o)) zeroth
      ∙ got_back (ends_of role m s t) (cond (keeps_key o.permission (table s t).key) [] (row_position ∷ [])) 0
      ∙ ap (λ b. slice_get (cond b [] (row_position ∷ [])) 0) lost
