-- Each part of a copy is read back.
use Rattle.std.proofs.Common.{◌≡◌, ℕ, List, Bool, true, false, cond, Option, Some, None, Ok, Err, refl, sym, ap, ◌∙◌, subst}
use Rattle.std.proofs.lemmas.Bool.{and_parts}
use Rattle.std.specs.List.{list_all}
use Rattle.std.specs.Prelude.{bytes_eq, codes, length, nat_le}
use Rattle.hq_base.specs.Compact.{compact}
use Rattle.hq_copy.specs.Files.{files_of}
use Rattle.hq_copy.specs.Granted.{granted_due}
use Rattle.hq_copy.specs.Redacting.{described_refusal, refusal_in}
use Rattle.hq_copy.proofs.Causes.{causes_are}
use Rattle.hq_copy_definition.specs.Copied.{Copied, copy_of}
use Rattle.hq_copy_definition.specs.Refusals.{or_else}
use Rattle.hq_copy_definition.specs.Sources.{sources}
use Rattle.hq_copy_definition.proofs.Apart.{differ_apart}
use Rattle.hq_copy_definition.proofs.Lists.{each_at, each_of}
use Rattle.hq_copy_text.specs.Parts.{largest_part, part_text, small_enough, table_text}
use Rattle.hq_copy_text.specs.declared.refusal.PartRefusal.TheVariants.{TooLarge}
use Rattle.hq_laws_copy.proofs.Views.Refused.{given, neither}
use Rattle.hq_laws_copy.specs.Fits.Laws.{CatalogFits}
use Rattle.hq_laws_copy.specs.Rows.Laws.{RowsFit}
use Rattle.hq_copy_text.specs.Clean.{is_clean_entry, is_clean_value}
use Rattle.hq_laws_copy_text.specs.Laws.{PartReadsBack}
use Rattle.hq_laws_copy_text.proofs.Plain.{metadata_plain}
use Rattle.hq_laws_copy_text.proofs.Writable.{file_at, other_part, rows_at, text_at, writable}
use Rattle.hq_laws_written.specs.Catalog.Written.{catalog_json, has_clean_names}
use Rattle.hq_laws_written.specs.Metadata.Plain.{IsPlain}
use Rattle.hq_laws_written.specs.Metadata.Written.{meta_json}
use Rattle.hq_laws_written.specs.Tables.Written.{IsWritable, file_of}
use Rattle.hq_load_catalog.specs.Reading.{catalog_due}
use Rattle.hq_load_meta.specs.Reading.{meta_due}
use Rattle.hq_load_tables.specs.Load.{table_due}
use Rattle.hq_model.specs.Catalog.{full_name, is_catalog, is_table}
use Rattle.hq_model.specs.Database.{Row}
use Rattle.hq_model.specs.Fits.{fits}
use Rattle.hq_model.specs.Grants.{grants_of}
use Rattle.hq_model.specs.Meta.{MetaTree}
use Rattle.hq_model.specs.Permission.{role_of}
use Rattle.hq_model.specs.Schema.{Schema, schema_of}
use Rattle.hq_model.specs.View.{View, view, seen_in}
use Rattle.hq_model.specs.declared.role.Role.{Role}
use Rattle.hq_model.specs.declared.session.Session.{Session}
use Rattle.hq_model.specs.declared.table.Table.{Table}

-- a text that is given is the part's
given_text : (o : Option (List ℕ)) (text : List ℕ) → small_enough o ≡ Ok text → o ≡ Some text
given_text None text h = cc
given_text (Some x) text h =
    let go : (b : Bool) → cond b (Ok x) (Err TooLarge) ≡ Ok text → ◌≡◌ {A = Option (List ℕ)} (Some x) (Some text) = elim [ true ↦ λ g. cc | false ↦ λ g. cc ] in
    go (nat_le (length x) largest_part) h

module _ (fitting : (tables : List Table) (m : MetaTree) (session : Session) (v : View) (c : Copied) → CatalogFits tables m session v c)
    (holding : (tables : List Table) (m : MetaTree) (session : Session) (d : List (List Row)) (c : Copied) → RowsFit tables m session d c)
    (catalogs : (tables : List Table) → is_catalog tables ≡ true → has_clean_names tables ≡ true → catalog_due (compact (catalog_json tables)) ≡ Ok tables)
    (metadata : (tables : List Table) (m : MetaTree) → IsPlain tables m → meta_due tables (compact (meta_json tables m)) ≡ Ok m)
    (files : (t : Table) (rows : List Row) → IsWritable t rows → table_due t (file_of t rows) ≡ Ok rows) where
  pub parts_back : (tables : List Table) (m : MetaTree) (session : Session) (d : List (List Row)) (c : Copied) (name text : List ℕ) → PartReadsBack tables m session d c name text
  parts_back tables m session d c name text whole fit valid done clean due =
      let role : Role = role_of session.role in
      let s : Schema = schema_of tables m in
      let v : View = view s (grants_of session tables m) d in
      let made = given _ (copy_of tables m session v) c done in
      let fit_is = fitting tables m session v c whole fit done in
      let rows_are = holding tables m session d c fit valid done in
      let told : part_text c name ≡ Some text = given_text (part_text c name) text due in
      let plain : IsPlain c.tables c.meta =
      subst
      (λ (k : Copied). list_all is_clean_entry k.meta.tracked ≡ true → has_clean_names k.tables ≡ true → is_catalog k.tables ≡ true
      → fits k.tables k.meta ≡ true → IsPlain k.tables k.meta)
      made.1
      (metadata_plain role m s) clean.metadata clean.catalog fit_is.0 fit_is.1 in
      let causes : or_else (refusal_in (granted_due s session.vars (sources role m)))
      (or_else (described_refusal role m s) (files_of (copy_of tables m session v).tables (copy_of tables m session v).rows))
      ≡ None =
      sym (causes_are role m s session.vars (seen_in v)) ∙ made.0 in
      let unrefused : files_of c.tables c.rows ≡ None = ap (λ (k : Copied). files_of k.tables k.rows) (sym made.1) ∙ (neither _ _ (neither _ _ causes).1).1 in
      let apart = differ_apart (λ (a b : Table). bytes_eq (full_name a) (full_name b)) c.tables (and_parts _ _ (and_parts _ _ fit_is.0).0).1 in
      record {
        catalog = λ e.
            let is : ◌≡◌ {A = Option (List ℕ)} (Some (compact (catalog_json c.tables))) (Some text) = ap (part_text c) (sym e) ∙ told in
            let same : compact (catalog_json c.tables) ≡ text = cc in
            ap catalog_due (sym same) ∙ catalogs c.tables fit_is.0 clean.catalog;
        metadata = λ e.
            let is : ◌≡◌ {A = Option (List ℕ)} (Some (compact (meta_json c.tables c.meta))) (Some text) = ap (part_text c) (sym e) ∙ told in
            let same : compact (meta_json c.tables c.meta) ≡ text = cc in
            ap (meta_due c.tables) (sym same) ∙ metadata c.tables c.meta plain;
        table = λ i t rows at beside e.
            let is : part_text c (full_name t) ≡ Some (file_of t rows) =
            ap
            (λ b. cond b (Some (compact (catalog_json c.tables)))
            (cond (bytes_eq (full_name t) (codes "metadata")) (Some (compact (meta_json c.tables c.meta)))
            (table_text c.tables c.rows (full_name t))))
            (other_part t (codes "catalog") refl)
            ∙ ap (λ b. cond b (Some (compact (meta_json c.tables c.meta))) (table_text c.tables c.rows (full_name t))) (other_part t (codes "metadata") refl)
            ∙ text_at c.tables c.rows i t rows apart at beside in
            let both : ◌≡◌ {A = Option (List ℕ)} (Some (file_of t rows)) (Some text) = sym is ∙ ap (part_text c) e ∙ told in
            let same : file_of t rows ≡ text = cc in
            ap (table_due t) (sym same)
            ∙ files t rows
            (writable c.tables t rows (each_at (λ x. is_table c.tables x ≡ true) c.tables i t (each_of (is_table c.tables) c.tables (and_parts _ _ fit_is.0).1) at)
            (rows_at c.tables c.rows i t rows rows_are at beside)
            (each_at (λ r. list_all (list_all is_clean_value) r ≡ true) c.rows i rows (each_of (list_all (list_all is_clean_value)) c.rows clean.rows) beside)
            (file_at c.tables c.rows i t rows unrefused at beside));
      }
