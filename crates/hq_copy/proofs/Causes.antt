-- The first cause, as it is sought: filters, names, sizes, and then the rows.
use Rattle.std.proofs.Common.{◌≡◌, ℕ, List, [], ◌∷◌, map, length, Option, Some, None, Result, Ok, Err, refl, sym, ap, ap₂, ◌∙◌}
use Rattle.std.specs.Prelude.{nat_lt}
use Rattle.hq_base.specs.Due.{and_then, mapped}
use Rattle.hq_copy_definition.specs.Copied.{unless}
use Rattle.hq_copy_definition.specs.Refusals.{copy_refusal, file_refusal, filter_refusal, first_of, masked_key_refusal, or_else, own_name_refusal, refused_if, schema_name_refusal, unbound, width_refusal}
use Rattle.hq_copy_definition.specs.Rows.{rows_of}
use Rattle.hq_copy_definition.specs.Sources.{Source, sources}
use Rattle.hq_copy_definition.specs.Tables.{copied_table, copied_tables}
use Rattle.hq_copy_definition.specs.Metadata.{copied_meta}
use Rattle.hq_copy_definition.specs.declared.refusal.CopyRefusal.{CopyRefusal}
use Rattle.hq_copy_definition.specs.declared.refusal.CopyRefusal.TheVariants as refusal
use Rattle.hq_model.specs.Binding.{bound_permission}
use Rattle.hq_model.specs.Catalog.{full_name}
use Rattle.hq_model.specs.Meta.{MetaTree}
use Rattle.hq_model.specs.Permission.{Permission}
use Rattle.hq_model.specs.Schema.{Schema, schema_of}
use Rattle.hq_model.specs.Seen.{Sees}
use Rattle.hq_model.specs.declared.bind.BindRefusal.{BindRefusal}
use Rattle.hq_model.specs.declared.role.Role.{Role}
use Rattle.hq_model.specs.declared.session.Var.{Var}
use Rattle.hq_copy.specs.Files.{files_of}
use Rattle.hq_copy.specs.Granted.{granted_due, or_not_bound}
use Rattle.hq_copy.specs.Redacting.{described_refusal, refusal_in}

-- the first cause of a row of causes
pub or_else_assoc : (a b c : Option CopyRefusal) → or_else (or_else a b) c ≡ or_else a (or_else b c)
or_else_assoc None b c = refl
or_else_assoc (Some e) b c = refl

-- filters that do not bind
pub filters_are : (s : Schema) (vars : List Var) (os : List Source) → first_of (filter_refusal s vars) os ≡ refusal_in (granted_due s vars os)
filters_are s vars [] = refl
filters_are s vars (o ∷ os) =
    let rest : (p : Permission) (r : Result (List Permission) CopyRefusal) → granted_due s vars os ≡ r → first_of (filter_refusal s vars) os ≡ refusal_in (mapped (λ ps. p ∷ ps) r) =
    λ p. elim [ Ok ps ↦ λ f. filters_are s vars os ∙ ap refusal_in f | Err e ↦ λ f. filters_are s vars os ∙ ap refusal_in f ] in
    let go : (r : Result Permission BindRefusal)
    → or_else (unbound r) (first_of (filter_refusal s vars) os) ≡ refusal_in (and_then (λ p. mapped (λ ps. p ∷ ps) (granted_due s vars os)) (or_not_bound r)) =
    elim [ Ok p ↦ rest p (granted_due s vars os) refl | Err e ↦ refl ] in
    go (bound_permission o.permission s vars o.entry.table)

module _ (role : Role) (m : MetaTree) (s : Schema) where
  -- tables that are too wide
  pub widths_are : (os : List Source)
      → first_of (λ t. refused_if (nat_lt 200 (length t.columns)) (refusal.TooWide (full_name t))) (map (copied_table role m s) os)
      ≡ first_of (width_refusal role m s) os
  widths_are [] = refl
  widths_are (o ∷ os) = ap (or_else (width_refusal role m s o)) (widths_are os)

  -- texts that a file does not give back
  pub files_are : (S : Sees ℕ) (os : List Source) → files_of (map (copied_table role m s) os) (map (rows_of role m s S) os) ≡ first_of (file_refusal role m s S) os
  files_are S [] = refl
  files_are S (o ∷ os) = ap (or_else (file_refusal role m s S o)) (files_are S os)

  -- the first cause: filters, what else is told without rows, and then the rows
  pub causes_are : (vars : List Var) (S : Sees ℕ)
      → copy_refusal role m s vars S
      ≡ or_else (refusal_in (granted_due s vars (sources role m)))
      (or_else (described_refusal role m s)
      (files_of (map (copied_table role m s) (sources role m)) (map (rows_of role m s S) (sources role m))))
  causes_are vars S =
      let os = sources role m in
      let names = schema_name_refusal (schema_of (copied_tables role m s) (copied_meta role m s)) (copied_meta role m s) in
      let own = first_of (own_name_refusal role m s) os in
      let keys = first_of (masked_key_refusal role m s) os in
      let widths = first_of (width_refusal role m s) os in
      let files = first_of (file_refusal role m s S) os in
      ap₂ (λ a b. or_else a b) (filters_are s vars os)
      (or_else_assoc own names (or_else keys (or_else widths files))
      ∙ ap (or_else own) (ap (or_else names) (sym (or_else_assoc keys widths files)) ∙ sym (or_else_assoc names (or_else keys widths) files))
      ∙ sym (or_else_assoc own (or_else names (or_else keys widths)) files)
      ∙ ap (or_else (described_refusal role m s)) (sym (files_are S os)))

-- what is refused is no copy
pub refused_is : {X : Type 0} (r : Option CopyRefusal) (x : X) (e : CopyRefusal) → r ≡ Some e → unless r x ≡ Err e
refused_is r x e h = ap (λ o. unless o x) h

pub given_is : {X : Type 0} (r : Option CopyRefusal) (x : X) → r ≡ None → unless r x ≡ Ok x
given_is r x h = ap (λ o. unless o x) h
