-- What is told without rows is sought cause by cause.
use Rattle.std.proofs.Common.{◌≡◌, List, length, Option, Some, None, Result, Ok, Err, inl, inr, ⊎_elim, sym, ap, ap₂, ◌∙◌, subst}
use Rattle.std.specs.Prelude.{◌⊎◌, nat_lt}
use Rattle.hq_copy_definition.specs.Metadata.{copied_meta}
use Rattle.hq_copy_definition.specs.Refusals.{first_of, masked_key_refusal, or_else, own_name_refusal, refused_if, schema_name_refusal, width_refusal}
use Rattle.hq_copy_definition.specs.Sources.{Source, sources}
use Rattle.hq_copy_definition.specs.Tables.{copied_tables}
use Rattle.hq_copy_definition.specs.declared.refusal.CopyRefusal.{CopyRefusal}
use Rattle.hq_copy_definition.specs.declared.refusal.CopyRefusal.TheVariants as refusal
use Rattle.hq_model.specs.Catalog.{full_name}
use Rattle.hq_model.specs.Meta.{MetaTree}
use Rattle.hq_model.specs.Permission.{Permission}
use Rattle.hq_model.specs.Schema.{Schema, schema_of}
use Rattle.hq_model.specs.declared.role.Role.{Role}
use Rattle.hq_model.specs.declared.session.Var.{Var}
use Rattle.hq_model.specs.declared.table.Table.{Table}
use Rattle.hq_copy.specs.Granted.{granted_due}
use Rattle.hq_copy.specs.Redacting.{described_refusal, refusal_in}
use Rattle.hq_copy.specs.Refused.{Refuses}
use Rattle.hq_copy.proofs.Causes.{widths_are}

-- a refusal is told: want of memory, or the due one
abbrev pub IsTold : Option CopyRefusal → CopyRefusal → Type 0
IsTold due e = (e ≡ refusal.Memory) ⊎ (due ≡ Some e)

-- the first of two causes is told
pub first_told : (a b : Option CopyRefusal) (e : CopyRefusal) → IsTold a e → IsTold (or_else a b) e
first_told a b e h = ⊎_elim (λ m. inl m) (λ is. inr (ap (λ o. or_else o b) is)) h

-- where it is absent, the second is
pub rest_told : (a b : Option CopyRefusal) (e : CopyRefusal) → a ≡ None → IsTold b e → IsTold (or_else a b) e
rest_told a b e none h = subst (λ o. IsTold (or_else o b) e) (sym none) h

pub rest_refuses : {X : Type 0} (a b : Option CopyRefusal) (r : Result X CopyRefusal) → a ≡ None → Refuses b r → Refuses (or_else a b) r
rest_refuses a b r none h = subst (λ o. Refuses (or_else o b) r) (sym none) h

module _ (role : Role) (m : MetaTree) (s : Schema) where
  abbrev own : Option CopyRefusal
  own = first_of (own_name_refusal role m s) (sources role m)

  abbrev names : Option CopyRefusal
  names = schema_name_refusal (schema_of (copied_tables role m s) (copied_meta role m s)) (copied_meta role m s)

  abbrev keys : Option CopyRefusal
  keys = first_of (masked_key_refusal role m s) (sources role m)

  abbrev widths : Option CopyRefusal
  widths = first_of (width_refusal role m s) (sources role m)

  module _ (os : List Source) (ts : List Table) (mv : MetaTree) (seen : os ≡ sources role m) (same_tables : ts ≡ copied_tables role m s) (same_meta : mv ≡ copied_meta role m s) where
    own_same : first_of (own_name_refusal role m s) os ≡ own
    own_same = ap (first_of (own_name_refusal role m s)) seen

    names_same : schema_name_refusal (schema_of ts mv) mv ≡ names
    names_same = ap₂ (λ t x. schema_name_refusal (schema_of t x) x) same_tables same_meta

    keys_same : first_of (masked_key_refusal role m s) os ≡ keys
    keys_same = ap (first_of (masked_key_refusal role m s)) seen

    widths_same : first_of (λ t. refused_if (nat_lt 200 (length t.columns)) (refusal.TooWide (full_name t))) ts ≡ widths
    widths_same = ap (first_of (λ t. refused_if (nat_lt 200 (length t.columns)) (refusal.TooWide (full_name t)))) same_tables ∙ widths_are role m s (sources role m)

    -- a kept name is told
    pub own_told : (e : CopyRefusal) → IsTold (first_of (own_name_refusal role m s) os) e → IsTold (described_refusal role m s) e
    own_told e h = first_told own (or_else names (or_else keys widths)) e (subst (λ o. IsTold o e) own_same h)

    -- a name of the schema
    pub names_told : (e : CopyRefusal) → first_of (own_name_refusal role m s) os ≡ None → IsTold (schema_name_refusal (schema_of ts mv) mv) e → IsTold (described_refusal role m s) e
    names_told e a h =
        rest_told own (or_else names (or_else keys widths)) e (sym own_same ∙ a)
        (first_told names (or_else keys widths) e (subst (λ o. IsTold o e) names_same h))

    -- a masked key
    pub keys_told : (e : CopyRefusal) → first_of (own_name_refusal role m s) os ≡ None → schema_name_refusal (schema_of ts mv) mv ≡ None → IsTold (first_of (masked_key_refusal role m s) os) e
        → IsTold (described_refusal role m s) e
    keys_told e a b h =
        rest_told own (or_else names (or_else keys widths)) e (sym own_same ∙ a)
        (rest_told names (or_else keys widths) e (sym names_same ∙ b)
        (first_told keys widths e (subst (λ o. IsTold o e) keys_same h)))

    -- where none of these is there, it is a table that is too wide
    pub widths_left : {X : Type 0} (r : Result X CopyRefusal) → first_of (own_name_refusal role m s) os ≡ None → schema_name_refusal (schema_of ts mv) mv ≡ None
        → first_of (masked_key_refusal role m s) os ≡ None
        → Refuses (first_of (λ t. refused_if (nat_lt 200 (length t.columns)) (refusal.TooWide (full_name t))) ts) r → Refuses (described_refusal role m s) r
    widths_left r a b k h =
        rest_refuses own (or_else names (or_else keys widths)) r (sym own_same ∙ a)
        (rest_refuses names (or_else keys widths) r (sym names_same ∙ b)
        (rest_refuses keys widths r (sym keys_same ∙ k)
        (subst (λ o. Refuses o r) widths_same h)))

  module _ (vars : List Var) (os : List Source) (seen : os ≡ sources role m) where
    -- a filter that does not bind is told before all else
    pub filter_told : (e : CopyRefusal) → (e ≡ refusal.Memory) ⊎ (granted_due s vars os ≡ Err e)
        → IsTold (or_else (refusal_in (granted_due s vars (sources role m))) (described_refusal role m s)) e
    filter_told e h =
        ⊎_elim (λ want. inl want) (λ is. inr (ap (λ r. or_else (refusal_in r) (described_refusal role m s)) (ap (granted_due s vars) (sym seen) ∙ is))) h

    -- what is granted, where all filters bind
    pub granted_is : (qs : List Permission) → granted_due s vars os ≡ Ok qs → granted_due s vars (sources role m) ≡ Ok qs
    granted_is qs h = ap (granted_due s vars) (sym seen) ∙ h

    -- and then it is what is told without rows
    pub described_told : (qs : List Permission) (e : CopyRefusal) → granted_due s vars os ≡ Ok qs → IsTold (described_refusal role m s) e
        → IsTold (or_else (refusal_in (granted_due s vars (sources role m))) (described_refusal role m s)) e
    described_told qs e h told = rest_told _ (described_refusal role m s) e (ap refusal_in (granted_is qs h)) told

    pub none_described : (qs : List Permission) → granted_due s vars os ≡ Ok qs → described_refusal role m s ≡ None
        → or_else (refusal_in (granted_due s vars (sources role m))) (described_refusal role m s) ≡ None
    none_described qs h none = ap₂ (λ a b. or_else a b) (ap refusal_in (granted_is qs h)) none
