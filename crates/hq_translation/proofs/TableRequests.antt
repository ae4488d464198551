-- The root fields of a typed request that start at a table are a typed request.
use Rattle.std.proofs.Common.{◌≡◌, ℕ, ◌≤◌, max, List, [], ◌∷◌, ◌++◌, length, Bool, true, false, cond, not, ◌==◌, ◌||◌, refl, sym, ap, ◌∙◌, arith}
use Rattle.std.specs.Prelude.{bytes_eq}
use Rattle.std.specs.List.{list_any}
use Rattle.std.proofs.lemmas.Bool.{and_parts, le-leb, false≢true}
use Rattle.std.proofs.Math.Nat.{max-le, le-max_left, le-max_right}
use Rattle.hq_base.specs.Lists.{all_differ, firsts}
use Rattle.hq_model.specs.Meta.{MetaTree}
use Rattle.hq_model.specs.Schema.{Schema, schema_of}
use Rattle.hq_model.specs.declared.table.Table.{Table}
use Rattle.hq_request_tree.specs.Allowed.{Allowed, allowed_to}
use Rattle.hq_request_tree.specs.Conditions.{FieldFits, PartFits}
use Rattle.hq_request_tree.specs.Everywhere.{Everywhere, FromRoot}
use Rattle.hq_request_tree.specs.IntrospectionTypes.{RootLooks, AnyField, AnyPart}
use Rattle.hq_request_tree.specs.Levels.{levels, field_levels}
use Rattle.hq_request_tree.specs.ResponseKeys.{keys_of, are_keys, FieldKeys, PartKeys}
use Rattle.hq_request_tree.specs.Standing.{StandsAtRoot, StandsBelow, PartStands}
use Rattle.hq_request_tree.specs.Touched.{tables_of, field_tables}
use Rattle.hq_request_tree.specs.TypeNames.{RootNamed, FieldNamed, PartNamed}
use Rattle.hq_request_tree.specs.Uses.{UsesHere, UsesPart}
use Rattle.hq_request_tree.specs.Fields.{FieldTrees, no_field, field, FieldTree, column, typename, no_queries, object, list, by_key, aggregate, introspect, PartTree}
use Rattle.hq_request_tree.specs.Request.{AskTree}
use Rattle.hq_request_tree.specs.Root.{is_table_field, table_fields}
use Rattle.hq_translation.specs.Asked.{TablesAsked}
use Rattle.hq_translation.proofs.FineConditions.{at_most}

-- ---- facts of all fields

module _ (F : ℕ → FieldTree → Type 0) (P : ℕ → PartTree → Type 0) (s : Schema) (t : ℕ) where
  pub everywhere_tables : (fs : FieldTrees) → Everywhere F P fs s t → Everywhere F P (table_fields fs) s t
  everywhere_tables no_field h = tt
  everywhere_tables (field key f fs) h =
      let by : (b : Bool) → Everywhere F P (cond b (field key f (table_fields fs)) (table_fields fs)) s t =
      elim [ true ↦ (h.0, h.1, everywhere_tables fs h.2) | false ↦ everywhere_tables fs h.2 ] in
      by (is_table_field f)

module _ (R : FieldTree → Type 0) (F : ℕ → FieldTree → Type 0) (P : ℕ → PartTree → Type 0) (s : Schema) (root : ℕ) where
  root_tables : (fs : FieldTrees) → FromRoot R F P fs s root → FromRoot R F P (table_fields fs) s root
  root_tables no_field h = tt
  root_tables (field key f fs) h =
      let by : (b : Bool) → FromRoot R F P (cond b (field key f (table_fields fs)) (table_fields fs)) s root =
      elim [ true ↦ (h.0, h.1, root_tables fs h.2) | false ↦ root_tables fs h.2 ] in
      by (is_table_field f)

-- ---- response keys

none_among : (k : List ℕ) (fs : FieldTrees) → list_any (bytes_eq k) (keys_of fs) ≡ false → list_any (bytes_eq k) (keys_of (table_fields fs)) ≡ false
none_among k no_field h = refl
none_among k (field key f fs) h =
    let split : (a : Bool) → bytes_eq k key ≡ a → list_any (bytes_eq k) (keys_of (table_fields (field key f fs))) ≡ false =
    elim [
      | true ↦ λ e.
          let here : list_any (bytes_eq k) (key ∷ keys_of fs) ≡ true = ap (λ c. c || list_any (bytes_eq k) (keys_of fs)) e in
          absurd (false≢true (sym h ∙ here))
      | false ↦ λ e.
          let gone : list_any (bytes_eq k) (key ∷ keys_of fs) ≡ list_any (bytes_eq k) (keys_of fs) = ap (λ c. c || list_any (bytes_eq k) (keys_of fs)) e in
          let later : list_any (bytes_eq k) (keys_of fs) ≡ false = sym gone ∙ h in
          let by : (b : Bool) → list_any (bytes_eq k) (keys_of (cond b (field key f (table_fields fs)) (table_fields fs))) ≡ false =
          elim [ true ↦ ap (λ c. c || list_any (bytes_eq k) (keys_of (table_fields fs))) e ∙ none_among k fs later | false ↦ none_among k fs later ] in
          by (is_table_field f)
    ] in
    split (bytes_eq k key) refl

negated : (b : Bool) → not b ≡ true → b ≡ false
negated true h = absurd (false≢true h)
negated false h = refl

differ_tables : (fs : FieldTrees) → all_differ bytes_eq (keys_of fs) ≡ true → all_differ bytes_eq (keys_of (table_fields fs)) ≡ true
differ_tables no_field h = refl
differ_tables (field key f fs) h =
    let parts = and_parts _ _ h in
    let apart : list_any (bytes_eq key) (keys_of (table_fields fs)) ≡ false = none_among key fs (negated _ parts.0) in
    let by : (b : Bool) → all_differ bytes_eq (keys_of (cond b (field key f (table_fields fs)) (table_fields fs))) ≡ true =
    elim [ true ↦ rw (apart, differ_tables fs parts.1) refl | false ↦ differ_tables fs parts.1 ] in
    by (is_table_field f)

fewer_keys : (fs : FieldTrees) → length (keys_of (table_fields fs)) ≤ length (keys_of fs)
fewer_keys no_field = omega arith
fewer_keys (field key f fs) =
    let later = fewer_keys fs in
    let by : (b : Bool) → length (keys_of (cond b (field key f (table_fields fs)) (table_fields fs))) ≤ length (keys_of (field key f fs)) =
    elim [ true ↦ omega (arith, later) | false ↦ omega (arith, later) ] in
    by (is_table_field f)

keys_tables : (fs : FieldTrees) → are_keys (keys_of fs) ≡ true → are_keys (keys_of (table_fields fs)) ≡ true
keys_tables fs h =
    let parts = and_parts _ _ h in
    let many = at_most (length (keys_of fs)) 50 parts.0 in
    let fewer = fewer_keys fs in
    let few : length (keys_of (table_fields fs)) ≤ 50 = omega (arith, many, fewer) in
    rw (le-leb (length (keys_of (table_fields fs))) 50 few, differ_tables fs parts.1) refl

-- ---- levels

levels_tables : (fs : FieldTrees) → levels (table_fields fs) ≤ levels fs
levels_tables no_field = omega arith
levels_tables (field key f fs) =
    let later = levels_tables fs in
    let x = le-max_left (field_levels f) (levels fs) in
    let y = le-max_right (field_levels f) (levels fs) in
    let rest : levels (table_fields fs) ≤ max (field_levels f) (levels fs) = omega (arith, later, y) in
    let by : (b : Bool) → levels (cond b (field key f (table_fields fs)) (table_fields fs)) ≤ max (field_levels f) (levels fs) =
    elim [ true ↦ max-le x rest | false ↦ rest ] in
    by (is_table_field f)

-- ---- touched tables: those of the fields that start at one

no_tables : (s : Schema) (root : ℕ) (f : FieldTree) → StandsAtRoot s f → is_table_field f ≡ false → field_tables f s root ≡ []
no_tables s root (column c) stand h = absurd stand
no_tables s root (typename name) stand h = refl
no_tables s root no_queries stand h = refl
no_tables s root (object r fs) stand h = absurd stand
no_tables s root (list o a fs) stand h = absurd (false≢true (sym h))
no_tables s root (by_key u key fs) stand h = absurd (false≢true (sym h))
no_tables s root (aggregate o a ps) stand h = absurd (false≢true (sym h))
no_tables s root (introspect x) stand h = refl

tables_tables : (s : Schema) (root : ℕ) (fs : FieldTrees) → FromRoot (StandsAtRoot s) (StandsBelow s) PartStands fs s root → tables_of (table_fields fs) s root ≡ tables_of fs s root
tables_tables s root no_field h = refl
tables_tables s root (field key f fs) h =
    let later = tables_tables s root fs h.2 in
    let by : (b : Bool) → is_table_field f ≡ b → tables_of (cond b (field key f (table_fields fs)) (table_fields fs)) s root ≡ field_tables f s root ++ tables_of fs s root =
    elim [ true ↦ λ e. ap (λ ts. field_tables f s root ++ ts) later | false ↦ λ e. rw (no_tables s root f h.0 e) later ] in
    by (is_table_field f) refl

-- ---- all of it

pub tables_asked : (tables : List Table) (m : MetaTree) (a : AskTree) → TablesAsked tables m a
tables_asked tables m a h =
    let s : Schema = schema_of tables m in
    let root : ℕ = length tables in
    let ok : Allowed = allowed_to a.role m s in
    let fewer = levels_tables a.fields in
    let shallow = h.shallow in
    record {
      uses = everywhere_tables (UsesHere s ok) (UsesPart ok) s root a.fields h.uses;
      stand = root_tables (StandsAtRoot s) (StandsBelow s) PartStands s root a.fields h.stand;
      fit = everywhere_tables (FieldFits s) (PartFits s) s root a.fields h.fit;
      keys = (keys_tables a.fields h.keys.0, everywhere_tables FieldKeys PartKeys s root a.fields h.keys.1);
      named = root_tables RootNamed (FieldNamed m) (PartNamed m) s root a.fields h.named;
      looks = root_tables RootLooks AnyField AnyPart s root a.fields h.looks;
      shallow = omega (arith, fewer, shallow);
      touched = h.touched ∙ ap (firsts (λ t u. t == u)) (sym (tables_tables s root a.fields h.stand));
      bound = h.bound;
    }
