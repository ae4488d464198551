-- Lists of fields, spreads and sets that grow by one more selection, and by one more definition.
use Rattle.std.proofs.Common.{◌≡◌, ℕ, zero, suc, ◌+◌, ◌≤◌, Option, List, [], ◌∷◌, ◌++◌, drop, length, sym, refl, ap, ◌∙◌, arith}
use Rattle.hq_schema.specs.Schema.{SchemaTree}
use Rattle.hq_gql_tree.specs.Selections.{SelectionTree, SelectionTrees, selection}
use Rattle.hq_gql_tree.specs.Documents.{DefinitionTree, DocumentTree}
use Rattle.hq_gql_nodes.specs.Fragments.{Places}
use Rattle.hq_overlap_sets.specs.Sets.{FieldTree, SetTree, field_count_of, field_count, own_fields_of, own_fields, inner_sets_of, inner_sets, set_of, parent_of, selections_of_definition, roots, below_roots}
pub use Rattle.hq_base.proofs.Loops.{next_item as drop_first}

pub nothing_more : {X : Type 0} (xs : List X) → xs ++ [] ≡ xs
nothing_more [] = refl
nothing_more (x ∷ xs) = ap (λ ys. x ∷ ys) (nothing_more xs)

pub join_assoc : {X : Type 0} (xs ys zs : List X) → (xs ++ ys) ++ zs ≡ xs ++ (ys ++ zs)
join_assoc [] ys zs = refl
join_assoc (x ∷ xs) ys zs = ap (λ ws. x ∷ ws) (join_assoc xs ys zs)

pub drop_end : {X : Type 0} (xs : List X) (i : ℕ) → length xs ≤ i → drop i xs ≡ []
drop_end [] zero h = refl
drop_end [] (suc i) h = refl
drop_end (y ∷ ys) zero h = absurd (omega arith)
drop_end (y ∷ ys) (suc i) h = drop_end ys i (omega arith)

-- what a list gives so far, what one more element gives, and what the rest gives
pub grown_by : {X : Type 0} (old new here more all : List X) → new ≡ old ++ here → old ++ (here ++ more) ≡ all → new ++ more ≡ all
grown_by {X} old new here more all h k = ap (λ (xs : List X). xs ++ more) h ∙ (join_assoc old here more ∙ k)

-- at the end
pub grown_whole : {X : Type 0} (old all : List X) → old ++ [] ≡ all → old ≡ all
grown_whole old all h = sym (nothing_more old) ∙ h

-- the numbers of the sets below the selections behind one
module _ (s : SchemaTree) (places : Places) (first n m : ℕ) (x : SelectionTree) (e : m ≡ n + field_count_of x) where
  number_behind : first + n + field_count_of x ≡ first + m
  number_behind = omega arith

  pub count_more : (more : SelectionTrees) (all : ℕ) → n + field_count (selection x more) ≡ all → m + field_count more ≡ all
  count_more more all h = let k : n + (field_count_of x + field_count more) ≡ all = h in omega arith

  pub fields_more : (parent : Option ℕ) (more : SelectionTrees) (old new all : List FieldTree) → new ≡ old ++ own_fields_of s (first + n) parent x
      → old ++ own_fields s (first + n) parent (selection x more) ≡ all → new ++ own_fields s (first + m) parent more ≡ all
  fields_more parent more old new all h k =
      ap (λ j. new ++ own_fields s j parent more) (sym number_behind)
      ∙ grown_by old new (own_fields_of s (first + n) parent x) (own_fields s (first + n + field_count_of x) parent more) all h k

  pub sets_more : (parent : Option ℕ) (more : SelectionTrees) (old new all : List SetTree) → new ≡ old ++ inner_sets_of s places (first + n) parent x
      → old ++ inner_sets s places (first + n) parent (selection x more) ≡ all → new ++ inner_sets s places (first + m) parent more ≡ all
  sets_more parent more old new all h k =
      ap (λ j. new ++ inner_sets s places j parent more) (sym number_behind)
      ∙ grown_by old new (inner_sets_of s places (first + n) parent x) (inner_sets s places (first + n + field_count_of x) parent more) all h k

-- the same by definitions
module _ (s : SchemaTree) (places : Places) (first n m : ℕ) (x : DefinitionTree) (d : DocumentTree) (e : m ≡ n + field_count (selections_of_definition x)) where
  definition_behind : first + n + field_count (selections_of_definition x) ≡ first + m
  definition_behind = omega arith

  pub roots_more : (old new all : List SetTree) → new ≡ old ++ (set_of s places (first + n) (parent_of s x) (selections_of_definition x) ∷ [])
      → old ++ roots s places (first + n) (x ∷ d) ≡ all → new ++ roots s places (first + m) d ≡ all
  roots_more old new all h k =
      ap (λ j. new ++ roots s places j d) (sym definition_behind)
      ∙ grown_by old new (set_of s places (first + n) (parent_of s x) (selections_of_definition x) ∷ []) (roots s places (first + n + field_count (selections_of_definition x)) d) all h k

  pub below_roots_more : (old new all : List SetTree) → new ≡ old ++ inner_sets s places (first + n) (parent_of s x) (selections_of_definition x)
      → old ++ below_roots s places (first + n) (x ∷ d) ≡ all → new ++ below_roots s places (first + m) d ≡ all
  below_roots_more old new all h k =
      ap (λ j. new ++ below_roots s places j d) (sym definition_behind)
      ∙ grown_by old new (inner_sets s places (first + n) (parent_of s x) (selections_of_definition x)) (below_roots s places (first + n + field_count (selections_of_definition x)) d) all h k
