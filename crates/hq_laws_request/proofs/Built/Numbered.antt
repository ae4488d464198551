-- The selection sets of a document stand at their numbers.
use Rattle.std.proofs.Common.{◌≡◌, ◌∙◌, refl, sym, ap, subst, ℕ, zero, suc, ◌+◌, arith, List, [], ◌∷◌, ◌++◌, length, length-append, append_assoc, Option, Some, slice_get}
use Rattle.hq_schema.specs.Schema.{SchemaTree}
use Rattle.hq_gql_tree.specs.Documents.{DefinitionTree, DocumentTree}
use Rattle.hq_gql_tree.specs.Selections.{SelectionTree, field, spread, inline, SelectionTrees, no_selection, selection}
use Rattle.hq_gql_nodes.specs.Fragments.{Places, fragment_named}
use Rattle.hq_gql_nodes.specs.Known.{below_field}
use Rattle.hq_gql_nodes.specs.Nodes.{below_inline}
use Rattle.hq_overlap_sets.specs.Sets.{SetTree, field_count_of, field_count, set_of, inner_sets_of, inner_sets, parent_of, selections_of_definition, roots, below_roots, document_sets}

-- these items stand in a list from a number on
pub record IsAt {A : Type 0} (all : List A) (n : ℕ) (xs : List A) : Type 0 where
  pub front : List A
  pub back : List A
  pub count : length front ≡ n
  pub is : all ≡ front ++ (xs ++ back)

pub at_front : {A : Type 0} (all : List A) (n : ℕ) (xs ys : List A) → IsAt all n (xs ++ ys) → IsAt all n xs
at_front all n xs ys a = record { front = a.front; back = ys ++ a.back; count = a.count; is = a.is ∙ ap (λ zs. a.front ++ zs) (append_assoc xs ys a.back) }

pub at_back : {A : Type 0} (all : List A) (n k : ℕ) (xs ys : List A) → length xs ≡ k → IsAt all n (xs ++ ys) → IsAt all (n + k) ys
at_back all n k xs ys long a = record {
  front = a.front ++ xs;
  back = a.back;
  count = (let both : length (a.front ++ xs) ≡ length a.front + length xs = length-append a.front xs in let c : length a.front ≡ n = a.count in omega (arith, both, c, long));
  is = a.is ∙ (ap (λ zs. a.front ++ zs) (append_assoc xs ys a.back) ∙ sym (append_assoc a.front xs (ys ++ a.back)));
}

get_behind : {A : Type 0} (front : List A) (x : A) (back : List A) → slice_get (front ++ (x ∷ back)) (length front) ≡ Some x
get_behind [] x back = refl
get_behind (y ∷ front) x back = get_behind front x back

pub at_one : {A : Type 0} (all : List A) (n : ℕ) (x : A) → IsAt all n (x ∷ []) → slice_get all n ≡ Some x
at_one {A = A} all n x a = subst (λ (ys : List A). slice_get ys n ≡ Some x) (sym a.is) (subst (λ (k : ℕ). slice_get (a.front ++ (x ∷ a.back)) k ≡ Some x) a.count (get_behind a.front x a.back))

-- as many sets stand within selections as they have fields
mutual
  pub count_of : (s : SchemaTree) (places : Places) (n : ℕ) (parent : Option ℕ) (x : SelectionTree) → length (inner_sets_of s places n parent x) ≡ field_count_of x
  count_of s places n parent (field h below) =
      let inner : length (inner_sets s places n (below_field s parent h.name) below) ≡ field_count below = counts_of s places n (below_field s parent h.name) below in
      let both : length (inner_sets s places n (below_field s parent h.name) below ++ (set_of s places n (below_field s parent h.name) below ∷ [])) ≡ length
      (inner_sets s places n (below_field s parent h.name) below) + 1 =
      length-append (inner_sets s places n (below_field s parent h.name) below) (set_of s places n (below_field s parent h.name) below ∷ []) in
      omega (arith, inner, both)
  count_of s places n parent (spread x) = refl
  count_of s places n parent (inline h below) = counts_of s places n (below_inline s parent h.cond) below

  pub counts_of : (s : SchemaTree) (places : Places) (n : ℕ) (parent : Option ℕ) (xs : SelectionTrees) → length (inner_sets s places n parent xs) ≡ field_count xs
  counts_of s places n parent no_selection = refl
  counts_of s places n parent (selection x more) =
      let one : length (inner_sets_of s places n parent x) ≡ field_count_of x = count_of s places n parent x in
      let rest : length (inner_sets s places (n + field_count_of x) parent more) ≡ field_count more = counts_of s places (n + field_count_of x) parent more in
      let both : length (inner_sets_of s places n parent x ++ inner_sets s places (n + field_count_of x) parent more) ≡ length (inner_sets_of s places n parent x) + length
      (inner_sets s places (n + field_count_of x) parent more) =
      length-append (inner_sets_of s places n parent x) (inner_sets s places (n + field_count_of x) parent more) in
      omega (arith, one, rest, both)

-- ---- the sets of definitions

abbrev own_set : SchemaTree → Places → ℕ → DefinitionTree → SetTree
own_set s places n x = set_of s places n (parent_of s x) (selections_of_definition x)

abbrev own_inner : SchemaTree → Places → ℕ → DefinitionTree → List SetTree
own_inner s places n x = inner_sets s places n (parent_of s x) (selections_of_definition x)

-- the set of a definition at a place, and those below its fields, from a number on
pub record DefinitionAt (s : SchemaTree) (places : Places) (all : List SetTree) (i : ℕ) (x : DefinitionTree) : Type 0 where
  pub number : ℕ
  pub set : slice_get all i ≡ Some (own_set s places number x)
  pub inner : IsAt all number (own_inner s places number x)

record RootAt (s : SchemaTree) (places : Places) (n : ℕ) (d : DocumentTree) (i : ℕ) (x : DefinitionTree) : Type 0 where
  number : ℕ
  set : slice_get (roots s places n d) i ≡ Some (own_set s places number x)
  front : List SetTree
  back : List SetTree
  count : n + length front ≡ number
  is : below_roots s places n d ≡ front ++ (own_inner s places number x ++ back)

root_at : (s : SchemaTree) (places : Places) (n : ℕ) (d : DocumentTree) (i : ℕ) (x : DefinitionTree) → slice_get d i ≡ Some x → RootAt s places n d i x
root_at s places n [] i x e = absurd cc
root_at s places n (y ∷ d) zero x e =
    let same : y ≡ x = cc in
    subst (RootAt s places n (y ∷ d) zero) same (record {
      number = n;
      set = refl;
      front = [];
      back = below_roots s places (n + field_count (selections_of_definition y)) d;
      count = omega arith;
      is = refl;
    })
root_at s places n (y ∷ d) (suc i) x e =
    let r = root_at s places (n + field_count (selections_of_definition y)) d i x e in
    let mine : List SetTree = own_inner s places n y in
    let long : length mine ≡ field_count (selections_of_definition y) = counts_of s places n (parent_of s y) (selections_of_definition y) in
    let both : length (mine ++ r.front) ≡ length mine + length r.front = length-append mine r.front in
    let c : (n + field_count (selections_of_definition y)) + length r.front ≡ r.number = r.count in
    record {
      number = r.number;
      set = r.set;
      front = mine ++ r.front;
      back = r.back;
      count = omega (arith, long, both, c);
      is = ap (λ zs. mine ++ zs) r.is ∙ sym (append_assoc mine r.front (own_inner s places r.number x ++ r.back));
    }

roots_count : (s : SchemaTree) (places : Places) (n : ℕ) (d : DocumentTree) → length (roots s places n d) ≡ length d
roots_count s places n [] = refl
roots_count s places n (x ∷ d) = ap suc (roots_count s places (n + field_count (selections_of_definition x)) d)

get_front : {A : Type 0} (xs ys : List A) (i : ℕ) (x : A) → slice_get xs i ≡ Some x → slice_get (xs ++ ys) i ≡ Some x
get_front [] ys i x e = absurd cc
get_front (y ∷ xs) ys zero x e = e
get_front (y ∷ xs) ys (suc i) x e = get_front xs ys i x e

-- each definition of a document
pub definition_at : (s : SchemaTree) (d : DocumentTree) (i : ℕ) (x : DefinitionTree) → slice_get d i ≡ Some x → DefinitionAt s (fragment_named d) (document_sets s d) i x
definition_at s d i x e =
    let places : Places = fragment_named d in
    let r = root_at s places (length d) d i x e in
    let tops : List SetTree = roots s places (length d) d in
    let long : length tops ≡ length d = roots_count s places (length d) d in
    let both : length (tops ++ r.front) ≡ length tops + length r.front = length-append tops r.front in
    let c : length d + length r.front ≡ r.number = r.count in
    record {
      number = r.number;
      set = get_front tops (below_roots s places (length d) d) i (own_set s places r.number x) r.set;
      inner = record {
        front = tops ++ r.front;
        back = r.back;
        count = omega (arith, long, both, c);
        is = ap (λ zs. tops ++ zs) r.is ∙ sym (append_assoc tops r.front (own_inner s places r.number x ++ r.back));
      };
    }
