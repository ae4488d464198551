-- What is collected of a document that nests at most 50 deep: the arguments of its fields nest no deeper, and the response keys of
-- each object are few and differ.
use Rattle.std.proofs.Common.{◌≡◌, refl, subst, ℕ, zero, suc, ◌≤◌, arith, List, [], ◌∷◌, ◌++◌, length, Bool, true, false, cond, nat_le, Option, Some, None, option_and_then, slice_get, bytes_eq}
use Rattle.std.proofs.lemmas.Bool.{and_parts, and_from}
use Rattle.hq_base.specs.Lists.{Each, all_differ}
use Rattle.hq_gql_nodes.specs.Fragments.{fragment_named}
use Rattle.hq_gql_tree.specs.Documents.{OperationTree, DefinitionTree, operation, fragment, DocumentTree}
use Rattle.hq_gql_tree.specs.Nesting.{arguments_nest, selection_nest, set_nest, selections_nest, definition_nest, document_nest}
use Rattle.hq_gql_tree.specs.Selections.{SelectionTree, field, inline, SelectionTrees, no_selection, selection, selections_in, FieldTree}
use Rattle.hq_request_coerce.specs.Choice.{operation_in, operation_at}
use Rattle.hq_request_collect.specs.Collect.{Request, collect, none}
use Rattle.hq_request_collect.specs.Fragments.{selections_at, fragment_selections}
use Rattle.hq_request_collect.specs.Groups.{Group, response_key, grouped, selections_under, merged}
use Rattle.hq_request_collect.specs.Keys.{keys_of, narrow_below, distinct_below}
use Rattle.hq_request_collect.specs.Tree.{CollectedTrees, no_collected, collected, fields_of, collected_down}
use Rattle.hq_request_collect.proofs.Kept.{collect_kept}
use Rattle.hq_request_tree.specs.ResponseKeys.{are_keys}
use Rattle.hq_laws_request.proofs.Formed.Items.{each_append, each_at}
use Rattle.hq_laws_request.proofs.Formed.Kept.{AreKept}
use Rattle.hq_laws_request.proofs.Formed.BuildingSteps.{and_then_some}

-- ---- selections that nest at most 50 deep

abbrev pub IsLow : SelectionTree → Type 0
IsLow s = selection_nest s ≤ 50

more_low : (ss : SelectionTrees) → selections_nest ss ≤ 50 → Each IsLow (selections_in ss)
more_low no_selection h = tt
more_low (selection s more) h = (omega (arith, h), more_low more (omega (arith, h)))

pub set_low : (ss : SelectionTrees) → set_nest ss ≤ 50 → Each IsLow (selections_in ss)
set_low no_selection h = tt
set_low (selection s more) h = (omega (arith, h), more_low more (omega (arith, h)))

definitions_low : (d : DocumentTree) → document_nest d ≤ 50 → Each (λ x. definition_nest x ≤ 50) d
definitions_low [] h = tt
definitions_low (x ∷ d) h = (omega (arith, h), definitions_low d (omega (arith, h)))

fragments_low : (d : DocumentTree) → document_nest d ≤ 50 → (name : List ℕ) → Each IsLow (fragment_selections d name)
fragments_low d h name = by (option_and_then (slice_get d) (fragment_named d name)) refl
  where
    inside : (x : DefinitionTree) → definition_nest x ≤ 50 → Each IsLow (selections_at (Some x))
    inside (operation o) h = tt
    inside (fragment f) h = set_low f.selections (omega (arith, h))

    by : (o : Option DefinitionTree) → option_and_then (slice_get d) (fragment_named d name) ≡ o → Each IsLow (selections_at o)
    by None is = tt
    by (Some x) is =
        let found = and_then_some (slice_get d) (fragment_named d name) x is in
        inside x (each_at (λ x. definition_nest x ≤ 50) d found.0 x found.2 (definitions_low d h))

-- those of an operation
pub operation_low : (d : DocumentTree) (op : ℕ) (o : OperationTree) → document_nest d ≤ 50 → operation_at d op ≡ Some o → Each IsLow (selections_in o.selections)
operation_low d op o h e =
    let found = and_then_some operation_in (slice_get d op) o e in
    inside found.0 (each_at (λ x. definition_nest x ≤ 50) d op found.0 found.1 (definitions_low d h)) found.2
  where
    inside : (x : DefinitionTree) → definition_nest x ≤ 50 → operation_in x ≡ Some o → Each IsLow (selections_in o.selections)
    inside (operation q) h e = let same : q ≡ o = cc in set_low o.selections (subst (λ (q : OperationTree). set_nest q.selections ≤ 50) same (omega (arith, h)))
    inside (fragment f) h e = cc

-- ---- groups of such fields

abbrev FieldLow : FieldTree → Type 0
FieldLow f = selection_nest (field f.0 f.1) ≤ 50

abbrev GroupLow : Group → Type 0
GroupLow g = FieldLow g.first × Each FieldLow g.others

grouped_low : (k : List ℕ) (f : FieldTree) (gs : List Group) → FieldLow f → Each GroupLow gs → Each GroupLow (grouped gs k f)
grouped_low k f [] low h = ((low, tt), tt)
grouped_low k f (g ∷ gs) low h =
    let go : (b : Bool) → Each GroupLow (cond b (record { key = g.key; first = g.first; others = g.others ++ f ∷ [] } ∷ gs) (g ∷ grouped gs k f)) =
    elim [ true ↦ ((h.0.0, each_append FieldLow g.others (f ∷ []) h.0.1 (low, tt)), h.1) | false ↦ (h.0, grouped_low k f gs low h.1) ] in
    go (bytes_eq k g.key)

under_low : (fs : List FieldTree) → Each FieldLow fs → Each IsLow (selections_under fs)
under_low [] h = tt
under_low (f ∷ fs) h = let here : selection_nest (field f.0 f.1) ≤ 50 = h.0 in each_append IsLow (selections_in f.1) (selections_under fs) (set_low f.1 (omega (arith, here))) (under_low fs h.1)

-- ---- collected fields

abbrev HeadsLow : CollectedTrees → Type 0
HeadsLow no_collected = Unit {0}
HeadsLow (collected key h below others) = (arguments_nest h.args ≤ 50) × HeadsLow below × HeadsLow others

module _ (r : Request) (shallow : document_nest r.document ≤ 50) where
  groups_low : (n : ℕ) (ss : List SelectionTree) → Each IsLow ss → Each GroupLow (collect n r ss none).groups
  groups_low n ss h =
      collect_kept (Each GroupLow) IsLow r (record {
        field_in = λ f gs q g. grouped_low (response_key f) f gs q g;
        inline_in = λ i below q. let low : selection_nest (inline i below) ≤ 50 = q in set_low below (omega (arith, low));
        spread_in = λ s q. fragments_low r.document shallow s.name;
      }) n ss none h tt

  fields_low : (inner : List SelectionTree → CollectedTrees) → ((ss : List SelectionTree) → Each IsLow ss → HeadsLow (inner ss)) → (gs : List Group) → Each GroupLow gs → HeadsLow (fields_of inner gs)
  fields_low inner each [] h = tt
  fields_low inner each (g ∷ gs) h =
      let first : selection_nest (field g.first.0 g.first.1) ≤ 50 = h.0.0 in
      (omega (arith, first), each (merged g) (under_low (g.first ∷ g.others) h.0), fields_low inner each gs h.1)

  down_low : (w n : ℕ) (ss : List SelectionTree) → Each IsLow ss → HeadsLow (collected_down w n r ss)
  unfolding collected_down
  down_low w zero ss h = tt
  down_low w (suc n) ss h = fields_low (collected_down w n r) (down_low w n) (collect w r ss none).groups (groups_low w ss h)

  pub heads_low : (ss : List SelectionTree) → Each IsLow ss → HeadsLow (collected_down 50 50 r ss)
  heads_low ss h = down_low 50 50 ss h

-- ---- all that is kept

keys_kept : (ks : List (List ℕ)) → nat_le (length ks) 50 ≡ true → all_differ bytes_eq ks ≡ true → are_keys ks ≡ true
keys_kept ks few differ = and_from (nat_le (length ks) 50) (all_differ bytes_eq ks) few differ

pub are_kept : (trees : CollectedTrees) → HeadsLow trees → narrow_below trees ≡ true → distinct_below trees ≡ true → AreKept trees
are_kept no_collected low narrow distinct = tt
are_kept (collected key h below others) low narrow distinct =
    let n = and_parts _ _ narrow in
    let nb = and_parts _ _ n.0 in
    let d = and_parts _ _ distinct in
    let db = and_parts _ _ d.0 in
    (low.0, keys_kept (keys_of below) nb.0 db.0, are_kept below low.1 nb.1 db.1, are_kept others low.2 n.1 d.1)
