-- The response keys of collected fields differ, and fields stand at most as deep as there are levels.
use Rattle.std.proofs.Common.{◌≡◌, ◌∙◌, refl, sym, ap, ℕ, zero, suc, ◌≤◌, Bool, true, false, not, cond, List, [], ◌∷◌, ◌++◌, map, bytes_eq, arith}
use Rattle.std.specs.List.{list_any}
use Rattle.std.proofs.lemmas.Bool.{and_parts}
use Rattle.std.proofs.lemmas.Slice.Eq.{bytes_eq-Decides}
use Rattle.hq_base.specs.Lists.{Each, all_differ}
use Rattle.hq_base.proofs.Lists.{each_all}
use Rattle.hq_request_collect.specs.Collect.{Request, collect, none}
use Rattle.hq_request_collect.specs.Fragments.{fragment_selections}
use Rattle.hq_request_collect.specs.Groups.{Group, response_key, grouped, merged}
use Rattle.hq_request_collect.specs.Keys.{keys_of, distinct_below, is_distinct, levels_of}
use Rattle.hq_request_collect.specs.Tree.{CollectedTrees, fields_of, collected_down}
use Rattle.hq_request_collect.proofs.Kept.{collect_kept}
use Rattle.hq_gql_tree.specs.Selections.{SelectionTree, selections_in, FieldTree}

-- the keys of groups
abbrev keys : List Group → List (List ℕ)
keys gs = map (λ g. g.key) gs

abbrev KeysDiffer : List Group → Type 0
KeysDiffer gs = all_differ bytes_eq (keys gs) ≡ true

-- two names that differ do so the other way round
swapped : (x y : List ℕ) → bytes_eq x y ≡ false → bytes_eq y x ≡ false
swapped x y apart =
    let go : (b : Bool) → bytes_eq y x ≡ b → b ≡ false =
    elim [ true ↦ λ e. sym ((bytes_eq-Decides x y).1 (sym ((bytes_eq-Decides y x).0 e))) ∙ apart | false ↦ λ e. refl ] in
    go (bytes_eq y x) refl

-- a key that is none of those before, and not the new one, is none of those after
still_new : (x k : List ℕ) (f : FieldTree) (gs : List Group) → list_any (bytes_eq x) (keys gs) ≡ false → bytes_eq x k ≡ false
    → list_any (bytes_eq x) (keys (grouped gs k f)) ≡ false
still_new x k f [] among apart = rw apart refl
still_new x k f (g ∷ gs) among apart =
    let first : bytes_eq x g.key ≡ false = grind arith in
    let later : list_any (bytes_eq x) (keys gs) ≡ false = grind arith in
    let go : (b : Bool) → list_any (bytes_eq x) (keys (cond b (record { key = g.key; first = g.first; others = g.others ++ f ∷ [] } ∷ gs) (g ∷ grouped gs k f))) ≡ false =
    elim [ true ↦ among | false ↦ rw (first, still_new x k f gs later apart) refl ] in
    go (bytes_eq k g.key)

differ_with : (k : List ℕ) (f : FieldTree) (gs : List Group) → KeysDiffer gs → KeysDiffer (grouped gs k f)
differ_with k f [] d = refl
differ_with k f (g ∷ gs) d =
    let parts = and_parts (not (list_any (bytes_eq g.key) (keys gs))) (all_differ bytes_eq (keys gs)) d in
    let new : list_any (bytes_eq g.key) (keys gs) ≡ false = grind arith in
    let go : (b : Bool) → bytes_eq k g.key ≡ b → KeysDiffer (cond b (record { key = g.key; first = g.first; others = g.others ++ f ∷ [] } ∷ gs) (g ∷ grouped gs k f)) =
    elim [ true ↦ λ e. d | false ↦ λ e. rw (still_new g.key k f gs new (swapped k g.key e), differ_with k f gs parts.1) refl ] in
    go (bytes_eq k g.key) refl

-- nothing is asked of a selection
abbrev Any : SelectionTree → Type 0
Any s = Unit {0}

any_each : (ss : List SelectionTree) → Each Any ss
any_each ss = each_all Any (λ s. tt) ss

-- the keys of what is collected differ
collect_differ : (n : ℕ) (r : Request) (ss : List SelectionTree) → KeysDiffer (collect n r ss none).groups
collect_differ n r ss =
    collect_kept KeysDiffer Any r (record {
      field_in = λ f gs q d. differ_with (response_key f) f gs d;
      inline_in = λ h below q. any_each (selections_in below);
      spread_in = λ s q. any_each (fragment_selections r.document s.name);
    }) n ss none (any_each ss) refl

-- the keys of the fields of groups
keys_kept : (inner : List SelectionTree → CollectedTrees) (gs : List Group) → keys_of (fields_of inner gs) ≡ keys gs
keys_kept inner [] = refl
keys_kept inner (g ∷ gs) = ap (λ ks. g.key ∷ ks) (keys_kept inner gs)

below_distinct : (inner : List SelectionTree → CollectedTrees) → ((ss : List SelectionTree) → is_distinct (inner ss) ≡ true) → (gs : List Group)
    → distinct_below (fields_of inner gs) ≡ true
below_distinct inner each [] = refl
below_distinct inner each (g ∷ gs) = rw (each (merged g), below_distinct inner each gs) refl

-- in each object the keys differ
pub down_distinct : (w n : ℕ) (r : Request) (ss : List SelectionTree) → is_distinct (collected_down w n r ss) ≡ true
unfolding collected_down
down_distinct w zero r ss = refl
down_distinct w (suc n) r ss =
    let gs : List Group = (collect w r ss none).groups in
    let inner : List SelectionTree → CollectedTrees = collected_down w n r in
    rw (ap (all_differ bytes_eq) (keys_kept inner gs) ∙ collect_differ w r ss, below_distinct inner (down_distinct w n r) gs) refl

fields_levels : (n : ℕ) (inner : List SelectionTree → CollectedTrees) → ((ss : List SelectionTree) → levels_of (inner ss) ≤ n) → (gs : List Group)
    → levels_of (fields_of inner gs) ≤ suc n
fields_levels n inner each [] = omega arith
fields_levels n inner each (g ∷ gs) = omega (arith, each (merged g), fields_levels n inner each gs)

-- fields stand no deeper than there are levels
pub down_levels : (w n : ℕ) (r : Request) (ss : List SelectionTree) → levels_of (collected_down w n r ss) ≤ n
unfolding collected_down
down_levels w zero r ss = omega arith
down_levels w (suc n) r ss = fields_levels n (collected_down w n r) (down_levels w n r) (collect w r ss none).groups
