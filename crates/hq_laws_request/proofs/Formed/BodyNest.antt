-- Objects nest at most 127 deep in the JSON of a body.
use Rattle.std.proofs.Common.{◌≡◌, ℕ, suc, ◌≤◌, max, List, [], ◌∷◌, Bool, true, false, cond, Option, Some, None, Ok, Err, refl, subst, arith}
use Rattle.std.specs.Prelude.{ok_or}
use Rattle.std.specs.Str.{is_utf8}
use Rattle.serde_json.specs.Data as data_of
use Rattle.serde_json.specs.Data.{Data, Items, Members, depth, items_depth, members_depth}
use Rattle.serde_json.specs.Read.{read}
use Rattle.serde_json.specs.Find.{as_i64}
use Rattle.serde_json.proofs.Nesting.{depth-read}
use Rattle.hq_laws_request.specs.Formed.ObjectsNest.{objects_nest, elements_nest, members_nest}
use Rattle.hq_base.specs.Body.{value_of, elements_in, members_in, value_if, body_of, clean}
use Rattle.hq_base.specs.Due.{mapped, and_then}
use Rattle.hq_base.specs.Json as tree
use Rattle.hq_base.specs.Json.{JsonTree, elements_of, members_of}
use Rattle.hq_base.specs.declared.body.JsonRefusal.TheVariants.{NotJson, Fraction}
use Rattle.hq_laws_request.proofs.Formed.Steps.{mapped_ok, then_ok}

abbrev Shallow : JsonTree → ℕ → Type 0
Shallow j n = objects_nest j ≤ n

mutual
  -- a value nests no deeper than what serde_json holds
  value_nests : (d : Data) (j : JsonTree) → value_of d ≡ Ok j → Shallow j (depth d)
  value_nests data_of.null j h = let same : tree.null ≡ j = cc in subst (λ x. Shallow x 0) same (omega arith)
  value_nests (data_of.boolean b) j h = let same : tree.bool b ≡ j = cc in subst (λ x. Shallow x 0) same (omega arith)
  value_nests (data_of.number n) j h = let p = mapped_ok tree.int (ok_or (as_i64 n) Fraction) j h in subst (λ x. Shallow x 0) p.2 (omega arith)
  value_nests (data_of.string s) j h = let p = mapped_ok tree.str (clean s) j h in subst (λ x. Shallow x 0) p.2 (omega arith)
  value_nests (data_of.array ds) j h =
      let p = mapped_ok (λ js. tree.arr (elements_of js)) (elements_in ds) j h in
      let within = items_nest ds p.0 p.1 in
      subst (λ x. Shallow x (suc (items_depth ds))) p.2 (omega arith)
  value_nests (data_of.object ms) j h =
      let p = mapped_ok (λ js. tree.obj (members_of js)) (members_in ms) j h in
      let within = members_nests ms p.0 p.1 in
      subst (λ x. Shallow x (suc (members_depth ms))) p.2 (omega arith)

  items_nest : (ds : Items) (js : List JsonTree) → elements_in ds ≡ Ok js → elements_nest (elements_of js) ≤ items_depth ds
  items_nest data_of.no_items js h = let same : [] ≡ js = cc in subst (λ xs. elements_nest (elements_of xs) ≤ 0) same (omega arith)
  items_nest (data_of.item d ds) js h =
      let p = then_ok (λ j. mapped (λ xs. j ∷ xs) (elements_in ds)) (value_of d) js h in
      let q = mapped_ok (λ xs. p.0 ∷ xs) (elements_in ds) js p.2 in
      let first = value_nests d p.0 p.1 in
      let others = items_nest ds q.0 q.1 in
      subst (λ xs. elements_nest (elements_of xs) ≤ max (depth d) (items_depth ds)) q.2 (omega arith)

  members_nests : (ms : Members) (js : List (List ℕ × JsonTree)) → members_in ms ≡ Ok js → members_nest (members_of js) ≤ members_depth ms
  members_nests data_of.no_members js h = let same : [] ≡ js = cc in subst (λ xs. members_nest (members_of xs) ≤ 0) same (omega arith)
  members_nests (data_of.member k d ms) js h =
      let n = then_ok (λ name. and_then (λ j. mapped (λ xs. (name, j) ∷ xs) (members_in ms)) (value_of d)) (clean k) js h in
      let p = then_ok (λ j. mapped (λ xs. (n.0, j) ∷ xs) (members_in ms)) (value_of d) js n.2 in
      let q = mapped_ok (λ xs. (n.0, p.0) ∷ xs) (members_in ms) js p.2 in
      let first = value_nests d p.0 p.1 in
      let others = members_nests ms q.0 q.1 in
      subst (λ xs. members_nest (members_of xs) ≤ max (depth d) (members_depth ms)) q.2 (omega arith)

-- of what serde_json reads
read_nests : (o : Option Data) (j : JsonTree) → ((d : Data) → o ≡ Some d → depth d ≤ 127) → value_if o ≡ Ok j → Shallow j 127
read_nests None j within h = absurd cc
read_nests (Some d) j within h = let deep = within d refl in let shallow = value_nests d j h in omega arith

-- of a body
pub body_nests : (bytes : List ℕ) (j : JsonTree) → body_of bytes ≡ Ok j → Shallow j 127
body_nests bytes j h =
    let go : (b : Bool) → cond b (value_if (read bytes)) (Err NotJson) ≡ Ok j → Shallow j 127 =
    elim [ true ↦ λ e. read_nests (read bytes) j (depth-read bytes) e | false ↦ λ e. absurd cc ] in
    go (is_utf8 bytes) h
