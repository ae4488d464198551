-- The texts of objects at the rows of a table.
use Rattle.std.proofs.Common.{◌≡◌, ◌<◌, ◌≤◌, ◌+◌, ℕ, List, [], ◌∷◌, ◌++◌, map, get_or, length, take, false, cond, Option, None, Some, bytes_eq, append_assoc, refl, sym, ap, ap₂, ◌∙◌, arith}
use Rattle.std.specs.List.{join_with_byte}
use Rattle.std.proofs.lemmas.Bool.{or_parts}
use Rattle.std.proofs.lemmas.List.{take_more, map-append}
use Rattle.hq_base.specs.Cells.{CellTree, json_of}
use Rattle.hq_base.specs.Compact.{compact, quoted}
use Rattle.hq_model.specs.declared.table.Column.{Column}
use Rattle.hq_sql_conjuncts.specs.Weight.{total, expr_weight, pair_weight}
use Rattle.hq_sql_conjuncts.proofs.Splits.{total_append}
use Rattle.hq_sql_conjuncts.proofs.Weights.{pair_is as pair_weighs}
use Rattle.hq_sql_scans.specs.Links.{IsOwn}
use Rattle.hq_sql_tree.specs.Tree.{ExprTree, PairTree, JoinTrees, no_join, join, joins_of, object, pairs_of}
use Rattle.hq_sql_tree.specs.View.{expr_view, join_view, pair_view}
use Rattle.hq_sql_tree.specs.declared.expr.ExprPair.{ExprPair}
use Rattle.hq_sql_tree.specs.Meaning.{NamedRow, Scope as Names, World, rows_of, value, with_alias}
use Rattle.hq_sql_access.specs.Equations.{is_joined}
use Rattle.hq_sql_access.specs.View.{beside, first_row, joined_view, row_in}
use Rattle.hq_sql_access.specs.declared.place.JoinedRow.{JoinedRow}
use Rattle.hq_sql_output.specs.Elements.{AreMembers, AreSteady, IsContent, IsObject, IsSteady, member_text, member_weight, content_weight, element_text, row_text}
use Rattle.hq_sql_output.specs.Placed.{names_in}
use Rattle.hq_sql_output.specs.TableRows.{IsTable, values_at}
use Rattle.hq_sql_output.specs.Texts.{pair_text, text_of}
use Rattle.hq_sql_output.specs.declared.elements.Content.{Content}
use Rattle.hq_sql_output.specs.declared.elements.Content.TheVariants as content
use Rattle.hq_sql_output.specs.declared.elements.Element.{Element}
use Rattle.hq_sql_output.specs.declared.elements.Member.{Member}
use Rattle.hq_sql_output.specs.declared.elements.TableObject.{TableObject}
use Rattle.hq_sql_output.specs.declared.places.Placed.{Placed}
use Rattle.hq_sql_output.proofs.Groups.{same}
use Rattle.hq_sql_output.proofs.Objects.{object_text, pair_is}

-- ---- members

-- a column
pub column_is : (columns : List Column) (alias : List ℕ) (e : ExprTree) (at : ℕ) → IsOwn columns alias e at → IsContent columns alias e (content.Column at)
column_is columns alias e at own = record { text = λ row m here. ap (λ c. compact (json_of c)) (own.cell row m here) }

-- a constant
pub constant_is : (columns : List Column) (alias : List ℕ) (e : ExprTree) (c : CellTree) (text : List ℕ)
    → ((m : Names) → value e [] m ≡ c) → text ≡ compact (json_of c) → IsContent columns alias e (content.Constant text)
constant_is columns alias e c text is spelled = record { text = λ row m here. ap (λ x. compact (json_of x)) (is m) ∙ sym spelled }

-- no members
pub no_members : (columns : List Column) (alias : List ℕ) → AreMembers columns alias [] []
no_members columns alias = record { texts = λ row m here. refl }

-- one more
pub more_members : (columns : List Column) (alias : List ℕ) (pairs : List ExprPair) (i : ℕ) (pair : ExprPair) (ms : List Member) (one : Member)
    → i < length pairs → pair ≡ get_or pairs i pair → AreMembers columns alias (map pair_view (take i pairs)) ms
    → IsContent columns alias (expr_view pair.value) one.content → one.head ≡ quoted pair.name ++ 58 ∷ []
    → AreMembers columns alias (map pair_view (take (i + 1) pairs)) (ms ++ one ∷ [])
more_members columns alias pairs i pair ms one lt is so_far what head =
    record {
      texts = λ row m here.
          let T = pair_text [] m in
          let text : List ℕ = text_of (expr_view pair.value) m in
          let last : T (pair_view pair) ≡ member_text row m one =
          ap T (pair_is pair) ∙ sym (append_assoc (quoted pair.name) (58 ∷ []) text) ∙ ap₂ (λ h t. h ++ t) (sym head) (what.text row m here) in
          ap (λ ps. map T (map pair_view ps)) (take_more pairs i pair lt)
          ∙ ap (map T) (map-append pair_view (take i pairs) (get_or pairs i pair ∷ []))
          ∙ map-append T (map pair_view (take i pairs)) (pair_view (get_or pairs i pair) ∷ [])
          ∙ ap₂ (λ ts t. ts ++ t ∷ []) (so_far.texts row m here) (ap (λ q. T (pair_view q)) (sym is) ∙ last)
          ∙ sym (map-append (member_text row m) ms (one ∷ []));
    }

-- the weights of more members
pub more_weight : (pairs : List ExprPair) (i : ℕ) (pair : ExprPair) (ms : List Member) (one : Member)
    → i < length pairs → pair ≡ get_or pairs i pair → total (map member_weight ms) ≤ total (map pair_weight (take i pairs))
    → content_weight one.content ≤ expr_weight pair.value
    → total (map member_weight (ms ++ one ∷ [])) ≤ total (map pair_weight (take (i + 1) pairs))
more_weight pairs i pair ms one lt is so_far what =
    let left : total (map member_weight (ms ++ one ∷ [])) ≡ total (map member_weight ms) + (content_weight one.content + 0) =
    ap total (map-append member_weight ms (one ∷ [])) ∙ total_append (map member_weight ms) (content_weight one.content ∷ []) in
    let right : total (map pair_weight (take (i + 1) pairs)) ≡ total (map pair_weight (take i pairs)) + (pair_weight (get_or pairs i pair) + 0) =
    ap (λ ps. total (map pair_weight ps)) (take_more pairs i pair lt) ∙ ap total (map-append pair_weight (take i pairs) (get_or pairs i pair ∷ []))
    ∙ total_append (map pair_weight (take i pairs)) (pair_weight (get_or pairs i pair) ∷ []) in
    let weighs : pair_weight (get_or pairs i pair) ≡ expr_weight pair.value = ap pair_weight (sym is) ∙ pair_weighs pair in
    omega arith

-- one more that needs no scope
pub more_steady : (ms : List Member) (i : ℕ) (one : Member) → i < length ms → one ≡ get_or ms i one → AreSteady (take i ms) → IsSteady one.content → AreSteady (take (i + 1) ms)
more_steady ms i one lt is so_far steady row x y =
    let taken : (n : Names) → map (member_text row n) (take (i + 1) ms) ≡ map (member_text row n) (take i ms) ++ member_text row n one ∷ [] =
    λ n. ap (map (member_text row n)) (take_more ms i one lt) ∙ map-append (member_text row n) (take i ms) (get_or ms i one ∷ [])
    ∙ ap (λ q. map (member_text row n) (take i ms) ++ member_text row n q ∷ []) (sym is) in
    taken x ∙ ap₂ (λ ts t. ts ++ (one.head ++ t) ∷ []) (so_far row x y) (steady row x y) ∙ sym (taken y)

-- ---- objects

-- joins of other aliases leave an alias as it is
beside_keeps : (js : JoinTrees) (w : World) (n : Names) (rows : List (Option NamedRow)) (alias : List ℕ) → is_joined js alias ≡ false → beside js w n rows alias ≡ n alias
beside_keeps no_join w n rows alias h = refl
beside_keeps (join s a js) w n rows alias h =
    let apart = or_parts (bytes_eq a alias) (is_joined js alias) h in
    let next : (r : NamedRow) (rest : List (Option NamedRow)) → beside js w (with_alias n a r) rest alias ≡ n alias =
    λ r rest. beside_keeps js w (with_alias n a r) rest alias apart.1 ∙ ap (λ b. cond b r (n alias)) apart.0 in
    let go : (rest : List (Option NamedRow)) → beside (join s a js) w n rest alias ≡ n alias =
    elim [
      | [] ↦ next (first_row (rows_of s w n)) []
      | (None ∷ rest) ↦ next (first_row (rows_of s w n)) rest
      | (Some r ∷ rest) ↦ next r rest
    ] in
    go rows

-- the row of FROM at a place
here_is : (placed : Placed) (w : World) (n : Names) (place : JoinedRow) → is_joined (joins_of (map join_view placed.joins.now)) placed.alias.now ≡ false
    → names_in placed w n place placed.alias.now ≡ row_in placed.source place.position
here_is placed w n place apart =
    let row = row_in placed.source place.position in
    beside_keeps (joins_of (map join_view placed.joins.now)) w (with_alias n placed.alias.now row) (joined_view place.joined) placed.alias.now apart
    ∙ ap (λ b. cond b row (n placed.alias.now)) (same placed.alias.now)

-- an object at the rows of a table
pub object_is : (e : ExprTree) (ps : List PairTree) (placed : Placed) (o : TableObject) → e ≡ object (pairs_of ps)
    → is_joined (joins_of (map join_view placed.joins.now)) placed.alias.now ≡ false
    → IsTable placed.source o.table → AreMembers o.table.columns.now placed.alias.now ps o.members.items → IsObject e placed o
object_is e ps placed o is apart table members =
    record {
      text = λ w n place.
          let m = names_in placed w n place in
          let row = values_at o.table place.position in
          object_text e ps [] m is
          ∙ ap (λ ts. 123 ∷ (join_with_byte 44 ts ++ 125 ∷ [])) (members.texts row m (here_is placed w n place apart ∙ table.row place.position));
    }

-- what is written of it at several places
pub element_texts : (e : ExprTree) (placed : Placed) (o : TableObject) (el : Element) (w : World) (n : Names) (places : List JoinedRow) → IsObject e placed o
    → ((position : ℕ) (names : Names) → element_text el position names ≡ row_text o position names)
    → map (λ p. element_text el p.position (names_in placed w n p)) places ≡ map (text_of e) (map (names_in placed w n) places)
element_texts e placed o el w n [] is same = refl
element_texts e placed o el w n (p ∷ ps) is same =
    ap₂ (λ t ts. t ∷ ts) (same p.position (names_in placed w n p) ∙ sym (is.text w n p)) (element_texts e placed o el w n ps is same)
