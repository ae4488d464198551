-- What is written at each row of a FROM: an expression, or an object whose members are columns of a table by their numbers,
-- constants, and other expressions.
use Rattle.std.specs.Prelude.{◌≡◌, ◌+◌, ℕ, List, [], ◌∷◌, ◌++◌, map}
use Rattle.std.specs.List.{join_with_byte}
use Rattle.hq_base.specs.Cells.{json_of}
use Rattle.hq_base.specs.Compact.{compact}
use Rattle.hq_model.specs.Database.{Row}
use Rattle.hq_model.specs.declared.table.Column.{Column}
use Rattle.hq_load_index.specs.Keys.{cell_in}
use Rattle.hq_sql_conjuncts.specs.Weight.{total, expr_weight}
use Rattle.hq_sql_tree.specs.Tree.{ExprTree, PairTree}
use Rattle.hq_sql_tree.specs.View.{expr_view}
use Rattle.hq_sql_tree.specs.Meaning.{Scope as Names, World, named_row, nothing}
use Rattle.hq_sql_access.specs.declared.pinned.Pinned.{Pinned}
use Rattle.hq_sql_access.specs.declared.scope.Scope.{Scope}
use Rattle.hq_sql_access.specs.declared.place.JoinedRow.{JoinedRow}
use Rattle.hq_sql_output.specs.Placed.{names_in, names_there}
use Rattle.hq_sql_output.specs.TableRows.{values_at}
use Rattle.hq_sql_output.specs.Texts.{pair_text, text_of}
use Rattle.hq_sql_output.specs.declared.elements.Content.{Content}
use Rattle.hq_sql_output.specs.declared.elements.Content.TheVariants as content
use Rattle.hq_sql_output.specs.declared.elements.Element.{Element}
use Rattle.hq_sql_output.specs.declared.elements.Element.TheVariants as element
use Rattle.hq_sql_output.specs.declared.elements.Member.{Member}
use Rattle.hq_sql_output.specs.declared.elements.TableObject.{TableObject}
use Rattle.hq_sql_output.specs.declared.places.Placed.{Placed}

-- the text of a member's value at a row and in a scope: the cell in its column, its constant, or the value of its expression
abbrev pub content_text : Content → Row → Names → List ℕ
content_text (content.Column at) row names = compact (json_of (cell_in row at))
content_text (content.Constant text) row names = text
content_text (content.Other e) row names = text_of (expr_view e.now) names

-- of a member: its name in quotes with a colon, and its value
abbrev pub member_text : Row → Names → Member → List ℕ
member_text row names m = m.head ++ content_text m.content row names

-- of the members, with commas between
abbrev pub members_text : List Member → Row → Names → List ℕ
members_text ms row names = join_with_byte 44 (map (member_text row names) ms)

-- of an object at a place
abbrev pub row_text : TableObject → (position : ℕ) → Names → List ℕ
row_text o position names = 123 ∷ (members_text o.members.items (values_at o.table position) names ++ 125 ∷ [])

-- of what is written: a plain object needs no scope
abbrev pub element_text : Element → (position : ℕ) → Names → List ℕ
element_text (element.Whole e) position names = text_of (expr_view e.now) names
element_text (element.Plain o) position names = row_text o.now position nothing
element_text (element.Object o) position names = row_text o.now position names

-- of what is written at a place
abbrev pub text_at : Element → Placed → Pinned → Scope → JoinedRow → List ℕ
text_at el placed world scope place = element_text el place.position (names_there placed world scope place)

-- an expression has this text wherever the alias is a row of the table
pub record IsContent (columns : List Column) (alias : List ℕ) (e : ExprTree) (c : Content) : Type 0 where
  pub text : (row : Row) (names : Names) → names alias ≡ named_row columns row → text_of e names ≡ content_text c row names

-- the pairs of an object are these members wherever the alias is a row of the table
pub record AreMembers (columns : List Column) (alias : List ℕ) (ps : List PairTree) (ms : List Member) : Type 0 where
  pub texts : (row : Row) (names : Names) → names alias ≡ named_row columns row → map (pair_text [] names) ps ≡ map (member_text row names) ms

-- an expression at the places of a FROM is this object
pub record IsObject (e : ExprTree) (placed : Placed) (o : TableObject) : Type 0 where
  pub text : (w : World) (n : Names) (place : JoinedRow) → text_of e (names_in placed w n place) ≡ row_text o place.position (names_in placed w n place)

-- a member's value is the same in each scope
abbrev pub IsSteady : Content → Type 0
IsSteady c = (row : Row) (x y : Names) → content_text c row x ≡ content_text c row y

-- so are the members
abbrev pub AreSteady : List Member → Type 0
AreSteady ms = (row : Row) (x y : Names) → map (member_text row x) ms ≡ map (member_text row y) ms

-- how much there is to evaluate
abbrev pub content_weight : Content → ℕ
content_weight (content.Column at) = 0
content_weight (content.Constant text) = 0
content_weight (content.Other e) = expr_weight e.now

abbrev pub member_weight : Member → ℕ
member_weight m = content_weight m.content

abbrev pub object_weight : TableObject → ℕ
object_weight o = 2 + total (map member_weight o.members.items)

abbrev pub element_weight : Element → ℕ
element_weight (element.Whole e) = expr_weight e.now
element_weight (element.Plain o) = object_weight o.now
element_weight (element.Object o) = object_weight o.now
