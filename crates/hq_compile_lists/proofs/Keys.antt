-- The row that a key looks up, put together from its parts.
use Rattle.std.proofs.Common.{◌≡◌, ◌∙◌, ℕ, List, [], ap, refl}
use Rattle.hq_base.specs.declared.value.Val.{Val}
use Rattle.hq_model.specs.Schema.{Schema, table}
use Rattle.hq_model.specs.declared.table.Column.{Column}
use Rattle.hq_sql_tree.specs.Tree.{PredTree}
use Rattle.hq_translation.specs.Conditions.{joined_by_and, with_member}
use Rattle.hq_translation.specs.Fields.{key_members}
use Rattle.hq_translation.specs.Looks.{Look}
use Rattle.hq_translation.specs.Masks.{shown_look, filter_predicate}
use Rattle.hq_translation.specs.GrantedTables.{GrantedTables}
use Rattle.hq_translation.specs.Selects.{filter_from}
use Rattle.hq_compile_tables.specs.Shown.{look_in, look_of}
use Rattle.hq_compile_tables.specs.declared.shown.MaskPlace.{MaskPlace}
use Rattle.hq_compile_tables.specs.declared.shown.Shown.{Shown}
use Rattle.hq_compile_tables.proofs.Looks.{shown_as}

-- the columns of a key at an alias of these columns, this number and these places
pub key_members_as : (x : Shown) (columns : List Column) (n : ℕ) (places : List MaskPlace) (key known : List ℕ) (vs : List Val)
    → x.columns.now ≡ columns → x.number ≡ n → x.places.now ≡ places → known ≡ key
    → key_members x.columns.now (look_of x) known vs ≡ key_members columns (look_in places columns n) key vs
key_members_as x columns n places key known vs c k p e =
    ap (λ (cs : List Column). key_members cs (look_of x) known vs) c ∙ ap (λ (look : Look). key_members columns look known vs) (shown_as x columns n places c k p)
    ∙ ap (λ (cs : List ℕ). key_members columns (look_in places columns n) cs vs) e

-- what the row meets, at its number: the key's columns as they are shown
pub keyed_at : (s : Schema) (g : GrantedTables) (t n m next : ℕ) (cs : List ℕ) (places : List MaskPlace) (vs : List Val) (ps : List PredTree)
    → ps ≡ with_member (joined_by_and (key_members (table s t).columns (look_in places (table s t).columns n) (table s t).key vs)) (with_member (filter_predicate s g t n m) [])
    → n ≡ next → look_in places (table s t).columns next ≡ shown_look s g t cs next → m ≡ filter_from s g t cs next
    → ps ≡ with_member (joined_by_and (key_members (table s t).columns (shown_look s g t cs next) (table s t).key vs)) (with_member (filter_predicate s g t next (filter_from s g t cs next)) [])
keyed_at s g t n m next cs places vs ps is n-is look-is m-is = rw (is, n-is, look-is, m-is) refl
