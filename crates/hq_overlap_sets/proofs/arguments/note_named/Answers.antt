-- A value is noted where none of its name is.
use Rattle.std.proofs.Common.{◌∙◌, ap, sym, refl, bytes_eq, Some}
use Rattle.std.specs.Prelude.{option_map}
use Rattle.std.specs.Borrow.{Bor}
use Rattle.std.proofs.lemmas.Map.Text.{hash_map_updates_str}
use Rattle.hq_gql_tree.specs.declared.value.Value.{Value}
use Rattle.hq_gql_tree.specs.Values.{value_view}
use Rattle.hq_gql_nodes.specs.Names.{get_name}
use Rattle.hq_overlap_sets.specs.Literals.{bare}
use Rattle.hq_overlap_sets.proofs.Noted.{new_name, old_name}
use Rattle.hq_overlap_sets.proofs.arguments.note_named.Goals as goal

pub returns-in_ok-insert : goal.returns-in_ok-insert
returns-in_ok-insert c = λ q.
    let f = λ (v : Bor Value). bare (value_view v.now) in
    ap (option_map f) (hash_map_updates_str c.args.name.now c.args.values.now c.insert.new.self (Some c.args.value) c.in_ok-insert.ensures.updates q)
    ∙ new_name f (get_name c.args.values.now) c.args.name.now q c.args.value (sym c.if-not-contains_key.ensures) (bytes_eq c.args.name.now q) refl

pub returns-else-not-contains_key : goal.returns-else-not-contains_key
returns-else-not-contains_key c = λ q.
    let f = λ (v : Bor Value). bare (value_view v.now) in
    old_name f (get_name c.args.values.now) c.args.name.now q c.args.value (sym c.if-not-contains_key.ensures) (bytes_eq c.args.name.now q) refl
