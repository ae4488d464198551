use Rattle.std.proofs.Common.{◌≡◌, ◌∙◌, ap, sym, refl, ℕ, List, Bool, true, false, cond, Option, Some, None, bytes_eq}
use Rattle.std.specs.Prelude.{is_some}
use Rattle.std.specs.Option.{option_or}
use Rattle.std.specs.Bool.{Decides}
use Rattle.std.proofs.lemmas.Slice.Eq.{bytes_eq-Decides}
use Rattle.std.proofs.lemmas.Map.Text.{hash_map_updates_str}
use Rattle.hq_gql_nodes.specs.Names.{get_name}
use Rattle.hq_gql_nodes.proofs.Lists.{option_or_none}
use Rattle.hq_gql_nodes.proofs.names.note_first.Goals as goal

-- what a name has that equals another
same_of : (b : Bool) (xs ys : List ℕ) → Decides b (xs ≡ ys) → b ≡ true → xs ≡ ys
same_of b xs ys h e = h.0 e

nothing : {A : Type 0} (o : Option A) → is_some o ≡ false → o ≡ None
nothing None h = refl
nothing (Some x) h = absurd (cc)

kept : {A : Type 0} (o last : Option A) → is_some o ≡ true → o ≡ option_or o last
kept None last h = absurd (cc)
kept (Some x) last h = refl

-- a name that was not noted
new_name : (look : List ℕ → Option ℕ) (name q : List ℕ) (at : ℕ) → is_some (look name) ≡ false → (b : Bool) → bytes_eq name q ≡ b
    → cond b (Some at) (look q) ≡ option_or (look q) (cond b (Some at) None)
new_name look name q at none true e =
    let absent : look q ≡ None = ap look (sym (same_of (bytes_eq name q) name q (bytes_eq-Decides name q) e)) ∙ nothing (look name) none in
    sym (ap (λ o. option_or o (Some at)) absent)
new_name look name q at none false e = sym (option_or_none (look q))

-- a name that was noted
old_name : (look : List ℕ → Option ℕ) (name q : List ℕ) (at : ℕ) → is_some (look name) ≡ true → (b : Bool) → bytes_eq name q ≡ b
    → look q ≡ option_or (look q) (cond b (Some at) None)
old_name look name q at some true e =
    kept (look q) (Some at) (ap (λ x. is_some (look x)) (sym (same_of (bytes_eq name q) name q (bytes_eq-Decides name q) e)) ∙ some)
old_name look name q at some false e = sym (option_or_none (look q))

pub returns-in_ok-insert : goal.returns-in_ok-insert
returns-in_ok-insert c = λ q.
    hash_map_updates_str c.args.name.now c.args.places.now c.insert.new.self _ c.in_ok-insert.ensures.updates q
    ∙ new_name (get_name c.args.places.now) c.args.name.now q c.args.at (sym c.if-not-contains_key.ensures) (bytes_eq c.args.name.now q) refl

pub returns-else-not-contains_key : goal.returns-else-not-contains_key
returns-else-not-contains_key c = λ q.
    old_name (get_name c.args.places.now) c.args.name.now q c.args.at (sym c.if-not-contains_key.ensures) (bytes_eq c.args.name.now q) refl
