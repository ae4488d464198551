use Rattle.std.proofs.Common.{◌≡◌, ◌∙◌, sym, ap, map, bytes_eq}
use Rattle.std.specs.Prelude.{find, position}
use Rattle.hq_schema.specs.Sorted.{name_at}
use Rattle.hq_schema.proofs.FirstPlace.{ascends_by_name, first_by_name}
use Rattle.hq_schema.proofs.Lists.{position-map}
use Rattle.hq_schema.proofs.named.NamedList.place.Goals as goal

pub first_at-requires : goal.first_at-requires
first_at-requires g c =
    rw (c.deref.ensures.value, c.deref-2.ensures.value, c.self.invariant) (ascends_by_name (map g.T.Named.name_of c.self.inside.items.items))

pub returns : goal.returns
returns g c =
    let name_of = g.T.Named.name_of in
    let name = c.args.name.now in
    let items = c.self.inside.items.items in
    let found : find (λ i. bytes_eq (name_at (map name_of c.deref.result.now) i) name) c.deref-2.result.now ≡ position (λ n. bytes_eq n name) (map name_of items) =
    rw (c.deref.ensures.value, c.deref-2.ensures.value, c.self.invariant) (first_by_name (map name_of items) name)
    in
    c.first_at.ensures ∙ (found ∙ (sym (position-map (λ n. bytes_eq n name) name_of items) ∙ ap (position (λ x. bytes_eq (name_of x) name)) c.self.view_is))
