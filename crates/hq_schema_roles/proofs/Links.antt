-- The relationships that a table shows lead to tables that stand in the schema.
use Rattle.std.proofs.Common.{◌≡◌, ◌∙◌, refl, sym, ap, ℕ, ◌+◌, List, [], ◌∷◌, ◌++◌, length, true, ◌==◌, Option, Some, None, append_assoc, length-append, subst}
use Rattle.std.specs.Prelude.{find, slice_get, nat_lt, IfSome}
use Rattle.std.proofs.lemmas.Bool.{eqb-true}
use Rattle.hq_base.specs.Lists.{Each}
use Rattle.hq_schema.specs.Parts.{part_offset}
use Rattle.hq_schema.specs.Schema.{TypeTree}
use Rattle.hq_schema.specs.declared.part.Part.{Part}
use Rattle.hq_schema.specs.declared.part.Part.TheVariants.{Aggregate}
use Rattle.hq_model.specs.declared.meta.Rel.{Rel}
use Rattle.hq_schema_of_role.specs.Placed.{link_to, link_among, links_from}
use Rattle.hq_schema_of_role.specs.declared.shown.PlacedTable.{PlacedTable}
use Rattle.hq_schema_of_role.specs.declared.shown.Link.{Link}
use Rattle.hq_schema_roles.specs.Access.{Access}
use Rattle.hq_schema_roles.proofs.Lists.{each_cons_option, found_each, get_seam}
use Rattle.hq_schema_roles.proofs.Permits.{Permits}
use Rattle.hq_schema_roles.proofs.Standing.{Stands, PartStands, has_four, has_aggregate_part}

-- a table that stands in the schema, and what it shows is permitted
pub record Sound (types : List TypeTree) (a : Access) (p : PlacedTable) : Type 0 where
  pub stands : Stands types p
  pub permits : Permits a p.shown

pub each_sound : (types : List TypeTree) (a : Access) (ps : List PlacedTable) → Each (Stands types) ps → Each (λ (p : PlacedTable). Permits a p.shown) ps → Each (Sound types a) ps
each_sound types a [] h g = tt
each_sound types a (p ∷ ps) h g = (record { stands = h.0; permits = g.0 }, each_sound types a ps h.1 g.1)

-- a relationship of a table
pub record LinkFits (types : List TypeTree) (a : Access) (t : ℕ) (l : Link) : Type 0 where
  pub target : Rel
  pub is : a.rel t l.rel ≡ Some target
  pub many : target.many ≡ l.many
  pub stands : (part : Part) → nat_lt (part_offset part) 4 ≡ true → PartStands types l.first target.remote part
  pub aggregates : l.aggregates ≡ true → (a.aggregates target.remote ≡ true) × PartStands types l.first target.remote Aggregate

module _ (types : List TypeTree) (a : Access) (ps : List PlacedTable) (sound : Each (Sound types a) ps) (t : ℕ) where
  linked : (n : ℕ) (r : Rel) (p : PlacedTable) → a.rel t n ≡ Some r → find (λ (q : PlacedTable). q.shown.table == r.remote) ps ≡ Some p → IfSome (link_to n r (Some p)) (LinkFits types a t)
  linked n r p here found =
      let both = found_each (Sound types a) (λ (q : PlacedTable). q.shown.table == r.remote) ps p found sound in
      let same : p.shown.table ≡ r.remote = eqb-true p.shown.table r.remote both.1 in
      let s : Sound types a p = both.0 in
      record {
        target = r;
        is = here;
        many = refl;
        stands = λ part early. subst (λ (u : ℕ). PartStands types p.first u part) same (s.stands (part_offset part) part (has_four p.shown part early));
        aggregates = λ allowed. (
          subst (λ (u : ℕ). a.aggregates u ≡ true) same (s.permits.aggregates allowed),
          subst (λ (u : ℕ). PartStands types p.first u Aggregate) same (s.stands 4 Aggregate (has_aggregate_part p.shown allowed)),
        );
      }

  link_fits : (n : ℕ) (r : Rel) → a.rel t n ≡ Some r → IfSome (link_among ps n r) (LinkFits types a t)
  link_fits n r here = by (find (λ (q : PlacedTable). q.shown.table == r.remote) ps) refl
    where
      by : (o : Option PlacedTable) → find (λ (q : PlacedTable). q.shown.table == r.remote) ps ≡ o → IfSome (link_to n r o) (LinkFits types a t)
      by None e = tt
      by (Some p) e = linked n r p here e

  links_fit_from : (front rs : List Rel) (n : ℕ) → length front ≡ n → ((i : ℕ) → a.rel t i ≡ slice_get (front ++ rs) i) → Each (LinkFits types a t) (links_from ps n rs)
  links_fit_from front [] n long rels = tt
  links_fit_from front (r ∷ rs) n long rels =
      let here : a.rel t n ≡ Some r = rels n ∙ (ap (slice_get (front ++ r ∷ rs)) (sym long) ∙ get_seam front r rs) in
      let long_next : length (front ++ r ∷ []) ≡ n + 1 = length-append front (r ∷ []) ∙ ap (λ k. k + 1) long in
      let rels_next : (i : ℕ) → a.rel t i ≡ slice_get ((front ++ r ∷ []) ++ rs) i = λ i. rels i ∙ ap (λ l. slice_get l i) (sym (append_assoc front (r ∷ []) rs)) in
      each_cons_option (LinkFits types a t) (link_among ps n r) (links_from ps (n + 1) rs) (link_fits n r here) (links_fit_from (front ++ r ∷ []) rs (n + 1) long_next rels_next)

  pub links_fit : (rs : List Rel) → ((i : ℕ) → a.rel t i ≡ slice_get rs i) → Each (LinkFits types a t) (links_from ps 0 rs)
  links_fit rs rels = links_fit_from [] rs 0 refl rels
