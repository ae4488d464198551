-- The members of a filter's object, read in order.
use Rattle.std.proofs.Common.{◌≡◌, ◌∙◌, refl, sym, ap, ℕ, ◌+◌, ◌<◌, List, [], ◌∷◌, ◌++◌, map, length, drop, get_or, cond, Result, Ok, Err, append_assoc}
use Rattle.std.specs.Prelude.{bytes_eq, codes}
use Rattle.std.proofs.lemmas.List.{drop_more}
use Rattle.hq_base.specs.Due.{and_then, mapped}
use Rattle.hq_base.specs.Json.{JsonTree, json_view, member_view, members_of, member}
use Rattle.hq_base.specs.Path.{member_path}
use Rattle.hq_base.specs.declared.json.Member.{Member}
use Rattle.hq_base.proofs.Looks.{view-Member}
use Rattle.hq_model.specs.Bexp.{BexpTree}
use Rattle.hq_model.specs.Meta.{MetaTree}
use Rattle.hq_model.specs.declared.table.Table.{Table}
use Rattle.hq_load_filter.specs.declared.refusal.FilterRefusal.{FilterRefusal}
use Rattle.hq_load_filter.specs.Filter.{filter_due, members_due, where_due, written}

-- the members from a place on
abbrev from : List Table → MetaTree → ℕ → List ℕ → List Member → Result (List BexpTree) FilterRefusal
from tables d t path ms = members_due (members_of (map member_view ms)) tables d t path

-- the first member, and then the rest
first : (tables : List Table) (d : MetaTree) (t : ℕ) (path : List ℕ) (m : Member) (ms : List Member)
    → from tables d t path (m ∷ ms)
    ≡ and_then (λ b. mapped (λ bs. b ∷ bs) (from tables d t path ms))
    (written tables d t (member_path path m.name) m.name (json_view m.value))
first tables d t path m ms = ap (λ (p : List ℕ × JsonTree). members_due (member p.0 p.1 (members_of (map member_view ms))) tables d t path) (view-Member m)

-- the member at a place, and then those behind it
at_place : (tables : List Table) (d : MetaTree) (t : ℕ) (path : List ℕ) (ms : List Member) (i : ℕ) (m : Member) → i < length ms
    → m ≡ get_or ms i m
    → from tables d t path (drop i ms)
    ≡ and_then (λ b. mapped (λ bs. b ∷ bs) (from tables d t path (drop (i + 1) ms)))
    (written tables d t (member_path path m.name) m.name (json_view m.value))
at_place tables d t path ms i m below is =
    ap (from tables d t path) (drop_more ms i m below ∙ ap (λ x. x ∷ drop (i + 1) ms) (sym is)) ∙ first tables d t path m (drop (i + 1) ms)

-- the value before the rest, and both behind what is done
pub grown : {B E : Type 0} (done : List B) (y : B) (rest : Result (List B) E) → mapped (λ ys. done ++ ys) (mapped (λ ys. y ∷ ys) rest) ≡ mapped (λ ys. (done ++ y ∷ []) ++ ys) rest
grown done y (Ok ys) = ap Ok (sym (append_assoc done (y ∷ []) ys))
grown done y (Err e) = refl

-- a member is read, and the loop goes on behind it
pub members_more : (tables : List Table) (d : MetaTree) (t : ℕ) (path p : List ℕ) (ms : List Member) (i : ℕ) (m : Member)
    (done more : List BexpTree) (b : BexpTree) (whole : Result (List BexpTree) FilterRefusal)
    → whole ≡ mapped (λ bs. done ++ bs) (from tables d t path (drop i ms)) → i < length ms → m ≡ get_or ms i m → p ≡ member_path path m.name
    → written tables d t p m.name (json_view m.value) ≡ Ok b → more ≡ done ++ b ∷ []
    → whole ≡ mapped (λ bs. more ++ bs) (from tables d t path (drop (i + 1) ms))
members_more tables d t path p ms i m done more b whole so_far below is here given grows =
    let rest : Result (List BexpTree) FilterRefusal = from tables d t path (drop (i + 1) ms) in
    so_far
    ∙ ap (mapped (λ bs. done ++ bs))
    (at_place tables d t path ms i m below is
    ∙ ap (and_then (λ x. mapped (λ bs. x ∷ bs) rest)) (ap (λ q. written tables d t q m.name (json_view m.value)) (sym here) ∙ given))
    ∙ grown done b rest
    ∙ ap (λ front. mapped (λ bs. front ++ bs) rest) (sym grows)

-- a member is refused, and so the whole
pub members_refused : (tables : List Table) (d : MetaTree) (t : ℕ) (path p : List ℕ) (ms : List Member) (i : ℕ) (m : Member)
    (done : List BexpTree) (e : FilterRefusal) (whole : Result (List BexpTree) FilterRefusal)
    → whole ≡ mapped (λ bs. done ++ bs) (from tables d t path (drop i ms)) → i < length ms → m ≡ get_or ms i m → p ≡ member_path path m.name
    → written tables d t p m.name (json_view m.value) ≡ Err e → whole ≡ Err e
members_refused tables d t path p ms i m done e whole so_far below is here given =
    so_far
    ∙ ap (mapped (λ bs. done ++ bs))
    (at_place tables d t path ms i m below is
    ∙ ap (and_then (λ x. mapped (λ bs. x ∷ bs) (from tables d t path (drop (i + 1) ms))))
    (ap (λ q. written tables d t q m.name (json_view m.value)) (sym here) ∙ given))

-- ---- the member `_where`

-- what is left has the member, or else there is none
abbrev pub where_in : List Table → MetaTree → ℕ → (here : List ℕ) → List Member → Result BexpTree FilterRefusal
where_in tables d t here ms = where_due (members_of (map member_view ms)) tables d t here

where_first : (tables : List Table) (d : MetaTree) (t : ℕ) (here : List ℕ) (m : Member) (ms : List Member)
    → where_in tables d t here (m ∷ ms)
    ≡ cond (bytes_eq m.name (codes "_where")) (filter_due (json_view m.value) tables d t here) (where_in tables d t here ms)
where_first tables d t here m ms = ap (λ (p : List ℕ × JsonTree). where_due (member p.0 p.1 (members_of (map member_view ms))) tables d t here) (view-Member m)

pub where_at : (tables : List Table) (d : MetaTree) (t : ℕ) (here : List ℕ) (ms : List Member) (i : ℕ) (m : Member) → i < length ms
    → m ≡ get_or ms i m
    → where_in tables d t here (drop i ms)
    ≡ cond (bytes_eq m.name (codes "_where")) (filter_due (json_view m.value) tables d t here) (where_in tables d t here (drop (i + 1) ms))
where_at tables d t here ms i m below is =
    ap (where_in tables d t here) (drop_more ms i m below ∙ ap (λ x. x ∷ drop (i + 1) ms) (sym is)) ∙ where_first tables d t here m (drop (i + 1) ms)
