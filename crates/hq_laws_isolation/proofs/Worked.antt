-- Two databases that user 2 of the blog cannot tell apart, and what each gives.
use Rattle.std.specs.Prelude.{◌≡◌, ℕ, List, [], ◌∷◌, true, false, codes, refl}
use Rattle.std.specs.Fmt.{digits}
use Rattle.hq_base.specs.Compact.{compact, escaped}
use Rattle.hq_base.specs.declared.value.Val.TheVariants as val
use Rattle.hq_model.specs.Database.{Row}
use Rattle.hq_model.specs.Grants.{Grants, limits}
use Rattle.hq_model.specs.View.{Agree, view}
use Rattle.hq_request_tree.specs.Fields.{FieldTrees}
use Rattle.hq_request_tree.proofs.Blog.{number, database, schema, user_2, reader, given, given_over, plain}
use Rattle.hq_request_tree.proofs.Worked.{by, home, listed}
use Rattle.hq_laws_isolation.specs.Laws.{resolved_in}

-- other e-mails, another order of the file, and another title and author of the article that user 2 may not see
abbrev other : List (List Row)
other =
    ((number 2 ∷ val.Text (codes "Bob") ∷ val.Null ∷ [])
    ∷ (number 1 ∷ val.Text (codes "Ann") ∷ val.Text (codes "a@x") ∷ [])
    ∷ (number 3 ∷ val.Text (codes "O'Hara") ∷ val.Text (codes "o@x") ∷ []) ∷ [])
    ∷ ((number 13 ∷ val.Null ∷ val.Text (codes "D") ∷ val.Bool true ∷ number 7 ∷ [])
    ∷ (number 11 ∷ number 3 ∷ val.Text (codes "Z") ∷ val.Bool false ∷ number 9 ∷ [])
    ∷ (number 12 ∷ number 2 ∷ val.Text (codes "C") ∷ val.Bool true ∷ number 5 ∷ [])
    ∷ (number 10 ∷ number 1 ∷ val.Text (codes "A") ∷ val.Bool true ∷ number 5 ∷ []) ∷ [])
    ∷ []

agree_for_2 : Agree schema user_2 database other
agree_for_2 = refl

-- the compact text of what a request gives over the view of grants
abbrev given_in_view : List (List Row) → Grants → FieldTrees → List ℕ
given_in_view d g fs = compact (resolved_in fs schema (limits g) (view schema g d))

-- the articles by rating, the greatest first
abbrev by_rating : FieldTrees
by_rating = listed (record plain { sorts = by 4 true true ∷ [] })

by_rating_over_other : given_over other user_2 by_rating ≡ codes "{\"article\":[{\"id\":13},{\"id\":10},{\"id\":12}]}"
unfolding digits escaped
by_rating_over_other = refl

by_rating_in_view : given_in_view other user_2 by_rating ≡ codes "{\"article\":[{\"id\":13},{\"id\":10},{\"id\":12}]}"
unfolding digits escaped
by_rating_in_view = refl

home_over_both : given_over other user_2 home ≡ given user_2 home
unfolding digits escaped
home_over_both = refl

home_in_view : given_in_view database user_2 home ≡ given user_2 home
unfolding digits escaped
home_in_view = refl

-- a reader sees the rating of every article, and can tell them apart
told_apart : given_over other reader by_rating ≡ codes "{\"article\":[{\"id\":11},{\"id\":13}]}"
unfolding digits escaped
told_apart = refl
