-- The generated rows: authors and articles are numbered from 1, and there are four articles for each author.
use Rattle.std.specs.Prelude.{ℕ, zero, suc, ◌+◌, ◌*◌, ◌%◌, ◌==◌, pos, List, [], ◌∷◌, ◌++◌, Bool, codes, if◌then◌else◌}
use Rattle.std.specs.Fmt.{decimal}
use Rattle.hq_base.specs.declared.value.Val.{Val}
use Rattle.hq_base.specs.declared.value.Val.TheVariants as val
use Rattle.hq_model.specs.Database.{Row}

abbrev pub number : ℕ → Val
number n = val.Int (pos n)

-- NULL, or this value
abbrev pub or_null : (is_null : Bool) → Val → Val
or_null is_null value = if is_null then val.Null else value

-- an author's name: `a`, and digits that differ much from one author to the next
abbrev pub author_name : (i : ℕ) → List ℕ
author_name i = codes "a" ++ decimal ((i * 7920) % 1000000)

-- an author's address: each third has none
abbrev pub email : (i : ℕ) → Val
email i = or_null ((i % 3) == 0) (val.Text ((codes "e" ++ decimal i) ++ codes "@x"))

-- id, name, email
abbrev pub author_row : (i : ℕ) → Row
author_row i = number i ∷ val.Text (author_name i) ∷ email i ∷ []

-- the author of an article among so many: each seventh has none
abbrev pub author_of : (authors i : ℕ) → Val
author_of authors i = or_null ((i % 7) == 0) (number ((i * 31) % authors + 1))

-- its rating: each fifth has none
abbrev pub rating : (i : ℕ) → Val
rating i = or_null ((i % 5) == 0) (number (i % 10))

-- id, author_id, title, published, rating
abbrev pub article_row : (authors i : ℕ) → Row
article_row authors i = number i ∷ author_of authors i ∷ val.Text (codes "t" ++ decimal i) ∷ val.Bool ((i % 2) == 0) ∷ rating i ∷ []

-- the rows from 1 on, so many
abbrev pub rows_to : (row : ℕ → Row) → (count : ℕ) → List Row
rows_to row zero = []
rows_to row (suc count) = rows_to row count ++ row (suc count) ∷ []

-- the rows of both tables
abbrev pub rows : (authors : ℕ) → List (List Row)
rows authors = rows_to author_row authors ∷ rows_to (article_row authors) (4 * authors) ∷ []
