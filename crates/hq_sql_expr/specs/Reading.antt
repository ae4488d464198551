-- Reading a text from left to right.
use Rattle.std.specs.Prelude.{ℕ, zero, suc, ◌+◌, ℤ, Bool, true, false, ◌&&◌, nat_lt, nat_le, ◌^◌, List, [], ◌∷◌, length, Option, Some, None, Result, Ok, Err, ◌==◌, bytes_eq, if◌then◌else◌}
use Rattle.std.specs.Prelude.{◌≡◌}
use Rattle.std.specs.Str.Parse.{digits_value, signed_digits_value}
use Rattle.std.specs.Fmt.{decimal, signed_decimal}
use Rattle.hq_sql_tree.specs.declared.expr.ColumnForm.{ColumnForm}
use Rattle.hq_sql_tree.specs.declared.expr.ColumnForm.TheVariants as form
use Rattle.hq_sql_tree.specs.declared.word.Word.{Word}
use Rattle.hq_sql_tree.specs.declared.word.Word.TheVariants as word
use Rattle.hq_base.specs.Aggregates.{all_aggregates}
use Rattle.hq_sql_tree.specs.Word.{word_text, aggregate_word}
use Rattle.hq_sql_tree.specs.Form.{is_text, is_bigint}
use Rattle.hq_sql_tree.specs.Tree as tree
use Rattle.hq_sql_tree.specs.Tree.{ExprTree, PairTree, OrderTree, OutTree, pairs_of, orders_of}
use Rattle.hq_sql_expr.specs.declared.head.Head.{Head}
use Rattle.hq_sql_expr.specs.declared.head.Head.TheVariants as head
use Rattle.hq_sql_expr.specs.declared.refusal.ReadRefusal.{ReadRefusal}
use Rattle.hq_sql_expr.specs.declared.refusal.ReadRefusal.TheVariants.{NotSql, Memory}

-- ---- readers

-- a reader gives a value and the bytes after it, or nothing
abbrev pub Reader : Type 0 → Type 0
Reader A = List ℕ → Option (A × List ℕ)

-- a function's answer, seen by view, is what the reader gives; memory may always run out
abbrev pub Refuses : {Y : Type 0} → ReadRefusal → Option Y → Type 0
Refuses Memory given = Unit {0}
Refuses NotSql given = given ≡ None

abbrev pub Reads : {X Y : Type 0} → (X → Y) → Result X ReadRefusal → Option Y → Type 0
Reads view (Ok x) given = given ≡ Some (view x)
Reads view (Err e) given = Refuses e given

infixl 10 ◌>>=◌
abbrev pub ◌>>=◌ : {A B : Type 0} → Option A → (A → Option B) → Option B
None >>= f = None
(Some x) >>= f = f x

abbrev pub nothing : {A : Type 0} → Reader A
nothing bytes = None

-- the reader one parenthesis further in, where one more may open
abbrev pub below : {A : Type 0} → (ℕ → Reader A) → ℕ → Reader A
below p zero = nothing
below p (suc d) = p d

-- what follows a word, or else the other way
abbrev pub choose : {A : Type 0} → Option (List ℕ) → (List ℕ → Option A) → Option A → Option A
choose None f other = other
choose (Some rest) f other = f rest

-- what is read first, or else the other way
abbrev pub first_of : {A B : Type 0} → Option A → (A → Option B) → Option B → Option B
first_of None f other = other
first_of (Some x) f other = f x

-- the bytes behind these
abbrev pub strip : List ℕ → List ℕ → Option (List ℕ)
strip [] bytes = Some bytes
strip (w ∷ ws) [] = None
strip (w ∷ ws) (b ∷ bytes) = if b == w then strip ws bytes else None

unfoldable pub after : Word → List ℕ → Option (List ℕ)
after w bytes = strip (word_text w) bytes

-- the first of these whose word stands here
abbrev pub first_word : {A : Type 0} → (A → Word) → List A → Reader A
first_word word_of [] bytes = None
first_word word_of (x ∷ xs) bytes = choose (after (word_of x) bytes) (λ rest. Some (x, rest)) (first_word word_of xs bytes)

-- one or more, with the word between each two, at most so many
unfoldable pub many : {A : Type 0} → Reader A → Word → ℕ → Reader (List A)
many item w zero bytes = None
many item w (suc n) bytes = item bytes >>= λ x. choose (after w x.1) (λ rest. many item w n rest >>= λ xs. Some (x.0 ∷ xs.0, xs.1)) (Some (x.0 ∷ [], x.1))

-- the same, as many as there are
abbrev pub all_many : {A : Type 0} → Reader A → Word → Reader (List A)
all_many item w bytes = many item w (length bytes + 1) bytes

-- ---- names, texts and numbers

abbrev pub with_first : ℕ → Option (List ℕ × List ℕ) → Option (List ℕ × List ℕ)
with_first b None = None
with_first b (Some x) = Some (b ∷ x.0, x.1)

-- up to a quote that stands once
unfoldable pub unquoted : (quote : ℕ) → Reader (List ℕ)
unquoted q [] = None
unquoted q (b ∷ []) = if b == q then Some ([], []) else None
unquoted q (b ∷ c ∷ bytes) = if b == q then (if c == q then with_first q (unquoted q bytes) else Some ([], c ∷ bytes)) else with_first b (unquoted q (c ∷ bytes))

unfoldable pub text_from : List ℕ → Option (List ℕ)
text_from bytes = if is_text bytes then Some bytes else None

unfoldable pub quoted_at : (quote : ℕ) → Reader (List ℕ)
quoted_at q bytes = do
  rest ← strip (q ∷ []) bytes
  t ← unquoted q rest
  v ← text_from t.0
  Some (v, t.1)

abbrev pub name_at : Reader (List ℕ)
name_at = quoted_at 34

-- a text literal
unfoldable pub text_at : Reader (List ℕ)
text_at bytes = do
  t ← quoted_at 39 bytes
  rest ← after word.AsText t.1
  Some (t.0, rest)

-- the whole number whose shortest decimal this is
unfoldable pub int_from : List ℕ → Option ℤ
int_from digits = let n = signed_digits_value 10 digits in if is_bigint n && bytes_eq digits (signed_decimal n) then Some n else None

-- a literal: a text, a uuid, or a whole number
unfoldable pub literal_at : Reader ExprTree
literal_at bytes = do
  t ← quoted_at 39 bytes
  choose (after word.AsText t.1) (λ rest. Some (tree.text t.0, rest)) (choose (after word.AsUuid t.1) (λ rest. Some (tree.uuid t.0, rest))
      (after word.AsBigint t.1 >>= λ rest. int_from t.0 >>= λ n. Some (tree.int n, rest)))

-- the digits at the front, and what follows them
abbrev pub is_digit : ℕ → Bool
is_digit b = nat_le 48 b && nat_le b 57

abbrev pub leading_digits : List ℕ → List ℕ
leading_digits [] = []
leading_digits (b ∷ bytes) = if is_digit b then b ∷ leading_digits bytes else []

abbrev pub after_digits : List ℕ → List ℕ
after_digits [] = []
after_digits (b ∷ bytes) = if is_digit b then after_digits bytes else b ∷ bytes

-- the number of 64 bits whose shortest decimal this is
unfoldable pub number_from : List ℕ → Option ℕ
number_from digits = let n = digits_value 10 digits in if nat_lt n (2 ^ 64) && bytes_eq digits (decimal n) then Some n else None

-- the number at the front
unfoldable pub number_at : Reader ℕ
number_at bytes = do
  t ← text_from (leading_digits bytes)
  n ← number_from t
  Some (n, after_digits bytes)

-- ---- expressions

-- what stands behind the name of a column
abbrev pub form_at : Reader ColumnForm
form_at bytes = choose (after word.Collate bytes) (λ rest. Some (form.Collated, rest)) (Some (form.Plain, bytes))

-- and of one that is written by its text
abbrev pub cast_form_at : Reader ColumnForm
cast_form_at bytes =
    choose (after word.CloseAsTextCollate bytes) (λ rest. Some (form.AsTextCollated, rest)) (after word.CloseAsText bytes >>= λ rest. Some (form.AsText, rest))

-- an alias, a name, and in which form they are a column
abbrev pub column_with : Reader ColumnForm → Reader ExprTree
column_with forms bytes = do
  a ← name_at bytes
  rest ← after word.Dot a.1
  n ← name_at rest
  f ← forms n.1
  Some (tree.column a.0 n.0 f.0, f.1)

unfoldable pub column_at : Reader ExprTree
column_at bytes = column_with form_at bytes

-- a column that is written by its text, behind the parenthesis before it
unfoldable pub cast_at : Reader ExprTree
cast_at bytes = column_with cast_form_at bytes

abbrev pub head_word : Head → Word
head_word head.Object = word.BuildObject
head_word head.CountAll = word.CountAll
head_word head.CountDistinct = word.CountDistinct
head_word head.Count = word.Count
head_word head.JsonAgg = word.JsonAgg
head_word (head.Take a) = aggregate_word a

-- what begins with this head, or else the other way
abbrev pub head_or : Head → List ℕ → Option (Head × List ℕ) → Option (Head × List ℕ)
head_or h bytes other = choose (after (head_word h) bytes) (λ rest. Some (h, rest)) other

unfoldable pub head_at : Reader Head
head_at bytes =
    head_or head.Object bytes (head_or head.CountAll bytes (head_or head.CountDistinct bytes (head_or head.Count bytes
    (head_or head.JsonAgg bytes (first_word aggregate_word all_aggregates bytes >>= λ a. Some (head.Take a.0, a.1))))))

unfoldable pub expr_with : (inside : Head → Reader ExprTree) → Reader ExprTree
expr_with inside bytes =
    choose (after word.True bytes) (λ rest. Some (tree.bool true, rest))
    (choose (after word.False bytes) (λ rest. Some (tree.bool false, rest))
    (choose (after word.TextQuote bytes) (λ rest. literal_at bytes)
    (choose (after word.NameQuote bytes) (λ rest. column_at bytes)
    (choose (after word.Open bytes) (λ rest. cast_at rest)
    (head_at bytes >>= λ h. inside h.0 h.1)))))

unfoldable pub pair_with : Reader ExprTree → Reader PairTree
pair_with expr bytes = do
  n ← text_at bytes
  rest ← after word.Comma n.1
  e ← expr rest
  Some (record { name = n.0; value = e.0 }, e.1)

-- the pairs of an object and its closing parenthesis
unfoldable pub pairs_with : Reader ExprTree → Reader ExprTree
pairs_with expr bytes = choose (after word.Close bytes) (λ rest. Some (tree.object tree.no_pair, rest)) (do
  ps ← all_many (pair_with expr) word.Comma bytes
  rest ← after word.Close ps.1
  Some (tree.object (pairs_of ps.0), rest))

-- the argument of an aggregate and its closing parenthesis
unfoldable pub argument_with : Reader ExprTree → Reader ExprTree
argument_with expr bytes = do
  e ← expr bytes
  rest ← after word.Close e.1
  Some (e.0, rest)

abbrev pub direction_or : Word → Bool × Bool → List ℕ → Option ((Bool × Bool) × List ℕ) → Option ((Bool × Bool) × List ℕ)
direction_or w direction bytes other = choose (after w bytes) (λ rest. Some (direction, rest)) other

-- whether descending, and whether NULLs stand first
unfoldable pub direction_at : Reader (Bool × Bool)
direction_at bytes =
    direction_or word.AscNullsFirst (false, true) bytes (direction_or word.AscNullsLast (false, false) bytes
    (direction_or word.DescNullsFirst (true, true) bytes (direction_or word.DescNullsLast (true, false) bytes None)))

unfoldable pub order_with : Reader ExprTree → Reader OrderTree
order_with expr bytes = do
  e ← expr bytes
  d ← direction_at e.1
  Some (record { value = e.0; desc = d.0.0; nulls_first = d.0.1 }, d.1)

-- the inside of json_agg, and what closes it
unfoldable pub ordered_with : Reader ExprTree → Reader ExprTree
ordered_with expr bytes = do
  e ← expr bytes
  rest ← after word.OrderBy e.1
  os ← all_many (order_with expr) word.Comma rest
  end ← after word.OrEmptyArray os.1
  Some (tree.aggregate (tree.json_agg e.0 (orders_of os.0)), end)

-- what follows a head
unfoldable pub inside_with : Reader ExprTree → (ordered : Reader ExprTree) → Head → Reader ExprTree
inside_with expr ordered head.Object bytes = pairs_with expr bytes
inside_with expr ordered head.CountAll bytes = Some (tree.aggregate tree.count_all, bytes)
inside_with expr ordered head.CountDistinct bytes = argument_with expr bytes >>= λ e. Some (tree.aggregate (tree.count e.0 true), e.1)
inside_with expr ordered head.Count bytes = argument_with expr bytes >>= λ e. Some (tree.aggregate (tree.count e.0 false), e.1)
inside_with expr ordered head.JsonAgg bytes = ordered bytes
inside_with expr ordered (head.Take a) bytes = argument_with expr bytes >>= λ e. Some (tree.aggregate (tree.take a e.0), e.1)

-- expressions that open at most so many parentheses at once
unfoldable mutual
  pub expr_at : ℕ → Reader ExprTree
  expr_at zero = expr_with (λ h. nothing)
  expr_at (suc d) = expr_with (inside_with (expr_at d) (ordered_at d))

  pub ordered_at : ℕ → Reader ExprTree
  ordered_at zero = nothing
  ordered_at (suc d) = ordered_with (expr_at d)

abbrev pub inside_at : Head → ℕ → Reader ExprTree
inside_at h d = inside_with (expr_at d) (ordered_at d) h

abbrev pub listed_at : ℕ → Reader ExprTree
listed_at d = ordered_with (expr_at d)

unfoldable pub out_with : Reader ExprTree → Reader OutTree
out_with expr bytes = do
  e ← expr bytes
  rest ← after word.As e.1
  n ← name_at rest
  Some (record { value = e.0; name = n.0 }, n.1)

-- expressions with commas between, and the word that closes them
unfoldable pub closed_exprs : Word → ℕ → Reader (List ExprTree)
closed_exprs close d bytes = do
  es ← all_many (expr_at d) word.Comma bytes
  rest ← after close es.1
  Some (es.0, rest)
