-- What was written of the lines of connections.
use Rattle.std.proofs.Common.{◌≡◌, ◌≤◌, ◌+◌, ◌++◌, ℕ, suc, List, [], ◌∷◌, length, take, sym, ap, ◌∙◌, subst, arith, append_assoc, append-nil, length-append}
use Rattle.std.proofs.lemmas.List.{take-append-le, take_all}
use Rattle.std.specs.declared.option.Option.{Option}
use Rattle.std.specs.declared.result.Result.TheVariants.{Err}
use Rattle.std.specs.Io.KnownBytes.{Appends}
use Rattle.hq_io.specs.Streams.{AppendsPrefix}
use Rattle.hq_http.specs.declared.end.ConnEnd.{ConnEnd}
use Rattle.hq_http.proofs.Runs.{appends_both}
use Rattle.hq_serve.specs.declared.serving.ServeRefusal.{ServeRefusal}
use Rattle.hq_serve.specs.declared.serving.ServeRefusal.TheVariants as refusal
use Rattle.hq_serve.specs.Lines.{line_of, lines_from}
use Rattle.hq_serve.specs.Serving.{LinesBy, Wrote}

take_over : (xs ys : List ℕ) (n : ℕ) → take (length xs + n) (xs ++ ys) ≡ xs ++ take n ys
take_over [] ys n = ap (λ k. take k ys) (let e : 0 + n ≡ n = omega arith in e)
take_over (x ∷ xs) ys n =
    ap (λ k. take k (x ∷ (xs ++ ys))) (let e : length (x ∷ xs) + n ≡ suc (length xs + n) = omega arith in e) ∙ ap (λ w. x ∷ w) (take_over xs ys n)

-- one more line at the end
pub lines_more : (k : ℕ) (es : List ConnEnd) (e : ConnEnd) → lines_from k (es ++ e ∷ []) ≡ lines_from k es ++ line_of (k + length es) e
lines_more k [] e = append-nil (line_of k e) ∙ ap (λ n. line_of n e) (let e : k ≡ k + 0 = omega arith in e)
lines_more k (x ∷ es) e =
    ap (λ w. line_of k x ++ w) (lines_more (k + 1) es e ∙ ap (λ n. lines_from (k + 1) es ++ line_of n e) (let e : k + 1 + length es ≡ k + length (x ∷ es) = omega arith in e))
    ∙ sym (append_assoc (line_of k x) (lines_from (k + 1) es) (line_of (k + length (x ∷ es)) e))

pub lines_written : (n : ℕ) (es : List ConnEnd) (e : ConnEnd) (a b c : Option (List ℕ)) → length es ≡ n
    → Appends a b (lines_from 1 es) → Appends b c (line_of (n + 1) e) → Appends a c (lines_from 1 (es ++ e ∷ []))
lines_written n es e a b c long h k =
    let same : n + 1 ≡ 1 + length es = omega (arith, long) in
    subst (λ (w : List ℕ). Appends a c w) (sym (lines_more 1 es e)) (appends_both a b c _ _ h (subst (λ (m : ℕ). Appends b c (line_of m e)) same k))

prefix_written : (n : ℕ) (es : List ConnEnd) (e : ConnEnd) (a b c : Option (List ℕ)) → length es ≡ n
    → Appends a b (lines_from 1 es) → AppendsPrefix b c (line_of (n + 1) e) → AppendsPrefix a c (lines_from 1 (es ++ e ∷ []))
prefix_written n es e a b c long h (k, few, more) =
    let same : n + 1 ≡ 1 + length es = omega (arith, long) in
    let line = line_of (1 + length es) e in
    let piece : Appends b c (take k line) = subst (λ (m : ℕ). Appends b c (take k (line_of m e))) same more in
    let short : k ≤ length line = subst (λ (m : ℕ). k ≤ length (line_of m e)) same few in
    let whole : Appends a c (lines_from 1 es ++ take k line) = appends_both a b c _ _ h piece in
    subst (λ (w : List ℕ). AppendsPrefix a c w) (sym (lines_more 1 es e))
    (length (lines_from 1 es) + k, omega (arith, short, length-append (lines_from 1 es) line), subst (λ (w : List ℕ). Appends a c w) (sym (take_over (lines_from 1 es) line k)) whole)

take_front : (es : List ConnEnd) (e : ConnEnd) → take (length es) (es ++ e ∷ []) ≡ es
take_front es e = take-append-le (length es) es (e ∷ []) (omega arith) ∙ take_all (length es) es (omega arith)

-- what is written where a line is not written whole
pub line_failed : (n : ℕ) (es : List ConnEnd) (e : ConnEnd) (a b c : Option (List ℕ)) (r : ServeRefusal) → length es ≡ n
    → Appends a b (lines_from 1 es) → Wrote b c (line_of (n + 1) e) (Err r) → LinesBy a c (es ++ e ∷ []) (Err r)
line_failed n es e a b c refusal.DoorFailed long h w = absurd w
line_failed n es e a b c refusal.WriteFailed long h w = prefix_written n es e a b c long h w
line_failed n es e a b c refusal.Memory long h w =
    (length es, subst (λ (ends : List ConnEnd). Appends a c (lines_from 1 ends)) (sym (take_front es e)) (subst (λ (x : Option (List ℕ)). Appends a x (lines_from 1 es)) (sym w) h))
