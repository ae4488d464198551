-- What was written of the lines of talks.
use Rattle.std.proofs.Common.{◌≡◌, ◌≤◌, ◌+◌, ◌++◌, ℕ, suc, List, [], ◌∷◌, length, take, sym, ap, ◌∙◌, subst, arith, append_assoc, append-nil, length-append}
use Rattle.std.proofs.lemmas.List.{take-append-le, take_all}
use Rattle.std.specs.declared.option.Option.{Option}
use Rattle.std.specs.declared.option.Option.TheVariants.{None, Some}
use Rattle.std.specs.declared.result.Result.TheVariants.{Err}
use Rattle.std.specs.Io.KnownBytes.{Appends}
use Rattle.hq_io.specs.Streams.{AppendsPrefix}
use Rattle.hq_live_talk.specs.declared.end.TalkEnd.{TalkEnd}
use Rattle.hq_serve.specs.declared.serving.ServeRefusal.{ServeRefusal}
use Rattle.hq_serve.specs.declared.serving.ServeRefusal.TheVariants as refusal
use Rattle.hq_live_serve.specs.Lines.{line_of, lines_from}
use Rattle.hq_serve.specs.Serving.{Wrote}
use Rattle.hq_live_serve.specs.Serving.{LinesBy}

-- two pieces that were appended one after the other make one
appends_both : (a b c : Option (List ℕ)) (xs ys : List ℕ) → Appends a b xs → Appends b c ys → Appends a c (xs ++ ys)
appends_both None b c xs ys h k = tt
appends_both (Some x) None c xs ys h k = absurd h
appends_both (Some x) (Some y) None xs ys h k = absurd k
appends_both (Some x) (Some y) (Some z) xs ys h k = k ∙ (ap (λ w. w ++ ys) h ∙ append_assoc x xs ys)

-- a take that ends in the second list
take_over : (xs ys : List ℕ) (n : ℕ) → take (length xs + n) (xs ++ ys) ≡ xs ++ take n ys
take_over [] ys n = ap (λ k. take k ys) (let e : 0 + n ≡ n = omega arith in e)
take_over (x ∷ xs) ys n =
    ap (λ k. take k (x ∷ (xs ++ ys))) (let e : length (x ∷ xs) + n ≡ suc (length xs + n) = omega arith in e) ∙ ap (λ w. x ∷ w) (take_over xs ys n)

-- one more line at the end
lines_more : (k : ℕ) (es : List TalkEnd) (e : TalkEnd) → lines_from k (es ++ e ∷ []) ≡ lines_from k es ++ line_of (k + length es) e
lines_more k [] e = append-nil (line_of k e) ∙ ap (λ n. line_of n e) (let e : k ≡ k + 0 = omega arith in e)
lines_more k (x ∷ es) e =
    ap (λ w. line_of k x ++ w) (lines_more (k + 1) es e ∙ ap (λ n. lines_from (k + 1) es ++ line_of n e) (let e : k + 1 + length es ≡ k + length (x ∷ es) = omega arith in e))
    ∙ sym (append_assoc (line_of k x) (lines_from (k + 1) es) (line_of (k + length (x ∷ es)) e))

-- the lines with one more
pub lines_written : (n : ℕ) (es : List TalkEnd) (e : TalkEnd) (a b c : Option (List ℕ)) → length es ≡ n
    → Appends a b (lines_from 1 es) → Appends b c (line_of (n + 1) e) → Appends a c (lines_from 1 (es ++ e ∷ []))
lines_written n es e a b c long h k =
    let same : n + 1 ≡ 1 + length es = omega (arith, long) in
    subst (λ (w : List ℕ). Appends a c w) (sym (lines_more 1 es e)) (appends_both a b c _ _ h (subst (λ (m : ℕ). Appends b c (line_of m e)) same k))

-- or with a part of it
prefix_written : (n : ℕ) (es : List TalkEnd) (e : TalkEnd) (a b c : Option (List ℕ)) → length es ≡ n
    → Appends a b (lines_from 1 es) → AppendsPrefix b c (line_of (n + 1) e) → AppendsPrefix a c (lines_from 1 (es ++ e ∷ []))
prefix_written n es e a b c long h (k, few, more) =
    let same : n + 1 ≡ 1 + length es = omega (arith, long) in
    let line = line_of (1 + length es) e in
    let piece : Appends b c (take k line) = subst (λ (m : ℕ). Appends b c (take k (line_of m e))) same more in
    let short : k ≤ length line = subst (λ (m : ℕ). k ≤ length (line_of m e)) same few in
    let whole : Appends a c (lines_from 1 es ++ take k line) = appends_both a b c _ _ h piece in
    subst (λ (w : List ℕ). AppendsPrefix a c w) (sym (lines_more 1 es e))
    (length (lines_from 1 es) + k, omega (arith, short, length-append (lines_from 1 es) line), subst (λ (w : List ℕ). Appends a c w) (sym (take_over (lines_from 1 es) line k)) whole)

-- all but the last end
take_front : (es : List TalkEnd) (e : TalkEnd) → take (length es) (es ++ e ∷ []) ≡ es
take_front es e = take-append-le (length es) es (e ∷ []) (omega arith) ∙ take_all (length es) es (omega arith)

-- what is written where a line is not written whole
pub line_failed : (n : ℕ) (es : List TalkEnd) (e : TalkEnd) (a b c : Option (List ℕ)) (r : ServeRefusal) → length es ≡ n
    → Appends a b (lines_from 1 es) → Wrote b c (line_of (n + 1) e) (Err r) → LinesBy a c (es ++ e ∷ []) (Err r)
line_failed n es e a b c refusal.DoorFailed long h w = absurd w
line_failed n es e a b c refusal.WriteFailed long h w = prefix_written n es e a b c long h w
line_failed n es e a b c refusal.Memory long h w =
    (length es, subst (λ (ends : List TalkEnd). Appends a c (lines_from 1 ends)) (sym (take_front es e)) (subst (λ (x : Option (List ℕ)). Appends a x (lines_from 1 es)) (sym w) h))
