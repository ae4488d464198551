use Rattle.std.proofs.Common.{◌≡◌, ◌++◌, ◌∷◌, [], List, ℕ, sym, subst, eq-eqb}
use Rattle.std.proofs.lemmas.List.{nil_from_length}
use Rattle.std.proofs.lemmas.Bool.{ne_eqb}
use Rattle.hq_sql_expr.specs.Reading.{unquoted}
use Rattle.hq_sql_expr.proofs.Quotes.{with_front, at_end, at_byte, at_twice, at_done}
use Rattle.hq_sql_expr.proofs.texts.unquoted_of.Goals as goal

pub returns-in_default : goal.returns-in_default
returns-in_default c =
    let q = c.args.quote in
    let total = unquoted q c.args.bytes.now in
    let nil = nil_from_length c.loop-b.rest.now c.in_default.ensures.cases in
    at_end q c.loop-b.text.items total (subst (λ (r : List ℕ). with_front c.loop-b.text.items (unquoted q r) ≡ total) nil c.loop-b.invariant)

pub loop-b-preserved-then-b-quote : goal.loop-b-preserved-then-b-quote
loop-b-preserved-then-b-quote c =
    let q = c.args.quote in
    let total = unquoted q c.args.bytes.now in
    let b = c.in-Some.b.now in
    let tail = c.in-Some.tail.now in
    let so_far : with_front c.loop-b.text.items (unquoted q (b ∷ tail)) ≡ total =
    subst (λ (r : List ℕ). with_front c.loop-b.text.items (unquoted q r) ≡ total) c.in-Some.ensures.cases.0 c.loop-b.invariant in
    let e : c.push.new.self.items ≡ c.loop-b.text.items ++ b ∷ [] = c.in_ok-push.ensures.items in
    subst (λ (t : List ℕ). with_front t (unquoted q tail) ≡ total) (sym e) (at_byte q c.loop-b.text.items total b tail (ne_eqb b q c.if-b-quote.true) so_far)

pub returns-in-None : goal.returns-in-None
returns-in-None c =
    let q = c.args.quote in
    let total = unquoted q c.args.bytes.now in
    let b = c.in-Some.b.now in
    let tail = c.in-Some.tail.now in
    let so_far : with_front c.loop-b.text.items (unquoted q (b ∷ tail)) ≡ total =
    subst (λ (r : List ℕ). with_front c.loop-b.text.items (unquoted q r) ≡ total) c.in-Some.ensures.cases.0 c.loop-b.invariant in
    at_done q c.loop-b.text.items total b tail (eq-eqb b q c.if-b-quote.false) (sym c.in-None.ensures) so_far

pub loop-b-preserved : goal.loop-b-preserved
loop-b-preserved c =
    let q = c.args.quote in
    let total = unquoted q c.args.bytes.now in
    let b = c.in-Some.b.now in
    let tail = c.in-Some.tail.now in
    let more = c.in-Some-strip_quote.more.now in
    let so_far : with_front c.loop-b.text.items (unquoted q (b ∷ tail)) ≡ total =
    subst (λ (r : List ℕ). with_front c.loop-b.text.items (unquoted q r) ≡ total) c.in-Some.ensures.cases.0 c.loop-b.invariant in
    let e : c.push-in-Some-strip_quote.new.self.items ≡ c.loop-b.text.items ++ q ∷ [] = c.in_ok-push-in-Some-strip_quote.ensures.items in
    subst (λ (t : List ℕ). with_front t (unquoted q more) ≡ total) (sym e) (at_twice q c.loop-b.text.items total b tail more (eq-eqb b q c.if-b-quote.false) (sym c.in-Some-strip_quote.ensures) so_far)
