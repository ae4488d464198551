-- From databases that agree to due replies that are the same.
use Rattle.std.proofs.Common.{◌≡◌, ◌∙◌, ℕ, List, [], ◌∷◌, Bool, true, false, cond, refl, sym, ap, subst}
use Rattle.hq_model.specs.Catalog.{is_catalog}
use Rattle.hq_model.specs.Database.{Row}
use Rattle.hq_model.specs.Fits.{fits}
use Rattle.hq_model.specs.Meta.{MetaTree}
use Rattle.hq_model.specs.declared.session.Session.{Session}
use Rattle.hq_model.specs.declared.table.Table.{Table}
use Rattle.hq_engine.specs.Laws.{RepliesAgree}
use Rattle.hq_live.specs.LiveRun.{Moment, concerns, moments_of, sessions_of, SameReplies, Alike, AlikeFor}
use Rattle.hq_laws_live.specs.Worlds.{Present, text_of, due_over, moment, moments, presents_of, AgreeForEach, AgreeAtEach, AgreeFor}

-- the moments with one more or not
moments_cond : (tables : List Table) (meta : MetaTree) (b : Bool) (p : Present) (ps : List Present)
    → cond b (moment tables meta p ∷ moments tables meta ps) (moments tables meta ps) ≡ moments tables meta (cond b (p ∷ ps) ps)
moments_cond tables meta true p ps = refl
moments_cond tables meta false p ps = refl

-- a subscriber's moments
his_moments : (tables : List Table) (meta : MetaTree) (who : ℕ) (ps : List Present)
    → moments_of who (moments tables meta ps) ≡ moments tables meta (presents_of who ps)
his_moments tables meta who [] = refl
his_moments tables meta who (p ∷ ps) =
    ap (λ l. cond (concerns who p.event) (moment tables meta p ∷ l) l) (his_moments tables meta who ps)
    ∙ moments_cond tables meta (concerns who p.event) p (presents_of who ps)

-- over databases that agree for these sessions, the same replies are due to them
same_replies : (tables : List Table) (meta : MetaTree) → is_catalog tables ≡ true → fits tables meta ≡ true
    → ((session : Session) (body : List ℕ) (d e : List (List Row)) → RepliesAgree tables meta session body d e)
    → (sessions : List Session) (d e : List (List Row)) → AgreeForEach tables meta sessions d e
    → SameReplies sessions (due_over tables meta d) (due_over tables meta e)
same_replies tables meta is fit law [] d e h = tt
same_replies tables meta is fit law (session ∷ sessions) d e h =
    (λ body. ap text_of (law session body d e is fit h.0), same_replies tables meta is fit law sessions d e h.1)

-- moments over databases that agree are alike
alike_moments : (tables : List Table) (meta : MetaTree) → is_catalog tables ≡ true → fits tables meta ≡ true
    → ((session : Session) (body : List ℕ) (d e : List (List Row)) → RepliesAgree tables meta session body d e)
    → (sessions : List Session) (ps qs : List Present) → AgreeAtEach tables meta sessions ps qs
    → Alike sessions (moments tables meta ps) (moments tables meta qs)
alike_moments tables meta is fit law sessions [] [] h = tt
alike_moments tables meta is fit law sessions [] (q ∷ qs) h = absurd h
alike_moments tables meta is fit law sessions (p ∷ ps) [] h = absurd h
alike_moments tables meta is fit law sessions (p ∷ ps) (q ∷ qs) h =
    (h.0, same_replies tables meta is fit law sessions p.rows q.rows h.1, alike_moments tables meta is fit law sessions ps qs h.2)

-- two lists of databases that agree for a subscriber are alike for him
pub alike_for : (tables : List Table) (meta : MetaTree) → is_catalog tables ≡ true → fits tables meta ≡ true
    → ((session : Session) (body : List ℕ) (d e : List (List Row)) → RepliesAgree tables meta session body d e)
    → (who : ℕ) (ps qs : List Present) → AgreeFor tables meta who ps qs → AlikeFor who (moments tables meta ps) (moments tables meta qs)
alike_for tables meta is fit law who ps qs h =
    let his = moments tables meta (presents_of who ps) in
    let of : his ≡ moments_of who (moments tables meta ps) = sym (his_moments tables meta who ps) in
    let and : moments tables meta (presents_of who qs) ≡ moments_of who (moments tables meta qs) = sym (his_moments tables meta who qs) in
    let P : List Moment → List Moment → Type 0 = λ ms ns. Alike (sessions_of ms) ms ns in
    let own : P his (moments tables meta (presents_of who qs)) = alike_moments tables meta is fit law (sessions_of his) (presents_of who ps) (presents_of who qs) h in
    subst (λ ms. P ms (moments_of who (moments tables meta qs))) of (subst (λ ns. P his ns) and own)
