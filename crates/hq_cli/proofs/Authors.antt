-- The authors that a command generates are few.
use Rattle.std.proofs.Common.{◌≡◌, ℕ, List, Bool, true, false, nat_le, refl, subst}
use Rattle.std.proofs.lemmas.Bool.{leb-true}
use Rattle.std.specs.Cmp.{first_so, second_so}
use Rattle.std.specs.Prelude.{[], ◌∷◌, Option, Some, None, IfSome, Result, Ok, Err, IfOk, cond, option_map, option_and_then, ok_or, bytes_eq, codes}
use Rattle.clap.specs.Words.{Row, Text, first_of}
use Rattle.hq_base.specs.Due.{Gives}
use Rattle.hq_cli.specs.declared.command.Command.{Command}
use Rattle.hq_cli.specs.declared.command.Command.TheVariants.{Query, Sql, Explain, Confine, Copy, Check, Gen, Show}
use Rattle.hq_cli.specs.declared.refusal.WordsRefusal.{WordsRefusal}
use Rattle.hq_cli.specs.declared.refusal.WordsRefusal.TheVariants.{BadWords, Memory}
use Rattle.hq_cli.specs.Grammar.{query_faults, query_rows, copy_rows, copy_faults, check_faults, check_rows, serve_faults, serve_rows, live_faults, live_rows, gen_faults, gen_rows}
use Rattle.hq_cli.specs.Asked.{HasFewAuthors, are_few, are_taken, command_named, command_of, dir_in, filled, gen_in, gen_with, is_paged_in, number_in, page_of, query_in, request_in, request_of, serve_in, live_in, copy_in, part_in}
use Rattle.hq_cli.specs.Pages.{page_named}

-- those of a command, where there is one
pub record Few (command : Option Command) : Type 0 where
  pub few : IfSome command HasFewAuthors

none_few : Few None
none_few = record { few = tt }

few_cond : (b : Bool) (o p : Option Command) → Few o → Few p → Few (cond b o p)
few_cond true o p h k = h
few_cond false o p h k = k

few_map : {X : Type 0} (f : X → Command) (o : Option X) → ((x : X) → HasFewAuthors (f x)) → Few (option_map f o)
few_map f None h = none_few
few_map f (Some x) h = record { few = h x }

few_then : {X : Type 0} (f : X → Option Command) (o : Option X) → ((x : X) → Few (f x)) → Few (option_and_then f o)
few_then f None h = none_few
few_then f (Some x) h = h x

few_gen : (n : ℕ) → Few (gen_with n)
few_gen n =
    let go : (b : Bool) → are_few n ≡ b → Few (cond b (Some (Gen n)) None) =
    elim [
      | true ↦ λ h. record { few = (leb-true 1 n (first_so (nat_le 1 n) (nat_le n 100000) h), leb-true n 100000 (second_so (nat_le 1 n) (nat_le n 100000) h)) }
      | false ↦ λ h. none_few
    ] in
    go (are_few n) refl

few_serve : (rows : List Row) → Few (serve_in rows)
few_serve rows =
    few_then _ (dir_in rows) (λ d. few_then _ (number_in (codes "port") rows) (λ p. few_then _ (number_in (codes "connections") rows) (λ n.
    few_then _ (filled (first_of (codes "admin-secret") rows)) (λ s. few_map _ (filled (first_of (codes "unauthorized-role") rows)) (λ u. tt {0})))))

few_live : (rows : List Row) → Few (live_in rows)
few_live rows =
    few_then _ (dir_in rows) (λ d. few_then _ (number_in (codes "port") rows) (λ p. few_then _ (number_in (codes "connections") rows) (λ n.
    few_then _ (filled (first_of (codes "admin-secret") rows)) (λ s. few_map _ (filled (first_of (codes "unauthorized-role") rows)) (λ u. tt {0})))))

few_copy : (rows : List Row) → Few (copy_in rows)
few_copy rows = few_then _ (request_in rows) (λ r. few_map (λ p. Copy r.0 p r.1) (part_in rows) (λ p. tt {0}))

few_none : (b : Bool) (o : Option Command) → Few o → Few (cond b o None)
few_none b o h = few_cond b o None h none_few

few_page : (name : Text) (words : List Text) → Few (page_of name words)
few_page name [] = few_map Show (page_named name) (λ p. tt {0})
few_page name (word ∷ words) = none_few

-- those of a named command
few_named : (name : Text) (words : List Text) → Few (command_named name words)
few_named name words =
    let query = few_none (are_taken (query_faults words)) (query_in (query_rows words)) (few_map (λ r. Query r.0 r.1 (is_paged_in (query_rows words))) (request_in (query_rows words)) (λ r. tt {0})) in
    let copy = few_none (are_taken (copy_faults words)) (copy_in (copy_rows words)) (few_copy (copy_rows words)) in
    let check = few_none (are_taken (check_faults words)) (option_map Check (dir_in (check_rows words))) (few_map Check (dir_in (check_rows words)) (λ d. tt {0})) in
    let serve = few_none (are_taken (serve_faults words)) (serve_in (serve_rows words)) (few_serve (serve_rows words)) in
    let live = few_none (are_taken (live_faults words)) (live_in (live_rows words)) (few_live (live_rows words)) in
    let gen = few_none (are_taken (gen_faults words)) (gen_in (gen_rows words)) (few_then gen_with (number_in (codes "authors") (gen_rows words)) few_gen) in
    few_cond (bytes_eq name (codes "query")) _ _ query (
    few_cond (bytes_eq name (codes "sql")) _ _ (few_map (λ r. Sql r.0 r.1) (request_of words) (λ r. tt {0})) (
    few_cond (bytes_eq name (codes "explain")) _ _ (few_map (λ r. Explain r.0 r.1) (request_of words) (λ r. tt {0})) (
    few_cond (bytes_eq name (codes "confine")) _ _ (few_map (λ r. Confine r.0 r.1) (request_of words) (λ r. tt {0})) (
    few_cond (bytes_eq name (codes "copy")) _ _ copy (
    few_cond (bytes_eq name (codes "check")) _ _ check (
    few_cond (bytes_eq name (codes "serve")) _ _ serve (
    few_cond (bytes_eq name (codes "live")) _ _ live (
    few_cond (bytes_eq name (codes "gen")) _ _ gen (few_page name words)))))))))

-- those of the command that words ask for
pub few_asked : (words : List Text) → Few (command_of words)
few_asked [] = none_few
few_asked (name ∷ words) = few_named name words

-- those of the command that is given
pub few_given : (o : Option Command) (r : Result Command WordsRefusal) → Few o → Gives (λ command. command) Memory (ok_or o BadWords) r → IfOk r HasFewAuthors
few_given None (Ok c) h g = cc
few_given (Some d) (Ok c) h g = let same : d ≡ c = cc in subst HasFewAuthors same h.few
few_given o (Err e) h g = tt
