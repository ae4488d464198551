-- The commands whose words are taken, as the crate `clap` describes a command, with its flags for help and version off.
use Rattle.std.specs.Prelude.{List, true, Some, pos, codes}
use Rattle.clap.specs.Lexer.{usize_max}
use Rattle.clap.specs.Words.{App, Kinds, Row, Rule, Shape, Text, fault_of, matches_of, new_app, new_rule, with_rule}
use Rattle.clap.specs.Simple.{on_top}
use Rattle.clap.specs.declared.builder.action.ArgAction.TheVariants.{Append, SetTrue}
use Rattle.clap.specs.declared.builder.value_parser.ValueParser.TheVariants as vp

-- DIR
abbrev pub dir_rule : Rule
dir_rule = record (new_rule (codes "dir")) { required = true }

-- PART
abbrev pub part_rule : Rule
part_rule = record (new_rule (codes "part")) { required = true }

-- [HEADER]...
abbrev pub headers_rule : Rule
headers_rule = record (new_rule (codes "headers")) { range = Some (record { start_inclusive = 0; end_inclusive = usize_max }); action = Some Append }

-- --port P, from 1 to 65,535
abbrev pub port_rule : Rule
port_rule = record (new_rule (codes "port")) { long = Some (codes "port"); required = true; parser = Some (vp.Signed (pos 1) (pos 65535)) }

-- --connections N, from 1 to 1,000,000
abbrev pub connections_rule : Rule
connections_rule = record (new_rule (codes "connections")) { long = Some (codes "connections"); required = true; parser = Some (vp.Signed (pos 1) (pos 1000000)) }

-- [--admin-secret S]
abbrev pub secret_rule : Rule
secret_rule = record (new_rule (codes "admin-secret")) { long = Some (codes "admin-secret") }

-- [--unauthorized-role R]
abbrev pub unauthorized_rule : Rule
unauthorized_rule = record (new_rule (codes "unauthorized-role")) { long = Some (codes "unauthorized-role") }

-- [--paged]
abbrev pub paged_rule : Rule
paged_rule = record (new_rule (codes "paged")) { long = Some (codes "paged"); action = Some SetTrue }

-- N, a whole number of 32 bits without a sign
abbrev pub authors_rule : Rule
authors_rule = record (new_rule (codes "authors")) { required = true; parser = Some (vp.Signed (pos 0) (pos 4294967295)) }

abbrev pub bare : Shape → Shape
bare s = record s { no_binary_name = true; disable_help_flag = true; disable_version_flag = true }

abbrev pub bare_app : Text → App
bare_app name = on_top bare (new_app name)

-- sql DIR [HEADER]..., explain DIR [HEADER]... and confine DIR [HEADER]...
abbrev pub request_app : App
request_app = with_rule (with_rule (bare_app (codes "request")) dir_rule) headers_rule

-- query DIR [HEADER]... [--paged]
abbrev pub query_app : App
query_app = with_rule request_app paged_rule

-- copy DIR PART [HEADER]...
abbrev pub copy_app : App
copy_app = with_rule (with_rule (with_rule (bare_app (codes "copy")) dir_rule) part_rule) headers_rule

-- check DIR
abbrev pub check_app : App
check_app = with_rule (bare_app (codes "check")) dir_rule

-- serve DIR --port P --connections N [--admin-secret S] [--unauthorized-role R] [--paged]
abbrev pub serve_app : App
serve_app = with_rule (with_rule (with_rule (with_rule (with_rule (with_rule (bare_app (codes "serve")) dir_rule) port_rule) connections_rule) secret_rule) unauthorized_rule) paged_rule

-- live DIR --port P --connections N [--admin-secret S] [--unauthorized-role R]
abbrev pub live_app : App
live_app = with_rule (with_rule (with_rule (with_rule (with_rule (bare_app (codes "live")) dir_rule) port_rule) connections_rule) secret_rule) unauthorized_rule

-- gen N
abbrev pub gen_app : App
gen_app = with_rule (bare_app (codes "gen")) authors_rule

-- why the words behind the command are refused, none where they are in its grammar, and what they say there
unfoldable pub request_faults : List Text → Kinds
request_faults words = fault_of request_app words

unfoldable pub request_rows : List Text → List Row
request_rows words = matches_of request_app words

unfoldable pub query_faults : List Text → Kinds
query_faults words = fault_of query_app words

unfoldable pub query_rows : List Text → List Row
query_rows words = matches_of query_app words

unfoldable pub copy_faults : List Text → Kinds
copy_faults words = fault_of copy_app words

unfoldable pub copy_rows : List Text → List Row
copy_rows words = matches_of copy_app words

unfoldable pub check_faults : List Text → Kinds
check_faults words = fault_of check_app words

unfoldable pub check_rows : List Text → List Row
check_rows words = matches_of check_app words

unfoldable pub serve_faults : List Text → Kinds
serve_faults words = fault_of serve_app words

unfoldable pub serve_rows : List Text → List Row
serve_rows words = matches_of serve_app words

unfoldable pub live_faults : List Text → Kinds
live_faults words = fault_of live_app words

unfoldable pub live_rows : List Text → List Row
live_rows words = matches_of live_app words

unfoldable pub gen_faults : List Text → Kinds
gen_faults words = fault_of gen_app words

unfoldable pub gen_rows : List Text → List Row
gen_rows words = matches_of gen_app words
