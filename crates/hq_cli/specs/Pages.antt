-- The texts in which the program tells of itself, and the words that ask for them.
use Rattle.std.specs.Prelude.{List, ℕ, ◌||◌, Option, Some, None, cond, bytes_eq, codes}
use Rattle.clap.specs.Words.{Text}
use Rattle.hq_cli.specs.declared.page.Page.{Page}
use Rattle.hq_cli.specs.declared.page.Page.TheVariants.{Usage, Version}
use Rattle.hq_cli.specs.declared.page.TheConstants.{USAGE, VERSION}

-- the page that a word asks for
abbrev pub page_named : Text → Option Page
page_named name =
    cond (bytes_eq name (codes "help") || bytes_eq name (codes "--help") || bytes_eq name (codes "-h")) (Some Usage) (
    cond (bytes_eq name (codes "--version")) (Some Version) None)

-- the text of a page
abbrev pub page_text : Page → List ℕ
page_text Usage = USAGE.now
page_text Version = VERSION.now
