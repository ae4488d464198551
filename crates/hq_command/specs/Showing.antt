-- What `hq help` and `hq --version` write: a page, whole.
use Rattle.std.specs.Prelude.{Some}
use Rattle.hq_cli.specs.Pages.{page_text}
use Rattle.hq_cli.specs.declared.page.Page.{Page}
use Rattle.hq_command.specs.Ending.{Output}
use Rattle.hq_command.specs.declared.done.Done.TheVariants.{Answered}

abbrev pub page_output : Page → Output
page_output page = record { done = Answered; bytes = Some (page_text page) }
