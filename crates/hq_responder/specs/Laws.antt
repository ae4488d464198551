-- A law of the replies that are due.
use Rattle.std.specs.Prelude.{◌≡◌, List, Option, Result}
use Rattle.std.specs.declared.result.Result.TheVariants.{Ok, Err}
use Rattle.hq_request_tree.specs.Request.{AskTree}
use Rattle.hq_base.specs.declared.reply.Reply.{Reply}
use Rattle.hq_model.specs.Database.{Row}
use Rattle.hq_model.specs.Meta.{MetaTree}
use Rattle.hq_model.specs.declared.session.Session.{Session}
use Rattle.hq_model.specs.declared.table.Table.{Table}
use Rattle.hq_request.specs.declared.refusal.RequestRefusal.{RequestRefusal}
use Rattle.hq_request.specs.declared.refusal.RequestRefusal.TheVariants as request
use Rattle.hq_responder.specs.Due.{IsReply}

-- the status of each is 200
pub status_known : (tables : List Table) (meta : MetaTree) (session : Session) (database : Option (List (List Row))) (made : Result AskTree RequestRefusal) (reply : Reply)
    → IsReply tables meta session database made reply → reply.status ≡ 200
status_known tables meta session database (Ok ask) reply is = is.0
status_known tables meta session database (Err (request.Fault f)) reply is = is.0
status_known tables meta session database (Err request.Memory) reply is = absurd is
