-- What is said of a request without a database: the text that is asked for it, or why none is.
use Rattle.std.specs.Prelude.{◌≡◌, ℕ, List, true, Option, Some, None, is_ok, Result, Ok, Err, ⊤}
use Rattle.hq_request_tree.specs.Request.{AskTree}
use Rattle.hq_base.specs.declared.memory.Memory.{Memory}
use Rattle.hq_faults.specs.FaultTexts.{fault_text}
use Rattle.hq_faults.specs.declared.faults.RequestFault.{RequestFault}
use Rattle.hq_request.specs.Request.{fault_in}
use Rattle.hq_request.specs.declared.refusal.RequestRefusal.{RequestRefusal}
use Rattle.hq_engine.specs.declared.stated.Stated.{Stated}
use Rattle.hq_engine.specs.declared.stated.Stated.TheVariants.{Fault, NoStatement, Text}

-- of a body that makes this request, for which this text is asked
abbrev pub States : (text : Option (List ℕ)) → Result AskTree RequestRefusal → Result Stated Memory → Type 0
States text request (Ok (Fault reply)) = (f : RequestFault) × (fault_in request ≡ Some f) × (reply.status ≡ 200) × (reply.body ≡ fault_text f)
States text request (Ok NoStatement) = (is_ok request ≡ true) × (text ≡ None)
States text request (Ok (Text bytes)) = text ≡ Some bytes
States text request (Err memory) = ⊤
