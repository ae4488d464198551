-- The fact that a hook is made with, and that asking it needs: it ties the code to the rule.
use Rattle.std.specs.Prelude.{List}
use Rattle.std.specs.Borrow.{Bor}
use Rattle.std.specs.Fn.{FnReturnsAt, Shared, always_fn}
use Rattle.hq_session.specs.declared.header.Header.{Header}
use Rattle.hq_session.specs.declared.hook.HookAnswer.{HookAnswer}
use Rattle.hq_session.specs.declared.hook.Hook.{Hook}

module _ {P F : Type 0} (g : Shared F (Bor (List Header) × Unit {0}) HookAnswer) (allows : P → List Header → HookAnswer → Type 0) where
  -- each answer of the code is allowed by the rule
  pub record Allowed (rule : P) (decide : F) : Type 0 where
    pub each : (headers : List Header) (answer : HookAnswer) → FnReturnsAt g decide headers answer → allows rule headers answer

  -- the code may be called on all headers, and each of its answers is allowed by the rule
  pub record KeepsRule (hook : Hook P F) : Type 0 where
    pub callable : always_fn g hook.decide
    pub allowed : Allowed hook.rule hook.decide
