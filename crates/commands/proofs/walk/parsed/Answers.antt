use Rattle.commands.specs.Walks.{AskMove}
use Rattle.commands.specs.declared.walk.Move.{Move}
use Rattle.commands.specs.declared.walk.Move.TheVariants.{Reset, Wait}
use Rattle.commands.proofs.walk.parsed.Goals as goal

pub returns-in_err-timers_named-in-reset : goal.returns-in_err-timers_named-in-reset
returns-in_err-timers_named-in-reset c =
    let none : (m : Move) → AskMove c.args.name.now c.args.value.now m → ⊥ = λ m. elim m as (λ z. AskMove c.args.name.now c.args.value.now z → ⊥) [
      | Wait steps ↦ λ ask. c.in-reset.not-wait ask.0
      | Reset timers ↦ λ ask. c.in_err-timers_named-in-reset.ensures timers ask.1
    ] in
    rw c.from_residual-in_err-timers_named-in-reset.ensures none
