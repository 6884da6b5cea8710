use Rattle.std.proofs.Common.{◌∙◌, ap, arith}
use Rattle.runs.specs.Plans.{weights}
use Rattle.runs.specs.Ticks.{ticket}
use Rattle.draws.specs.Tickets.{outcomes_in, picked_with}
use Rattle.draws.proofs.Shares.{every_outcome_has_its_own_stretch, every_outcome_has_its_share_of_draws}
use Rattle.draws.proofs.Turns.{allowed_sum, picked_whole}
use Rattle.draws.proofs.ticket.pick.Goals as goal

pub returns-in_err-weights-clause-every_outcome_has_its_own_stretch : goal.returns-in_err-weights-clause-every_outcome_has_its_own_stretch
returns-in_err-weights-clause-every_outcome_has_its_own_stretch c = every_outcome_has_its_own_stretch

pub returns-in_err-weights-clause-every_outcome_has_its_share_of_draws : goal.returns-in_err-weights-clause-every_outcome_has_its_share_of_draws
returns-in_err-weights-clause-every_outcome_has_its_share_of_draws c = every_outcome_has_its_share_of_draws

pub returns-clause-every_outcome_has_its_own_stretch : goal.returns-clause-every_outcome_has_its_own_stretch
returns-clause-every_outcome_has_its_own_stretch c = every_outcome_has_its_own_stretch

pub returns-clause-every_outcome_has_its_share_of_draws : goal.returns-clause-every_outcome_has_its_share_of_draws
returns-clause-every_outcome_has_its_share_of_draws c = every_outcome_has_its_share_of_draws

pub returns-clause-answer : goal.returns-clause-answer
returns-clause-answer c p =
    picked_whole p c.args.outcomes.now c.args.draw c.in_ok-weights.weights c.ticket.result c.place_of.result (omega arith) (c.in_ok-weights.ensures p) (c.ticket.ensures.value ∙ ap (ticket c.args.draw) c.from.ensures) (c.place_of.ensures.place p)

pub returns-clause-picked : goal.returns-clause-picked
returns-clause-picked c p some few =
    returns-clause-answer c p ∙ ap (picked_with (outcomes_in p c.args.outcomes.now) c.args.draw) (allowed_sum (weights (outcomes_in p c.args.outcomes.now)) some few)
