use Rattle.std.proofs.Common.{codes, rules}
use Rattle.describe.specs.Words.{words_of}
use Rattle.describe.proofs.WordLists.{one_word, two_words, three_words}
use Rattle.describe.proofs.calls.call.Goals as goal

pub returns-in-Some-take-Some-Some-None : goal.returns-in-Some-take-Some-Some-None
returns-in-Some-take-Some-Some-None c =
    let change = c.in-Some-take-Some-Some-None.change.now in
    let wait = c.in-Some-take-Some-Some-None.wait.now in
    rw (three_words (words_of c.args.line.now) (codes "take") change wait (search rules) (search rules) (search rules) (search rules)) c.take.ensures

pub returns-in-Some-step-Some-earliest-None-None : goal.returns-in-Some-step-Some-earliest-None-None
returns-in-Some-step-Some-earliest-None-None c =
    two_words _ (codes "step") (codes "earliest") (search rules) (search rules) (search rules)

pub returns-in-Some-step-Some-latest-None-None : goal.returns-in-Some-step-Some-latest-None-None
returns-in-Some-step-Some-latest-None-None c =
    two_words _ (codes "step") (codes "latest") (search rules) (search rules) (search rules)

pub returns-in_ok-number-in-Some-step-Some-sampled-Some-None : goal.returns-in_ok-number-in-Some-step-Some-sampled-Some-None
returns-in_ok-number-in-Some-step-Some-sampled-Some-None c =
    let third = c.in-Some-step-Some-sampled-Some-None.identifier.now in
    record {
      third = third;
      words_are = three_words _ (codes "step") (codes "sampled") third (search rules) (search rules) (search rules) (search rules);
      id_is = search rules;
    }

pub returns-in-Some-offers-None-None-None : goal.returns-in-Some-offers-None-None-None
returns-in-Some-offers-None-None-None c = one_word _ (codes "offers") (search rules) (search rules)

pub returns-in-Some-standing-None-None-None : goal.returns-in-Some-standing-None-None-None
returns-in-Some-standing-None-None-None c =
    one_word _ (codes "standing") (search rules) (search rules)
