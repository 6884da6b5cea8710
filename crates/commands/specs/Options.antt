-- What a command goes by, from the words that its options were given.
use Rattle.std.specs.Prelude.{◌≡◌, ℕ, ◌-◌, ◌^◌, ◌≤◌, List, Some, None, Option, String, codes, string_bytes, unwrap_or}
use Rattle.std.specs.List.{range_with_len}
use Rattle.std.specs.Option.{option_map}
use Rattle.std.specs.Global.{Global}
use Rattle.clap.specs.Words.{first_value, found_of}
use Rattle.clap.specs.declared.parser.matches.ArgMatches.{ArgMatches}
use Rattle.batch.specs.declared.Limits.{Limits}
use Rattle.schedulers.specs.declared.chooser.Chooser.{Chooser}
use Rattle.schedulers.specs.declared.chooser.Chooser.TheVariants.{Earliest}
use Rattle.describe.specs.Identifiers.{AllDiffer, Lists}
use Rattle.describe.specs.Names.{Names}
use Rattle.describe.specs.Words.{Writes}
use Rattle.commands.specs.declared.command.Command.{Command}
use Rattle.commands.specs.declared.command.Command.TheVariants.{Batch, Replay, Run}
use Rattle.commands.specs.declared.options.Options.{Options}
use Rattle.commands.specs.declared.sources.Draws.{Draws}
use Rattle.commands.specs.declared.sources.Draws.TheVariants.{Seed, Tape}
use Rattle.commands.specs.declared.sources.Rule.{Rule}
use Rattle.commands.specs.declared.sources.Rule.TheVariants.{Computed, Mixed}

-- the word that an option was given, if it was
abbrev pub said : ArgMatches → List ℕ → Option (List ℕ)
said given name = first_value (found_of given) name

-- how many steps a run has at the most where it is not said
abbrev pub steps_for : Command → ℕ
steps_for Batch = 1000
steps_for Replay = 100
steps_for Run = 100

-- a number for a word: the one that it writes, within limits; none where there is no word
abbrev pub NumberFor : ℕ → ℕ → Option (List ℕ) → Option ℕ → Type 0
NumberFor least most None None = Unit {0}
NumberFor least most (Some word) (Some n) = Writes word n × (least ≤ n) × (n ≤ most)
NumberFor least most None (Some n) = ⊥
NumberFor least most (Some word) None = ⊥

-- a number for a word: the one that it writes, within limits, or the usual one where there is no word
abbrev pub NumberOr : ℕ → ℕ → ℕ → Option (List ℕ) → ℕ → Type 0
NumberOr usual least most None n = n ≡ usual
NumberOr usual least most (Some word) n = Writes word n × (least ≤ n) × (n ≤ most)

-- a scheduler for a word: the one that it names, or the earliest where there is none
abbrev pub SchedulerFor : Option (List ℕ) → Chooser → Type 0
SchedulerFor None s = s ≡ Earliest
SchedulerFor (Some word) s = Names word s

-- identifiers for a word: those that it lists, none twice, or the first ten where there is none
abbrev pub ListFor : Option (List ℕ) → List ℕ → Type 0
ListFor None ids = ids ≡ range_with_len 0 10
ListFor (Some word) ids = Lists word ids × AllDiffer ids

-- a rule for a word: the one that it names; none where there is no word
abbrev pub RuleFor : Option (List ℕ) → Option Rule → Type 0
RuleFor None rule = rule ≡ None
RuleFor (Some word) None = ⊥
RuleFor (Some word) (Some Mixed) = word ≡ codes "mixed"
RuleFor (Some word) (Some Computed) = word ≡ codes "computed"

-- the draws that a rule, a seed, a tape and a row length ask for together, if they go together
abbrev pub draws_asked : {T : Type 0} → Option Rule → Option ℕ → Option T → Option ℕ → Option (Draws T)
draws_asked rule (Some seed) (Some tape) row_length = None
draws_asked (Some rule) None (Some tape) row_length = None
draws_asked rule seed None (Some row_length) = None
draws_asked rule seed None None = Some (Seed (unwrap_or rule Mixed) (unwrap_or seed 0))
draws_asked None None (Some tape) row_length = Some (Tape tape (unwrap_or row_length 10000))

-- draws for the options of a command: what their words ask for together
pub record DrawsFor (given : ArgMatches) (draws : Draws (String Global)) : Type 0 where
  pub rule : Option Rule
  pub seed : Option ℕ
  pub tape : Option (String Global)
  pub row_length : Option ℕ
  pub rule_is : RuleFor (said given (codes "source")) rule
  pub seed_is : NumberFor 0 (2 ^ 32 - 1) (said given (codes "seed")) seed
  pub tape_is : option_map string_bytes tape ≡ said given (codes "tape")
  pub row_length_is : NumberFor 1 10000 (said given (codes "row-length")) row_length
  pub together : Some draws ≡ draws_asked rule seed tape row_length

-- the limits of runs: what the words of a command say, and its own numbers where they say nothing
pub record LimitsFor (given : ArgMatches) (command : Command) (limits : Limits) : Type 0 where
  pub runs : NumberOr 1000 1 10000 (said given (codes "runs")) limits.runs
  pub steps : NumberOr (steps_for command) 1 10000 (said given (codes "steps")) limits.steps
  pub allowance : NumberOr 1000000000 1 1000000000 (said given (codes "allowance")) limits.allowance

-- what a command goes by: what the words of its options say, and its own value where one says nothing
pub record GoesBy (given : ArgMatches) (command : Command) (o : Options) : Type 0 where
  pub draws : DrawsFor given o.draws
  pub row : NumberOr 0 0 (2 ^ 32 - 1) (said given (codes "row")) o.row
  pub scheduler : SchedulerFor (said given (codes "scheduler")) o.scheduler
  pub identifiers : ListFor (said given (codes "identifiers")) o.identifiers.items
  pub limits : LimitsFor given command o.limits
