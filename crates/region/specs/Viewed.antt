-- A region, read as a record of its timers.
use Rattle.theory.specs.Records.{Record}
use Rattle.region.specs.declared.Region.{Region}
use Rattle.region.specs.Views.{record_in}

-- what a region says of the timers
abbrev pub viewed : Region → Record
viewed r = record_in r.whole r.classes r.number r.rows
