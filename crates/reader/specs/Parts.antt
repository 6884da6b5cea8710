-- The parts of a plan file.
use Rattle.std.specs.Prelude.{◌≡◌, ℕ, ◌*◌, List, ◌++◌, length, None}
use Rattle.reader.specs.declared.section.Section.{Section}
use Rattle.reader.specs.declared.section.Section.TheVariants as part
use Rattle.rows.specs.declared.section.Counts.{Counts}
use Rattle.rows.specs.declared.section.SectionName.{SectionName}
use Rattle.rows.specs.declared.section.SectionName.TheVariants as name
use Rattle.rows.specs.Files.{after, part_fault, part_in, word_at}
use Rattle.rows.specs.Plans.{word}
use Rattle.rows.specs.Sections.{size_of}

-- which section a part is
abbrev pub name_in : Section → SectionName
name_in (part.Timers b) = name.Timers
name_in (part.Comparisons b) = name.Comparisons
name_in (part.Stages b) = name.Stages
name_in (part.Changes b) = name.Changes
name_in (part.Outcomes b) = name.Outcomes
name_in (part.Goal b) = name.Goal

-- the bytes of its records
abbrev pub bytes_in : Section → List ℕ
bytes_in (part.Timers b) = b.now
bytes_in (part.Comparisons b) = b.now
bytes_in (part.Stages b) = b.now
bytes_in (part.Changes b) = b.now
bytes_in (part.Outcomes b) = b.now
bytes_in (part.Goal b) = b.now

-- a section that breaks no rule, cut off the front of the bytes
pub record Cut (s : SectionName) (rooms : Counts) (bytes : List ℕ) (section : Section) (rest : List ℕ) : Type 0 where
  pub passes : part_fault s rooms bytes ≡ None
  pub named : name_in section ≡ s
  pub part : bytes_in section ≡ part_in s bytes
  pub left : rest ≡ after s bytes
  pub sized : length (part_in s bytes) ≡ size_of s * word_at bytes 0
  pub whole : bytes ≡ word (word_at bytes 0) ++ (part_in s bytes ++ after s bytes)
