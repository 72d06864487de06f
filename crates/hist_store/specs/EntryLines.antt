-- Which entry a line of the journal says: the entry, each number of which fits its field, of which the line is the text.
use Rattle.std.specs.Prelude.{ℕ, ◌≡◌, ◌^◌, ◌<◌, List, Option}
use Rattle.hex.specs.Hex.{IsBytes}
use Rattle.savi_kinds.specs.declared.entry.Entry.{Entry}
use Rattle.savi_kinds.specs.declared.entry.Act.{Act}
use Rattle.savi_kinds.specs.declared.entry.Act.TheVariants.{Frame, Long, Tick, Command, Drain, End}
use Rattle.savi_kinds.specs.declared.entry.How.{How}
use Rattle.savi_kinds.specs.declared.entry.How.TheVariants as hows
use Rattle.savi_kinds.specs.declared.verdict.Verdict.{Verdict}
use Rattle.savi_kinds.specs.PortSets.{no_ports}
use Rattle.hist_store.specs.Rows.{Row}
use Rattle.hist_store.specs.TextOfLines.{spaced}
use Rattle.hist_store.specs.LineTexts.{act_fields, line_text, FitsLine}

-- the number of a reason
abbrev pub IsHowInRange : How → Type 0
IsHowInRange hows.End = Unit {0}
IsHowInRange hows.Quit = Unit {0}
IsHowInRange (hows.Malformed at) = at < 2 ^ 64
IsHowInRange (hows.Overlong at) = at < 2 ^ 64
IsHowInRange hows.Failed = Unit {0}
IsHowInRange hows.Unwritten = Unit {0}
IsHowInRange hows.Paused = Unit {0}

-- The numbers of an act. A line doesn't say where octets are kept: 0 stands for that.
abbrev pub IsActInRange : Act → Type 0
IsActInRange (Frame port stamp at len) = (stamp < 2 ^ 64) × (at ≡ 0)
IsActInRange (Long port stamp len) = (stamp < 2 ^ 64) × (len < 2 ^ 32)
IsActInRange (Tick stamp) = stamp < 2 ^ 64
IsActInRange (Command stamp at len) = (stamp < 2 ^ 64) × (at ≡ 0)
IsActInRange (Drain port count) = count < 2 ^ 32
IsActInRange (End who how) = IsHowInRange how

-- a set of ports is a number of 16 bits
pub record IsInRange (entry : Entry) : Type 0 where
  pub by : entry.by < 2 ^ 32
  pub moment : entry.moment < 2 ^ 64
  pub act : IsActInRange entry.act
  pub outs : entry.outs.0 < 2 ^ 16
  pub cuts : entry.cuts.0 < 2 ^ 16
  pub probes : entry.probes < 2 ^ 32
  pub lost : entry.lost < 2 ^ 32

-- an act, an entry and a row as a line says them: with 0 for the place of octets

abbrev pub act_said : Act → Act
act_said (Frame port stamp at len) = Frame port stamp 0 len
act_said (Long port stamp len) = Long port stamp len
act_said (Tick stamp) = Tick stamp
act_said (Command stamp at len) = Command stamp 0 len
act_said (Drain port count) = Drain port count
act_said (End who how) = End who how

abbrev pub entry_said : Entry → Entry
entry_said entry = record entry { act = act_said entry.act }

abbrev pub row_said : Row → Row
row_said row = record row { entry = entry_said row.entry }

-- the line is that of the entry with this number
pub record SaysEntry (line : List ℕ) (n : ℕ) (row : Row) : Type 0 where
  pub number : n < 2 ^ 64
  pub numbers : IsInRange row.entry
  pub octets : IsBytes row.octets
  pub fits : FitsLine row
  pub text : line ≡ line_text n row

-- the text is that of the act of an entry of this pass and moment, each field with a space in front
pub record SaysAct (text : List ℕ) (by moment : ℕ) (row : Row) : Type 0 where
  pub by_is : row.entry.by ≡ by
  pub moment_is : row.entry.moment ≡ moment
  pub numbers : IsInRange row.entry
  pub octets : IsBytes row.octets
  pub fits : FitsLine row
  pub text_is : text ≡ spaced (act_fields row.entry row.octets row.entry.act)

-- an entry for which no frame was queued
abbrev pub entry_without_outs : ℕ → ℕ → Act → Option Verdict → ℕ → ℕ → Entry
entry_without_outs by moment act verdict probes lost =
    record { by = by; moment = moment; act = act; verdict = verdict; outs = no_ports; cuts = no_ports; probes = probes; lost = lost }
