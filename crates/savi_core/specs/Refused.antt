-- Why the newest entry of a history was refused, where it is a command's.
use Rattle.std.specs.Prelude.{◌≡◌, List, [], ◌∷◌, Option}
use Rattle.savi_kinds.specs.declared.plan.Plan.{Plan}
use Rattle.savi_kinds.specs.declared.entry.Act.{Act}
use Rattle.savi_kinds.specs.declared.entry.Act.TheVariants.{Frame, Long, Tick, Command, Drain, End}
use Rattle.cli_lang.specs.CommandOf.{command_of}
use Rattle.control_replies.specs.declared.refusal.Refusal.{Refusal}
use Rattle.hist_store.specs.Rows.{Row}
use Rattle.checkpoint.specs.Bases.{Base, access_of}
use Rattle.savi_history.specs.Commands.{rows_told, refusal_of}
use Rattle.savi_history.specs.Marks.{marks}

abbrev pub IsRefusalBy : Plan → Base → List Row → Row → Act → Option Refusal → Type 0
IsRefusalBy plan base past r (Command stamp at len) refused =
    refused ≡ refusal_of plan (rows_told plan (access_of base) (marks plan base past) r.entry.moment) (command_of r.octets)
IsRefusalBy plan base past r (Frame port stamp at len) refused = Unit {0}
IsRefusalBy plan base past r (Long port stamp len) refused = Unit {0}
IsRefusalBy plan base past r (Tick stamp) refused = Unit {0}
IsRefusalBy plan base past r (Drain port count) refused = Unit {0}
IsRefusalBy plan base past r (End who how) refused = Unit {0}

abbrev pub IsRefusal : Plan → Base → List Row → Option Refusal → Type 0
IsRefusal plan base [] refused = Unit {0}
IsRefusal plan base (r ∷ past) refused = IsRefusalBy plan base past r r.entry.act refused

-- whether an entry is a command's
abbrev pub IsCommand : Act → Type 0
IsCommand (Command stamp at len) = Unit {0}
IsCommand (Frame port stamp at len) = ⊥
IsCommand (Long port stamp len) = ⊥
IsCommand (Tick stamp) = ⊥
IsCommand (Drain port count) = ⊥
IsCommand (End who how) = ⊥

-- whether the newest entry is one
abbrev pub EndsWithCommand : List Row → Type 0
EndsWithCommand [] = ⊥
EndsWithCommand (r ∷ past) = IsCommand r.entry.act
