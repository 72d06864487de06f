-- A row of the history as numbers: that of its pass, and a list of the others. The numbers of the entry stand in fixed
-- places in front, and what is kept of octets behind them. `row_at` reads the row again.
use Rattle.std.specs.Prelude.{ℕ, ◌-◌, ◌==◌, if◌then◌else◌, List, [], ◌∷◌, ◌++◌, Option, Some, None, slice_index_or}
use Rattle.savi_kinds.specs.declared.entry.Who.{Who}
use Rattle.savi_kinds.specs.declared.entry.Who.TheVariants.{Ingress, Control, Ticker, Egress}
use Rattle.savi_kinds.specs.declared.entry.How.{How}
use Rattle.savi_kinds.specs.declared.entry.How.TheVariants as hows
use Rattle.savi_kinds.specs.declared.entry.Act.{Act}
use Rattle.savi_kinds.specs.declared.entry.Act.TheVariants.{Frame, Long, Tick, Command, Drain, End}
use Rattle.savi_kinds.specs.declared.verdict.Rule.{Rule}
use Rattle.savi_kinds.specs.declared.verdict.Rule.TheVariants as rules
use Rattle.savi_kinds.specs.declared.verdict.Scope.TheVariants.{All, TrustedOnly, TrustedAnd}
use Rattle.savi_kinds.specs.declared.verdict.Verdict.{Verdict}
use Rattle.savi_kinds.specs.declared.verdict.Verdict.TheVariants.{Pass, Drop}
use Rattle.savi_kinds.specs.Ports.{number_of}
use Rattle.savi_kinds.specs.Rules.{rule_number}
use Rattle.hist_store.specs.Rows.{Row}
use Rattle.core_keep.specs.PortNumbers.{port_at}

abbrev pub who_code : Who → List ℕ
who_code (Ingress port) = 0 ∷ number_of port ∷ []
who_code Control = 1 ∷ 0 ∷ []
who_code Ticker = 2 ∷ 0 ∷ []
who_code (Egress port) = 3 ∷ number_of port ∷ []

abbrev pub how_code : How → List ℕ
how_code hows.End = 0 ∷ 0 ∷ []
how_code hows.Quit = 1 ∷ 0 ∷ []
how_code (hows.Malformed at) = 2 ∷ at ∷ []
how_code (hows.Overlong at) = 3 ∷ at ∷ []
how_code hows.Failed = 4 ∷ 0 ∷ []
how_code hows.Unwritten = 5 ∷ 0 ∷ []
how_code hows.Paused = 6 ∷ 0 ∷ []

-- five numbers
abbrev pub act_code : Act → List ℕ
act_code (Frame port stamp at len) = 0 ∷ number_of port ∷ stamp ∷ at ∷ len ∷ []
act_code (Long port stamp len) = 1 ∷ number_of port ∷ stamp ∷ len ∷ 0 ∷ []
act_code (Tick stamp) = 2 ∷ stamp ∷ 0 ∷ 0 ∷ 0 ∷ []
act_code (Command stamp at len) = 3 ∷ stamp ∷ at ∷ len ∷ 0 ∷ []
act_code (Drain port count) = 4 ∷ number_of port ∷ count ∷ 0 ∷ 0 ∷ []
act_code (End who how) = 5 ∷ (who_code who ++ how_code how)

-- two numbers
abbrev pub verdict_code : Option Verdict → List ℕ
verdict_code None = 0 ∷ 0 ∷ []
verdict_code (Some (Pass All)) = 1 ∷ 0 ∷ []
verdict_code (Some (Pass TrustedOnly)) = 2 ∷ 0 ∷ []
verdict_code (Some (Pass (TrustedAnd port))) = 3 ∷ number_of port ∷ []
verdict_code (Some (Drop rule)) = 4 ∷ rule_number rule ∷ []

abbrev pub row_numbers : Row → List ℕ
row_numbers row =
    row.entry.moment ∷ row.entry.outs.0 ∷ row.entry.cuts.0 ∷ row.entry.probes ∷ row.entry.lost
    ∷ (act_code row.entry.act ++ (verdict_code row.entry.verdict ++ row.octets))

-- the number of the pass that made the row, and what fixes it
abbrev pub row_code : Row → ℕ × List ℕ
row_code row = (row.entry.by, row_numbers row)

abbrev pub who_at : ℕ → ℕ → Who
who_at kind number =
    if kind == 0 then Ingress (port_at number) else if kind == 1 then Control else if kind == 2 then Ticker else Egress (port_at number)

abbrev pub how_at : ℕ → ℕ → How
how_at kind number =
    if kind == 0 then hows.End else if kind == 1 then hows.Quit else if kind == 2 then hows.Malformed number
    else if kind == 3 then hows.Overlong number else if kind == 4 then hows.Failed else if kind == 5 then hows.Unwritten
    else hows.Paused

abbrev pub act_at : ℕ → ℕ → ℕ → ℕ → ℕ → Act
act_at kind a b c d =
    if kind == 0 then Frame (port_at a) b c d else if kind == 1 then Long (port_at a) b c else if kind == 2 then Tick a
    else if kind == 3 then Command a b c else if kind == 4 then Drain (port_at a) b else End (who_at a b) (how_at c d)

-- all rules, in the order of their numbers, from 1 on
abbrev pub all_rules : List Rule
all_rules =
    rules.PortDown ∷ rules.Malformed ∷ rules.ReservedGroup ∷ rules.SourceMac ∷ rules.Tagged ∷ rules.BadIpv6 ∷ rules.HiddenUpper
    ∷ rules.UnknownNextHeader ∷ rules.RouterAdvert ∷ rules.FragmentedNd ∷ rules.BadNd ∷ rules.Redirect ∷ rules.DhcpServer
    ∷ rules.UnspecifiedSource ∷ rules.OffLink ∷ rules.NotAssigned ∷ rules.PortFull ∷ rules.WrongPort ∷ rules.Unverified
    ∷ rules.Contested ∷ rules.NaTarget ∷ rules.PendingFull ∷ rules.DhcpContested ∷ []

abbrev pub verdict_at : ℕ → ℕ → Option Verdict
verdict_at kind number =
    if kind == 0 then None else if kind == 1 then Some (Pass All) else if kind == 2 then Some (Pass TrustedOnly)
    else if kind == 3 then Some (Pass (TrustedAnd (port_at number)))
    else Some (Drop (slice_index_or all_rules (number - 1) rules.PortDown))

-- what numbers are read as that are no row's
abbrev pub no_row : Row
no_row = record {
  entry = record { by = 0; moment = 0; act = Tick 0; verdict = None; outs = record { 0 = 0 }; cuts = record { 0 = 0 }; probes = 0; lost = 0 };
  octets = [];
}

-- the row of pass 0 that has these numbers
abbrev pub row_from : List ℕ → Row
row_from (moment ∷ outs ∷ cuts ∷ probes ∷ lost ∷ kind ∷ a ∷ b ∷ c ∷ d ∷ judged ∷ number ∷ octets) = record {
  entry = record {
    by = 0;
    moment = moment;
    act = act_at kind a b c d;
    verdict = verdict_at judged number;
    outs = record { 0 = outs };
    cuts = record { 0 = cuts };
    probes = probes;
    lost = lost;
  };
  octets = octets;
}
row_from _ = no_row

abbrev pub made_by : ℕ → Row → Row
made_by by row = record row { entry = record row.entry { by = by } }

-- the row that has this code
abbrev pub row_by_code : ℕ × List ℕ → Row
row_by_code code = made_by code.0 (row_from code.1)
