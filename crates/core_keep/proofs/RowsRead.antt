-- A row is read again of its code.
use Rattle.std.proofs.Common.{◌≡◌, ℕ, ◌≤◌, List, [], ◌∷◌, ◌++◌, Option, Some, None, refl, ap, sym, ◌∙◌}
use native.Mathlib.Decide.{dec_le}
use Rattle.std.proofs.Math.Bridge.{le_prop}
use Rattle.savi_kinds.specs.declared.port.Port.{Port}
use Rattle.savi_kinds.specs.declared.entry.Who.{Who}
use Rattle.savi_kinds.specs.declared.entry.Who.TheVariants.{Ingress, Control, Ticker, Egress}
use Rattle.savi_kinds.specs.declared.entry.How.{How}
use Rattle.savi_kinds.specs.declared.entry.How.TheVariants as hows
use Rattle.savi_kinds.specs.declared.entry.Act.{Act}
use Rattle.savi_kinds.specs.declared.entry.Act.TheVariants.{Frame, Long, Tick, Command, Drain, End}
use Rattle.savi_kinds.specs.declared.verdict.Rule.{Rule}
use Rattle.savi_kinds.specs.declared.verdict.Rule.TheVariants as rules
use Rattle.savi_kinds.specs.declared.verdict.Scope.TheVariants.{All, TrustedOnly, TrustedAnd}
use Rattle.savi_kinds.specs.declared.verdict.Verdict.{Verdict}
use Rattle.savi_kinds.specs.declared.verdict.Verdict.TheVariants.{Pass, Drop}
use Rattle.savi_kinds.specs.Ports.{number_of}
use Rattle.savi_kinds.specs.Rules.{rule_number}
use Rattle.hist_store.specs.Rows.{Row}
use Rattle.core_keep.specs.PortNumbers.{port_where, port_at}
use Rattle.core_keep.specs.RowCodes.{who_code, how_code, act_code, verdict_code, row_code, who_at, how_at, act_at, verdict_at, row_from, made_by, row_by_code}

the_port : (number : ℕ) → 1 ≤ number → number ≤ 16 → Port
the_port number low high = record { number = number; low = low; high = high }

port_reads : (p : Port) (d : Dec (1 ≤ p.number)) (e : Dec (p.number ≤ 16)) → port_where p.number d e ≡ p
unfolding the_port
port_reads p (yes low) (yes high) =
    ap (λ (l : 1 ≤ p.number). the_port p.number l high) (le_prop low p.low) ∙ ap (λ (h : p.number ≤ 16). the_port p.number p.low h) (le_prop high p.high)
port_reads p (yes low) (no not) = absurd (not p.high)
port_reads p (no not) e = absurd (not p.low)

pub port_again : (p : Port) → port_at (number_of p) ≡ p
port_again p = port_reads p (dec_le 1 p.number) (dec_le p.number 16)

who_again : (who : Who) → (kind : ℕ) × (n : ℕ) × (who_code who ≡ kind ∷ n ∷ []) × (who_at kind n ≡ who)
who_again (Ingress p) = (0, number_of p, refl, ap Ingress (port_again p))
who_again Control = (1, 0, refl, refl)
who_again Ticker = (2, 0, refl, refl)
who_again (Egress p) = (3, number_of p, refl, ap Egress (port_again p))

pub how_again : (how : How) → (kind : ℕ) × (n : ℕ) × (how_code how ≡ kind ∷ n ∷ []) × (how_at kind n ≡ how)
how_again hows.End = (0, 0, refl, refl)
how_again hows.Quit = (1, 0, refl, refl)
how_again (hows.Malformed at) = (2, at, refl, refl)
how_again (hows.Overlong at) = (3, at, refl, refl)
how_again hows.Failed = (4, 0, refl, refl)
how_again hows.Unwritten = (5, 0, refl, refl)
how_again hows.Paused = (6, 0, refl, refl)

-- the five numbers of an act
record ActAgain (act : Act) : Type 0 where
  kind : ℕ
  a : ℕ
  b : ℕ
  c : ℕ
  d : ℕ
  code : act_code act ≡ kind ∷ a ∷ b ∷ c ∷ d ∷ []
  again : act_at kind a b c d ≡ act

end_again : (who : Who) (how : How) → ActAgain (End who how)
end_again who how =
    let w = who_again who in let h = how_again how in
    record {
      kind = 5;
      a = w.0;
      b = w.1;
      c = h.0;
      d = h.1;
      code = ap (λ (xs : List ℕ). 5 ∷ (xs ++ how_code how)) w.2 ∙ ap (λ (xs : List ℕ). 5 ∷ w.0 ∷ w.1 ∷ xs) h.2;
      again = ap (λ (x : Who). End x (how_at h.0 h.1)) w.3 ∙ ap (λ (x : How). End who x) h.3;
    }

act_again : (act : Act) → ActAgain act
act_again (Frame p stamp at len) =
    record { kind = 0; a = number_of p; b = stamp; c = at; d = len; code = refl; again = ap (λ (q : Port). Frame q stamp at len) (port_again p) }
act_again (Long p stamp len) =
    record { kind = 1; a = number_of p; b = stamp; c = len; d = 0; code = refl; again = ap (λ (q : Port). Long q stamp len) (port_again p) }
act_again (Tick stamp) = record { kind = 2; a = stamp; b = 0; c = 0; d = 0; code = refl; again = refl }
act_again (Command stamp at len) = record { kind = 3; a = stamp; b = at; c = len; d = 0; code = refl; again = refl }
act_again (Drain p count) =
    record { kind = 4; a = number_of p; b = count; c = 0; d = 0; code = refl; again = ap (λ (q : Port). Drain q count) (port_again p) }
act_again (End who how) = end_again who how

rule_again : (rule : Rule) → verdict_at 4 (rule_number rule) ≡ Some (Drop rule)
rule_again rules.PortDown = refl
rule_again rules.Malformed = refl
rule_again rules.ReservedGroup = refl
rule_again rules.SourceMac = refl
rule_again rules.Tagged = refl
rule_again rules.BadIpv6 = refl
rule_again rules.HiddenUpper = refl
rule_again rules.UnknownNextHeader = refl
rule_again rules.RouterAdvert = refl
rule_again rules.FragmentedNd = refl
rule_again rules.BadNd = refl
rule_again rules.Redirect = refl
rule_again rules.DhcpServer = refl
rule_again rules.UnspecifiedSource = refl
rule_again rules.OffLink = refl
rule_again rules.NotAssigned = refl
rule_again rules.PortFull = refl
rule_again rules.WrongPort = refl
rule_again rules.Unverified = refl
rule_again rules.Contested = refl
rule_again rules.NaTarget = refl
rule_again rules.PendingFull = refl
rule_again rules.DhcpContested = refl

verdict_again : (v : Option Verdict) → (kind : ℕ) × (n : ℕ) × (verdict_code v ≡ kind ∷ n ∷ []) × (verdict_at kind n ≡ v)
verdict_again None = (0, 0, refl, refl)
verdict_again (Some (Pass All)) = (1, 0, refl, refl)
verdict_again (Some (Pass TrustedOnly)) = (2, 0, refl, refl)
verdict_again (Some (Pass (TrustedAnd p))) = (3, number_of p, refl, ap (λ (q : Port). Some (Pass (TrustedAnd q))) (port_again p))
verdict_again (Some (Drop rule)) = (4, rule_number rule, refl, rule_again rule)

-- the row with this act and this verdict in place of its own
abbrev judged_as : Row → Act → Option Verdict → Row
judged_as row act verdict = record row { entry = record row.entry { act = act; verdict = verdict } }

pub row_again : (row : Row) → row_by_code (row_code row) ≡ row
row_again row =
    let a = act_again row.entry.act in let v = verdict_again row.entry.verdict in
    let numbers : List ℕ → List ℕ = λ (rest : List ℕ).
    row.entry.moment ∷ row.entry.outs.0 ∷ row.entry.cuts.0 ∷ row.entry.probes ∷ row.entry.lost ∷ rest in
    ap (λ (xs : List ℕ). made_by row.entry.by (row_from (numbers (xs ++ (verdict_code row.entry.verdict ++ row.octets))))) a.code
    ∙ ap (λ (xs : List ℕ). made_by row.entry.by (row_from (numbers (a.kind ∷ a.a ∷ a.b ∷ a.c ∷ a.d ∷ (xs ++ row.octets))))) v.2
    ∙ ap (λ (x : Act). judged_as row x (verdict_at v.0 v.1)) a.again
    ∙ ap (λ (x : Option Verdict). judged_as row row.entry.act x) v.3

pub one_row : (row other : Row) → row_code row ≡ row_code other → row ≡ other
one_row row other same = sym (row_again row) ∙ ap row_by_code same ∙ row_again other
