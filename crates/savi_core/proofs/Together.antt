-- What a core keeps of all VLANs, after one more row.
use Rattle.std.proofs.Common.{◌≡◌, ℕ, ◌<◌, List, [], ◌∷◌, ◌++◌, length, map, All, Option, Some, IfSome, refl, sym, ap, subst, ◌∙◌}
use Rattle.std.specs.Prelude.{reverse}
use Rattle.std.proofs.lemmas.List.Elements.{All-map, All-weaker}
use Rattle.savi_kinds.specs.declared.plan.Plan.{Plan}
use Rattle.savi_kinds.specs.declared.port.Port.{Port}
use Rattle.savi_kinds.specs.declared.entry.Entry.{Entry}
use Rattle.savi_kinds.specs.declared.entry.Who.{Who}
use Rattle.savi_kinds.specs.declared.entry.How.{How}
use Rattle.savi_kinds.specs.declared.verdict.Verdict.{Verdict}
use Rattle.savi_kinds.specs.Ports.{number_of}
use Rattle.savi_kinds.specs.Vlans.{vlans_of}
use Rattle.eth_frame.specs.Tags.{inner}
use Rattle.frame_class.specs.declared.classes.Class.{Class}
use Rattle.frame_class.specs.Reading.{IsClassOf}
use Rattle.frame_class.specs.Classes.{eth_of}
use Rattle.cli_lang.specs.CommandOf.{command_of}
use Rattle.bridge_fdb.specs.declared.station.Station.{Station}
use Rattle.bridge_fdb.specs.Stations.{live_at}
use Rattle.savi_access.specs.Plans.{rules_of}
use Rattle.access_table.specs.Kept.{Kept, Represents, IsAgedTo}
use Rattle.hist_store.specs.Rows.{Row}
use Rattle.checkpoint.specs.Bases.{Base, access_of}
use Rattle.savi_history.specs.Vlans.{vlan_of_frame}
use Rattle.savi_history.specs.Moments.{moment_at}
use Rattle.savi_history.specs.Commands.{commanded}
use Rattle.savi_history.specs.Marks.{marks}
use Rattle.savi_history.specs.Judged.{judged_of}
use Rattle.savi_history.specs.Events as events
use Rattle.savi_history.specs.Events.{row_of}
use Rattle.savi_core.specs.declared.vlan_set.VlanSet.{VlanSet}
use Rattle.savi_core.specs.VlanSets.{AllRepresent, AreAgedTo, fdb_at, stations_of_sets, vlan_of_place, vlans_of_sets}
use Rattle.savi_core.specs.Origins.{teaches_at}
use Rattle.savi_core.specs.Remembers.{CoreState, Remembers}
use Rattle.savi_core.specs.Tells.{Tells, TellOfAll}
use Rattle.savi_core.proofs.Knowing.{from_map, knows_command, knows_drain, knows_end, knows_frame, knows_long, knows_tick, same_known, taught_if}
use Rattle.savi_core.proofs.Stepping.{row}
use Rattle.savi_core.proofs.Telling.{tells_command, tells_drain, tells_end, tells_frame, tells_long, tells_tick}

-- the VLANs of sets, by their stations or by their addresses

vlans_by : (sets : List VlanSet) → map (λ p. p.0) (stations_of_sets sets) ≡ vlans_of_sets sets
vlans_by [] = refl
vlans_by (set ∷ sets) = ap (λ (vs : List ℕ). set.access.vlan ∷ vs) (vlans_by sets)

pub same_vlans : (sets sets' : List VlanSet) → stations_of_sets sets' ≡ stations_of_sets sets → vlans_of_sets sets' ≡ vlans_of_sets sets
same_vlans sets sets' same = sym (vlans_by sets') ∙ ap (λ (l : List (ℕ × List Station)). map (λ p. p.0) l) same ∙ vlans_by sets

abbrev pub tables_of : List VlanSet → List Kept
tables_of sets = map (λ set. set.access) sets

vlans_of_tables : (sets : List VlanSet) → map (λ (table : Kept). table.vlan) (tables_of sets) ≡ vlans_of_sets sets
vlans_of_tables [] = refl
vlans_of_tables (set ∷ sets) = ap (λ (vs : List ℕ). set.access.vlan ∷ vs) (vlans_of_tables sets)

pub same_vlans_of : (sets sets' : List VlanSet) → tables_of sets' ≡ tables_of sets → vlans_of_sets sets' ≡ vlans_of_sets sets
same_vlans_of sets sets' same = sym (vlans_of_tables sets') ∙ ap (λ (l : List Kept). map (λ (table : Kept). table.vlan) l) same ∙ vlans_of_tables sets

-- what holds of the tables of sets holds of the same ones in others
pub same_tables : (P : Kept → Type 0) (sets sets' : List VlanSet) → tables_of sets' ≡ tables_of sets → All (λ (set : VlanSet). P set.access) sets → All (λ (set : VlanSet). P set.access) sets'
same_tables P sets sets' same all =
    from_map (λ (set : VlanSet). set.access) P sets' (subst (λ (l : List Kept). All P l) (sym same) (All-map P (λ (set : VlanSet). set.access) sets all))

-- sets that are lent tell what they told, and so do those that come back
pub lent_too : {plan : Plan} {base : Base} {past : List Row} {moment : ℕ} {sets lent : List VlanSet} → lent ≡ sets → TellOfAll plan base past moment sets → TellOfAll plan base past moment lent
lent_too {plan} {base} {past} {moment} same tells = subst (λ (l : List VlanSet). TellOfAll plan base past moment l) (sym same) tells

-- all sets that tell of a moment are aged to it
pub all_ready : (plan : Plan) (base : Base) (past : List Row) (moment : ℕ) (sets : List VlanSet) → TellOfAll plan base past moment sets → AreAgedTo (rules_of plan) moment sets
all_ready plan base past moment sets tells =
    All-weaker (λ (set : VlanSet). Tells plan base past moment set.access) (λ (set : VlanSet). IsAgedTo (rules_of plan) moment set.access) (λ set one. one.ready) sets tells.tell

module _ {k : CoreState} (was : Remembers k) (sets : List VlanSet) (tells : TellOfAll k.plan k.base (reverse k.rows) k.moment sets) where
  abbrev After : List ℕ → Entry → List VlanSet → Type 0
  After octets e sets' = TellOfAll k.plan k.base (reverse (k.rows ++ row e octets ∷ [])) e.moment sets'

  abbrev TellsNow : VlanSet → Type 0
  TellsNow set = Tells k.plan k.base (reverse k.rows) k.moment set.access

  abbrev TellsThen : Entry → VlanSet → Type 0
  TellsThen e set = Tells k.plan k.base (reverse (k.rows ++ row e [] ∷ [])) e.moment set.access

  -- entries with which no time passes

  pub all_drain : (port : Port) (count : ℕ) (e : Entry) → e ≡ (row_of k.plan k.base (reverse k.rows) (events.Drain port count)).entry → After [] e sets
  all_drain port count e e_is = record {
    vlans = tells.vlans;
    tell = All-weaker TellsNow (TellsThen e) (λ set one. tells_drain was set.access one port count e e_is) sets tells.tell;
    know = knows_drain was sets tells.know port count e e_is sets refl;
  }

  pub all_end : (who : Who) (how : How) (e : Entry) → e ≡ (row_of k.plan k.base (reverse k.rows) (events.End who how)).entry → After [] e sets
  all_end who how e e_is = record {
    vlans = tells.vlans;
    tell = All-weaker TellsNow (TellsThen e) (λ set one. tells_end was set.access one who how e e_is) sets tells.tell;
    know = knows_end was sets tells.know who how e e_is sets refl;
  }

  -- entries with which all states are aged

  module _ (sets' : List VlanSet) (rest : stations_of_sets sets' ≡ stations_of_sets sets) where
    pub of_plan : vlans_of_sets sets' ≡ vlans_of k.plan
    of_plan = same_vlans sets sets' rest ∙ tells.vlans

    module _ (stamp : ℕ) (ready : AreAgedTo (rules_of k.plan) (moment_at k.base (reverse k.rows) stamp) sets') where
      pub all_long : (port : Port) (len : ℕ) (e : Entry) → e ≡ (row_of k.plan k.base (reverse k.rows) (events.Long port stamp len)).entry
          → AllRepresent (rules_of k.plan) (access_of k.base) (marks k.plan k.base (reverse k.rows)) (moment_at k.base (reverse k.rows) stamp) sets' → After [] e sets'
      all_long port len e e_is states = record {
        vlans = of_plan;
        tell = λ n d inside. tells_long was port stamp len e _ e_is (states n d inside) (ready n d inside);
        know = knows_long was sets tells.know port stamp len e e_is sets' rest;
      }

      pub all_tick : (e : Entry) → e ≡ (row_of k.plan k.base (reverse k.rows) (events.Tick stamp)).entry
          → AllRepresent (rules_of k.plan) (access_of k.base) (marks k.plan k.base (reverse k.rows)) (moment_at k.base (reverse k.rows) stamp) sets' → After [] e sets'
      all_tick e e_is states = record {
        vlans = of_plan;
        tell = λ n d inside. tells_tick was stamp e _ e_is (states n d inside) (ready n d inside);
        know = knows_tick was sets tells.know stamp e e_is sets' rest;
      }

      pub all_command : (line : List ℕ) (e : Entry) → e ≡ (row_of k.plan k.base (reverse k.rows) (events.Command stamp line)).entry
          → AllRepresent (rules_of k.plan) (access_of k.base) (commanded k.plan (access_of k.base) (moment_at k.base (reverse k.rows) stamp) (command_of line) (marks k.plan k.base (reverse k.rows))) (moment_at k.base (reverse k.rows) stamp) sets' → After line e sets'
      all_command line e e_is states = record {
        vlans = of_plan;
        tell = λ n d inside. tells_command was stamp line e _ e_is (states n d inside) (ready n d inside);
        know = knows_command was sets tells.know stamp line e e_is sets' rest;
      }

      -- a frame that has then taught its source in its VLAN
      pub all_frame : (port : Port) (octets : List ℕ) (class : Class) (verdict : Verdict) (set : Option ℕ) (e : Entry) (sets'' : List VlanSet) → IsClassOf (inner octets) class
          → IfSome set (λ s. s < length (vlans_of k.plan)) → vlan_of_place k.plan set ≡ vlan_of_frame k.plan (number_of port) octets
          → e ≡ (row_of k.plan k.base (reverse k.rows) (events.Frame port stamp octets)).entry → e.verdict ≡ Some verdict
          → AllRepresent (rules_of k.plan) (access_of k.base) (judged_of k.plan k.base (reverse k.rows) port stamp octets).marks (moment_at k.base (reverse k.rows) stamp) sets'
          → tables_of sets'' ≡ tables_of sets'
          → ((place : ℕ) → place < length sets' → live_at e.moment (fdb_at sets'' place) ≡ taught_if (teaches_at set verdict place) port e.moment (eth_of class) (live_at e.moment (fdb_at sets' place)))
          → After octets e sets''
      all_frame port octets class verdict set e sets'' is within vlan_is e_is verdict_is states same taught_is =
          let now = same_known k.plan k.base (reverse k.rows) k.moment sets sets' rest tells.know in
          let vlans'' : vlans_of_sets sets'' ≡ vlans_of k.plan = same_vlans_of sets' sets'' same ∙ of_plan in
          let states'' = same_tables (Represents (rules_of k.plan) (access_of k.base) (judged_of k.plan k.base (reverse k.rows) port stamp octets).marks (moment_at k.base (reverse k.rows) stamp)) sets' sets'' same states in
          let ready'' = same_tables (IsAgedTo (rules_of k.plan) (moment_at k.base (reverse k.rows) stamp)) sets' sets'' same ready in
          record {
            vlans = vlans'';
            tell = λ n d inside. tells_frame was port stamp octets e _ e_is (states'' n d inside) (ready'' n d inside);
            know = knows_frame was sets' now of_plan port stamp octets class verdict set e sets'' is within vlan_is e_is verdict_is vlans'' taught_is;
          }
