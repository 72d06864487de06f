-- What a history leaves, and its lines, don't depend on the names of a plan.
use Rattle.std.proofs.Common.{◌≡◌, ℕ, ◌*◌, ◌+◌, false, if◌then◌else◌, List, [], ◌∷◌, ◌++◌, map, refl, ap, sym, ◌∙◌, codes, slice_get}
use Rattle.std.specs.List.{filter, flat_map}
use Rattle.std.proofs.Math.Path.{fun_ext}
use Rattle.std.proofs.lemmas.List.Elements.{filter_agree}
use Rattle.bridge_fdb.specs.declared.station.Station.{Station}
use Rattle.savi_kinds.specs.declared.port.Port.{Port}
use Rattle.savi_kinds.specs.declared.plan.Plan.{Plan}
use Rattle.savi_kinds.specs.declared.plan.PortPlan.{PortPlan}
use Rattle.savi_kinds.specs.declared.entry.Who.{Who}
use Rattle.savi_kinds.specs.declared.entry.Who.TheVariants.{Ingress, Control, Ticker, Egress}
use Rattle.savi_kinds.specs.declared.entry.How.{How}
use Rattle.savi_kinds.specs.ValidPlan.{numbers_of}
use Rattle.savi_kinds.specs.Vlans.{vlans_of}
use Rattle.savi_access.specs.Rules.{AccessRules}
use Rattle.savi_access.specs.Marks.{Mark, open_requests, told}
use Rattle.savi_access.specs.Plans.{rules_of}
use Rattle.savi_access.specs.Tables.{rows_at}
use Rattle.hist_store.specs.Rows.{Row}
use Rattle.hist_store.specs.EndTexts.{how_fields}
use Rattle.checkpoint.specs.Bases.{Base, access_of}
use Rattle.checkpoint.specs.Columns.{by_vlan}
use Rattle.checkpoint.specs.Orders.{requests_in_order}
use Rattle.checkpoint.specs.StateLines.{state_base_lines}
use Rattle.checkpoint.specs.BaseLines.{base_lines, head_lines, passes_of, pass_text, request_line, station_base_line}
use Rattle.savi_history.specs.Journals.{without_port_names, without_names}
use Rattle.savi_history.specs.Marks.{marks}
use Rattle.savi_history.specs.Moments.{last_moment}
use Rattle.savi_history.specs.Passes.{pass_count}
use Rattle.savi_history.specs.Shown.{counts_of}
use Rattle.savi_history.specs.ShutPorts.{is_shut}
use Rattle.savi_history.specs.Stations.{stations}
use Rattle.savi_history.proofs.WithoutNames.{count_kept, marks_kept, numbers_kept, rules_kept, shut_kept, stations_kept, vlans_kept}
use Rattle.savi_segments.specs.Checkpoints.{after, end_of, ends_of, up_to}

abbrev Lines : Type 0
Lines = List (List (List ℕ))

-- what a history leaves, by these rules, marks, stations and ports that are shut, of so many passes
abbrev left_by : Base → List Row → (ℕ → List Station) → AccessRules → List Mark → List ℕ → ℕ → Base
left_by base past known rules all shut count = record {
  is_start = false;
  moment = last_moment base past;
  ended = ends_of (λ pass. end_of base pass past) (up_to count);
  shut = shut;
  stations = known;
  rows = λ vlan. rows_at rules.addresses (access_of base).addresses (told all) (last_moment base past) vlan;
  requests = λ vlan. open_requests (access_of base) vlan all (last_moment base past);
  counts = counts_of base past;
}

module _ (plan : Plan) (base : Base) (past : List Row) where
  abbrev bare : Plan
  bare = without_names plan

  -- the ports of a plan that are shut, by the numbers of its ports
  shut_ports : filter (λ (number : ℕ). is_shut bare base number past) (numbers_of bare.ports) ≡ filter (λ (number : ℕ). is_shut plan base number past) (numbers_of plan.ports)
  shut_ports =
      ap (λ (numbers : List ℕ). filter (λ (number : ℕ). is_shut bare base number past) numbers) (numbers_kept plan.ports)
      ∙ filter_agree (λ (number : ℕ). is_shut bare base number past) (λ (number : ℕ). is_shut plan base number past) (λ number. shut_kept plan base number past) (numbers_of plan.ports)

  pass_count_kept : pass_count bare ≡ pass_count plan
  pass_count_kept = ap (λ (n : ℕ). 2 * n + 2) (count_kept plan.ports)

  after_kept : after bare base past ≡ after plan base past
  after_kept =
      let shut = filter (λ (number : ℕ). is_shut bare base number past) (numbers_of bare.ports) in
      let known : ℕ → List Station = λ vlan. stations vlan plan base past in
      ap (λ (known : ℕ → List Station). left_by base past known (rules_of bare) (marks bare base past) shut (pass_count bare)) (fun_ext (λ vlan. stations_kept plan base vlan past))
      ∙ ap (λ (rules : AccessRules). left_by base past known rules (marks bare base past) shut (pass_count bare)) (rules_kept plan)
      ∙ ap (λ (all : List Mark). left_by base past known (rules_of plan) all shut (pass_count bare)) (marks_kept plan base past)
      ∙ ap (λ (numbers : List ℕ). left_by base past known (rules_of plan) (marks plan base past) numbers (pass_count bare)) shut_ports
      ∙ ap (left_by base past known (rules_of plan) (marks plan base past) (filter (λ (number : ℕ). is_shut plan base number past) (numbers_of plan.ports))) pass_count_kept

-- passes by the numbers of ports
whos_kept : (who : Port → Who) (ports : List PortPlan) → map (λ (port : PortPlan). who port.number) (map without_port_names ports) ≡ map (λ (port : PortPlan). who port.number) ports
whos_kept who [] = refl
whos_kept who (p ∷ ports) = ap (λ (whos : List Who). who p.number ∷ whos) (whos_kept who ports)

passes_kept : (plan : Plan) → passes_of (without_names plan) ≡ passes_of plan
passes_kept plan =
    ap (λ (whos : List Who). whos ++ Control ∷ Ticker ∷ map (λ (port : PortPlan). Egress port.number) (map without_port_names plan.ports)) (whos_kept Ingress plan.ports)
    ∙ ap (λ (whos : List Who). map (λ (port : PortPlan). Ingress port.number) plan.ports ++ Control ∷ Ticker ∷ whos) (whos_kept Egress plan.ports)

-- the lines of a base, by the passes in their order and by the VLANs
abbrev lines_by : List Who → List ℕ → Base → Lines
lines_by whos vlans base =
    if base.is_start then [] else head_lines base
    ++ (flat_map state_base_lines (by_vlan vlans base.rows)
    ++ map request_line (requests_in_order (by_vlan vlans base.requests))
    ++ map station_base_line (by_vlan vlans base.stations)
    ++ map (λ (p : ℕ × How). codes "ended" ∷ pass_text (slice_get whos p.0) ∷ how_fields p.1) base.ended)

lines_kept : (plan : Plan) (base : Base) → base_lines (without_names plan) base ≡ base_lines plan base
lines_kept plan base =
    ap (λ (whos : List Who). lines_by whos (vlans_of (without_names plan)) base) (passes_kept plan)
    ∙ ap (λ (vlans : List ℕ). lines_by (passes_of plan) vlans base) (vlans_kept plan)

-- two plans that differ at most in names
module _ (plan plan' : Plan) (same : without_names plan ≡ without_names plan') where
  pub after_same : (base : Base) (past : List Row) → after plan base past ≡ after plan' base past
  after_same base past = sym (after_kept plan base past) ∙ ap (λ (p : Plan). after p base past) same ∙ after_kept plan' base past

  pub base_lines_same : (base : Base) → base_lines plan base ≡ base_lines plan' base
  base_lines_same base = sym (lines_kept plan base) ∙ ap (λ (p : Plan). base_lines p base) same ∙ lines_kept plan' base
