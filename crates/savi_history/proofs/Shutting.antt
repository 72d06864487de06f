-- A shut port takes no part.
use Rattle.std.proofs.Common.{◌≡◌, ℕ, ◌≤◌, ◌==◌, ◌&&◌, not, Bool, true, false, if◌then◌else◌, Option, Some, None, Result, Ok, Err, List, [], ◌∷◌, All, map, inl, inr, refl, sym, ap, subst, ◌∙◌}
use Rattle.std.specs.List.{filter, list_any}
use Rattle.std.proofs.lemmas.Bool.{cases_Bool, and_parts, or_cases, eqb-true, false≢true}
use Rattle.std.proofs.lemmas.List.Elements.{All-head, All-tail}
use Rattle.savi_kinds.specs.declared.plan.Plan.{Plan}
use Rattle.savi_kinds.specs.declared.port.Port.{Port}
use Rattle.savi_kinds.specs.declared.entry.Act.{Act}
use Rattle.savi_kinds.specs.declared.entry.Act.TheVariants as acts
use Rattle.savi_kinds.specs.declared.verdict.Rule.TheVariants.{PortDown}
use Rattle.savi_kinds.specs.declared.verdict.Verdict.{Verdict}
use Rattle.savi_kinds.specs.declared.verdict.Verdict.TheVariants.{Drop}
use Rattle.savi_kinds.specs.Ports.{number_of}
use Rattle.savi_kinds.specs.PortSets.{is_member, set_of}
use Rattle.savi_kinds.specs.ValidPlan.{numbers_of}
use Rattle.eth_frame.specs.Tags.{inner}
use Rattle.frame_class.specs.ClassOf.{class_of}
use Rattle.cli_lang.specs.declared.kinds.Command.{Command}
use Rattle.cli_lang.specs.declared.kinds.Command.TheVariants as orders
use Rattle.cli_lang.specs.declared.kinds.CmdFault.{CmdFault}
use Rattle.cli_lang.specs.CommandOf.{command_of}
use Rattle.control_replies.specs.declared.refusal.Refusal.{Refusal}
use Rattle.control_replies.specs.declared.refusal.Refusal.TheVariants as refusals
use Rattle.savi_access.specs.declared.row.Row.{Row as AddressRow}
use Rattle.hist_store.specs.Rows.{Row}
use Rattle.savi_access.specs.Judged.{drops}
use Rattle.checkpoint.specs.Bases.{Base}
use Rattle.savi_history.specs.Vlans.{vlan_of_frame}
use Rattle.savi_history.specs.Moments.{moment_at}
use Rattle.savi_history.specs.Passes.{has_port}
use Rattle.savi_history.specs.Limits.{IsWithinLimits}
use Rattle.savi_history.specs.Commands.{port_refusal, refusal_of}
use Rattle.savi_history.specs.ShutPorts.{is_heard_at, shut_by, shut_after, is_shut}
use Rattle.savi_history.specs.Marks.{marks, judged_after}
use Rattle.savi_history.specs.Judged.{judged_of, judged_long, verdict_of, long_by}
use Rattle.savi_history.specs.Stations.{known_port}
use Rattle.savi_history.specs.Outs.{outs_by, outs}
use Rattle.savi_history.specs.Offers.{Offer, offers}
use Rattle.savi_history.specs.Queues.{probe_item, is_for, is_probed, offered_at}
use Rattle.savi_history.specs.Events.{outs_of}
use Rattle.savi_history.proofs.Directing.{none_in, member_filter, all_numbers, and-false}

pub dropped : (plan : Plan) (base : Base) (past : List Row) (port : Port) (stamp : ℕ) (octets : List ℕ) → is_shut plan base (number_of port) past ≡ true
    → judged_of plan base past port stamp octets ≡ drops PortDown (marks plan base past)
dropped plan base past port stamp octets shut = ap (λ (b : Bool). judged_after plan base b (marks plan base past) port (moment_at base past stamp) (vlan_of_frame plan (number_of port) octets) (class_of (inner octets))) shut

pub long_dropped : (plan : Plan) (base : Base) (past : List Row) (port : Port) → is_shut plan base (number_of port) past ≡ true → judged_long plan base past port ≡ Drop PortDown
long_dropped plan base past port shut = ap long_by shut

no_frames_in : (plan : Plan) (base : Base) (past : List Row) (port moment : ℕ) (octets : List ℕ) (verdict : Verdict) (q : ℕ) → 1 ≤ q → is_shut plan base q past ≡ true → (vlan : Option ℕ)
    → is_member (outs vlan plan base past port moment octets verdict) q ≡ false
no_frames_in plan base past port moment octets verdict q least shut (Some vlan) =
    let set = outs_by vlan plan port (known_port vlan plan base past moment octets) verdict in
    member_filter (λ n. is_member set n && not (is_shut plan base n past)) (numbers_of plan.ports) q (all_numbers plan.ports) least
    ∙ ap (λ (b : Bool). is_member (set_of (numbers_of plan.ports)) q && (is_member set q && not b)) shut
    ∙ ap (λ (b : Bool). is_member (set_of (numbers_of plan.ports)) q && b) (and-false (is_member set q))
    ∙ and-false (is_member (set_of (numbers_of plan.ports)) q)
no_frames_in plan base past port moment octets verdict q least shut None = none_in q

pub no_frames : (plan : Plan) (base : Base) (past : List Row) (port : Port) (stamp : ℕ) (octets : List ℕ) (q : ℕ) → 1 ≤ q → is_shut plan base q past ≡ true
    → is_member (outs_of plan base past port stamp octets) q ≡ false
no_frames plan base past port stamp octets q least shut =
    no_frames_in plan base past (number_of port) (moment_at base past stamp) octets (verdict_of plan base past port stamp octets) q least shut (vlan_of_frame plan (number_of port) octets)

none_left : {X : Type 0} (p : X → Bool) → ((x : X) → p x ≡ false) → (xs : List X) → filter p xs ≡ []
none_left p none [] = refl
none_left p none (x ∷ xs) = rw (none x) (none_left p none xs)

pub no_probes : (plan : Plan) (base : Base) (past : List Row) (act : Act) (octets : List ℕ) (q : ℕ) → is_shut plan base q past ≡ true → offered_at plan base past act octets q ≡ []
no_probes plan base past act octets q shut =
    ap (λ (some : List Offer). map (probe_item plan q) some)
    (none_left (is_probed plan base past q)
    (λ offer. ap (λ (b : Bool). is_for plan q offer.vlan offer.probe && not b) shut ∙ and-false (is_for plan q offer.vlan offer.probe))
    (offers plan base past act octets))

-- a command that is refused shuts and opens no port

by_port : (plan : Plan) (port : Port) (refusal : Refusal) → port_refusal plan port ≡ Some refusal → has_port plan (number_of port) ≡ false
by_port plan port refusal refused = elim (cases_Bool (has_port plan (number_of port))) [
  | inl known ↦ absurd cc (sym (ap (λ (b : Bool). if b then None else Some refusals.NoSuchPort) known) ∙ refused)
  | inr unknown ↦ unknown
]

pub refused_shuts_none : (plan : Plan) (rows : ℕ → List AddressRow) (order : Result Command CmdFault) (refusal : Refusal) (number : ℕ) (before : Bool) → refusal_of plan rows order ≡ Some refusal → shut_by plan number order before ≡ before
refused_shuts_none plan rows (Ok (orders.Shut port)) refusal number before refused =
    ap (λ (b : Bool). if b && number_of port == number then true else before) (by_port plan port refusal refused)
refused_shuts_none plan rows (Ok (orders.Reopen port)) refusal number before refused =
    ap (λ (b : Bool). if b && number_of port == number then false else before) (by_port plan port refusal refused)
refused_shuts_none plan rows (Ok (orders.Static address port)) refusal number before refused = refl
refused_shuts_none plan rows (Ok (orders.Clear vlan address)) refusal number before refused = refl
refused_shuts_none plan rows (Ok orders.ShowBindings) refusal number before refused = refl
refused_shuts_none plan rows (Ok orders.ShowPorts) refusal number before refused = refl
refused_shuts_none plan rows (Ok orders.ShowCounters) refusal number before refused = refl
refused_shuts_none plan rows (Ok orders.ShowStations) refusal number before refused = refl
refused_shuts_none plan rows (Ok orders.Quit) refusal number before refused = refl
refused_shuts_none plan rows (Err fault) refusal number before refused = refl

-- only ports of the plan are shut

any_known : (plan : Plan) (number : ℕ) (ns : List ℕ) → All (λ n. has_port plan n ≡ true) ns → list_any (λ n. n == number) ns ≡ true → has_port plan number ≡ true
any_known plan number [] all some = absurd (false≢true some)
any_known plan number (n ∷ ns) all some =
    elim (or_cases (n == number) (list_any (λ m. m == number) ns) some) [
      | inl here ↦ subst (λ (m : ℕ). has_port plan m ≡ true) (eqb-true n number here) (All-head (λ m. has_port plan m ≡ true) n ns all)
      | inr behind ↦ any_known plan number ns (All-tail (λ m. has_port plan m ≡ true) n ns all) behind
    ]

-- where a port is heard that wasn't shut before, it is one of the plan
heard : (plan : Plan) (port : Port) (number : ℕ) (now before : Bool) → (before ≡ true → has_port plan number ≡ true) → (if is_heard_at plan port number then now else before) ≡ true → has_port plan number ≡ true
heard plan port number now before was shut =
    elim (cases_Bool (is_heard_at plan port number)) [
      | inl here ↦
          let both = and_parts (has_port plan (number_of port)) (number_of port == number) here in
          subst (λ (m : ℕ). has_port plan m ≡ true) (eqb-true (number_of port) number both.1) both.0
      | inr elsewhere ↦ was (sym (ap (λ (b : Bool). if b then now else before) elsewhere) ∙ shut)
    ]

by_order : (plan : Plan) (number : ℕ) (order : Result Command CmdFault) (before : Bool) → (before ≡ true → has_port plan number ≡ true) → shut_by plan number order before ≡ true → has_port plan number ≡ true
by_order plan number (Ok (orders.Shut port)) before was shut = heard plan port number true before was shut
by_order plan number (Ok (orders.Reopen port)) before was shut = heard plan port number false before was shut
by_order plan number (Ok (orders.Static address port)) before was shut = was shut
by_order plan number (Ok (orders.Clear vlan address)) before was shut = was shut
by_order plan number (Ok orders.ShowBindings) before was shut = was shut
by_order plan number (Ok orders.ShowPorts) before was shut = was shut
by_order plan number (Ok orders.ShowCounters) before was shut = was shut
by_order plan number (Ok orders.ShowStations) before was shut = was shut
by_order plan number (Ok orders.Quit) before was shut = was shut
by_order plan number (Err fault) before was shut = was shut

by_act : (plan : Plan) (number : ℕ) (octets : List ℕ) (act : Act) (before : Bool) → (before ≡ true → has_port plan number ≡ true) → shut_after plan number octets act before ≡ true → has_port plan number ≡ true
by_act plan number octets (acts.Command stamp at len) before was shut = by_order plan number (command_of octets) before was shut
by_act plan number octets (acts.Frame port stamp at len) before was shut = was shut
by_act plan number octets (acts.Long port stamp len) before was shut = was shut
by_act plan number octets (acts.Tick stamp) before was shut = was shut
by_act plan number octets (acts.Drain port count) before was shut = was shut
by_act plan number octets (acts.End who how) before was shut = was shut

pub shut_inside : (plan : Plan) (base : Base) (past : List Row) (number : ℕ) → IsWithinLimits plan base → is_shut plan base number past ≡ true → has_port plan number ≡ true
shut_inside plan base [] number within shut = any_known plan number base.shut within.shut shut
shut_inside plan base (r ∷ past) number within shut = by_act plan number r.octets r.entry.act (is_shut plan base number past) (λ before. shut_inside plan base past number within before) shut
