use Rattle.std.proofs.Common.{◌≡◌, Bool, true, false, if◌then◌else◌, List, ℕ, Option, Some, None, refl, sym, ◌∙◌, ap}
use Rattle.std.specs.Option.{option_map}
use Rattle.savi_kinds.specs.declared.entry.Act.{Act}
use Rattle.savi_kinds.specs.declared.entry.Act.TheVariants.{Frame, Long, Tick, Command, Drain, End}
use Rattle.savi_kinds.specs.declared.port.Port.{Port}
use Rattle.hist_store.specs.Rows.{Row}
use Rattle.v4_snoop.specs.Reasons.{passed_at}
use Rattle.audit_run.specs.PassedFrames.{frame_by}
use Rattle.audit_run.proofs.passed_port.passed_port.Goals as goal

map_if : (is : Bool) (port : Port) (moment : ℕ) (octets : List ℕ) → (if is then Some (passed_at port moment octets) else None) ≡ option_map (λ (p : Port). passed_at p moment octets) (if is then Some port else None)
map_if true port moment octets = refl
map_if false port moment octets = refl

no_frame : (row : Row) (act : Act) → ((port : Port) (stamp at len : ℕ) → act ≡ Frame port stamp at len → ⊥) → frame_by row act ≡ None
no_frame row (Frame port stamp at len) other = absurd (other port stamp at len refl)
no_frame row (Long port stamp len) other = refl
no_frame row (Tick stamp) other = refl
no_frame row (Command stamp at len) other = refl
no_frame row (Drain port count) other = refl
no_frame row (End who how) other = refl

pub returns-in-Frame : goal.returns-in-Frame
returns-in-Frame c = λ octets.
    let row : Row = record { entry = c.args.e.now; octets = octets } in
    let as_port : Bool → Option Port = λ is. if is then Some c.in-Frame.port else None in
    ap (λ (act : Act). frame_by row act) c.in-Frame.is
    ∙ map_if _ c.in-Frame.port c.args.e.now.moment octets
    ∙ ap (λ (o : Option Port). option_map (λ (p : Port). passed_at p c.args.e.now.moment octets) o) (sym (c.port_if.ensures ∙ ap as_port c.has_passed.ensures))

pub returns-in_default : goal.returns-in_default
returns-in_default c = λ octets. no_frame (record { entry = c.args.e.now; octets = octets }) c.args.e.now.act c.in_default.not-Frame
