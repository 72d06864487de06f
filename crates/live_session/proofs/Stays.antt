-- What one pass did stays what a segment says of it, while others go on; and a pass that ended before has no row in it.
use Rattle.std.proofs.Common.{◌≡◌, ℕ, ◌==◌, ◌&&◌, not, Bool, true, false, if◌then◌else◌, List, [], ◌∷◌, ◌++◌, refl, sym, ap, subst, ◌∙◌, append-nil, take, Some, inl, inr}
use Rattle.std.proofs.lemmas.Bool.{cases_Bool, eqb-true, eq-eqb, false≢true, ne_eqb, or_right}
use Rattle.savi_kinds.specs.declared.plan.Plan.{Plan}
use Rattle.savi_kinds.specs.declared.plan.Format.{Format}
use Rattle.savi_kinds.specs.declared.entry.Who.{Who}
use Rattle.savi_kinds.specs.declared.entry.Who.TheVariants.{Ingress, Control, Ticker, Egress}
use Rattle.savi_kinds.specs.Ports.{number_of}
use Rattle.savi_kinds.specs.Arrivals as arrivals
use Rattle.hist_store.specs.Rows.{Row}
use Rattle.checkpoint.specs.Bases.{Base}
use Rattle.savi_history.specs.ControlInputs.{entered_lines, control_end}
use Rattle.savi_history.specs.ControlOutputs.{replies}
use Rattle.savi_history.specs.Endings.{is_paused_end}
use Rattle.savi_history.specs.Events.{Event, Frame, Long, Command, Tick, Drain, End, row_of}
use Rattle.savi_history.specs.Legal.{IsLegal, IsOpen, MayCome}
use Rattle.savi_history.specs.Passes.{control_pass, egress_pass, has_ended, is_end, pass_of, place_of}
use Rattle.savi_history.specs.PortInputs.{arrived, input_end}
use Rattle.savi_history.specs.PortOutputs.{output_end}
use Rattle.savi_history.specs.Queues.{Item, sent, queue}
use Rattle.core_keep.specs.Seen.{AreOthers, IsLater}
use Rattle.savi_segments.specs.Unbroken.{without_pauses}
use Rattle.live_session.specs.LiveOutputs.{output_text, sure_within}

-- this row is of another pass
abbrev pub IsOther : ℕ → Row → Type 0
IsOther pass r = (r.entry.by == pass) ≡ false

-- what no row of another pass changes stays so
pub stays : {X : Type 0} (plan : Plan) (base : Base) (pass : ℕ) (f : List Row → X)
    → ((past : List Row) (event : Event) → IsOther pass (row_of plan base past event) → f (row_of plan base past event ∷ past) ≡ f past)
    → (newer past : List Row) → IsLegal plan base (newer ++ past) → AreOthers pass newer → f (newer ++ past) ≡ f past
stays plan base pass f step [] past legal others = refl
stays {X} plan base pass f step (r ∷ newer) past legal others =
    let event = legal.0.0 in
    let is : r ≡ row_of plan base (newer ++ past) event = legal.0.2 in
    let other : IsOther pass (row_of plan base (newer ++ past) event) = subst (IsOther pass) is others.0 in
    let one : f (r ∷ (newer ++ past)) ≡ f (newer ++ past) =
    subst (λ (x : Row). f (x ∷ (newer ++ past)) ≡ f (newer ++ past)) (sym is) (step (newer ++ past) event other) in
    one ∙ stays plan base pass f step newer past legal.1 others.1

-- where the passes of two ports differ, the ports do
pub differ : (f : ℕ → ℕ) (x y : ℕ) → (f x == f y) ≡ false → (x == y) ≡ false
differ f x y apart = elim (cases_Bool (x == y)) [
  | inl same ↦ absurd (false≢true (sym apart ∙ eq-eqb (f x) (f y) (ap f (eqb-true x y same))))
  | inr not ↦ not
]

pub own : (x : ℕ) → (x == x) ≡ false → ⊥
own x apart = false≢true (sym apart ∙ eq-eqb x x refl)

-- what no row changes it doesn't change where it is left out, as a pause is

left_out_if : {X : Type 0} (f : List Row → X) (r : Row) (rows : List Row) (b : Bool) → f (r ∷ rows) ≡ f rows → f (if b then r ∷ rows else rows) ≡ f rows
left_out_if f r rows true same = same
left_out_if f r rows false same = refl

left_out : {X : Type 0} (f : List Row → X) (r : Row) (past : List Row) → f (r ∷ without_pauses past) ≡ f (without_pauses past) → f (without_pauses (r ∷ past)) ≡ f (without_pauses past)
left_out f r past same = left_out_if f r (without_pauses past) (not (is_paused_end r.entry.act)) same

module _ (plan : Plan) (base : Base) where
  arrived_step : (port : ℕ) (past rows : List Row) (event : Event) → IsOther (place_of plan port) (row_of plan base past event) → arrived port (row_of plan base past event ∷ rows) ≡ arrived port rows
  arrived_step port past rows (Frame p stamp octets) other =
      ap (λ (b : Bool). arrived port rows ++ (if b then arrivals.Frame stamp octets ∷ [] else [])) (differ (place_of plan) (number_of p) port other)
      ∙ append-nil (arrived port rows)
  arrived_step port past rows (Long p stamp len) other =
      ap (λ (b : Bool). arrived port rows ++ (if b then arrivals.Long stamp len ∷ [] else [])) (differ (place_of plan) (number_of p) port other)
      ∙ append-nil (arrived port rows)
  arrived_step port past rows (Command stamp line) other = append-nil (arrived port rows)
  arrived_step port past rows (Tick stamp) other = append-nil (arrived port rows)
  arrived_step port past rows (Drain p count) other = append-nil (arrived port rows)
  arrived_step port past rows (End who how) other = append-nil (arrived port rows)

  input_step : (port : ℕ) (past rows : List Row) (event : Event) → IsOther (place_of plan port) (row_of plan base past event) → input_end port (row_of plan base past event ∷ rows) ≡ input_end port rows
  input_step port past rows (Frame p stamp octets) other = refl
  input_step port past rows (Long p stamp len) other = refl
  input_step port past rows (Command stamp line) other = refl
  input_step port past rows (Tick stamp) other = refl
  input_step port past rows (Drain p count) other = refl
  input_step port past rows (End (Ingress p) how) other =
      ap (λ (b : Bool). if b then Some how else input_end port rows) (differ (place_of plan) (number_of p) port other)
  input_step port past rows (End Control how) other = refl
  input_step port past rows (End Ticker how) other = refl
  input_step port past rows (End (Egress p) how) other = refl

  sent_step : (port : ℕ) (past : List Row) (event : Event) → IsOther (egress_pass plan port) (row_of plan base past event) → sent plan base port (row_of plan base past event ∷ past) ≡ sent plan base port past
  sent_step port past (Frame p stamp octets) other = append-nil (sent plan base port past)
  sent_step port past (Long p stamp len) other = append-nil (sent plan base port past)
  sent_step port past (Command stamp line) other = append-nil (sent plan base port past)
  sent_step port past (Tick stamp) other = append-nil (sent plan base port past)
  sent_step port past (Drain p count) other =
      ap (λ (b : Bool). sent plan base port past ++ (if b then take count (queue plan base port past) else [])) (differ (egress_pass plan) (number_of p) port other)
      ∙ append-nil (sent plan base port past)
  sent_step port past (End who how) other = append-nil (sent plan base port past)

  output_step : (port : ℕ) (past rows : List Row) (event : Event) → IsOther (egress_pass plan port) (row_of plan base past event) → output_end port (row_of plan base past event ∷ rows) ≡ output_end port rows
  output_step port past rows (Frame p stamp octets) other = refl
  output_step port past rows (Long p stamp len) other = refl
  output_step port past rows (Command stamp line) other = refl
  output_step port past rows (Tick stamp) other = refl
  output_step port past rows (Drain p count) other = refl
  output_step port past rows (End (Ingress p) how) other = refl
  output_step port past rows (End Control how) other = refl
  output_step port past rows (End Ticker how) other = refl
  output_step port past rows (End (Egress p) how) other =
      ap (λ (b : Bool). if b then Some how else output_end port rows) (differ (egress_pass plan) (number_of p) port other)

  sure_step : (format : Format) (port : ℕ) (early : List Item) (text : List ℕ) (past : List Row) (event : Event) → IsOther (egress_pass plan port) (row_of plan base past event)
      → sure_within format plan base port early text (row_of plan base past event ∷ past) ≡ sure_within format plan base port early text past
  sure_step format port early text past (Frame p stamp octets) other = refl
  sure_step format port early text past (Long p stamp len) other = refl
  sure_step format port early text past (Command stamp line) other = refl
  sure_step format port early text past (Tick stamp) other = refl
  sure_step format port early text past (Drain p count) other =
      ap (λ (b : Bool). if b then output_text format (early ++ sent plan base port past) else sure_within format plan base port early text past) (differ (egress_pass plan) (number_of p) port other)
  sure_step format port early text past (End who how) other = refl

  lines_step : (past rows : List Row) (event : Event) → IsOther (control_pass plan) (row_of plan base past event) → entered_lines (row_of plan base past event ∷ rows) ≡ entered_lines rows
  lines_step past rows (Frame p stamp octets) other = append-nil (entered_lines rows)
  lines_step past rows (Long p stamp len) other = append-nil (entered_lines rows)
  lines_step past rows (Command stamp line) other = absurd (own (control_pass plan) other)
  lines_step past rows (Tick stamp) other = append-nil (entered_lines rows)
  lines_step past rows (Drain p count) other = append-nil (entered_lines rows)
  lines_step past rows (End who how) other = append-nil (entered_lines rows)

  replies_step : (past : List Row) (event : Event) → IsOther (control_pass plan) (row_of plan base past event) → replies plan base (row_of plan base past event ∷ past) ≡ replies plan base past
  replies_step past (Frame p stamp octets) other = append-nil (replies plan base past)
  replies_step past (Long p stamp len) other = append-nil (replies plan base past)
  replies_step past (Command stamp line) other = absurd (own (control_pass plan) other)
  replies_step past (Tick stamp) other = append-nil (replies plan base past)
  replies_step past (Drain p count) other = append-nil (replies plan base past)
  replies_step past (End who how) other = append-nil (replies plan base past)

  control_step : (past rows : List Row) (event : Event) → IsOther (control_pass plan) (row_of plan base past event) → control_end (row_of plan base past event ∷ rows) ≡ control_end rows
  control_step past rows (Frame p stamp octets) other = refl
  control_step past rows (Long p stamp len) other = refl
  control_step past rows (Command stamp line) other = refl
  control_step past rows (Tick stamp) other = refl
  control_step past rows (Drain p count) other = refl
  control_step past rows (End (Ingress p) how) other = refl
  control_step past rows (End Control how) other = absurd (own (control_pass plan) other)
  control_step past rows (End Ticker how) other = refl
  control_step past rows (End (Egress p) how) other = refl

  module _ (before now : List Row) (legal : IsLegal plan base now) where
    later_stays : {X : Type 0} (pass : ℕ) (f : List Row → X) → ((past : List Row) (event : Event) → IsOther pass (row_of plan base past event) → f (row_of plan base past event ∷ past) ≡ f past) → IsLater pass before now → f before ≡ f now
    later_stays pass f step later =
        sym (ap f later.split ∙ stays plan base pass f step later.newer before (subst (IsLegal plan base) later.split legal) later.others)

    pub arrived_stays : (port : ℕ) → IsLater (place_of plan port) before now → arrived port before ≡ arrived port now
    arrived_stays port later = later_stays (place_of plan port) (arrived port) (λ past event other. arrived_step port past past event other) later

    pub input_stays : (port : ℕ) → IsLater (place_of plan port) before now → input_end port (without_pauses before) ≡ input_end port (without_pauses now)
    input_stays port later =
        later_stays (place_of plan port) (λ rows. input_end port (without_pauses rows)) (λ past event other. left_out (input_end port) (row_of plan base past event) past (input_step port past (without_pauses past) event other)) later

    pub sent_stays : (port : ℕ) → IsLater (egress_pass plan port) before now → sent plan base port before ≡ sent plan base port now
    sent_stays port later = later_stays (egress_pass plan port) (sent plan base port) (sent_step port) later

    pub output_stays : (port : ℕ) → IsLater (egress_pass plan port) before now → output_end port (without_pauses before) ≡ output_end port (without_pauses now)
    output_stays port later =
        later_stays (egress_pass plan port) (λ rows. output_end port (without_pauses rows)) (λ past event other. left_out (output_end port) (row_of plan base past event) past (output_step port past (without_pauses past) event other)) later

    pub sure_stays : (format : Format) (port : ℕ) (early : List Item) (text : List ℕ) → IsLater (egress_pass plan port) before now
        → sure_within format plan base port early text before ≡ sure_within format plan base port early text now
    sure_stays format port early text later = later_stays (egress_pass plan port) (sure_within format plan base port early text) (sure_step format port early text) later

    pub lines_stay : IsLater (control_pass plan) before now → entered_lines before ≡ entered_lines now
    lines_stay later = later_stays (control_pass plan) entered_lines (λ past event other. lines_step past past event other) later

    pub replies_stay : IsLater (control_pass plan) before now → replies plan base before ≡ replies plan base now
    replies_stay later = later_stays (control_pass plan) (replies plan base) replies_step later

    pub control_stays : IsLater (control_pass plan) before now → control_end (without_pauses before) ≡ control_end (without_pauses now)
    control_stays later =
        later_stays (control_pass plan) (λ rows. control_end (without_pauses rows)) (λ past event other. left_out control_end (row_of plan base past event) past (control_step past (without_pauses past) event other)) later

  -- a pass that ended before the segment has no row in it

  module _ (pass : ℕ) where
    other_open : (past : List Row) (who : Who) → has_ended base pass past ≡ true → IsOpen plan base past who → (pass_of plan who == pass) ≡ false
    other_open past who over runs =
        ne_eqb (pass_of plan who) pass (λ same. false≢true (sym runs.running ∙ subst (λ (n : ℕ). has_ended base n past ≡ true) (sym same) over))

    other_row : (past : List Row) (event : Event) → has_ended base pass past ≡ true → MayCome plan base past event → IsOther pass (row_of plan base past event)
    other_row past (Frame p stamp octets) over may = other_open past (Ingress p) over may.0.open_pass
    other_row past (Long p stamp len) over may = other_open past (Ingress p) over may.0.open_pass
    other_row past (Command stamp line) over may = other_open past Control over may.0.open_pass
    other_row past (Tick stamp) over may = other_open past Ticker over may.open_pass
    other_row past (Drain p count) over may = other_open past (Egress p) over may.0
    other_row past (End who how) over may = other_open past who over may.0

    still_over : (past : List Row) → has_ended base pass [] ≡ true → has_ended base pass past ≡ true
    still_over [] over = over
    still_over (r ∷ past) over = or_right (is_end r.entry.act && (r.entry.by == pass)) (has_ended base pass past) (still_over past over)

    no_row : (past : List Row) → IsLegal plan base past → has_ended base pass [] ≡ true → AreOthers pass past
    no_row [] legal over = tt
    no_row (r ∷ past) legal over = (subst (IsOther pass) (sym legal.0.2) (other_row past legal.0.0 (still_over past over) legal.0.1), no_row past legal.1 over)

    pub over_later : (past : List Row) → IsLegal plan base past → has_ended base pass [] ≡ true → IsLater pass [] past
    over_later past legal over = record { newer = past; split = sym (append-nil past); others = no_row past legal over }
