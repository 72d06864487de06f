-- What rows tell of inputs, outputs and control that stand in front of others, and what is left of them without pauses.
use Rattle.std.proofs.Common.{◌≡◌, ℕ, ◌==◌, not, Bool, true, false, if◌then◌else◌, List, [], ◌∷◌, ◌++◌, refl, sym, ap, ◌∙◌, append_assoc, append-nil, inl, inr, Option, Some, None}
use Rattle.std.proofs.lemmas.Bool.{cases_Bool, false≢true}
use Rattle.savi_kinds.specs.declared.entry.Act.{Act}
use Rattle.savi_kinds.specs.declared.entry.Act.TheVariants as acts
use Rattle.savi_kinds.specs.declared.entry.Who.{Who}
use Rattle.savi_kinds.specs.declared.entry.Who.TheVariants as passes
use Rattle.savi_kinds.specs.declared.entry.How.{How}
use Rattle.savi_kinds.specs.Ports.{number_of}
use Rattle.savi_kinds.specs.Arrivals.{Arrival}
use Rattle.hist_store.specs.Rows.{Row}
use Rattle.savi_history.specs.ControlInputs.{control_end, control_ended_by, control_ended_behind}
use Rattle.savi_history.specs.Endings.{is_paused_end}
use Rattle.savi_history.specs.PortInputs.{arrived, arrived_by, ended_behind, ended_by, input_end}
use Rattle.savi_history.specs.PortOutputs.{output_end, output_ended_behind, output_ended_by}
use Rattle.savi_segments.specs.Unbroken.{without_pauses}

-- rows in front of others

kept_at : (b : Bool) (r : Row) (xs rows : List Row) → without_pauses (xs ++ rows) ≡ without_pauses xs ++ without_pauses rows
    → (if b then r ∷ without_pauses (xs ++ rows) else without_pauses (xs ++ rows)) ≡ (if b then r ∷ without_pauses xs else without_pauses xs) ++ without_pauses rows
kept_at true r xs rows step = ap (λ (l : List Row). r ∷ l) step
kept_at false r xs rows step = step

pub both_kept : (xs rows : List Row) → without_pauses (xs ++ rows) ≡ without_pauses xs ++ without_pauses rows
both_kept [] rows = refl
both_kept (r ∷ xs) rows = kept_at (not (is_paused_end r.entry.act)) r xs rows (both_kept xs rows)

-- what has ended behind what was said before
abbrev pub said_over : Option How → Option How → Option How
said_over None before = before
said_over (Some how) before = Some how

pub over_at : (b : Bool) (how : How) (e before : Option How) → (if b then Some how else said_over e before) ≡ said_over (if b then Some how else e) before
over_at true how e before = refl
over_at false how e before = refl

input_over : (n : ℕ) (who : Who) (how : How) (e before : Option How) → ended_by n who how (said_over e before) ≡ said_over (ended_by n who how e) before
input_over n (passes.Ingress p) how e before = over_at (number_of p == n) how e before
input_over n passes.Control how e before = refl
input_over n passes.Ticker how e before = refl
input_over n (passes.Egress p) how e before = refl

input_behind : (n : ℕ) (act : Act) (e before : Option How) → ended_behind n act (said_over e before) ≡ said_over (ended_behind n act e) before
input_behind n (acts.Frame port stamp at len) e before = refl
input_behind n (acts.Long port stamp len) e before = refl
input_behind n (acts.Tick stamp) e before = refl
input_behind n (acts.Command stamp at len) e before = refl
input_behind n (acts.Drain port count) e before = refl
input_behind n (acts.End who how) e before = input_over n who how e before

pub input_both : (n : ℕ) (xs rows : List Row) → input_end n (xs ++ rows) ≡ said_over (input_end n xs) (input_end n rows)
input_both n [] rows = refl
input_both n (r ∷ xs) rows = ap (ended_behind n r.entry.act) (input_both n xs rows) ∙ input_behind n r.entry.act (input_end n xs) (input_end n rows)

output_over : (n : ℕ) (who : Who) (how : How) (e before : Option How) → output_ended_by n who how (said_over e before) ≡ said_over (output_ended_by n who how e) before
output_over n (passes.Ingress p) how e before = refl
output_over n passes.Control how e before = refl
output_over n passes.Ticker how e before = refl
output_over n (passes.Egress p) how e before = over_at (number_of p == n) how e before

output_behind : (n : ℕ) (act : Act) (e before : Option How) → output_ended_behind n act (said_over e before) ≡ said_over (output_ended_behind n act e) before
output_behind n (acts.Frame port stamp at len) e before = refl
output_behind n (acts.Long port stamp len) e before = refl
output_behind n (acts.Tick stamp) e before = refl
output_behind n (acts.Command stamp at len) e before = refl
output_behind n (acts.Drain port count) e before = refl
output_behind n (acts.End who how) e before = output_over n who how e before

pub output_both : (n : ℕ) (xs rows : List Row) → output_end n (xs ++ rows) ≡ said_over (output_end n xs) (output_end n rows)
output_both n [] rows = refl
output_both n (r ∷ xs) rows = ap (output_ended_behind n r.entry.act) (output_both n xs rows) ∙ output_behind n r.entry.act (output_end n xs) (output_end n rows)

control_over : (who : Who) (how : How) (e before : Option How) → control_ended_by who how (said_over e before) ≡ said_over (control_ended_by who how e) before
control_over (passes.Ingress p) how e before = refl
control_over passes.Control how e before = refl
control_over passes.Ticker how e before = refl
control_over (passes.Egress p) how e before = refl

control_behind : (act : Act) (e before : Option How) → control_ended_behind act (said_over e before) ≡ said_over (control_ended_behind act e) before
control_behind (acts.Frame port stamp at len) e before = refl
control_behind (acts.Long port stamp len) e before = refl
control_behind (acts.Tick stamp) e before = refl
control_behind (acts.Command stamp at len) e before = refl
control_behind (acts.Drain port count) e before = refl
control_behind (acts.End who how) e before = control_over who how e before

pub control_both : (xs rows : List Row) → control_end (xs ++ rows) ≡ said_over (control_end xs) (control_end rows)
control_both [] rows = refl
control_both (r ∷ xs) rows = ap (control_ended_behind r.entry.act) (control_both xs rows) ∙ control_behind r.entry.act (control_end xs) (control_end rows)

pub arrived_both : (n : ℕ) (xs rows : List Row) → arrived n (xs ++ rows) ≡ arrived n rows ++ arrived n xs
arrived_both n [] rows = sym (append-nil (arrived n rows))
arrived_both n (r ∷ xs) rows =
    ap (λ (l : List Arrival). l ++ arrived_by n r.octets r.entry.act) (arrived_both n xs rows) ∙ append_assoc (arrived n rows) (arrived n xs) (arrived_by n r.octets r.entry.act)

-- no arrival is a pause, so without pauses the arrivals are the same

paused_no_arrival : (n : ℕ) (octets : List ℕ) (act : Act) → is_paused_end act ≡ true → arrived_by n octets act ≡ []
paused_no_arrival n octets (acts.Frame port stamp at len) is = absurd (false≢true is)
paused_no_arrival n octets (acts.Long port stamp len) is = absurd (false≢true is)
paused_no_arrival n octets (acts.Tick stamp) is = refl
paused_no_arrival n octets (acts.Command stamp at len) is = refl
paused_no_arrival n octets (acts.Drain port count) is = refl
paused_no_arrival n octets (acts.End who how) is = refl

pub arrived_unpaused : (n : ℕ) (rows : List Row) → arrived n (without_pauses rows) ≡ arrived n rows
arrived_unpaused n [] = refl
arrived_unpaused n (r ∷ rows) = elim (cases_Bool (is_paused_end r.entry.act)) [
  | inl is ↦ rw is (arrived_unpaused n rows ∙ sym (append-nil (arrived n rows)) ∙ ap (λ (l : List Arrival). arrived n rows ++ l) (sym (paused_no_arrival n r.octets r.entry.act is)))
  | inr not ↦ rw not (ap (λ (l : List Arrival). l ++ arrived_by n r.octets r.entry.act) (arrived_unpaused n rows))
]
