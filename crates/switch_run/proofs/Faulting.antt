-- Whose fault a status is.
use Rattle.std.proofs.Common.{◌≡◌, ◌≢◌, ℕ, ◌&&◌, ◌||◌, not, if◌then◌else◌, ◌⊎◌, inl, inr, List, [], Bool, true, false, get_or, refl, sym, ap, ◌∙◌, subst, arith, ◌<◌, Option, Some, None}
use Rattle.savi_kinds.specs.declared.entry.How.{How}
use Rattle.savi_kinds.specs.declared.entry.How.TheVariants as hows
use Rattle.savi_kinds.specs.declared.plan.Plan.{Plan}
use Rattle.savi_kinds.specs.Arrivals.{Input}
use Rattle.savi_kinds.specs.Ports.{number_of}
use Rattle.savi_kinds.specs.ValidPlan.{numbers_of}
use Rattle.savi_ends.specs.declared.world.Std.TheVariants.{Out}
use Rattle.savi_ends.specs.declared.world.Ends.{Ends}
use Rattle.savi_ends.specs.Places.{Place, Book, PortKey, ControlKey}
use Rattle.cli_lang.specs.Arrivals as control
use Rattle.hist_store.specs.Rows.{Row}
use Rattle.savi_history.specs.Endings.{has_failed, has_failed_write, has_malformed}
use Rattle.savi_history.specs.ControlInputs.{control_end}
use Rattle.savi_history.specs.PortInputs.{input_end}
use Rattle.savi_history.specs.PortOutputs.{output_end}
use Rattle.savi_segments.specs.Replay.{replayed}
use Rattle.savi_segments.specs.Segments.{AreLegal}
use Rattle.savi_segments.specs.Unbroken.{unbroken}
use Rattle.savi_segments.proofs.Failures.{IsOfInput, IsOfOutput, failed_at_input, failed_write_at_output}
use Rattle.savi_segments.proofs.EnteringLines.{without_control}
use Rattle.live_session.specs.LiveRows.{ControlRow}
use Rattle.run_config.specs.Configs.{EndHasFault}
use Rattle.port_worker.specs.ControlServed.{IsControlServed}
use Rattle.switch_run.specs.Causes.{HasReadFault, HasSomeReadFault, HasSomeWriteFault, Keeps, TookOrPart, ports_in}
use Rattle.switch_ports.specs.Named.{control_key, key_among}
use Rattle.switch_run.specs.Live.{IsServeOf, IsServeSession, ServesControlAt}
use Rattle.switch_run.specs.Session.{IsReplayOf, IsReported, IsSession, IsFileUnread, ServesControlPlace}
use Rattle.switch_run.proofs.LegalFailures.{number_of_place, plan_element}

failed_by : (status : ℕ) (f w m : Bool) → status ≡ (if f then 5 else if w then 6 else if m then 4 else 0) → status ≡ 5 → f ≡ true
failed_by status true w m is e = refl
failed_by status false true m is e = absurd (omega (arith, is, e))
failed_by status false false true is e = absurd (omega (arith, is, e))
failed_by status false false false is e = absurd (omega (arith, is, e))

unwritten_by : (status : ℕ) (f w m : Bool) → status ≡ (if f then 5 else if w then 6 else if m then 4 else 0) → status ≡ 6 → w ≡ true
unwritten_by status true w m is e = absurd (omega (arith, is, e))
unwritten_by status false true m is e = refl
unwritten_by status false false true is e = absurd (omega (arith, is, e))
unwritten_by status false false false is e = absurd (omega (arith, is, e))

-- what of a run wasn't written: an output of its history, or one of its journal and its summary
which_unwritten : (failed written : Bool) → (failed || not written) ≡ true → (failed ≡ true) ⊎ (written ≡ false)
which_unwritten true written is = inl refl
which_unwritten false true is = cc
which_unwritten false false is = inr refl

-- what is kept in a place has a fault
fault_kept : {X : Type 0} (faults : X → ℕ) (place : Place X) (x : X) → place.stands ≡ Some x → 0 < faults x → EndHasFault faults place
fault_kept faults place x kept fault = rw kept fault

-- control ended so only where it has an input, and then its ends stand in its place

abbrev HasEnds : {S K C : Type 0} → (S → Option (List ℕ)) → (K → Option (List ℕ)) → (S → ℕ) → (K → ℕ) → Plan → List (List Row) → (ControlKey → Place (Ends S K C)) → (ControlKey → Place (Ends S K C)) → Type 0
HasEnds left written source_faults sink_faults plan segments old new =
    (key : ControlKey) × (input : control.Input) × (stop : Option ℕ) × Keeps (IsControlServed left written source_faults sink_faults plan segments input stop) (old key) (new key)

has_ends : {S K C : Type 0} (left : S → Option (List ℕ)) (written : K → Option (List ℕ)) (source_faults : S → ℕ) (sink_faults : K → ℕ) (plan : Plan) (segments : List (List Row)) (names : Option (List ℕ × List ℕ)) (lines : Option control.Input) (stop : Option ℕ) (old new : ControlKey → Place (Ends S K C))
    → ServesControlPlace left written source_faults sink_faults plan segments names lines stop old new → (lines ≡ None → ⊥) → HasEnds left written source_faults sink_faults plan segments old new
has_ends left written source_faults sink_faults plan segments None None stop old new serves some = absurd (some refl)
has_ends left written source_faults sink_faults plan segments None (Some input) stop old new serves some = absurd serves
has_ends left written source_faults sink_faults plan segments (Some names) None stop old new serves some = absurd serves
has_ends left written source_faults sink_faults plan segments (Some names) (Some input) stop old new serves some = (control_key false names, input, stop, serves)

-- a write of octets that weren't all taken failed
pub unwritten_fault : {K : Type 0} (faults : K → ℕ) (written : K → Option (List ℕ)) (done : Bool) (octets : List ℕ) (old new : Place K) → done ≡ false → Keeps (TookOrPart faults written done octets) old new → EndHasFault faults new
unwritten_fault faults written true octets old new none keeps = cc
unwritten_fault faults written false octets old new none keeps = fault_kept faults new keeps.back keeps.kept keeps.holds.0

-- of two writes that weren't both done one failed
one_unwritten : {K : Type 0} (faults : K → ℕ) (written : K → Option (List ℕ)) (first second : Bool) (a a' b b' : Place K) (text line : List ℕ) → (first && second) ≡ false → Keeps (TookOrPart faults written first text) a a' → Keeps (TookOrPart faults written second line) b b' → EndHasFault faults a' ⊎ EndHasFault faults b'
one_unwritten faults written true true a a' b b' text line is one other = cc
one_unwritten faults written true false a a' b b' text line is one other = inr (unwritten_fault faults written false line b b' refl other)
one_unwritten faults written false second a a' b b' text line is one other = inl (unwritten_fault faults written false text a a' refl one)

named : {S K C : Type 0} (sink_faults : K → ℕ) (name : List ℕ) (new : Book S K C) → EndHasFault sink_faults (new.outputs name) ⊎ EndHasFault sink_faults (new.std Out) → HasSomeWriteFault sink_faults new
named sink_faults name new (inl journal) = inr (inr (inl (name, journal)))
named sink_faults name new (inr out) = inr (inr (inr out))

unwritten_named : {S K C : Type 0} (written : K → Option (List ℕ)) (sink_faults : K → ℕ) (plan : Plan) (segments : List (List Row)) (told : List Row) (Says : List ℕ → Type 0) (old new : Book S K C) (status : ℕ)
    → (r : IsReported written sink_faults plan segments told Says old new status) → (r.journal_written && r.summed.summary_written) ≡ false → HasSomeWriteFault sink_faults new
unwritten_named written sink_faults plan segments told Says old new status r unwritten =
    named sink_faults plan.journal new (one_unwritten sink_faults written r.journal_written r.summed.summary_written _ _ _ _ _ _ unwritten r.journal r.summed.summary)

pub no_input : Input
no_input = record { arrivals = []; ending = hows.End }

module _ {S K C : Type 0} (left : S → Option (List ℕ)) (written : K → Option (List ℕ)) (source_faults : S → ℕ) (sink_faults : K → ℕ) (plan : Plan) (Says : List ℕ → Type 0) (old new : Book S K C) (status : ℕ) (r : IsReplayOf left written source_faults sink_faults plan Says old new status) where
  abbrev rows : List Row
  rows = unbroken r.segments

  -- without an input control's end is `end`
  pub ended_alone : r.serves.lines ≡ None → control_end (unbroken r.segments) ≡ Some hows.End
  ended_alone none =
      let whole = r.serves.replay ∙ ap (λ (l : Option control.Input). replayed plan l r.serves.inputs r.serves.stops) none in
      ap (λ (segments : List (List Row)). control_end (unbroken segments)) whole
      ∙ (without_control plan r.serves.inputs r.serves.stops (subst (AreLegal plan) whole r.serves.session.legal)).1

  control_ends : (r.serves.lines ≡ None → ⊥) → HasEnds left written source_faults sink_faults plan r.segments old.control new.control
  control_ends some = has_ends left written source_faults sink_faults plan r.segments plan.control r.serves.lines r.serves.stops.control old.control new.control r.serves.control some

  read_at : IsOfInput plan rows → ((key : PortKey) × HasReadFault source_faults new key) ⊎ ((names : ControlKey) × EndHasFault (λ e. source_faults e.source) (new.control names))
  read_at (inl found) =
      let port = get_or (numbers_of plan.ports) found.0 0 in
      let at = r.serves.each found.0 no_input found.1 in
      let rose = at.holds.broken found.2 in
      inl (key_among plan.ports port, fault_kept (λ (e : Ends S K C). source_faults e.source) (ports_in plan new port) at.back at.kept (omega (arith, rose)))
  read_at (inr is) =
      let ends = control_ends (λ none. let e : Some hows.Failed ≡ Some hows.End = sym is ∙ ended_alone none in cc) in
      let at = ends.3 in
      let rose = at.holds.broken is in
      inr (ends.0, fault_kept (λ (e : Ends S K C). source_faults e.source) (new.control ends.0) at.back at.kept (omega (arith, rose)))

  write_at : IsOfOutput plan rows → HasSomeWriteFault sink_faults new
  write_at (inl found) =
      let port = get_or (numbers_of plan.ports) found.0 0 in
      let at = r.serves.each found.0 no_input found.1 in
      let rose = at.holds.broken_out found.2 in
      inl (key_among plan.ports port, fault_kept (λ (e : Ends S K C). sink_faults e.sink) (ports_in plan new port) at.back at.kept (omega (arith, rose)))
  write_at (inr is) =
      let ends = control_ends (λ none. let e : Some hows.Unwritten ≡ Some hows.End = sym is ∙ ended_alone none in cc) in
      let at = ends.3 in
      let rose = at.holds.unwritten is in
      inr (inl (ends.0, fault_kept (λ (e : Ends S K C). sink_faults e.sink) (new.control ends.0) at.back at.kept (omega (arith, rose))))

  replay_read : status ≡ 5 → ((key : PortKey) × HasReadFault source_faults new key) ⊎ ((names : ControlKey) × EndHasFault (λ e. source_faults e.source) (new.control names))
  replay_read five =
      let w = has_failed_write rows || not (r.reported.journal_written && r.reported.summed.summary_written) in
      read_at (failed_at_input plan r.segments r.serves.session.legal (failed_by status (has_failed rows) w (has_malformed rows) r.reported.summed.cause five))

  replay_fault : (has_failed_write rows ≡ true) ⊎ ((r.reported.journal_written && r.reported.summed.summary_written) ≡ false) → HasSomeWriteFault sink_faults new
  replay_fault (inl failed) = write_at (failed_write_at_output plan r.segments r.serves.session.legal failed)
  replay_fault (inr unwritten) = unwritten_named written sink_faults plan r.segments rows Says old new status r.reported unwritten

  replay_write : status ≡ 6 → HasSomeWriteFault sink_faults new
  replay_write six =
      let w = r.reported.journal_written && r.reported.summed.summary_written in
      replay_fault (which_unwritten (has_failed_write rows) w (unwritten_by status (has_failed rows) (has_failed_write rows || not w) (has_malformed rows) r.reported.summed.cause six))

-- a read failed where the status is 5
pub read_fault_of : {S K C : Type 0} (left : S → Option (List ℕ)) (written : K → Option (List ℕ)) (source_faults : S → ℕ) (sink_faults : K → ℕ) (Says : List ℕ → Type 0) (old new : Book S K C) (file : List ℕ) (status : ℕ) → status ≡ 5
    → IsFileUnread left source_faults file Says old new status ⊎ IsSession left written source_faults sink_faults file Says old new status → HasSomeReadFault source_faults file new
read_fault_of left written source_faults sink_faults Says old new file status five (inl unread) = inl unread.fault
read_fault_of left written source_faults sink_faults Says old new file status five (inr session) =
    inr (replay_read left written source_faults sink_faults session.plan Says old new status session.session.did five)

-- a write failed where the status is 6
pub write_fault_of : {S K C : Type 0} (left : S → Option (List ℕ)) (written : K → Option (List ℕ)) (source_faults : S → ℕ) (sink_faults : K → ℕ) (Says : List ℕ → Type 0) (old new : Book S K C) (file : List ℕ) (status : ℕ) → status ≡ 6
    → IsFileUnread left source_faults file Says old new status ⊎ IsSession left written source_faults sink_faults file Says old new status → HasSomeWriteFault sink_faults new
write_fault_of left written source_faults sink_faults Says old new file status six (inl unread) = let five : status ≡ 5 = unread.status_is in absurd (omega (arith, five, six))
write_fault_of left written source_faults sink_faults Says old new file status six (inr session) = replay_write left written source_faults sink_faults session.plan Says old new status session.session.did six

-- the same of a live session

module _ {S K C : Type 0} (left : S → Option (List ℕ)) (written : K → Option (List ℕ)) (source_faults : S → ℕ) (sink_faults : K → ℕ) (readings : C → Option (List ℕ)) (plan : Plan) (segments : List (List Row)) where
  -- control that ended in no ordinary way has its ends in its place
  has_live : (names : Option (List ℕ × List ℕ)) (how : How) (old new : ControlKey → Place (Ends S K C)) → ServesControlAt left written source_faults sink_faults readings plan segments names old new → control_end (unbroken segments) ≡ Some how → how ≢ hows.End
      → (key : ControlKey) × Keeps (ControlRow left written source_faults sink_faults readings plan segments) (old key) (new key)
  has_live None how old new serves is other = absurd (other (let both : Some how ≡ Some hows.End = sym is ∙ serves.0.ended in cc))
  has_live (Some names) how old new serves is other = (control_key true names, serves)

module _ {S K C : Type 0} (left : S → Option (List ℕ)) (written : K → Option (List ℕ)) (source_faults : S → ℕ) (sink_faults : K → ℕ) (readings : C → Option (List ℕ)) (plan : Plan) (Says : List ℕ → Type 0) (old new : Book S K C) (status : ℕ) (r : IsServeOf left written source_faults sink_faults readings plan Says old new status) where
  live_read_at : IsOfInput plan (unbroken r.segments) → ((key : PortKey) × HasReadFault source_faults new key) ⊎ ((names : ControlKey) × EndHasFault (λ e. source_faults e.source) (new.control names))
  live_read_at (inl (k, inside, is)) =
      let d = plan_element plan.ports k inside in
      let p = get_or plan.ports k d in
      let at = r.ports k d inside in
      let row = at.holds.0 in
      let ended : input_end (number_of p.number) (unbroken r.segments) ≡ Some hows.Failed = subst (λ (n : ℕ). input_end n (unbroken r.segments) ≡ Some hows.Failed) (number_of_place plan k d inside) is in
      let both : Some row.0 ≡ Some hows.Failed = sym row.1 ∙ ended in
      let failed : row.0 ≡ hows.Failed = cc in
      let rose = row.2.broken failed in
      inl (key_among plan.ports (number_of p.number), fault_kept (λ (e : Ends S K C). source_faults e.source) (ports_in plan new (number_of p.number)) at.back at.kept (omega (arith, rose)))
  live_read_at (inr is) =
      let ends = has_live left written source_faults sink_faults readings plan r.segments plan.control hows.Failed old.control new.control r.control is (λ e. cc) in
      let at = ends.1 in
      let both : Some at.holds.ending ≡ Some hows.Failed = sym at.holds.ended ∙ is in
      let failed : at.holds.ending ≡ hows.Failed = cc in
      let rose = at.holds.source.broken failed in
      inr (ends.0, fault_kept (λ (e : Ends S K C). source_faults e.source) (new.control ends.0) at.back at.kept (omega (arith, rose)))

  live_write_at : IsOfOutput plan (unbroken r.segments) → HasSomeWriteFault sink_faults new
  live_write_at (inl (k, inside, is)) =
      let d = plan_element plan.ports k inside in
      let p = get_or plan.ports k d in
      let at = r.ports k d inside in
      let rose = at.holds.1.broken (subst (λ (n : ℕ). output_end n (unbroken r.segments) ≡ Some hows.Failed) (number_of_place plan k d inside) is) in
      inl (key_among plan.ports (number_of p.number), fault_kept (λ (e : Ends S K C). sink_faults e.sink) (ports_in plan new (number_of p.number)) at.back at.kept (omega (arith, rose)))
  live_write_at (inr is) =
      let ends = has_live left written source_faults sink_faults readings plan r.segments plan.control hows.Unwritten old.control new.control r.control is (λ e. cc) in
      let at = ends.1 in
      let both : Some at.holds.ending ≡ Some hows.Unwritten = sym at.holds.ended ∙ is in
      let unwritten : at.holds.ending ≡ hows.Unwritten = cc in
      let rose = at.holds.unwritten unwritten in
      inr (inl (ends.0, fault_kept (λ (e : Ends S K C). sink_faults e.sink) (new.control ends.0) at.back at.kept (omega (arith, rose))))

  live_read : status ≡ 5 → ((key : PortKey) × HasReadFault source_faults new key) ⊎ ((names : ControlKey) × EndHasFault (λ e. source_faults e.source) (new.control names))
  live_read five =
      let rows = unbroken r.segments in
      let w = has_failed_write rows || not (r.reported.journal_written && r.reported.summed.summary_written) in
      live_read_at (failed_at_input plan r.segments r.session.legal (failed_by status (has_failed rows) w (has_malformed rows) r.reported.summed.cause five))

  live_fault : (has_failed_write (unbroken r.segments) ≡ true) ⊎ ((r.reported.journal_written && r.reported.summed.summary_written) ≡ false) → HasSomeWriteFault sink_faults new
  live_fault (inl failed) = live_write_at (failed_write_at_output plan r.segments r.session.legal failed)
  live_fault (inr unwritten) = unwritten_named written sink_faults plan r.segments (unbroken r.segments) Says old new status r.reported unwritten

  live_write : status ≡ 6 → HasSomeWriteFault sink_faults new
  live_write six =
      let rows = unbroken r.segments in
      let w = r.reported.journal_written && r.reported.summed.summary_written in
      live_fault (which_unwritten (has_failed_write rows) w (unwritten_by status (has_failed rows) (has_failed_write rows || not w) (has_malformed rows) r.reported.summed.cause six))

pub live_read_fault : {S K C : Type 0} (left : S → Option (List ℕ)) (written : K → Option (List ℕ)) (source_faults : S → ℕ) (sink_faults : K → ℕ) (readings : C → Option (List ℕ)) (Says : List ℕ → Type 0) (old new : Book S K C) (file : List ℕ) (status : ℕ) → status ≡ 5
    → IsFileUnread left source_faults file Says old new status ⊎ IsServeSession left written source_faults sink_faults readings file Says old new status → HasSomeReadFault source_faults file new
live_read_fault left written source_faults sink_faults readings Says old new file status five (inl unread) = inl unread.fault
live_read_fault left written source_faults sink_faults readings Says old new file status five (inr session) = inr (live_read left written source_faults sink_faults readings session.plan Says old new status session.session five)

pub live_write_fault : {S K C : Type 0} (left : S → Option (List ℕ)) (written : K → Option (List ℕ)) (source_faults : S → ℕ) (sink_faults : K → ℕ) (readings : C → Option (List ℕ)) (Says : List ℕ → Type 0) (old new : Book S K C) (file : List ℕ) (status : ℕ) → status ≡ 6
    → IsFileUnread left source_faults file Says old new status ⊎ IsServeSession left written source_faults sink_faults readings file Says old new status → HasSomeWriteFault sink_faults new
live_write_fault left written source_faults sink_faults readings Says old new file status six (inl unread) = let five : status ≡ 5 = unread.status_is in absurd (omega (arith, five, six))
live_write_fault left written source_faults sink_faults readings Says old new file status six (inr session) = live_write left written source_faults sink_faults readings session.plan Says old new status session.session six
