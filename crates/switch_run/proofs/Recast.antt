-- What was done between two books was done between two others that differ only where it doesn't look.
use Rattle.std.proofs.Common.{◌≡◌, ℕ, inl, inr, List, Bool, refl, arith, Option, Some, IfSome}
use Rattle.savi_kinds.specs.declared.plan.Plan.{Plan}
use Rattle.savi_ends.specs.declared.world.Std.{Std}
use Rattle.savi_ends.specs.declared.world.Std.TheVariants.{Out, Err}
use Rattle.savi_ends.specs.declared.sink.Put.{Put}
use Rattle.savi_ends.specs.declared.sink.Put.TheVariants.{Done, Failed}
use Rattle.savi_ends.specs.Faults.{Rose}
use Rattle.savi_ends.specs.Writes.{Extends}
use Rattle.savi_ends.specs.Places.{Place, Book}
use Rattle.hist_store.specs.Rows.{Row}
use Rattle.savi_segments.specs.Segments.{joined}
use Rattle.savi_segments.specs.Unbroken.{unbroken}
use Rattle.switch_run.specs.Live.{IsServeOf}
use Rattle.switch_run.specs.Session.{IsReplayOf, IsReported, IsSessionOf, IsSummed, WasTold, ToldBy}

-- a line was told, or its write failed
pub told_by : {K : Type 0} (faults : K → ℕ) (written : K → Option (List ℕ)) (put : Put) (old new : K) (line : List ℕ) → Extends put (written old) (written new) line → (put ≡ Failed → Rose (faults old) (faults new)) → ToldBy faults written old new line
told_by faults written Done old new line extends cause = inl extends
told_by faults written Failed old new line extends cause = let rose = cause refl in inr (omega (arith, rose))

-- what a sink was told is what its place was told
pub told_at : {S K C : Type 0} (faults : K → ℕ) (written : K → Option (List ℕ)) (old new : Book S K C) (sink sink' : K) (lines : List ℕ) → IfSome (old.std Err).stands (λ t. sink ≡ t) → (new.std Err).stands ≡ Some sink' → ToldBy faults written sink sink' lines → WasTold faults written old new lines
told_at faults written old new sink sink' lines told kept says = record { handed = sink; back = sink'; told = told; kept = kept; holds = says }

moved_summed : {K : Type 0} (written : K → Option (List ℕ)) (faults : K → ℕ) (Says Says' : List ℕ → Type 0) (all told : List Row) (journal_written : Bool) (old new old' new' : Place K) (status : ℕ) → old' ≡ old → new' ≡ new → ((lines : List ℕ) → Says lines → Says' lines)
    → IsSummed written faults Says all told journal_written old new status → IsSummed written faults Says' all told journal_written old' new' status
moved_summed {K} written faults Says Says' all told journal_written old new old' new' status same same' says summed = record {
  summary_written = summed.summary_written;
  summary = rw (same, same') summed.summary;
  errors = says _ summed.errors;
  cause = summed.cause;
}

moved_reported : {S K C : Type 0} (written : K → Option (List ℕ)) (sink_faults : K → ℕ) (plan : Plan) (segments : List (List Row)) (told : List Row) (Says Says' : List ℕ → Type 0) (old new : Book S K C) (f f' : ℕ) (i i' : List ℕ → Place S) (s s' : Std → Place K) (status : ℕ)
    → s Out ≡ old.std Out → s' Out ≡ new.std Out → ((lines : List ℕ) → Says lines → Says' lines)
    → IsReported written sink_faults plan segments told Says old new status
    → IsReported written sink_faults plan segments told Says' (record old { faults = f; inputs = i; std = s }) (record new { faults = f'; inputs = i'; std = s' }) status
moved_reported written sink_faults plan segments told Says Says' old new f f' i i' s s' status same same' says r = record {
  journal_written = r.journal_written;
  journal = r.journal;
  tells = r.tells;
  alone = r.alone;
  summed = moved_summed written sink_faults Says Says' (joined segments) told r.journal_written (old.std Out) (new.std Out) (s Out) (s' Out) status same same' says r.summed;
  guarded = r.guarded;
  access = r.access;
  first_come = r.first_come;
}

moved_did : {S K C : Type 0} (left : S → Option (List ℕ)) (written : K → Option (List ℕ)) (source_faults : S → ℕ) (sink_faults : K → ℕ) (plan : Plan) (Says Says' : List ℕ → Type 0) (old new : Book S K C) (f f' : ℕ) (i i' : List ℕ → Place S) (s s' : Std → Place K) (status : ℕ)
    → s Out ≡ old.std Out → s' Out ≡ new.std Out → ((lines : List ℕ) → Says lines → Says' lines)
    → IsReplayOf left written source_faults sink_faults plan Says old new status
    → IsReplayOf left written source_faults sink_faults plan Says' (record old { faults = f; inputs = i; std = s }) (record new { faults = f'; inputs = i'; std = s' }) status
moved_did left written source_faults sink_faults plan Says Says' old new f f' i i' s s' status same same' says r = record {
  segments = r.segments;
  serves = record { lines = r.serves.lines; inputs = r.serves.inputs; stops = r.serves.stops; size = r.serves.size; replay = r.serves.replay; session = r.serves.session; control = r.serves.control; each = r.serves.each };
  reported = moved_reported written sink_faults plan r.segments (unbroken r.segments) Says Says' old new f f' i i' s s' status same same' says r.reported;
}

-- the same of a live session
pub moved_serve : {S K C : Type 0} (left : S → Option (List ℕ)) (written : K → Option (List ℕ)) (source_faults : S → ℕ) (sink_faults : K → ℕ) (readings : C → Option (List ℕ)) (plan : Plan) (Says Says' : List ℕ → Type 0) (old new : Book S K C) (f f' : ℕ) (i i' : List ℕ → Place S) (s s' : Std → Place K) (status : ℕ)
    → s Out ≡ old.std Out → s' Out ≡ new.std Out → ((lines : List ℕ) → Says lines → Says' lines)
    → IsServeOf left written source_faults sink_faults readings plan Says old new status
    → IsServeOf left written source_faults sink_faults readings plan Says' (record old { faults = f; inputs = i; std = s }) (record new { faults = f'; inputs = i'; std = s' }) status
moved_serve left written source_faults sink_faults readings plan Says Says' old new f f' i i' s s' status same same' says r = record {
  segments = r.segments;
  session = r.session;
  ports = r.ports;
  control = r.control;
  ticker = r.ticker;
  reported = moved_reported written sink_faults plan r.segments (unbroken r.segments) Says Says' old new f f' i i' s s' status same same' says r.reported;
  elsewhere = record { ports = r.elsewhere.ports; control = r.elsewhere.control; outputs = r.elsewhere.outputs };
}

pub moved_session : {S K C : Type 0} (left : S → Option (List ℕ)) (written : K → Option (List ℕ)) (source_faults : S → ℕ) (sink_faults : K → ℕ) (plan : Plan) (Says Says' : List ℕ → Type 0) (old new : Book S K C) (f f' : ℕ) (i i' : List ℕ → Place S) (s s' : Std → Place K) (status : ℕ)
    → s Out ≡ old.std Out → s' Out ≡ new.std Out → ((lines : List ℕ) → Says lines → Says' lines)
    → IsSessionOf left written source_faults sink_faults plan Says old new status
    → IsSessionOf left written source_faults sink_faults plan Says' (record old { faults = f; inputs = i; std = s }) (record new { faults = f'; inputs = i'; std = s' }) status
moved_session left written source_faults sink_faults plan Says Says' old new f f' i i' s s' status same same' says session = record {
  elsewhere = record { ports = session.elsewhere.ports; control = session.elsewhere.control; outputs = session.elsewhere.outputs };
  did = moved_did left written source_faults sink_faults plan Says Says' old new f f' i i' s s' status same same' says session.did;
}
