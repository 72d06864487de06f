-- One segment after another.
use Rattle.std.proofs.Common.{◌≡◌, ◌<◌, ◌≤◌, ℕ, Bool, true, false, List, [], ◌∷◌, length, vec_len, Option, Some, None, append-nil, refl, sym, ap, subst, ◌∙◌, arith}
use Rattle.savi_kinds.specs.declared.entry.How.{How}
use Rattle.savi_kinds.specs.declared.entry.Who.{Who}
use Rattle.savi_kinds.specs.declared.plan.Plan.{Plan}
use Rattle.savi_ends.specs.Octets.{behind}
use Rattle.hist_store.specs.Rows.{Row}
use Rattle.checkpoint.specs.Bases.{Base}
use Rattle.savi_history.specs.Endings.{has_pause}
use Rattle.savi_history.specs.Legal.{IsFinished, IsLegal}
use Rattle.savi_segments.specs.Checkpoints.{after}
use Rattle.savi_segments.specs.Journals.{journal_of}
use Rattle.savi_segments.specs.Segments.{AreLegal, AreOctets, HasTurned, HaveTurned, base_after}
use Rattle.savi_core.specs.Machines.{Machine, base_of}
use Rattle.core_keep.specs.declared.keep.KeptCore.{KeptCore}
use Rattle.journal_write.specs.Told.{TellsOf, passes_over}
use Rattle.journal_write.specs.Written.{HasText, IsSettled, WasGiven}
use Rattle.journal_write.specs.declared.journal.Journal.{Journal}
use Rattle.journal_write.specs.declared.told.Told.{Told}
use Rattle.journal_write.proofs.FewEnds.{counts_told}
use Rattle.live_turns.specs.Seats.{lock_plan}
use Rattle.live_switch.specs.declared.segments.Start.{Start}
use Rattle.live_switch.specs.declared.services.Service.{Service}
use Rattle.live_switch.specs.Joined.{StandOn, StandStill}
use Rattle.live_switch.specs.Ran.{CanStart, HasRun}
use Rattle.live_switch.specs.Segments.{HasServedNext, HasServedSegment}
use Rattle.live_switch.specs.Works.{IsSameService, IsServiceOf}

-- what serves the same ports once more
pub same_both : {K C : Type 0} (old mid new : Service K C) → IsSameService old mid → IsSameService mid new → IsSameService old new
same_both old mid new one two = record {
  len = two.len ∙ one.len;
  room = two.room ∙ one.room;
  ports = λ place d below.
      let first = one.ports place d below in
      let then = two.ports place d (omega (arith, below, one.len)) in
      record {
        judge = then.judge ∙ first.judge;
        rings = then.rings ∙ first.rings;
        writer = (then.writer.0 ∙ first.writer.0, then.writer.1 ∙ first.writer.1);
      };
  ring = two.ring ∙ one.ring;
}

pub serves_still : {K C : Type 0} (plan : Plan) (old new : Service K C) → IsSameService old new → IsServiceOf plan old → IsServiceOf plan new
serves_still plan old new same is = record {
  size = same.len ∙ is.size;
  ports = λ place p d below.
      let inside : place < vec_len old.ports = omega (arith, below, same.len) in
      let was = is.ports place p d inside in
      let here = same.ports place d inside in
      record { judge = here.judge ∙ was.judge; writer = here.writer.0 ∙ was.writer; format = here.writer.1 ∙ was.format };
}

-- nothing was written or told yet
behind_none : (o : Option (List ℕ)) → o ≡ behind o []
behind_none None = refl
behind_none (Some text) = ap (λ (l : List ℕ). Some l) (sym (append-nil text))

pub blank_text : {K : Type 0} (written : K → Option (List ℕ)) (faults : K → ℕ) (journal : Journal K) → journal.failed ≡ false → journal.buffer.octets ≡ [] → HasText written faults journal.sink journal []
blank_text written faults journal whole blank =
    subst (λ (b : Bool). WasGiven written faults journal.sink journal.sink journal.buffer.octets b []) (sym whole)
    (subst (λ (l : List ℕ). WasGiven written faults journal.sink journal.sink l false []) (sym blank) (record { took = []; sink = behind_none (written journal.sink); all = refl }, refl))

pub none_told : (entries : ℕ) (ends : List (Who × How)) → entries ≡ 0 → ends ≡ [] → TellsOf entries ends []
none_told entries ends none no_ends = record { entries_are = omega (arith, none); ends_are = no_ends }

module _ {K C : Type 0} (written : K → Option (List ℕ)) (faults : K → ℕ) (readings : C → Option (List ℕ)) (start : Start K C) where
  abbrev plan : Plan
  plan = lock_plan start.lock

  -- The segments before the newest are closed and told; the newest is that of the switch, in which all have ended.
  pub record HaveRun (kept : KeptCore) (service : Service K C) (journal : Journal K) (told : Told) : Type 0 where
    pub before : List (List Row)
    pub plan_is : kept.core.value.plan ≡ plan
    pub base_is : base_of kept.core.value ≡ base_after plan before
    pub earlier : AreLegal plan before
    pub legal : IsLegal plan (base_after plan before) kept.core.value.past
    pub finished : IsFinished plan (base_after plan before) kept.core.value.past
    pub turned : HasTurned plan before × HaveTurned plan before
    pub same : IsSameService start.course.service service
    pub stands : StandOn written faults readings plan [] (kept.core.value.past ∷ before) start.course.service service
    pub tells : TellsOf told.entries told.ends.items before
    pub text : HasText written faults start.course.journal.sink journal (journal_of plan before)
    pub room : 3401 ≤ journal.buffer.room

  -- what the closing of a segment says
  pub record Closes (core : Machine) (old new : Journal K) (told told' : Told) : Type 0 where
    pub octets : AreOctets core.past
    pub tells : (before : List (List Row)) → TellsOf told.entries told.ends.items before → TellsOf told'.entries told'.ends.items (core.past ∷ before)
    pub text : (before : List (List Row)) (first : K) → base_of core ≡ base_after core.plan before
        → HasText written faults first old (journal_of core.plan before)
        → HasText written faults first new (journal_of core.plan (core.past ∷ before))
    pub room : new.buffer.room ≡ old.buffer.room
    pub settled : IsSettled new

  -- the first segment
  pub runs_first : (kept : KeptCore) (service : Service K C) (journal : Journal K) → CanStart start → HasServedSegment written faults readings plan (base_after plan []) start.course.service kept service
      → HasText written faults start.course.journal.sink journal (journal_of plan []) → journal.buffer.room ≡ start.course.journal.buffer.room → TellsOf start.course.told.entries start.course.told.ends.items []
      → HaveRun kept service journal start.course.told
  runs_first kept service journal can served text room tells = record {
    before = [];
    plan_is = served.plan_is;
    base_is = served.base_is;
    earlier = tt;
    legal = served.legal;
    finished = served.finished;
    turned = (tt, tt);
    same = served.same;
    stands = served.stands [] tt refl;
    tells = tells;
    text = text;
    room = omega (arith, can.room, room);
  }

  module _ (kept : KeptCore) (service : Service K C) (journal : Journal K) (told : Told) (run : HaveRun kept service journal told) where
    -- there is room for its ends
    pub few_told : length told.ends.items ≡ passes_over kept.core.value.plan (base_of kept.core.value) []
    few_told =
        ap (λ (l : List (Who × How)). length l) run.tells.ends_are ∙ counts_told plan run.before run.earlier
        ∙ sym (λ i. passes_over (run.plan_is i) (run.base_is i) [])

    pub finished_now : IsFinished kept.core.value.plan (base_of kept.core.value) kept.core.value.past
    finished_now = subst (λ (t : Plan × Base). IsFinished t.0 t.1 kept.core.value.past) (λ i. (sym run.plan_is i, sym run.base_is i)) run.finished

    pub serves_now : IsServiceOf plan start.course.service → IsServiceOf kept.core.value.plan service
    serves_now is = subst (λ (p : Plan). IsServiceOf p service) (sym run.plan_is) (serves_still plan start.course.service service run.same is)

    module _ (journal' : Journal K) (told' : Told) (closes : Closes kept.core.value journal journal' told told') where
      base_here : base_of kept.core.value ≡ base_after kept.core.value.plan run.before
      base_here = run.base_is ∙ ap (λ (p : Plan). base_after p run.before) (sym run.plan_is)

      text_now : HasText written faults start.course.journal.sink journal' (journal_of plan (kept.core.value.past ∷ run.before))
      text_now =
          subst (λ (p : Plan). HasText written faults start.course.journal.sink journal' (journal_of p (kept.core.value.past ∷ run.before))) run.plan_is
          (closes.text run.before start.course.journal.sink base_here
          (subst (λ (p : Plan). HasText written faults start.course.journal.sink journal (journal_of p run.before)) (sym run.plan_is) run.text))

      legal_now : AreLegal plan (kept.core.value.past ∷ run.before)
      legal_now = (run.legal, closes.octets, run.earlier)

      -- where nothing is paused, these are all
      pub runs_last : (service' : Service K C) → has_pause kept.core.value.past ≡ false → IsSameService service service' → ((p : Plan) → StandStill written faults readings p service service')
          → HasRun written faults readings start (record { kept = kept; course = record { service = service'; journal = journal'; told = told' } })
      runs_last service' unpaused same still = record {
        before = run.before;
        plan_is = run.plan_is;
        base_is = run.base_is;
        session = record { legal = legal_now; turned = run.turned; closed = (run.finished, unpaused) };
        same = same_both start.course.service service service' run.same same;
        stands = λ first stands. still plan (kept.core.value.past ∷ run.before) first (run.stands first stands);
        tells = closes.tells run.before run.tells;
        text = text_now;
        settled = closes.settled;
      }

      -- else the next one follows
      pub runs_next : (kept' : KeptCore) (service' : Service K C) → has_pause kept.core.value.past ≡ true → HasServedNext written faults readings kept service kept' service' → HaveRun kept' service' journal' told'
      runs_next kept' service' paused next =
          let last : List Row = kept.core.value.past in
          let base : Base = base_after plan run.before in
          let served : HasServedSegment written faults readings plan (after plan base last) service kept' service' =
          subst (λ (t : Plan × Base). HasServedSegment written faults readings t.0 (after t.0 t.1 last) service kept' service') (λ i. (run.plan_is i, run.base_is i)) next in
          record {
            before = last ∷ run.before;
            plan_is = served.plan_is;
            base_is = served.base_is;
            earlier = legal_now;
            legal = served.legal;
            finished = served.finished;
            turned = ((run.finished, paused), run.turned);
            same = same_both start.course.service service service' run.same served.same;
            stands = λ first stands. served.stands (last ∷ run.before) legal_now refl first (run.stands first stands);
            tells = closes.tells run.before run.tells;
            text = text_now;
            room = omega (arith, closes.room, run.room);
          }
