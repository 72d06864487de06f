-- What a journal was given, from its first line on.
use Rattle.std.proofs.Common.{◌≡◌, ◌≤◌, ℕ, Bool, true, false, List, [], refl, sym, subst, ◌∙◌, Option, Some, None}
use Rattle.savi_kinds.specs.declared.plan.Plan.{Plan}
use Rattle.hist_store.specs.Rows.{Row}
use Rattle.savi_segments.specs.Journals.{journal_of}
use Rattle.journal_write.specs.declared.journal.Journal.{Journal}
use Rattle.journal_write.specs.Written.{HasText, WasGiven}
use Rattle.port_worker.specs.Journalled.{GivesSink, HasRoomIfAny, IsBlank, IsBlankIfAny, IsJournalled, IsSettledIfAny, TookJournal}
use Rattle.port_worker.proofs.Later.{behind_none}

-- a blank journal has no text yet
pub blank_text : {K : Type 0} (written : K → Option (List ℕ)) (faults : K → ℕ) (journal : Journal K) → IsBlank journal → HasText written faults journal.sink journal []
blank_text written faults journal blank =
    subst (λ (b : Bool). WasGiven written faults journal.sink journal.sink journal.buffer.octets b []) (sym blank.whole)
    (subst (λ (l : List ℕ). WasGiven written faults journal.sink journal.sink l false []) (sym blank.nothing) (record { took = []; sink = behind_none (written journal.sink); all = refl }, refl))

-- its room stays
pub room_kept : {K : Type 0} (written : K → Option (List ℕ)) (faults : K → ℕ) (plan : Plan) (segments : List (List Row)) (first now : Option (Journal K)) → IsBlankIfAny first → IsJournalled written faults plan segments first now → HasRoomIfAny now
room_kept written faults plan segments None None blank is = tt
room_kept written faults plan segments None (Some now) blank is = absurd is
room_kept written faults plan segments (Some first) None blank is = absurd is
room_kept written faults plan segments (Some first) (Some now) blank is = subst (λ (n : ℕ). 3401 ≤ n) (sym is.room) blank.room

-- the sink of a journal that is settled took what was given to it

given_settled : {K : Type 0} (written : K → Option (List ℕ)) (faults : K → ℕ) (first now : K) (waits text : List ℕ) (failed : Bool) → (failed ≡ false → waits ≡ []) → WasGiven written faults first now waits failed text → WasGiven written faults first now [] failed text
given_settled written faults first now waits text false settled given = subst (λ (l : List ℕ). WasGiven written faults first now l false text) (settled refl) given
given_settled written faults first now waits text true settled given = given

-- a journal begins with this sink, where there is one
abbrev pub StartsWith : {K : Type 0} → Option K → Option (Journal K) → Type 0
StartsWith None None = Unit {0}
StartsWith (Some sink) (Some journal) = journal.sink ≡ sink
StartsWith None (Some journal) = ⊥
StartsWith (Some sink) None = ⊥

pub took_journal : {K : Type 0} (written : K → Option (List ℕ)) (faults : K → ℕ) (plan : Plan) (segments : List (List Row)) (old : Option K) (first now : Option (Journal K)) (sink : Option K) (failed : Bool) → StartsWith old first → IsJournalled written faults plan segments first now
    → IsSettledIfAny now → GivesSink now sink failed → TookJournal written faults plan segments failed old sink
took_journal written faults plan segments None None None None failed starts is settled gives = gives
took_journal written faults plan segments None None None (Some sink) failed starts is settled gives = absurd gives
took_journal written faults plan segments None None (Some now) sink failed starts is settled gives = absurd is
took_journal written faults plan segments None (Some first) now sink failed starts is settled gives = absurd starts
took_journal written faults plan segments (Some old) None now sink failed starts is settled gives = absurd starts
took_journal written faults plan segments (Some old) (Some first) None sink failed starts is settled gives = absurd is
took_journal written faults plan segments (Some old) (Some first) (Some now) None failed starts is settled gives = absurd gives
took_journal {K} written faults plan segments (Some old) (Some first) (Some now) (Some sink) failed starts is settled gives =
    let text = journal_of plan segments in
    subst (λ (b : Bool). WasGiven written faults old sink [] b text) (sym gives.1)
    (subst (λ (k : K). WasGiven written faults old k [] now.failed text) (sym gives.0)
    (subst (λ (k : K). WasGiven written faults k now.sink [] now.failed text) starts
    (given_settled written faults first.sink now.sink now.buffer.octets text now.failed settled is.text)))

-- one segment more was given to a journal, where there is one
pub journal_more : {K : Type 0} (written : K → Option (List ℕ)) (faults : K → ℕ) (plan : Plan) (before after : List (List Row)) (first : Option (Journal K)) (old new : Journal K) → new.buffer.room ≡ old.buffer.room
    → ((start : K) → HasText written faults start old (journal_of plan before) → HasText written faults start new (journal_of plan after))
    → IsJournalled written faults plan before first (Some old) → IsJournalled written faults plan after first (Some new)
journal_more written faults plan before after None old new same more is = absurd is
journal_more written faults plan before after (Some first) old new same more is = record { text = more first.sink is.text; room = same ∙ is.room }

pub journal_none : {K : Type 0} (written : K → Option (List ℕ)) (faults : K → ℕ) (plan : Plan) (before after : List (List Row)) (first now : Option (Journal K)) → now ≡ None → IsJournalled written faults plan before first now → IsJournalled written faults plan after first now
journal_none written faults plan before after None None none is = tt
journal_none written faults plan before after (Some first) None none is = absurd is
journal_none written faults plan before after first (Some now) none is = cc

pub none_if : {X : Type 0} (o : Option X) → ((x : X) → o ≡ Some x → ⊥) → o ≡ None
none_if None not = refl
none_if (Some x) not = absurd (not x refl)
