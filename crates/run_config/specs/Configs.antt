-- What a run reads of its configuration.
use Rattle.std.specs.Prelude.{◌≡◌, ◌≢◌, ◌+◌, ◌<◌, ◌≤◌, ℕ, Bool, true, List, Option, All, IfSome, IsSomeAnd, Ok, Err, length, ◌⊎◌}
use Rattle.savi_kinds.specs.declared.plan.Plan.{Plan}
use Rattle.savi_kinds.specs.declared.plan.Format.TheVariants.{Pcap}
use Rattle.savi_kinds.specs.ValidPlan.{IsValidPlan}
use Rattle.savi_conf.specs.declared.fault.ConfFault.{ConfFault}
use Rattle.savi_conf.specs.declared.fault.ConfFault.TheVariants.{NoMemory}
use Rattle.savi_conf.specs.Answers.{IsAnswer, most_octets}
use Rattle.savi_ends.specs.Octets.{IsFront, NothingLeft, Takes}
use Rattle.savi_ends.specs.Places.{Place}

-- a plan of what is built: valid, and for a replay each port's input and output are captures
pub record IsBuilt (replay : Bool) (plan : Plan) : Type 0 where
  pub valid : IsValidPlan plan
  pub captures : replay ≡ true → All (λ port. port.format ≡ Pcap) plan.ports

-- the text that stands in an input is one for which this holds, where the input tells its octets
abbrev pub OfText : {S : Type 0} → (S → Option (List ℕ)) → Place S → (List ℕ → Type 0) → Type 0
OfText left place Holds = IfSome place.stands (λ told. IfSome (left told) Holds)

-- the configuration says this plan, for a replay or for a live session
pub record IsConfigured {S : Type 0} (replay : Bool) (left : S → Option (List ℕ)) (place : Place S) (plan : Plan) : Type 0 where
  pub says : OfText left place (λ text. IsAnswer text replay (Ok plan))
  pub built : IsBuilt replay plan

-- the configuration is refused for this
pub record IsRefused {S : Type 0} (replay : Bool) (left : S → Option (List ℕ)) (place : Place S) (fault : ConfFault) : Type 0 where
  pub answer : OfText left place (λ text. IsAnswer text replay (Err fault))
  pub cause : fault ≢ NoMemory

-- the end that is kept in a place has a fault; it had none when it was handed out
abbrev pub EndHasFault : {X : Type 0} → (X → ℕ) → Place X → Type 0
EndHasFault faults place = IsSomeAnd place.stands (λ x. 0 < faults x)

-- the end that is kept in a place has no fault
abbrev pub EndHasNoFault : {X : Type 0} → (X → ℕ) → Place X → Type 0
EndHasNoFault faults place = IsSomeAnd place.stands (λ x. faults x ≡ 0)

-- what was read of a text: the whole of it, or a front that is longer than a configuration may be
abbrev pub IsWholeOrLong : List ℕ → List ℕ → Type 0
IsWholeOrLong front text = (front ≡ text) ⊎ ((most_octets < length front) × IsFront front text)

-- these octets were taken from a source's front: at most one more than a configuration may have
abbrev pub TakesFew : Option (List ℕ) → Option (List ℕ) → Type 0
TakesFew before after = (octets : List ℕ) × (length octets ≤ most_octets + 1) × Takes before after octets

-- a source was read to its end, or one octet further than a configuration may have
abbrev pub TakesWhole : Option (List ℕ) → Option (List ℕ) → Type 0
TakesWhole before after = (octets : List ℕ) × (length octets ≤ most_octets + 1) × Takes before after octets × (NothingLeft after ⊎ (length octets ≡ most_octets + 1))

-- the input that was told is kept, and of its front at most one octet more was read than a configuration may have
abbrev pub IsReadFrom : {S : Type 0} → (S → Option (List ℕ)) → Place S → Place S → Type 0
IsReadFrom left old new = IsSomeAnd new.stands (λ kept. IfSome old.stands (λ told. TakesFew (left told) (left kept)))

-- the input that was told is kept, and it was read to its end, or one octet further than a configuration may have
abbrev pub IsReadThrough : {S : Type 0} → (S → Option (List ℕ)) → Place S → Place S → Type 0
IsReadThrough left old new = IsSomeAnd new.stands (λ kept. IfSome old.stands (λ told. TakesWhole (left told) (left kept)))
