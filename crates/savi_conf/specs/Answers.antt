-- What reading a configuration gives.
use Rattle.std.specs.Prelude.{ℕ, ◌≡◌, ◌≤◌, ◌<◌, ◌⊎◌, Bool, List, length, IsUtf8, Some, None, Result, Ok, Err}
use Rattle.toml.specs.Data.{Members}
use Rattle.toml.specs.Parse.{parse_document}
use Rattle.savi_kinds.specs.declared.plan.Plan.{Plan}
use Rattle.savi_kinds.specs.ValidPlan.{IsValidPlan}
use Rattle.savi_conf.specs.declared.fault.Fault.{Fault}
use Rattle.savi_conf.specs.declared.fault.ConfFault.{ConfFault}
use Rattle.savi_conf.specs.declared.fault.ConfFault.TheVariants.{NoMemory, NotToml, Bad}
use Rattle.savi_conf.specs.Faults.{fault_number, too_long}
use Rattle.savi_conf.specs.Requirements.{Meets, IsFirstFault}
use Rattle.savi_conf.specs.PlanOf.{IsPlanOf}

-- the most octets of a configuration
abbrev pub most_octets : ℕ
most_octets = 65536

-- the text is this document
pub record IsDocument (text : List ℕ) (document : Members) : Type 0 where
  pub short : length text ≤ most_octets
  pub utf8 : IsUtf8 text
  pub parsed : parse_document text ≡ Some document

-- the text isn't too long, and is no document
pub record IsNoDocument (text : List ℕ) : Type 0 where
  pub short : length text ≤ most_octets
  pub refused : IsUtf8 text → parse_document text ≡ None

-- the document meets every requirement, and says this plan
pub record SaysPlan (document : Members) (replay : Bool) (plan : Plan) : Type 0 where
  pub meets : (fault : Fault) → Meets replay document fault
  pub says : IsPlanOf document plan
  pub valid : IsValidPlan plan

-- the number of the first fault
pub record HasFault (document : Members) (replay : Bool) (answered : ℕ) : Type 0 where
  pub fault : Fault
  pub number : answered ≡ fault_number fault
  pub first : IsFirstFault replay document fault

-- what a document gives
abbrev pub IsPlanAnswer : Members → Bool → Result Plan ConfFault → Type 0
IsPlanAnswer document replay (Ok plan) = SaysPlan document replay plan
IsPlanAnswer document replay (Err NoMemory) = Unit {0}
IsPlanAnswer document replay (Err NotToml) = ⊥
IsPlanAnswer document replay (Err (Bad number)) = HasFault document replay number

-- the text is a document that gives this
abbrev pub OfDocument : List ℕ → Bool → Result Plan ConfFault → Type 0
OfDocument text replay answer = (document : Members) × IsDocument text document × IsPlanAnswer document replay answer

-- What a text gives: nothing is said of want of memory; a text that is too long isn't parsed.
abbrev pub IsAnswer : List ℕ → Bool → Result Plan ConfFault → Type 0
IsAnswer text replay (Ok plan) = OfDocument text replay (Ok plan)
IsAnswer text replay (Err NoMemory) = Unit {0}
IsAnswer text replay (Err NotToml) = IsNoDocument text
IsAnswer text replay (Err (Bad number)) = ((number ≡ too_long) × (most_octets < length text)) ⊎ OfDocument text replay (Err (Bad number))
