-- What is known of learning while it goes on, and what a sink took of what is printed.
use Rattle.std.specs.Prelude.{◌≡◌, ℕ, ◌≤◌, List, Option}
use Rattle.savi_kinds.specs.declared.plan.Plan.{Plan}
use Rattle.savi_kinds.specs.declared.port.PortSet.{PortSet}
use Rattle.savi_kinds.specs.PortSets.{is_member}
use Rattle.savi_ends.specs.declared.sink.Put.{Put}
use Rattle.savi_ends.specs.declared.sink.Put.TheVariants as put
use Rattle.savi_ends.specs.Faults.{Rose}
use Rattle.savi_ends.specs.Writes.{Extends}
use Rattle.ra_learn.specs.Learned.{Learned, HasLearned}
use Rattle.ra_learn.specs.Link.{is_on_link}
use Rattle.ra_learn.specs.Printed.{PortArrival, sightings_of, last_moment}

-- the ports of the link, what was learned, the last moment, and whether a write failed
pub record Reported : Type 0 where
  pub link : PortSet
  pub learned : Learned
  pub moment : ℕ
  pub put : Put

-- it stands with these arrivals, the newest first
pub record HasReported (plan : Plan) (window : ℕ) (arrivals : List PortArrival) (reported : Reported) : Type 0 where
  pub link : (n : ℕ) → 1 ≤ n → is_member reported.link n ≡ is_on_link plan n
  pub knows : HasLearned plan window (sightings_of plan arrivals) reported.learned
  pub moment : reported.moment ≡ last_moment arrivals

-- A sink took a text since some time, and no write of it failed; or it took a front of it before a write that failed, and
-- then its count of faults rose.
pub record Wrote (text : List ℕ) (answer : Put) (before now : Option (List ℕ)) (faults_before faults_now : ℕ) : Type 0 where
  pub took : Extends answer before now text
  pub later : faults_before ≤ faults_now
  pub cause : answer ≡ put.Failed → Rose faults_before faults_now
  pub still : answer ≡ put.Done → faults_now ≡ faults_before
