-- What a frame adds to what is reported: at a port of the link it is seen, and at another one it moves the last moment
-- alone.
use Rattle.std.proofs.Common.{◌≡◌, ℕ, true, false, List, ◌∷◌, sym, ◌∙◌, ap, subst}
use Rattle.std.proofs.lemmas.Bool.{cond-true, cond-false}
use Rattle.savi_kinds.specs.Arrivals.{Frame}
use Rattle.savi_kinds.specs.declared.plan.Plan.{Plan}
use Rattle.savi_kinds.specs.declared.port.Port.{Port}
use Rattle.savi_kinds.specs.declared.port.PortSet.{PortSet}
use Rattle.savi_kinds.specs.Ports.{number_of}
use Rattle.savi_kinds.specs.PortSets.{is_member}
use Rattle.ra_learn.specs.Learned.{Learned, HasLearned}
use Rattle.ra_learn.specs.Link.{is_on_link}
use Rattle.ra_learn.specs.Printed.{PortArrival, moment_at, last_moment, sightings_of}
use Rattle.ra_learn.specs.Reports.{Reported, HasReported}
use Rattle.ra_learn.specs.Sightings.{Sighting}

-- a frame at a port with a stamp
abbrev pub frame_at : Port → ℕ → List ℕ → PortArrival
frame_at port stamp octets = record { port = port; arrival = Frame stamp octets }

-- the same, seen at a moment
abbrev pub sighting_at : Port → ℕ → List ℕ → Sighting
sighting_at port moment octets = record { port = port; moment = moment; octets = octets }

module _ (plan : Plan) (window : ℕ) (arrivals : List PortArrival) (port : Port) (stamp : ℕ) (octets : List ℕ) where
  -- what was reported, and the same at the moment of the frame
  module _ (old mid : Reported) (tells : HasReported plan window arrivals old) (same : mid ≡ record old { moment = moment_at old.moment stamp }) where
    link_is : mid.link ≡ old.link
    link_is = ap (λ (r : Reported). r.link) same

    learned_is : mid.learned ≡ old.learned
    learned_is = ap (λ (r : Reported). r.learned) same

    moment_is : mid.moment ≡ moment_at (last_moment arrivals) stamp
    moment_is = ap (λ (r : Reported). r.moment) same ∙ ap (λ (m : ℕ). moment_at m stamp) tells.moment

    -- whether the port is one of the link
    member_is : is_member mid.link (number_of port) ≡ is_on_link plan (number_of port)
    member_is = ap (λ (s : PortSet). is_member s (number_of port)) link_is ∙ tells.link (number_of port) port.low

    -- at another port nothing is seen
    pub off_link : is_member mid.link (number_of port) ≡ false → sightings_of plan arrivals ≡ sightings_of plan (frame_at port stamp octets ∷ arrivals)
    off_link off =
        let seen : List Sighting = sightings_of plan arrivals in
        sym (cond-false (is_on_link plan (number_of port)) (sighting_at port (moment_at (last_moment arrivals) stamp) octets ∷ seen) seen (sym member_is ∙ off))

    -- at a port of the link the frame is seen
    pub on_link : is_member mid.link (number_of port) ≡ true → sighting_at port mid.moment octets ∷ sightings_of plan arrivals ≡ sightings_of plan (frame_at port stamp octets ∷ arrivals)
    on_link on =
        let seen : List Sighting = sightings_of plan arrivals in
        ap (λ (m : ℕ). sighting_at port m octets ∷ seen) moment_is
        ∙ sym (cond-true (is_on_link plan (number_of port)) (sighting_at port (moment_at (last_moment arrivals) stamp) octets ∷ seen) seen (sym member_is ∙ on))

    -- what is known at the moment of the frame is what was known
    pub still_knows : HasLearned plan window (sightings_of plan arrivals) mid.learned
    still_knows = subst (λ (l : Learned). HasLearned plan window (sightings_of plan arrivals) l) (sym learned_is) tells.knows

    pub tells_off : is_member mid.link (number_of port) ≡ false → HasReported plan window (frame_at port stamp octets ∷ arrivals) mid
    tells_off off = record {
      link = λ n low. ap (λ (s : PortSet). is_member s n) link_is ∙ tells.link n low;
      knows = subst (λ (seen : List Sighting). HasLearned plan window seen mid.learned) (off_link off) still_knows;
      moment = moment_is;
    }

    pub tells_on : (new : Reported) → is_member mid.link (number_of port) ≡ true → HasLearned plan window (sighting_at port mid.moment octets ∷ sightings_of plan arrivals) new.learned → new.link ≡ mid.link → new.moment ≡ mid.moment → HasReported plan window (frame_at port stamp octets ∷ arrivals) new
    tells_on new on knows link moment = record {
      link = λ n low. ap (λ (s : PortSet). is_member s n) (link ∙ link_is) ∙ tells.link n low;
      knows = subst (λ (seen : List Sighting). HasLearned plan window seen new.learned) (on_link on) knows;
      moment = moment ∙ moment_is;
    }
