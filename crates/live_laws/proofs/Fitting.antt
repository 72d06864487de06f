-- What a history holds of a source weighs no more than all that the source had, by how the input ended.
use Rattle.std.proofs.Common.{◌≡◌, ℕ, ◌≤◌, Bool, true, false, List, [], ◌∷◌, ◌++◌, sum_by, Option, Some, None, IfSome, refl, sym, subst, ◌∙◌, append-nil, arith}
use Rattle.std.proofs.lemmas.List.Sums.{sum_by-append}
use Rattle.savi_kinds.specs.declared.plan.Format.{Format}
use Rattle.savi_kinds.specs.declared.entry.How.{How}
use Rattle.savi_kinds.specs.declared.entry.How.TheVariants as hows
use Rattle.savi_kinds.specs.Arrivals.{Arrival}
use Rattle.savi_ends.specs.Octets.{Takes}
use Rattle.stream_io.specs.Streams as streams
use Rattle.port_reader.specs.Inputs.{AreArrivals, FitsRead, IsReadBroken, IsReadWhole}
use Rattle.cli_lang.specs.Arrivals.{Line}
use Rattle.cli_lang.specs.Arrivals as control
use Rattle.savi_history.specs.ControlFits.{FitsControl, Begins, AreFirst, AreBeforeRefusal}
use Rattle.savi_history.specs.Fits.{IsWhole}
use Rattle.control_reader.specs.LiveLines.{AreLiveLines}
use Rattle.live_laws.proofs.Fronts.{arrivals_most, lines_most, lines_same}

-- what a source gave up is a front of what it told
gave_front : (before after : Option (List ℕ)) (gave octets : List ℕ) → before ≡ Some octets → Takes before after gave → (rest : List ℕ) × (octets ≡ gave ++ rest)
gave_front before None gave octets told takes = let never : Some octets ≡ None = sym told ∙ takes in absurd cc
gave_front before (Some rest) gave octets told takes = let both : Some octets ≡ Some (gave ++ rest) = sym told ∙ takes in (rest, cc)

-- those in front weigh no more
pub less : {A : Type 0} (weight : A → ℕ) (some later : List A) (most : ℕ) → sum_by weight (some ++ later) ≤ most → sum_by weight some ≤ most
less weight some later most low = omega (arith, sum_by-append weight some later, low)

module _ (weight : Arrival → ℕ) (blind : (reading : ℕ) (a : Arrival) → weight (streams.stamped_at reading a) ≡ weight a)
    (format : Format) (before after : Option (List ℕ)) (octets : List ℕ) (all : List Arrival) (f : How) (told : before ≡ Some octets) (are : AreArrivals format true octets all f) where
  whole_most : (some : List Arrival) (e : How) → IsReadWhole format before some e → sum_by weight some ≤ sum_by weight all
  whole_most some e whole =
      arrivals_most weight blind format true octets [] some all e f (subst (λ (b : Option (List ℕ)). IfSome b (λ l. AreArrivals format true l some e)) told whole)
      (subst (λ (l : List ℕ). AreArrivals format true l all f) (sym (append-nil octets)) are)

  broken_most : (some : List Arrival) → IsReadBroken format before after some → sum_by weight some ≤ sum_by weight all
  broken_most some broken =
      let front = gave_front before after broken.gave octets told broken.takes in
      arrivals_most weight blind format false broken.gave front.0 some all hows.Failed f broken.read (subst (λ (l : List ℕ). AreArrivals format true l all f) front.1 are)

  pub read_most : (some : List Arrival) (ending : How) → FitsRead format before after some ending → sum_by weight some ≤ sum_by weight all
  read_most some hows.End fits = whole_most some hows.End fits
  read_most some (hows.Malformed at) fits = whole_most some (hows.Malformed at) fits
  read_most some hows.Failed fits = broken_most some fits
  read_most some hows.Quit fits = absurd fits
  read_most some (hows.Overlong at) fits = absurd fits
  read_most some hows.Unwritten fits = absurd fits
  read_most some hows.Paused fits = absurd fits

module _ (weight : Line → ℕ) (blind : (reading : ℕ) (line : Line) → weight (control.stamped_at reading line) ≡ weight line)
    (before after : Option (List ℕ)) (octets : List ℕ) (all : List Line) (f : How) (told : before ≡ Some octets) (are : AreLiveLines true octets all f) where
  whole_lines : (some : List Line) (e : How) → IsWhole (AreLiveLines true) before some e → sum_by weight some ≤ sum_by weight all
  whole_lines some e whole = lines_same weight blind octets some all e f (subst (λ (b : Option (List ℕ)). IfSome b (λ l. AreLiveLines true l some e)) told whole) are

  first_lines : (some : List Line) → AreFirst (AreLiveLines true) before some → sum_by weight some ≤ sum_by weight all
  first_lines some first =
      let begins : Begins (AreLiveLines true) octets some = subst (λ (b : Option (List ℕ)). IfSome b (λ l. Begins (AreLiveLines true) l some)) told first in
      less weight some begins.behind (sum_by weight all) (lines_same weight blind octets (some ++ begins.behind) all begins.ending f begins.read are)

  gave_lines : (gave : List ℕ) (some : List Line) (e : How) → Takes before after gave → AreLiveLines false gave some e → sum_by weight some ≤ sum_by weight all
  gave_lines gave some e takes part =
      let front = gave_front before after gave octets told takes in
      lines_most weight blind gave front.0 some all e f part (subst (λ (l : List ℕ). AreLiveLines true l all f) front.1 are)

  -- seen to end or not
  refused_lines : (gave : List ℕ) (some : List Line) (e : How) (seen : Bool) → (seen ≡ true → IfSome before (λ l. l ≡ gave)) → Takes before after gave → AreLiveLines seen gave some e → sum_by weight some ≤ sum_by weight all
  refused_lines gave some e true same takes part =
      let is : octets ≡ gave = subst (λ (b : Option (List ℕ)). IfSome b (λ l. l ≡ gave)) told (same refl) in
      lines_same weight blind octets some all e f (subst (λ (l : List ℕ). AreLiveLines true l some e) (sym is) part) are
  refused_lines gave some e false same takes part = gave_lines gave some e takes part

  pub control_most : (some : List Line) (ended_so : Option How) → FitsControl AreLiveLines before after some ended_so → sum_by weight some ≤ sum_by weight all
  control_most some (Some hows.End) fits = whole_lines some hows.End fits.0
  control_most some (Some (hows.Malformed at)) fits = whole_lines some (hows.Malformed at) fits.0
  control_most some (Some (hows.Overlong at)) fits = whole_lines some (hows.Overlong at) fits.0
  control_most some (Some hows.Failed) fits = gave_lines fits.0.gave some hows.Failed fits.0.takes fits.0.read
  control_most some (Some hows.Paused) fits =
      let cut : AreBeforeRefusal AreLiveLines before after some = fits.0 in
      less weight some (cut.refused ∷ cut.behind) (sum_by weight all)
      (refused_lines cut.gave (some ++ cut.refused ∷ cut.behind) cut.ending cut.seen cut.all cut.takes cut.read)
  control_most some (Some hows.Quit) fits = first_lines some fits.0
  control_most some (Some hows.Unwritten) fits = first_lines some fits.0
  control_most some None fits = absurd fits
