-- Why the newest entry was refused, where it is a command's.
use Rattle.std.proofs.Common.{ℕ, ◌≡◌, List, [], ◌∷◌, ◌++◌, Option, sym, ap, subst}
use Rattle.std.specs.Prelude.{reverse}
use Rattle.savi_kinds.specs.declared.entry.Entry.{Entry}
use Rattle.savi_kinds.specs.declared.entry.Act.{Act}
use Rattle.cli_lang.specs.CommandOf.{command_of}
use Rattle.control_replies.specs.declared.refusal.Refusal.{Refusal}
use Rattle.checkpoint.specs.Bases.{access_of}
use Rattle.savi_history.specs.Moments.{moment_at}
use Rattle.savi_history.specs.Commands.{rows_told, refusal_of}
use Rattle.savi_history.specs.Marks.{marks}
use Rattle.savi_history.specs.Events as events
use Rattle.savi_history.specs.Events.{Event, row_of}
use Rattle.savi_core.specs.Remembers.{CoreState, Remembers}
use Rattle.savi_core.specs.Refused.{IsRefusalBy, IsRefusal}
use Rattle.savi_core.proofs.Remembering.{reverse_push}
use Rattle.savi_core.proofs.Stepping.{row}

-- an event that is no command
abbrev pub IsNoCommand : Event → Type 0
IsNoCommand (events.Frame port stamp octets) = Unit {0}
IsNoCommand (events.Long port stamp len) = Unit {0}
IsNoCommand (events.Command stamp line) = ⊥
IsNoCommand (events.Tick stamp) = Unit {0}
IsNoCommand (events.Drain port count) = Unit {0}
IsNoCommand (events.End who how) = Unit {0}

module _ {k : CoreState} (was : Remembers k) where
  silent : (event : Event) (e : Entry) (octets : List ℕ) (refused : Option Refusal) → IsNoCommand event → IsRefusalBy k.plan k.base (reverse k.rows) (row e octets) (row_of k.plan k.base (reverse k.rows) event).entry.act refused
  silent (events.Frame port stamp frame) e octets refused none = tt
  silent (events.Long port stamp len) e octets refused none = tt
  silent (events.Command stamp line) e octets refused none = absurd none
  silent (events.Tick stamp) e octets refused none = tt
  silent (events.Drain port count) e octets refused none = tt
  silent (events.End who how) e octets refused none = tt

  -- nothing is said of an entry that is no command's
  pub no_refusal : (event : Event) (e : Entry) (octets : List ℕ) (refused : Option Refusal) → e ≡ (row_of k.plan k.base (reverse k.rows) event).entry → IsNoCommand event → IsRefusal k.plan k.base (reverse (k.rows ++ row e octets ∷ [])) refused
  no_refusal event e octets refused e_is none =
      rw (reverse_push k.rows (row e octets))
      (subst (λ (a : Act). IsRefusalBy k.plan k.base (reverse k.rows) (row e octets) a refused) (sym (ap (λ (x : Entry). x.act) e_is)) (silent event e octets refused none))

  -- of a command's what was answered
  pub is_refusal : (stamp : ℕ) (line : List ℕ) (e : Entry) (refused : Option Refusal) → e ≡ (row_of k.plan k.base (reverse k.rows) (events.Command stamp line)).entry
      → refused ≡ refusal_of k.plan (rows_told k.plan (access_of k.base) (marks k.plan k.base (reverse k.rows)) (moment_at k.base (reverse k.rows) stamp)) (command_of line)
      → IsRefusal k.plan k.base (reverse (k.rows ++ row e line ∷ [])) refused
  is_refusal stamp line e refused e_is is =
      rw (reverse_push k.rows (row e line))
      (subst (λ (x : Entry). IsRefusalBy k.plan k.base (reverse k.rows) (row x line) x.act refused) (sym e_is) is)
