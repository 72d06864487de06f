-- What no port of a host or a server lets through, whatever the past: a router advertisement, and a first fragment
-- whose chain is cut (RFC 6105, RFC 7113, RFC 7112 section 5), tagged or not.
use Rattle.std.specs.Prelude.{◌≡◌, ℕ, false, List, All}
use Rattle.savi_kinds.specs.declared.plan.Plan.{Plan}
use Rattle.savi_kinds.specs.declared.port.Port.{Port}
use Rattle.savi_kinds.specs.declared.entry.Act.TheVariants.{Frame}
use Rattle.savi_kinds.specs.Ports.{number_of}
use Rattle.eth_frame.specs.Tags.{inner}
use Rattle.hist_store.specs.Rows.{Row}
use Rattle.ra_guard.specs.Refused.{IsAdvertFrame, IsHiddenFrame}
use Rattle.savi_history.specs.Passes.{role_of, is_trusted}
use Rattle.savi_history.specs.Summary.{is_pass}

-- the row is that of a frame at this port
pub record IsFrameAt (port : Port) (r : Row) : Type 0 where
  pub stamp : ℕ
  pub at : ℕ
  pub len : ℕ
  pub frame : r.entry.act ≡ Frame port stamp at len

-- a frame that has this property without its tag, at a port whose sources are validated, doesn't pass
abbrev pub NotPassed : (List ℕ → Type 0) → Plan → Row → Type 0
NotPassed Has plan r =
    (port : Port) → IsFrameAt port r → is_trusted (role_of plan (number_of port)) ≡ false → Has (inner r.octets)
    → is_pass r.entry.verdict ≡ false

-- no frame with this property passes a port whose sources are validated
abbrev pub NonePasses : (List ℕ → Type 0) → Plan → List Row → Type 0
NonePasses Has plan past = All (NotPassed Has plan) past

-- both hold of a history
pub record IsGuarded (plan : Plan) (past : List Row) : Type 0 where
  pub no_advert : NonePasses IsAdvertFrame plan past
  pub no_hidden : NonePasses IsHiddenFrame plan past
