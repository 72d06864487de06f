-- First come, first served, and access, over segments.
use Rattle.std.specs.Prelude.{◌≡◌, ℕ, List, [], ◌∷◌, ◌++◌}
use Rattle.savi_kinds.specs.declared.plan.Plan.{Plan}
use Rattle.savi_kinds.specs.declared.port.Port.{Port}
use Rattle.hist_store.specs.Rows.{Row}
use Rattle.checkpoint.specs.Bases.{empty}
use Rattle.savi_history.specs.Accesses.{AllPassedRightly}
use Rattle.savi_history.specs.CameFirst.{IsLiveAtEnd, IsLostSince, PassedElsewhere}
use Rattle.savi_segments.specs.Segments.{base_after, joined}
use Rattle.savi_segments.specs.Steps.{Step, Enters, gone, rows_in}

-- In each segment a frame passed the port of a host or a server exactly where it had access, by what that segment goes on
-- from.
abbrev pub AllSegmentsPassedRightly : Plan → List (List Row) → Type 0
AllSegmentsPassedRightly plan [] = Unit {0}
AllSegmentsPassedRightly plan (segment ∷ before) = AllPassedRightly plan (base_after plan before) segment × AllSegmentsPassedRightly plan before

-- Where an address of a VLAN was live at a port at some place of the segments, and a later row is of a frame of that VLAN
-- with that source that passed at another port of a host or a server, in the same segment or a later one, the first port had
-- lost the address since by one of three causes: by what all rows between the two told, read from the start of the switch.
abbrev pub SegmentsKeepWhoCameFirst : Plan → List (List Row) → Type 0
SegmentsKeepWhoCameFirst plan segments =
    (first : List (List Row)) (between later : List Step) (r : Row) (vlan a : ℕ) (port : Port)
    → segments ≡ gone first (later ++ Enters r ∷ between)
    → IsLiveAtEnd plan empty (joined first) vlan a port → PassedElsewhere plan r vlan a port
    → IsLostSince plan empty (joined first) (rows_in between) r.entry.moment vlan a port
