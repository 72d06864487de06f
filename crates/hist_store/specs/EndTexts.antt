-- The texts of passes and of the reasons for which they end.
use Rattle.std.specs.Prelude.{ℕ, List, [], ◌∷◌, ◌++◌, codes, decimal}
use Rattle.savi_kinds.specs.declared.entry.Who.{Who}
use Rattle.savi_kinds.specs.declared.entry.Who.TheVariants.{Ingress, Control, Ticker, Egress}
use Rattle.savi_kinds.specs.declared.entry.How.{How}
use Rattle.savi_kinds.specs.declared.entry.How.TheVariants.{End, Quit, Malformed, Overlong, Failed, Unwritten, Paused}
use Rattle.hist_store.specs.PortTexts.{port_text}

abbrev pub who_text : Who → List ℕ
who_text (Ingress port) = codes "in" ++ port_text port
who_text Control = codes "control"
who_text Ticker = codes "ticker"
who_text (Egress port) = codes "out" ++ port_text port

-- the reason as one field or two
abbrev pub how_fields : How → List (List ℕ)
how_fields End = codes "end" ∷ []
how_fields Quit = codes "quit" ∷ []
how_fields (Malformed at) = codes "malformed" ∷ decimal at ∷ []
how_fields (Overlong at) = codes "overlong" ∷ decimal at ∷ []
how_fields Failed = codes "failed" ∷ []
how_fields Unwritten = codes "unwritten" ∷ []
how_fields Paused = codes "paused" ∷ []

-- the reasons for which an ingress pass may end
abbrev pub IsIngressReason : How → Type 0
IsIngressReason End = Unit {0}
IsIngressReason (Malformed at) = Unit {0}
IsIngressReason Failed = Unit {0}
IsIngressReason Paused = Unit {0}
IsIngressReason Quit = ⊥
IsIngressReason (Overlong at) = ⊥
IsIngressReason Unwritten = ⊥

-- those of the ticker
abbrev pub IsTickerReason : How → Type 0
IsTickerReason End = Unit {0}
IsTickerReason Paused = Unit {0}
IsTickerReason Quit = ⊥
IsTickerReason (Malformed at) = ⊥
IsTickerReason (Overlong at) = ⊥
IsTickerReason Failed = ⊥
IsTickerReason Unwritten = ⊥

-- those of an egress pass
abbrev pub IsEgressReason : How → Type 0
IsEgressReason End = Unit {0}
IsEgressReason Failed = Unit {0}
IsEgressReason Paused = Unit {0}
IsEgressReason Quit = ⊥
IsEgressReason (Malformed at) = ⊥
IsEgressReason (Overlong at) = ⊥
IsEgressReason Unwritten = ⊥

-- a reason for which the pass may end; control may end for each
abbrev pub IsReasonOf : Who → How → Type 0
IsReasonOf (Ingress port) how = IsIngressReason how
IsReasonOf Control how = Unit {0}
IsReasonOf Ticker how = IsTickerReason how
IsReasonOf (Egress port) how = IsEgressReason how
