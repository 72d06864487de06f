-- The ports of a document that names no streams.
use Rattle.std.proofs.Common.{◌≡◌, ◌≢◌, ℕ, List, get_or, codes, Option, Some, None, unwrap_or, refl, ap, arith}
use Rattle.std.specs.List.{All}
use Rattle.std.proofs.lemmas.List.Sorted.{All-permutation}
use Rattle.toml.specs.Data.{Members, no_members}
use Rattle.savi_kinds.specs.declared.plan.PortPlan.{PortPlan}
use Rattle.savi_kinds.specs.declared.plan.Format.{Format}
use Rattle.savi_kinds.specs.declared.plan.Format.TheVariants.{Pcap, Stream}
use Rattle.savi_kinds.specs.PlanWords.{format_word}
use Rattle.savi_conf.specs.Documents.{text_at}
use Rattle.savi_conf.specs.PlanOf.{IsPortOf, Lists}

first : List ℕ → ℕ
first text = get_or text 0 0

-- a format that isn't that of streams, or that isn't told, is that of captures
is_capture : (format : Format) (told : Option (List ℕ)) → unwrap_or told (format_word Pcap) ≡ format_word format → told ≢ Some (format_word Stream) → format ≡ Pcap
unfolding first
is_capture Pcap told says other = refl
is_capture Stream None says other = absurd (omega (arith, ap first says))
is_capture Stream (Some word) says other = absurd (other (ap (λ (w : List ℕ). Some w) says))

-- where no table of a port tells the format of streams, each port's is that of captures
pub are_captures : (tables : List Members) (ports : List PortPlan) → Lists IsPortOf tables ports → All (λ table. text_at (codes "format") table ≢ Some (format_word Stream)) tables → All (λ port. port.format ≡ Pcap) ports
are_captures tables ports lists others =
    All-permutation (λ (port : PortPlan). port.format ≡ Pcap) lists.said ports lists.permutation
    (λ k d within.
    let says = lists.in_order.each k no_members d within in
    is_capture (get_or lists.said k d).format (text_at (codes "format") (get_or tables k no_members)) says.format (others k no_members (omega (arith, within, lists.in_order.count))))
