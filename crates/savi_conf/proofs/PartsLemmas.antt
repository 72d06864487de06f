-- What tests of tables behind references tell of the document's tables.
use Rattle.std.proofs.Common.{◌≡◌, ◌↔◌, ℕ, List, Bool, IsTrue, Bor, BTreeMap, String, Global, map, length, sym, ap, ◌∙◌, true, false, not, refl}
use Rattle.std.specs.List.{All}
use Rattle.std.proofs.lemmas.Bool.{false≢true}
use Rattle.std.proofs.lemmas.List.{length-map}
use Rattle.std.proofs.lemmas.Simd.{map-map}
use Rattle.toml.specs.Data.{Members}
use Rattle.toml.specs.View.{table_view}
use Rattle.toml.specs.declared.value.Value.{Value}
use Rattle.savi_kinds.specs.declared.address.Mac.{Mac}
use Rattle.savi_kinds.specs.MacText.{IsMacText}
use Rattle.savi_kinds.specs.Macs.{is_group}
use Rattle.savi_kinds.proofs.MacGrammar.{one_mac}
use Rattle.savi_conf.specs.Keys.{Keys}
use Rattle.savi_conf.specs.Requirements.{IsSwitchMac, vlans_in}
use Rattle.savi_conf.proofs.Listed.{seen_all}

-- a table behind a reference
abbrev pub Seen : Type 0
Seen = Bor (BTreeMap (String Global) Value)

abbrev pub view_of : Seen → Members
view_of t = table_view t.now

-- a test of each table by its keys
pub each_of : (Each : Keys → Members → Type 0) (names keys : Keys) (ts : List Seen) (ms : List Members) (r : Bool) → names ≡ keys → map (λ t. view_of t) ts ≡ ms → (IsTrue r ↔ All (λ t. Each names (view_of t)) ts) → IsTrue r ↔ All (Each keys) ms
each_of Each names keys ts ms r same seen tells = rw (← same) (seen_all (Each names) (λ t. view_of t) ts ms r seen tells)

-- as many tables are seen as there are
pub length-seen : (ts : List Seen) (ms : List Members) → map (λ t. view_of t) ts ≡ ms → length ms ≡ length ts
length-seen ts ms seen = rw (← seen) (length-map ts (λ t. view_of t))

-- the numbers of the VLANs of the ports that are seen
pub vlans_seen : (ts : List Seen) (ms : List Members) → map (λ t. view_of t) ts ≡ ms → map (λ t. vlans_in (view_of t)) ts ≡ map vlans_in ms
vlans_seen ts ms seen = sym (map-map vlans_in (λ t. view_of t) ts) ∙ ap (map vlans_in) seen

-- a text of a MAC address is one of a switch exactly where that has no group bit
pub switch_mac : (text : List ℕ) (mac : Mac) (group : Bool) → group ≡ is_group mac → IsMacText text mac → IsTrue (not group) ↔ IsSwitchMac text
switch_mac text mac true is spelled = (
  λ no. absurd (false≢true no),
  λ switch. absurd (false≢true (sym switch.unicast ∙ ap is_group (one_mac text switch.mac mac switch.spelled spelled) ∙ sym is)),
)
switch_mac text mac false is spelled = (λ _. record { mac = mac; spelled = spelled; unicast = sym is }, λ _. refl)
