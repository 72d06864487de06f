-- The frames that the numbers of entries stand for, and what else waits.
use Rattle.std.proofs.Common.{ℕ, zero, suc, ◌≡◌, ◌<◌, Option, Some, None, List, [], ◌∷◌, ◌++◌, length, map, All, refl, ap, ◌∙◌, arith, length-append}
use Rattle.std.specs.Prelude.{IsSomeAnd, slice_get}
use Rattle.std.proofs.lemmas.List.Elements.{All-head, All-tail, All-weaker}
use Rattle.savi_kinds.specs.declared.entry.Entry.{Entry}
use Rattle.savi_kinds.specs.declared.entry.Act.TheVariants as acts
use Rattle.savi_kinds.specs.declared.plan.Plan.{Plan}
use Rattle.savi_kinds.specs.declared.plan.Vlan.{Vlan}
use Rattle.savi_kinds.specs.declared.plan.Vlan.TheVariants.{Access, Trunk}
use Rattle.savi_kinds.specs.declared.port.Port.{Port}
use Rattle.savi_kinds.specs.Ports.{number_of}
use Rattle.savi_kinds.specs.Vlans.{vlan_among}
use Rattle.eth_frame.specs.Tags.{inner}
use Rattle.egress_ring.specs.declared.item.Item.{Item as Queued}
use Rattle.egress_ring.specs.declared.item.Item.TheVariants.{Frame, Probe}
use Rattle.hist_store.specs.Rows.{Row}
use Rattle.savi_history.specs.Vlans.{vlan_of_frame, octets_out}
use Rattle.savi_history.specs.Queues.{sent_octets}
use Rattle.savi_core.specs.Batches.{item_with}
use Rattle.savi_core.specs.Leaving.{with_tag, tag_at}
use Rattle.savi_core.specs.Waits.{frame_item, frame_of, queued_item, IsFrameRow, IsThere}

pub frame_of-more : (plan : Plan) (q : ℕ) (rows more : List Row) (n : ℕ) → n < length rows → frame_of plan q (rows ++ more) n ≡ frame_of plan q rows n
frame_of-more plan q [] more n within = absurd (omega arith)
frame_of-more plan q (r ∷ rows) more zero within = refl
frame_of-more plan q (r ∷ rows) more (suc n) within = frame_of-more plan q rows more n (omega (arith, within))

pub frame_of-last : (plan : Plan) (q : ℕ) (rows : List Row) (r : Row) → frame_of plan q (rows ++ r ∷ []) (length rows) ≡ frame_item plan q r r.entry.act
frame_of-last plan q [] r = refl
frame_of-last plan q (first ∷ rows) r = frame_of-last plan q rows r

pub row_at-more : (rows more : List Row) (n : ℕ) → n < length rows → slice_get (rows ++ more) n ≡ slice_get rows n
row_at-more [] more n within = absurd (omega arith)
row_at-more (r ∷ rows) more zero within = refl
row_at-more (r ∷ rows) more (suc n) within = row_at-more rows more n (omega (arith, within))

pub row_at-last : (rows : List Row) (r : Row) → slice_get (rows ++ r ∷ []) (length rows) ≡ Some r
row_at-last [] r = refl
row_at-last (first ∷ rows) r = row_at-last rows r

pub shown-more : (plan : Plan) (q : ℕ) (rows more : List Row) (it : Queued) → IsThere rows it → queued_item plan (rows ++ more) q it ≡ queued_item plan rows q it
shown-more plan q rows more (Frame n) was = frame_of-more plan q rows more n was.0
shown-more plan q rows more (Probe due target vid) was = refl

-- items stand for the same in a longer history
pub shown_all : (plan : Plan) (q : ℕ) (rows more : List Row) (its : List Queued) → All (IsThere rows) its → map (queued_item plan (rows ++ more) q) its ≡ map (queued_item plan rows q) its
shown_all plan q rows more [] all = refl
shown_all plan q rows more (it ∷ its) all =
    ap (λ first. first ∷ map (queued_item plan (rows ++ more) q) its) (shown-more plan q rows more it (All-head (IsThere rows) it its all))
    ∙ ap (λ rest. queued_item plan rows q it ∷ rest) (shown_all plan q rows more its (All-tail (IsThere rows) it its all))

is_there-more : (rows more : List Row) (it : Queued) → IsThere rows it → IsThere (rows ++ more) it
is_there-more rows more (Frame n) was = (omega (arith, was.0, length-append rows more), rw (row_at-more rows more n was.0) was.1)
is_there-more rows more (Probe due target vid) was = tt

pub there_more : (rows more : List Row) (its : List Queued) → All (IsThere rows) its → All (IsThere (rows ++ more)) its
there_more rows more its all = All-weaker (IsThere rows) (IsThere (rows ++ more)) (is_there-more rows more) its all

pub is_there-last : (rows : List Row) (r : Row) → IsFrameRow r r.entry.act → IsThere (rows ++ r ∷ []) (Frame (length rows))
is_there-last rows r is = (omega (arith, length-append rows (r ∷ [])), rw (row_at-last rows r) is)

-- what goes out at q has the tag of its VLAN where q is a trunk
pub sent_with_tag : (port : Option Vlan) (vlan : Option ℕ) (octets : List ℕ) → octets_out port vlan octets ≡ with_tag (tag_at port vlan) octets
sent_with_tag None None octets = refl
sent_with_tag None (Some v) octets = refl
sent_with_tag (Some (Access own)) None octets = refl
sent_with_tag (Some (Access own)) (Some v) octets = refl
sent_with_tag (Some (Trunk vlans)) None octets = refl
sent_with_tag (Some (Trunk vlans)) (Some v) octets = refl

-- an entry of a frame and its octets, as a store tells them, are its frame
pub frame_read : (plan : Plan) (q : ℕ) (rows : List Row) (n : ℕ) (e : Entry) (octets : List ℕ) (port : Port) (stamp at len : ℕ)
    → IsSomeAnd (slice_get rows n) (λ row. row.entry ≡ e) → IsSomeAnd (slice_get rows n) (λ row. row.octets ≡ octets) → e.act ≡ acts.Frame port stamp at len
    → frame_of plan q rows n ≡ item_with e.moment (with_tag (tag_at (vlan_among plan.ports q) (vlan_of_frame plan (number_of port) octets)) (inner octets))
frame_read plan q [] n e octets port stamp at len entry_is octets_are act_is = absurd entry_is
frame_read plan q (r ∷ rows) zero e octets port stamp at len entry_is octets_are act_is =
    ap (frame_item plan q r) (ap (λ (x : Entry). x.act) entry_is ∙ act_is)
    ∙ ap (λ (x : Entry). item_with x.moment (sent_octets plan q (vlan_of_frame plan (number_of port) r.octets) (inner r.octets))) entry_is
    ∙ ap (λ (os : List ℕ). item_with e.moment (sent_octets plan q (vlan_of_frame plan (number_of port) os) (inner os))) octets_are
    ∙ ap (item_with e.moment) (sent_with_tag (vlan_among plan.ports q) (vlan_of_frame plan (number_of port) octets) (inner octets))
frame_read plan q (r ∷ rows) (suc n) e octets port stamp at len entry_is octets_are act_is =
    frame_read plan q rows n e octets port stamp at len entry_is octets_are act_is
