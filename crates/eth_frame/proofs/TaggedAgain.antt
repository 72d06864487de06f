-- A frame that was tagged is read again.
use Rattle.std.proofs.Common.{◌≡◌, ℕ, ◌+◌, ◌*◌, ◌/◌, ◌%◌, ◌≤◌, ◌==◌, ◌&&◌, nat_le, not, true, false, List, ◌∷◌, ◌++◌, length, take, drop, sym, ap, ◌∙◌, arith, length-append, length-drop}
use Rattle.std.proofs.lemmas.Bool.{and_from, both_ways, not_from_false, eq-eqb, le-leb, false_from_ne_true}
use Rattle.std.proofs.lemmas.List.{length-take-le, take-append-drop, take_at, drop-drop, drop_at}
use Rattle.byteorder.specs.Endian.{big_number}
use Rattle.eth_frame.specs.declared.vlan_tag.Tag.{Tag}
use Rattle.eth_frame.specs.declared.vlan_tag.Tag.TheVariants as tags
use Rattle.eth_frame.specs.Tags.{kind_at, is_tag, has_tag, vid_in, names_vlan, tag_of, untagged, inner, tagged}
use Rattle.eth_frame.proofs.TagIs.{named_has_vid}

-- what stands behind the addresses of a tagged frame
abbrev behind : ℕ → List ℕ → List ℕ
behind vid frame = 0x81 ∷ 0 ∷ (vid / 256) ∷ (vid % 256) ∷ drop 12 frame

front_size : (frame : List ℕ) → 14 ≤ length frame → length (take 12 frame) ≡ 12
front_size frame long = length-take-le 12 frame (omega (arith, long))

behind_is : (vid : ℕ) (frame : List ℕ) → 14 ≤ length frame → drop 12 (tagged vid frame) ≡ behind vid frame
behind_is vid frame long = drop_at (take 12 frame) (behind vid frame) 12 (front_size frame long)

control_is : (vid : ℕ) (frame : List ℕ) → 14 ≤ length frame → drop 14 (tagged vid frame) ≡ (vid / 256) ∷ (vid % 256) ∷ drop 12 frame
control_is vid frame long = sym (drop-drop 2 12 (tagged vid frame)) ∙ ap (λ (l : List ℕ). drop 2 l) (behind_is vid frame long)

rest_is : (vid : ℕ) (frame : List ℕ) → 14 ≤ length frame → drop 16 (tagged vid frame) ≡ drop 12 frame
rest_is vid frame long = sym (drop-drop 4 12 (tagged vid frame)) ∙ ap (λ (l : List ℕ). drop 4 l) (behind_is vid frame long)

number_again : (vid : ℕ) → vid ≤ 4094 → (vid / 256 * 256 + (vid % 256 * 1 + 0)) % 4096 ≡ vid
number_again vid most = omega (arith, most)

vid_again : (vid : ℕ) (frame : List ℕ) → 14 ≤ length frame → vid ≤ 4094 → vid_in (tagged vid frame) ≡ vid
vid_again vid frame long most = ap (λ (l : List ℕ). big_number 2 l % 4096) (control_is vid frame long) ∙ number_again vid most

-- an untagged frame has no EtherType of a tag
plain_kind : (frame : List ℕ) → 14 ≤ length frame → has_tag frame ≡ false → is_tag (kind_at 12 frame) ≡ false
plain_kind frame long none =
    false_from_ne_true (is_tag (kind_at 12 frame))
    (λ tag. both_ways (has_tag frame) none (and_from (nat_le 14 (length frame)) (is_tag (kind_at 12 frame)) (le-leb 14 (length frame) long) tag))

named : (vid : ℕ) (frame : List ℕ) → 14 ≤ length frame → has_tag frame ≡ false → 1 ≤ vid → vid ≤ 4094 → names_vlan (tagged vid frame) ≡ true
named vid frame long none least most =
    let t : List ℕ = tagged vid frame in
    let again : vid_in t ≡ vid = vid_again vid frame long most in
    let size : length t ≡ length (take 12 frame) + (4 + length (drop 12 frame)) = omega (arith, length-append (take 12 frame) (behind vid frame)) in
    let whole : 18 ≤ length t = omega (arith, size, front_size frame long, length-drop 12 frame, long) in
    let customer : kind_at 12 t ≡ 0x8100 = ap (λ (l : List ℕ). big_number 2 l) (behind_is vid frame long) in
    let single : is_tag (kind_at 16 t) ≡ false = ap (λ (l : List ℕ). is_tag (big_number 2 l)) (rest_is vid frame long) ∙ plain_kind frame long none in
    and_from (nat_le 18 (length t) && (kind_at 12 t == 0x8100) && nat_le 1 (vid_in t) && nat_le (vid_in t) 4094) (not (is_tag (kind_at 16 t)))
    (and_from (nat_le 18 (length t) && (kind_at 12 t == 0x8100) && nat_le 1 (vid_in t)) (nat_le (vid_in t) 4094)
    (and_from (nat_le 18 (length t) && (kind_at 12 t == 0x8100)) (nat_le 1 (vid_in t))
    (and_from (nat_le 18 (length t)) (kind_at 12 t == 0x8100) (le-leb 18 (length t) whole) (eq-eqb (kind_at 12 t) 0x8100 customer))
    (le-leb 1 (vid_in t) (omega (arith, again, least))))
    (le-leb (vid_in t) 4094 (omega (arith, again, most))))
    (not_from_false (is_tag (kind_at 16 t)) single)

pub tag_again : (frame : List ℕ) (vid : ℕ) → 14 ≤ length frame → has_tag frame ≡ false → 1 ≤ vid → vid ≤ 4094 → tag_of (tagged vid frame) ≡ tags.Vid vid
tag_again frame vid long none least most =
    sym (named_has_vid (tagged vid frame) (named vid frame long none least most)) ∙ ap (λ (n : ℕ). tags.Vid n) (vid_again vid frame long most)

pub inner_again : (frame : List ℕ) (vid : ℕ) → 14 ≤ length frame → has_tag frame ≡ false → 1 ≤ vid → vid ≤ 4094 → inner (tagged vid frame) ≡ frame
inner_again frame vid long none least most =
    let t : List ℕ = tagged vid frame in
    ap (λ (tag : Tag). untagged tag t) (tag_again frame vid long none least most)
    ∙ ap (λ (l : List ℕ). l ++ drop 16 t) (take_at (take 12 frame) (behind vid frame) 12 (front_size frame long))
    ∙ ap (λ (l : List ℕ). take 12 frame ++ l) (rest_is vid frame long)
    ∙ take-append-drop 12 frame
