-- What is read of a message that may be a router advertisement.
use Rattle.std.proofs.Common.{◌≡◌, ℕ, ◌≤◌, ◌==◌, ◌&&◌, nat_le, true, List, length, Option, Some, None, refl, sym, ◌∙◌, ap}
use Rattle.std.specs.Bool.{Decides}
use Rattle.std.specs.Option.{option_map}
use Rattle.std.proofs.lemmas.Bool.{both_ways, cond_both}
use Rattle.std.proofs.lemmas.Bool.Decides.{Decides-eqb, Decides-and}
use Rattle.savi_kinds.specs.Prefixes.{LiesIn, link_local}
use Rattle.v6_chain.specs.declared.packet.Ip.{Ip}
use Rattle.v6_sum.specs.InternetChecksum.{checksum}
use Rattle.nd_read.specs.Messages.{kind_of, code_of}
use Rattle.nd_read.specs.InPrefix.{lies_in}
use Rattle.nd_read.specs.OptionRow.{option_row}
use Rattle.nd_read.proofs.InPrefix.{Decides-leb, Decides-lies_in}
use Rattle.nd_read.proofs.OptionRow.{IsRow, option_row-is}
use Rattle.ra_learn.proofs.Rows.{row_same}
use Rattle.nd_read.specs.Options.{NdOption, AreOptions}
use Rattle.ra_learn.specs.declared.advert.Ra.{Ra}
use Rattle.ra_learn.specs.PrefixOptions.{counted_prefixes}
use Rattle.ra_learn.specs.RouterAdverts.{IsGoodAdvert, ReadsAdvert, behind_router_part, is_advert_header, router_lifetime, advert_with, advert_of}

-- the prefixes of the options are those of the advertisement
pub advert_found : (message : List ℕ) (row : Option (List NdOption)) (ra : Ra) → option_map counted_prefixes row ≡ Some ra.prefixes.items → ra.life ≡ router_lifetime message → Some ra ≡ option_map (advert_with message) row
advert_found message None ra told life = cc
advert_found message (Some options) ra told life =
    let items : counted_prefixes options ≡ ra.prefixes.items = cc in
    let same : ra ≡ advert_with message options = rw (items, ← life) refl in
    ap Some same

-- what the tests of the header say
abbrev HeaderSays : Ip → List ℕ → Type 0
HeaderSays ip message =
    ((kind_of message ≡ 134) × (code_of message ≡ 0)) × ((LiesIn ip.src.0 link_local × (ip.hop ≡ 255)) × ((16 ≤ length message) × (checksum ip.src ip.dst 58 message ≡ 0)))

header_decided : (ip : Ip) (message : List ℕ) → Decides (is_advert_header ip message) (HeaderSays ip message)
header_decided ip message =
    Decides-and ((kind_of message == 134) && (code_of message == 0)) _ (Decides-and (kind_of message == 134) _ (Decides-eqb (kind_of message) 134) (Decides-eqb (code_of message) 0))
    (Decides-and (lies_in ip.src.0 link_local && (ip.hop == 255)) _ (Decides-and (lies_in ip.src.0 link_local) _ (Decides-lies_in ip.src.0 link_local) (Decides-eqb ip.hop 255))
    (Decides-and (nat_le 16 (length message)) _ (Decides-leb 16 (length message)) (Decides-eqb (checksum ip.src ip.dst 58 message) 0)))

-- the tests of the header are those of a good advertisement, but for its options
header_good : (ip : Ip) (message : List ℕ) (options : List NdOption) → is_advert_header ip message ≡ true → AreOptions (behind_router_part message) options → IsGoodAdvert ip message
header_good ip message options holds are =
    let parts = (header_decided ip message).0 holds in
    record {
      kind = parts.0.0;
      code = parts.0.1;
      source = parts.1.0.0;
      hop = parts.1.0.1;
      long = parts.1.1.0;
      sum = parts.1.1.1;
      options = (options, are);
    }

good_header : (ip : Ip) (message : List ℕ) → IsGoodAdvert ip message → is_advert_header ip message ≡ true
good_header ip message good = (header_decided ip message).1 ((good.kind, good.code), ((good.source, good.hop), (good.long, good.sum)))

-- what is read by the row of options that is found
reads_by : (ip : Ip) (message : List ℕ) (row : Option (List NdOption)) → IsRow (behind_router_part message) row → is_advert_header ip message ≡ true → ReadsAdvert ip message (option_map (advert_with message) row)
reads_by ip message (Some options) are holds = (
  header_good ip message options holds are,
  λ others same. ap (advert_with message) (sym (row_same (behind_router_part message) options others are same)),
)
reads_by ip message None none holds = λ good. none good.options.0 good.options.1

pub advert_is : (ip : Ip) (message : List ℕ) → ReadsAdvert ip message (advert_of ip message)
unfolding advert_of
advert_is ip message =
    let none : Option Ra = None in
    cond_both (is_advert_header ip message) (option_map (advert_with message) (option_row (behind_router_part message))) none (ReadsAdvert ip message)
    (λ holds. reads_by ip message (option_row (behind_router_part message)) (option_row-is (behind_router_part message)) holds)
    (λ fails good. both_ways (is_advert_header ip message) fails (good_header ip message good))

reads_one : (ip : Ip) (message : List ℕ) (one other : Option Ra) → ReadsAdvert ip message one → ReadsAdvert ip message other → other ≡ one
reads_one ip message None None first second = refl
reads_one ip message None (Some other) first second = absurd (first second.0)
reads_one ip message (Some one) None first second = absurd (second first.0)
reads_one ip message (Some one) (Some other) first second =
    let options = first.0.options in
    ap Some (second.1 options.0 options.1 ∙ sym (first.1 options.0 options.1))

pub advert_only : (ip : Ip) (message : List ℕ) (other : Option Ra) → ReadsAdvert ip message other → other ≡ advert_of ip message
advert_only ip message other reads = reads_one ip message (advert_of ip message) other (advert_is ip message) reads
