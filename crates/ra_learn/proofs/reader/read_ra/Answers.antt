use Rattle.std.proofs.Common.{◌≡◌, ℕ, List, Some, None, sym, ◌∙◌, ap, refl, subst}
use Rattle.std.specs.Option.{option_map}
use Rattle.std.proofs.lemmas.List.{take_rest}
use Rattle.byteorder.specs.Endian.{big_number}
use Rattle.nd_read.specs.OptionRow.{option_row}
use Rattle.ra_learn.specs.PrefixOptions.{counted_prefixes}
use Rattle.ra_learn.specs.RouterAdverts.{advert_of, behind_router_part}
use Rattle.ra_learn.proofs.Adverts.{advert_found}
use Rattle.ra_learn.proofs.reader.read_ra.Goals as goal

pub returns-then-not-is_advert_header : goal.returns-then-not-is_advert_header
unfolding advert_of
returns-then-not-is_advert_header c = rw (sym c.is_advert_header.ensures.value ∙ c.if-not-is_advert_header.true) refl

pub returns-in-Some : goal.returns-in-Some
unfolding advert_of
returns-in-Some c =
    let message : List ℕ = c.args.message.now in
    let P : List ℕ → Type 0 = λ octets. option_map counted_prefixes (option_row octets) ≡ Some c.in-Some.prefixes.items in
    let row : option_map counted_prefixes (option_row (behind_router_part message)) ≡ Some c.in-Some.prefixes.items = subst P (take_rest message 16) c.in-Some.ensures in
    rw (sym c.is_advert_header.ensures.value ∙ c.if-not-is_advert_header.false) (advert_found message (option_row (behind_router_part message)) (record { life = c.read_u16.result; prefixes = c.in-Some.prefixes }) row (c.read_u16.ensures ∙ ap (big_number 2) (take_rest message 6)))

pub returns-in-None : goal.returns-in-None
unfolding advert_of
returns-in-None c =
    let message : List ℕ = c.args.message.now in
    let P : List ℕ → Type 0 = λ octets. option_row octets ≡ None in
    let row : option_row (behind_router_part message) ≡ None = subst P (take_rest message 16) c.in-None.ensures in
    rw (sym c.is_advert_header.ensures.value ∙ c.if-not-is_advert_header.false, row) refl
