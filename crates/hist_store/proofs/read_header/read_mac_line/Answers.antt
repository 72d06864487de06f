use Rattle.std.proofs.Common.{Some, sym, ap, ◌∙◌, true≢false}
use Rattle.savi_kinds.specs.MacText.{mac_text}
use Rattle.savi_kinds.proofs.MacGrammar.{written_mac}
use Rattle.hist_store.proofs.HeaderRead.{mac_read}
use Rattle.hist_store.proofs.read_header.read_mac_line.Goals as goal

pub returns-in_err-mac-clause-whole : goal.returns-in_err-mac-clause-whole
returns-in_err-mac-clause-whole c = λ mac six is.
    let said = c.in_ok-value.ensures.whole (mac_text mac) is in
    absurd (c.in_err-mac.ensures.only mac (rw said (written_mac mac six.0 six.1)))

pub returns-then-is_word-clause-whole : goal.returns-then-is_word-clause-whole
returns-then-is_word-clause-whole c = λ mac six is.
    let said = c.in_ok-value.ensures.whole (mac_text mac) is in
    ap Some (mac_read c.in_ok-value.value.now c.in_ok-mac.mac mac six said c.in_ok-mac.ensures.read)

pub returns-else-is_word-clause-whole : goal.returns-else-is_word-clause-whole
returns-else-is_word-clause-whole c = λ mac six is.
    let said = c.in_ok-value.ensures.whole (mac_text mac) is in
    let same = mac_read c.in_ok-value.value.now c.in_ok-mac.mac mac six said c.in_ok-mac.ensures.read in
    let written = said ∙ sym (ap mac_text same) ∙ sym c.put_mac.ensures ∙ sym c.as_str.ensures.value in
    absurd (true≢false (sym (c.if-is_word.ensures.1 written)))
