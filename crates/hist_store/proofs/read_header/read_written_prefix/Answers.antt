use Rattle.std.proofs.Common.{Some, sym, ap, ◌∙◌, ◌≡◌, ◌≤◌, arith}
use Rattle.savi_kinds.specs.declared.address.Prefix.{Prefix}
use Rattle.savi_kinds.proofs.AddrWritten.{written_prefix}
use Rattle.hist_store.specs.JournalTexts.{address_text, prefix_text_by}
use Rattle.hist_store.proofs.HeaderRead.{prefix_read}
use Rattle.hist_store.proofs.read_header.read_written_prefix.Goals as goal

pub returns-in_err-prefix-clause-whole : goal.returns-in_err-prefix-clause-whole
returns-in_err-prefix-clause-whole c = λ prefix small valid is.
    absurd (c.in_err-prefix.ensures.only prefix (rw is (written_prefix prefix small valid)))

pub returns-in_err-length_behind-clause-whole : goal.returns-in_err-length_behind-clause-whole
returns-in_err-length_behind-clause-whole c = λ prefix small valid is.
    let long : prefix.len ≤ 128 = valid.long in
    let same : c.in_ok-prefix.prefix ≡ prefix = prefix_read c.args.field.now c.in_ok-prefix.prefix prefix small valid is c.in_ok-prefix.ensures.read in
    let said = is ∙ ap (λ (p : Prefix). prefix_text_by address_text p) (sym same) in
    let wrong = c.in_err-length_behind.ensures.whole c.in_ok-prefix.prefix.len (rw same (omega (arith, long))) said in
    cc

pub returns-then-branch-from-clause-whole : goal.returns-then-branch-from-clause-whole
returns-then-branch-from-clause-whole c = λ prefix small valid is.
    ap Some (prefix_read c.args.field.now c.in_ok-prefix.prefix prefix small valid is c.in_ok-prefix.ensures.read)

pub returns-else-branch-from-clause-whole : goal.returns-else-branch-from-clause-whole
returns-else-branch-from-clause-whole c = λ prefix small valid is.
    let long : prefix.len ≤ 128 = valid.long in
    let same : c.in_ok-prefix.prefix ≡ prefix = prefix_read c.args.field.now c.in_ok-prefix.prefix prefix small valid is c.in_ok-prefix.ensures.read in
    let said = is ∙ ap (λ (p : Prefix). prefix_text_by address_text p) (sym same) in
    let read : Some c.in_ok-length_behind.field-0 ≡ Some c.in_ok-prefix.prefix.len = c.in_ok-length_behind.ensures.whole c.in_ok-prefix.prefix.len (rw same (omega (arith, long))) said in
    let length : c.in_ok-length_behind.field-0 ≡ c.in_ok-prefix.prefix.len = cc in
    absurd (c.if-branch-from.false (length ∙ sym c.from.ensures))
